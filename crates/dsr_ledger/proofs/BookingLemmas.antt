-- The bookings of the files after a block, an opening or an outcome.
use Rattle.dsr_ledger.proofs.Common.{◌≡◌, ℕ, List, [], ◌∷◌, ◌++◌, sym, ◌∙◌, ap, arith, Bool, zero, suc, append_assoc, append-nil, refl, ◌||◌, Option, Some, slice_get, ℤ, ◌+ℤ◌, flat_map, OpeningParts, summaries_of, File, Filed, filed_after, standing, opened, with_block, with_outcome, with_one, BlockParts, Ledger, Verdict, verdict_bookings, Booking, filed_bookings, bookings, tally_at, same_Some, Outcome, LedgerStands, verdict_of, judged_in, tally_plus, key_tally, Tally, flat_map-append, ints, Key}
use Rattle.dsr_ledger.proofs.JudgedLemmas.{judged_more}
use Rattle.dsr_ledger.proofs.TallyLemmas.{key_tally-append, tally_plus-assoc}
use Rattle.dsr_ledger.proofs.FilesLemmas.{filed_after-push, next_filed}

-- the bookings of files from this place on, after files with the earlier openings
abbrev pub bookings_after : ℕ → List (Option OpeningParts) → List File → List Booking
bookings_after place earlier files = flat_map filed_bookings (filed_after place earlier files)

-- the bookings of a file with one more block
filed_bookings-push : (d : Filed) (b : BlockParts) → filed_bookings (with_one d b)
    ≡ filed_bookings d ++ verdict_bookings (summaries_of d.file.opening) (b, verdict_of d b)
filed_bookings-push d b =
    let f = verdict_bookings (summaries_of d.file.opening) in
    ap (flat_map f) (judged_more d b) ∙ flat_map-append f (judged_in d) ((b, verdict_of d b) ∷ [])
    ∙ ap (λ l. flat_map f (judged_in d) ++ l) (append-nil (f (b, verdict_of d b)))

or-swap : (a b c : Bool) → (a || (b || c)) ≡ ((a || c) || b)
or-swap a b c = grind arith

add-swap : (a b c : ℤ) → a +ℤ (b +ℤ c) ≡ (a +ℤ c) +ℤ b
add-swap a b c = omega (arith, ints)

tally_plus-swap : (a b c : Tally) → tally_plus a (tally_plus b c) ≡ tally_plus (tally_plus a c) b
tally_plus-swap a b c = λ i. record {
  is_booked = or-swap a.is_booked b.is_booked c.is_booked i;
  usages = add-swap a.usages b.usages c.usages i;
  amount = add-swap a.amount b.amount c.amount i;
  owed = λ q. record {
    has_part = or-swap (a.owed q).has_part (b.owed q).has_part (c.owed q).has_part i;
    amount = add-swap (a.owed q).amount (b.owed q).amount (c.owed q).amount i;
  };
}

-- one more block adds the tallies of its bookings
tally_more : (n : ℕ) (e : List (Option OpeningParts)) (files : List File) (k : ℕ) (b : BlockParts) (d : Filed) (q : Key)
    → slice_get (filed_after n e files) k ≡ Some d → key_tally (bookings_after n e (with_block files k b)) q
    ≡ tally_plus (key_tally (bookings_after n e files) q) (key_tally (verdict_bookings (summaries_of d.file.opening) (b, verdict_of d b)) q)
tally_more n e [] k b d q at = absurd (cc)
tally_more n e (f ∷ fs) zero b d q at =
    let own : Filed = record { place = n; standing = standing e f.opening; file = f } in let mine = filed_bookings own in
    let more = verdict_bookings (summaries_of own.file.opening) (b, verdict_of own b) in let rest = bookings_after (suc n) (e ++ f.opening ∷ []) fs in
    ap (λ l. key_tally l q) (ap (λ l. l ++ rest) (filed_bookings-push own b) ∙ append_assoc mine more rest) ∙ key_tally-append mine (more ++ rest) q
    ∙ ap (tally_plus (key_tally mine q)) (key_tally-append more rest q) ∙ tally_plus-swap (key_tally mine q) (key_tally more q) (key_tally rest q)
    ∙ ap (λ t. tally_plus t (key_tally more q)) (sym (key_tally-append mine rest q))
    ∙ ap (λ x. tally_plus (key_tally (mine ++ rest) q) (key_tally (verdict_bookings (summaries_of x.file.opening) (b, verdict_of x b)) q)) (same_Some own d at)
tally_more n e (f ∷ fs) (suc k) b d q at =
    let mine = filed_bookings (record { place = n; standing = standing e f.opening; file = f }) in
    let more = key_tally (verdict_bookings (summaries_of d.file.opening) (b, verdict_of d b)) q in let after = bookings_after (suc n) (e ++ f.opening ∷ []) in
    key_tally-append mine (after (with_block fs k b)) q
    ∙ ap (tally_plus (key_tally mine q)) (tally_more (suc n) (e ++ f.opening ∷ []) fs k b d q at)
    ∙ sym (tally_plus-assoc (key_tally mine q) (key_tally (after fs) q) more)
    ∙ ap (λ t. tally_plus t more) (sym (key_tally-append mine (after fs) q))

-- so the lines represent the bookings with those of the block
pub lines_took : (files : List File) (k : ℕ) (b : BlockParts) (v : Verdict) (d : Filed) (old new : Ledger) → slice_get (filed_after 1 [] files) k ≡ Some d
    → v ≡ verdict_of d b → ((q : Key) → tally_at new q ≡ tally_plus (tally_at old q) (key_tally (verdict_bookings (summaries_of d.file.opening) (b, v)) q))
    → LedgerStands old (bookings files) → LedgerStands new (bookings (with_block files k b))
lines_took files k b v d old new at is tallies h q =
    tallies q ∙ (λ i. tally_plus (h q i) (key_tally (verdict_bookings (summaries_of d.file.opening) (b, is i)) q)) ∙ sym (tally_more 1 [] files k b d q at)

-- a file that was opened has no bookings
pub bookings-opened : (n : ℕ) (e : List (Option OpeningParts)) (files : List File) (o : Option OpeningParts)
    → bookings_after n e (files ++ opened o ∷ []) ≡ bookings_after n e files
bookings-opened n e files o =
    ap (flat_map filed_bookings) (filed_after-push n e files (opened o))
    ∙ flat_map-append filed_bookings (filed_after n e files) (next_filed n e files (opened o) ∷ []) ∙ append-nil (bookings_after n e files)

-- an outcome changes no booking
pub bookings-outcome : (n : ℕ) (e : List (Option OpeningParts)) (files : List File) (k : ℕ) (o : Outcome)
    → bookings_after n e (with_outcome files k o) ≡ bookings_after n e files
bookings-outcome n e [] k o = refl
bookings-outcome n e (x ∷ files) zero o = refl
bookings-outcome n e (x ∷ files) (suc k) o =
    ap (λ l. filed_bookings (record { place = n; standing = standing e x.opening; file = x }) ++ l) (bookings-outcome (suc n) (e ++ x.opening ∷ []) files k o)
