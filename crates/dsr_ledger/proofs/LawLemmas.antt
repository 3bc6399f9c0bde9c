-- The laws of shares.
use Rattle.dsr_ledger.proofs.Common.{All-from_recursion, recursion_from_All, ◌≡◌, ℕ, ◌<◌, ◌≤◌, List, [], ◌∷◌, length, true, subst, sym, ◌∙◌, arith, ◌*◌, rules, ℤ, pos, ◌+ℤ◌, ◌-ℤ◌, filter, map, unsigned_abs, negsuc, ◌*ℤ◌, ◌≤ℤ◌, ◌<ℤ◌, All, list_any, AllByRecursion, zip, keys_of, eq_by_cmp, nat_list_cmp_total, ints, quot-rem, rem_below, int_div, exact_bytes, PartyLine, int_sum_by, text_cmp, in_order, key_cmp, Key, Booking, bookings, Part, rounded, parts_of, all_parts, is_for, party_amount, part_of, work_parts, party_lines, at_key, is_at_key, line_of, ledger, ltb-true, LedgerLine, File, report_of}
use Rattle.dsr_ledger.proofs.EachLemmas.{each_weaker, each_filter, each_flat, each_map, each_of}
use Rattle.dsr_ledger.proofs.TallyLemmas.{unclaimed_not_negative}
use Rattle.dsr_ledger.proofs.OrderLemmas.{mapped_in_order, keys_among}
use Rattle.dsr_ledger.proofs.KeyLemmas.{key_total, key_exact}
use Rattle.dsr_ledger.proofs.SmallLemmas.{IsWhole, bookings_whole}
use Rattle.dsr_ledger.proofs.PartyLemmas.{lines_are, names_of, shares_conserved, some_for}
use Rattle.dsr_ledger.specs.layer.Laws.{line_bookings, line_parts, exact_sum, AddsUp, IsNear, IsRoundedDown, NoneIsNegative, IsWithin, SharesAddUp, SharesAreNear, SharesAreWithin}

-- rounding moves a part by less than one unit, and so m parts, together, by less than m units
sum_near : (ps : List Part) → unsigned_abs ((pos 1000000 *ℤ int_sum_by rounded ps) -ℤ exact_sum ps) ≤ length ps * 999999
sum_near [] = omega (arith, ints)
sum_near (q ∷ ps) = omega (arith, ints, quot-rem q.exact (pos 1000000), rem_below q.exact (pos 1000000) (search rules), sum_near ps)

rounded_below : (z : ℤ) → pos 0 ≤ℤ z → (pos 1000000 *ℤ int_div z (pos 1000000)) ≤ℤ z
rounded_below (pos n) h = omega (arith, ints)
rounded_below (negsuc n) h = absurd (omega (arith, ints))

abbrev IsNotNegative : Part → Type 0
IsNotNegative q = pos 0 ≤ℤ q.exact

sum_below : (ps : List Part) → AllByRecursion IsNotNegative ps → (pos 1000000 *ℤ int_sum_by rounded ps) ≤ℤ exact_sum ps
sum_below [] h = omega (arith, ints)
sum_below (q ∷ ps) h = let here = rounded_below q.exact h.0 in let rest = sum_below ps h.1 in omega (arith, ints)

down : (ps : List Part) → 0 < length ps → AllByRecursion IsNotNegative ps
    → ((pos 1000000 *ℤ int_sum_by rounded ps) ≤ℤ exact_sum ps) × (exact_sum ps <ℤ (pos 1000000 *ℤ (int_sum_by rounded ps +ℤ pos (length ps))))
down ps some h = let n = sum_near ps in let b = sum_below ps h in (b, omega (arith, ints))

-- a share of an amount that is not below zero isn't
scaled : (a : ℤ) (n : ℕ) → pos 0 ≤ℤ a → pos 0 ≤ℤ (a *ℤ pos n)
scaled (pos a) n h = search rules
scaled (negsuc a) n h = absurd (omega (arith, ints))

parts_positive : (bs : List Booking) → AllByRecursion (λ b. pos 0 ≤ℤ b.usage.amount) bs → AllByRecursion IsNotNegative (all_parts bs)
parts_positive bs h =
    each_flat IsNotNegative parts_of bs (each_weaker (λ b. pos 0 ≤ℤ b.usage.amount) (λ b. AllByRecursion IsNotNegative (parts_of b)) (λ b k.
    let a = b.usage.amount in
    each_flat IsNotNegative (work_parts a) b.works (each_of (λ w. AllByRecursion IsNotNegative (work_parts a w)) (λ w.
    let es = zip w.parties w.shares in
    each_map IsNotNegative (part_of a) es (each_of (λ e. IsNotNegative (part_of a e)) (λ e. scaled a e.1 k) es)) b.works)) bs h)

-- what holds of each party that has a part holds of the lines of the parties
pub each_party : (P : PartyLine → Type 0) (bs : List Booking) → ((n : List ℕ) → 0 < length (filter (is_for n) (all_parts bs))
    → P (record { party = n; amount = party_amount bs n })) → AllByRecursion P (party_lines bs)
each_party P bs each =
    let ps = all_parts bs in let line : List ℕ → PartyLine = λ n. record { party = n; amount = party_amount bs n } in
    subst (AllByRecursion P) (sym (lines_are bs)) (
    each_map P line (names_of bs) (each_weaker (λ n. list_any (eq_by_cmp text_cmp n) (map (λ q. q.party) ps) ≡ true) (λ n. P (line n))
    (λ n h. each n (ltb-true 0 (length (filter (is_for n) ps)) (some_for n ps ∙ h))) (names_of bs)
    (keys_among text_cmp nat_list_cmp_total exact_bytes (party_amount bs) (map (λ q. q.party) ps))))

-- what holds of the line of each key holds of the ledger
pub each_line : (P : LedgerLine → Type 0) (bs : List Booking) → ((key : Key) → list_any (eq_by_cmp key_cmp key) (map (λ b. b.key) bs) ≡ true
    → P (line_of key (at_key key bs))) → AllByRecursion P (ledger bs)
unfolding ledger
each_line P bs each =
    let f : Key → LedgerLine = λ key. line_of key (at_key key bs) in let ks = map (λ b. b.key) bs in let keys = keys_of (in_order key_cmp f ks) in
    subst (AllByRecursion P) (sym (mapped_in_order key_cmp key_total key_exact f ks (λ e. e.1))) (each_map P f keys (
    each_weaker (λ key. list_any (eq_by_cmp key_cmp key) ks ≡ true) (λ key. P (f key)) each keys (keys_among key_cmp key_total key_exact f ks)))

pub add_up : (files : List File) → SharesAddUp files
unfolding report_of line_of
add_up files = All-from_recursion AddsUp _ (each_line AddsUp (bookings files) (λ key among. shares_conserved (at_key key (bookings files))))

pub are_near : (files : List File) → SharesAreNear files
unfolding report_of line_of
are_near files =
    let P : LedgerLine → Type 0 = λ l. All (λ p. IsNear (line_parts files l p) p) l.parties in
    All-from_recursion P _ (each_line P (bookings files) (λ key among.
    let bs = at_key key (bookings files) in let Q : PartyLine → Type 0 = λ p. IsNear (filter (is_for p.party) (all_parts bs)) p in
    All-from_recursion Q (party_lines bs) (each_party Q bs (λ n some. omega (arith, sum_near (filter (is_for n) (all_parts bs)))))))

pub are_within : (files : List File) → SharesAreWithin files
unfolding report_of line_of
are_within files =
    let P : LedgerLine → Type 0 = λ l. NoneIsNegative (line_bookings files l) → IsWithin files l in
    All-from_recursion P _ (each_line P (bookings files) (λ key among positive.
    let bs = at_key key (bookings files) in let ps = all_parts bs in let up = recursion_from_All (λ (b : Booking). pos 0 ≤ℤ b.usage.amount) bs positive in
    let Q : PartyLine → Type 0 = λ p. IsRoundedDown (filter (is_for p.party) ps) p in (
      unclaimed_not_negative bs up (each_filter IsWhole (is_at_key key) (bookings files) (bookings_whole files)),
      All-from_recursion Q (party_lines bs) (each_party Q bs
          (λ n some. down (filter (is_for n) ps) some (each_filter IsNotNegative (is_for n) ps (parts_positive bs up)))),
    )))
