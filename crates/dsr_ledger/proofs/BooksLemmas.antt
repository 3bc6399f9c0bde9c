-- The books after a block, an opening or an outcome.
use Rattle.dsr_ledger.proofs.Common.{◌≡◌, ℕ, ◌≤◌, length, List, [], ◌∷◌, ◌++◌, Bool, true, false, refl, arith, ◌+◌, ◌*◌, ◌^◌, sym, ◌∙◌, ap, subst, ◌<◌, cond, length-append, set, Option, Some, option_map, find, map, slice_get, Result, Ok, Err, MatchResult, IfOk, OnErr, AllByRecursion, BlockParts, Key, Verdict, File, summaries_of, Filed, standing, opened, with_block, with_outcome, verdict_in, verdict_after, summary_key_named, bookings, ForSome, bytes_eq, OpeningParts, Ledger, FileBooks, usages_in, state_at, sums_with, no_sums, StateFits, IsInRange, SumsFit, tally_of, key_tally, TallyFits, tally_at, key_number, KeepsKeys, IsBlockInRange, IsSameFile, IsNumberedFile, FileStands, FilesStand, Took, IsSmallFile, IsReached, Stands, ∥∥₁_elim, props, Outcome, Kept, Grows, openings_of}
use Rattle.dsr_ledger.proofs.EachLemmas.{each_weaker, AreFew, few_flat, each_append, each_set}
use Rattle.dsr_ledger.proofs.SortedLemmas.{mapped}
use Rattle.dsr_ledger.proofs.StateLemmas.{sums_fit_after}
use Rattle.dsr_ledger.proofs.TallyLemmas.{tally_fits_after, key_tally-append}
use Rattle.dsr_ledger.proofs.NumberedLemmas.{each_at}
use Rattle.dsr_ledger.proofs.OpeningLemmas.{numbered_grows, same_keys}
use Rattle.dsr_ledger.proofs.StandLemmas.{stands_same}
use Rattle.dsr_ledger.proofs.FilesLemmas.{file_at, openings_are, length-stand, stand_push}
use Rattle.dsr_ledger.proofs.BookingLemmas.{lines_took, bookings-opened, bookings-outcome}
use Rattle.dsr_ledger.proofs.SmallLemmas.{bookings_small}

-- so 63 more usages fit
pub lines_fit_reached : (kept : Kept) → length kept.files.items ≤ 64 → ∥ IsReached kept ∥₁ → (q : Key) → TallyFits 63 (tally_at kept.ledger q)
lines_fit_reached kept few r q =
    ∥∥₁_elim r (hlevel props) (λ x.
    let bs = bookings x.files in let all = bookings_small x.files (omega (arith, length-stand 1 [] kept.files.items x.files x.stands.each)) x.small in
    subst (TallyFits 63) (sym (key_tally-append [] bs q) ∙ sym (x.stands.ledger q)) (
    tally_fits_after (tally_of []) bs q (2 ^ 49 + 63) 63 (omega (arith, all.few)) all.each
    (record { usages = omega arith; amount = omega arith; owed = λ p. omega arith })))

-- and 63 more usages fit into the sums of a file's summaries
pub summaries_fit_reached : (kept : Kept) (k : ℕ) (f : FileBooks) → ∥ IsReached kept ∥₁ → slice_get kept.files.items k ≡ Some f → (id : List ℕ)
    → ForSome (state_at f.summaries id) (StateFits 63)
summaries_fit_reached kept k f r is id = λ x e.
    ∥∥₁_elim r (hlevel props) (λ y.
    let at = file_at 1 [] kept.files.items y.files k f y.stands.each is in let small = at.own_small y.small in let blocks = at.filed.file.blocks in
    let us = few_flat IsInRange 63 (λ b. b.usages) blocks (
    each_weaker IsBlockInRange (λ b. AreFew IsInRange 63 b.usages) (λ b r. (r.few, r.range)) blocks small.range) in
    let same = mapped (λ _. sums_with id (usages_in blocks) no_sums) (find (λ s. bytes_eq id s.id) (summaries_of at.filed.file.opening)) x.sums
    (sym (at.stands.summaries id) ∙ ap (option_map (λ s. s.sums)) e) in
    subst (SumsFit 63) same.2 (
    sums_fit_after id (usages_in blocks) no_sums (2 ^ 37 * 63 + 63) 63 (omega (arith, us.0, small.few)) us.1
    (record { usages = omega arith; amount = omega arith })))

pub numbered_reached : (kept : Kept) (k : ℕ) (f : FileBooks) → ∥ IsReached kept ∥₁ → slice_get kept.files.items k ≡ Some f → IsNumberedFile kept.ledger f
numbered_reached kept k f r is =
    ∥∥₁_elim r (hlevel props) (λ x. each_at (IsNumberedFile kept.ledger) kept.files.items k f x.numbered is)

-- the files keep the numbers of their summary keys
all_keep : (a b : Ledger) (fs : List FileBooks) → Grows (key_number a) (key_number b) → AllByRecursion (IsNumberedFile a) fs
    → AllByRecursion (IsNumberedFile b) fs
all_keep a b fs grows =
    each_weaker (IsNumberedFile a) (IsNumberedFile b) (λ f. numbered_grows a b (summary_key_named (summaries_of f.opening)) f.summaries grows) fs

-- what the result of one file means for the books
pub record Answered {A : Type 0} (f g : FileBooks) (b : BlockParts) (res : Result Verdict A) (old new : Kept) (k : ℕ) : Type 0 where
  pub at : slice_get old.files.items k ≡ Some f
  pub room : f.blocks < 2 ^ 37
  pub items : new.files.items ≡ set old.files.items k g
  pub ok : (d : Filed) → FileStands f d → IfOk res (λ v. Took d b v g old.ledger new.ledger)
  pub err : OnErr res (IsSameFile f g)
  pub same_ledger : OnErr res ((q : Key) → tally_at new.ledger q ≡ tally_at old.ledger q)
  pub keys : new.ledger.summary_keys ≡ old.ledger.summary_keys
  pub numbered : IsNumberedFile new.ledger g

numbered_answered : {A : Type 0} (f g : FileBooks) (b : BlockParts) (res : Result Verdict A) (old new : Kept) (k : ℕ) → Answered f g b res old new k
    → AllByRecursion (IsNumberedFile old.ledger) old.files.items → AllByRecursion (IsNumberedFile new.ledger) new.files.items
numbered_answered f g b res old new k a h =
    subst (AllByRecursion (IsNumberedFile new.ledger)) (sym a.items) (
    each_set (IsNumberedFile new.ledger) old.files.items k g
    (all_keep old.ledger new.ledger old.files.items (same_keys old.ledger new.ledger a.keys) h) a.numbered)

pub answered_stands : {A : Type 0} (f g : FileBooks) (b : BlockParts) (res : Result Verdict A) (old new : Kept) (k : ℕ) → Answered f g b res old new k
    → (files : List File) → Stands old files → MatchResult res (λ v. (v ≡ verdict_in files k b) × Stands new (with_block files k b)) (λ _. Stands new files)
answered_stands f g b (Ok v) old new k a files h =
    let at = file_at 1 [] old.files.items files k f h.each a.at in
    let t = a.ok at.filed at.stands in (
      t.is_verdict ∙ ap (λ o. verdict_after o b) (sym at.at),
      record {
        each = subst (λ fs. FilesStand 1 [] fs (with_block files k b)) (sym a.items) (at.change (λ x. x.blocks ++ b ∷ []) (λ x. x.outcome) g t.stands);
        ledger = lines_took files k b v at.filed old.ledger new.ledger at.at t.is_verdict t.tallies h.ledger;
      },
    )
answered_stands f g b (Err x) old new k a files h =
    let at = file_at 1 [] old.files.items files k f h.each a.at in
    record {
      each = subst (λ fs. FilesStand 1 [] fs files) (sym a.items) (at.same g (stands_same f g at.filed at.stands a.err));
      ledger = λ q. a.same_ledger q ∙ h.ledger q;
    }

pub answered_reached : {A : Type 0} (f g : FileBooks) (b : BlockParts) (res : Result Verdict A) (old new : Kept) (k : ℕ) → Answered f g b res old new k
    → IsReached old → IsReached new
answered_reached f g b (Ok v) old new k a r =
    let at = file_at 1 [] old.files.items r.files k f r.stands.each a.at in let t = a.ok at.filed at.stands in
    record {
      files = with_block r.files k b;
      stands = (answered_stands f g b (Ok v) old new k a r.files r.stands).1;
      small =
          at.small (λ x. x.blocks ++ b ∷ []) (λ x. x.outcome) r.small
          (record {
            few = omega (arith, a.room, at.stands.blocks, length-append at.filed.file.blocks (b ∷ []));
            range = each_append IsBlockInRange at.filed.file.blocks (b ∷ []) (at.own_small r.small).range (t.range, tt);
          });
      numbered = numbered_answered f g b (Ok v) old new k a r.numbered;
    }
answered_reached f g b (Err x) old new k a r = record {
  files = r.files;
  stands = answered_stands f g b (Err x) old new k a r.files r.stands;
  small = r.small;
  numbered = numbered_answered f g b (Err x) old new k a r.numbered;
}

abbrev pub ended : FileBooks → Outcome → FileBooks
ended f o = record f { outcome = Some o }

pub stands_ended : (old new : Kept) (files : List File) (k : ℕ) (f : FileBooks) (o : Outcome) → slice_get old.files.items k ≡ Some f
    → new.files.items ≡ set old.files.items k (ended f o) → new.ledger ≡ old.ledger → Stands old files → Stands new (with_outcome files k o)
stands_ended old new files k f o is items ledger h =
    let at = file_at 1 [] old.files.items files k f h.each is in let s = at.stands in
    record {
      each = subst (λ fs. FilesStand 1 [] fs (with_outcome files k o)) (sym items) (
          at.change (λ x. x.blocks) (λ x. Some o) (ended f o) (record {
            place = s.place;
            opening = s.opening;
            standing = s.standing;
            blocks = s.blocks;
            ids = s.ids;
            summaries = s.summaries;
            rejects = s.rejects;
            outcome = refl;
          }));
      ledger = λ q. ap (λ l. tally_at l q) ledger ∙ h.ledger q ∙ ap (λ bs. key_tally bs q) (sym (bookings-outcome 1 [] files k o));
    }

pub reached_ended : (old new : Kept) (k : ℕ) (f : FileBooks) (o : Outcome) → slice_get old.files.items k ≡ Some f
    → new.files.items ≡ set old.files.items k (ended f o) → new.ledger ≡ old.ledger → IsReached old → IsReached new
reached_ended old new k f o is items ledger r =
    let at = file_at 1 [] old.files.items r.files k f r.stands.each is in let own = at.own_small r.small in
    record {
      files = with_outcome r.files k o;
      stands = stands_ended old new r.files k f o is items ledger r.stands;
      small = at.small (λ x. x.blocks) (λ x. Some o) r.small (record { few = own.few; range = own.range });
      numbered = subst (λ l. AllByRecursion (IsNumberedFile l) new.files.items) (sym ledger) (
          subst (AllByRecursion (IsNumberedFile old.ledger)) (sym items) (
          each_set (IsNumberedFile old.ledger) old.files.items k (ended f o) r.numbered
          (each_at (IsNumberedFile old.ledger) old.files.items k f r.numbered is)));
    }

-- a file that was opened after these
abbrev pub OpenedAfter : List FileBooks → Option OpeningParts → FileBooks → Type 0
OpenedAfter fs o f = FileStands f (record { place = length fs + 1; standing = standing (openings_of fs) o; file = opened o })

pub stands_opened : (old new : Kept) (files : List File) (f : FileBooks) (o : Option OpeningParts) → OpenedAfter old.files.items o f
    → new.files.items ≡ old.files.items ++ f ∷ [] → ((q : Key) → tally_at new.ledger q ≡ tally_at old.ledger q) → Stands old files
    → Stands new (files ++ opened o ∷ [])
stands_opened old new files f o one items ledger h =
    let same = openings_are 1 [] old.files.items files h.each in
    let place : length old.files.items + 1 ≡ 1 + length files = omega (arith, length-stand 1 [] old.files.items files h.each) in
    record {
      each = subst (λ fs. FilesStand 1 [] fs (files ++ opened o ∷ [])) (sym items) (
          stand_push 1 [] old.files.items files f (opened o) h.each (
          subst (FileStands f) (λ i. record { place = place i; standing = standing (same i) o; file = opened o }) one));
      ledger = λ q. ledger q ∙ h.ledger q ∙ ap (λ bs. key_tally bs q) (sym (bookings-opened 1 [] files o));
    }

-- if nothing was opened
pub not_opened : (old new : Kept) (files : List File) → new.files.items ≡ old.files.items → ((q : Key) → tally_at new.ledger q ≡ tally_at old.ledger q)
    → Stands old files → Stands new files
not_opened old new files items ledger h = record { each = subst (λ fs. FilesStand 1 [] fs files) (sym items) h.each; ledger = λ q. ledger q ∙ h.ledger q }

pub reached_kept : (old new : Kept) → new.files.items ≡ old.files.items → KeepsKeys old.ledger new.ledger → IsReached old → IsReached new
reached_kept old new items keeps r = record {
  files = r.files;
  stands = not_opened old new r.files items keeps.tallies r.stands;
  small = r.small;
  numbered = subst (AllByRecursion (IsNumberedFile new.ledger)) (sym items) (all_keep old.ledger new.ledger old.files.items keeps.keys r.numbered);
}

pub reached_opened : (old new : Kept) (b : Bool) (f : FileBooks) (o : Option OpeningParts) → OpenedAfter old.files.items o f → IsNumberedFile new.ledger f
    → new.files.items ≡ cond b (old.files.items ++ f ∷ []) old.files.items → KeepsKeys old.ledger new.ledger → IsReached old → IsReached new
reached_opened old new false f o one own items keeps r = reached_kept old new items keeps r
reached_opened old new true f o one own items keeps r = record {
  files = r.files ++ opened o ∷ [];
  stands = stands_opened old new r.files f o one items keeps.tallies r.stands;
  small = each_append IsSmallFile r.files (opened o ∷ []) r.small (record { few = omega arith; range = tt }, tt);
  numbered =
      subst (AllByRecursion (IsNumberedFile new.ledger)) (sym items) (
      each_append (IsNumberedFile new.ledger) old.files.items (f ∷ []) (all_keep old.ledger new.ledger old.files.items keeps.keys r.numbered) (own, tt));
}

pub opened_next : (old new : Kept) (f : FileBooks) (o : Option OpeningParts) (files : List File) → OpenedAfter old.files.items o f
    → new.files.items ≡ old.files.items ++ f ∷ [] → ((q : Key) → tally_at new.ledger q ≡ tally_at old.ledger q) → Stands old files
    → (f.standing ≡ standing (map (λ x. x.opening) files) o) × Stands new (files ++ opened o ∷ [])
opened_next old new f o files one items ledger h =
    (one.standing ∙ ap (λ e. standing e o) (openings_are 1 [] old.files.items files h.each), stands_opened old new files f o one items ledger h)
