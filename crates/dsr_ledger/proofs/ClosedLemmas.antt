-- The report's parts made of the files' states are those of the files that they represent.
use Rattle.dsr_ledger.proofs.Common.{◌≡◌, ℕ, List, [], ◌∷◌, ◌++◌, true, sym, ◌∙◌, ap, arith, Bool, ◌+◌, append_assoc, false, refl, not, ◌&&◌, ◌||◌, Option, option_map, None, Some, map, ℤ, filter, if◌then◌else◌, list_any, flat_map, range_with_len, bytes_eq, map-id, list_any-append, Summary, key_of, outcome_of, file_line, report_head, report_of, missing, first_head, summaries_of, File, Filed, filed, found_in, sums_at, openings_of, FileBooks, Summaries, tally_at, FileStands, Stands, Usage, usages_in, is_ours, ended_whole, naming, difference, differs, differences_in, differences, has_number, is_there, missing_for, rejects_in, rejects, filter_of_map_range_with_len_more, Kept, int_sum_by, line_kept, is_number_kept, missing_kept, sums_or_zeros, difference_to, differences_to, differences_kept, Head}
use Rattle.dsr_ledger.proofs.TextLemmas.{text_itself}
use Rattle.dsr_ledger.proofs.EachLemmas.{zero-add}
use Rattle.dsr_ledger.proofs.FilesLemmas.{openings_are, zip_folds, zip_maps}
use Rattle.dsr_ledger.specs.declared.closed.ClosedBooks.{ClosedBooks}
use Rattle.dsr_ledger.specs.inner.BooksWords.{AreClosed}

-- the numbers that no file has
missing_is : (head : Option Head) (fs : List FileBooks) (ds : List Filed) → ((n : ℕ) → list_any (is_number_kept n) fs ≡ is_there n ds)
    → missing_kept head fs ≡ missing_for head ds
missing_is None fs ds is = refl
missing_is (Some head) fs ds is = λ i. filter (λ n. not (is n i)) (range_with_len 1 head.number_of_files)

-- the numbers from 1 that pass a test, up to the next one
pub filter_range_more : (p : ℕ → Bool) (n : ℕ) → filter p (range_with_len 1 (n + 1)) ≡ filter p (range_with_len 1 n) ++ filter p ((n + 1) ∷ [])
filter_range_more p n = simp map-id at (filter_of_map_range_with_len_more p (λ k. k) 1 n (n + 1) (omega arith))

-- the state of a summary that is there has the sums of the usages that name it
sums_found : (ss : List Summary) (us : List Usage) (id : List ℕ) → list_any (λ s. bytes_eq id s.id) ss ≡ true
    → sums_or_zeros (found_in ss us id) ≡ record { usages = int_sum_by (λ u. u.usages) (naming id us); amount = int_sum_by (λ u. u.amount) (naming id us) }
sums_found [] us id h = absurd (cc)
sums_found (s ∷ ss) us id h =
    let sum = λ (f : Usage → ℤ). zero-add (int_sum_by f (naming id us)) in
    grind (arith, sum (λ u. u.usages), sum (λ u. u.amount), sums_found ss us id)

-- each summary with its state
differences_found : (place : ℕ) (m : Summaries) (us : List Usage) (done ss all : List Summary) → all ≡ done ++ ss
    → ((id : List ℕ) → sums_at m id ≡ found_in all us id) → map (λ s. difference_to place (sums_or_zeros (sums_at m s.id)) s) ss ≡ map (difference place us) ss
differences_found place m us done [] all split is = refl
differences_found place m us done (s ∷ ss) all split is =
    let p : Summary → Bool = λ t. bytes_eq s.id t.id in
    let there : list_any p all ≡ true = grind (arith, ap (list_any p) split, list_any-append p done (s ∷ ss), text_itself s.id) in
    let here = ap (λ o. difference_to place (sums_or_zeros o) s) (is s.id) ∙ ap (λ x. difference_to place x s) (sums_found all us s.id there) in
    let rest = differences_found place m us (done ++ s ∷ []) ss all (split ∙ sym (append_assoc done (s ∷ []) ss)) is in
    λ i. here i ∷ rest i

filter_none : {X : Type 0} (xs : List X) → filter (λ x. false) xs ≡ []
filter_none [] = refl
filter_none (x ∷ xs) = filter_none xs

both_or_none : {X : Type 0} (a b : Bool) (p : X → Bool) (xs : List X) → (if a && b then filter p xs else []) ≡ filter (λ x. a && (b && p x)) xs
both_or_none true true p xs = refl
both_or_none true false p xs = sym (filter_none xs)
both_or_none false b p xs = sym (filter_none xs)

pub differences_stand : (f : FileBooks) (d : Filed) → FileStands f d → differences_kept f ≡ differences_in d
differences_stand f d s =
    let ss = summaries_of d.file.opening in let us = usages_in d.file.blocks in
    (λ i. if is_ours (s.standing i) && ended_whole (s.outcome i) then differences_to (s.place i) f.summaries (summaries_of (s.opening i)) else [])
    ∙ ap (λ l. if is_ours d.standing && ended_whole d.file.outcome then filter differs l else [])
    (differences_found d.place f.summaries us [] ss ss refl s.summaries)
    ∙ both_or_none (is_ours d.standing) (ended_whole d.file.outcome) differs (map (difference d.place us) ss)

-- closed books, as they were made of the states
pub record Assembled (kept : Kept) (c : ClosedBooks) : Type 0 where
  pub key : c.report.key ≡ option_map key_of (first_head (openings_of kept.files.items))
  pub lines : c.report.files ≡ map line_kept kept.files.items
  pub missing : c.report.missing ≡ missing_kept (first_head (openings_of kept.files.items)) kept.files.items
  pub differences : c.report.differences ≡ flat_map differences_kept kept.files.items
  pub ledger : c.ledger ≡ kept.ledger
  pub rejects : c.report.rejects ≡ flat_map (λ f. f.rejects.items) kept.files.items

pub closed_is : (kept : Kept) (c : ClosedBooks) → Assembled kept c → (files : List File) → Stands kept files → AreClosed c files
unfolding missing differences rejects report_of
closed_is kept c a files h =
    let fs = kept.files.items in let head = ap first_head (openings_are 1 [] fs files h.each) in let key = a.key ∙ ap (option_map key_of) head in
    let there : (n : ℕ) → list_any (is_number_kept n) fs ≡ is_there n (filed files) =
    λ n. zip_folds FileStands (is_number_kept n) _ ◌||◌ (list_any (is_number_kept n)) (is_there n)
    (λ f d s i. is_ours (s.standing i) && has_number n (s.opening i)) refl (λ _ _. refl) (λ _ _. refl) fs (filed files) h.each in
    let lines = a.lines ∙ zip_maps FileStands line_kept file_line (λ f d s.
    let number = ap (option_map (λ o. o.head.file_number)) s.opening in
    λ i. record { number = number i; standing = s.standing i; blocks = s.blocks i; outcome = outcome_of (s.outcome i) }) fs (filed files) h.each in
    let missing_ = a.missing ∙ ap (λ o. missing_kept o fs) head ∙ missing_is (report_head files) fs (filed files) there in
    let differences_ = a.differences ∙ zip_folds FileStands differences_kept differences_in ◌++◌ (flat_map differences_kept) (flat_map differences_in)
    differences_stand refl (λ _ _. refl) (λ _ _. refl) fs (filed files) h.each in
    let rejects_ = a.rejects ∙ zip_folds FileStands (λ f. f.rejects.items) rejects_in ◌++◌ (flat_map (λ f. f.rejects.items)) (flat_map rejects_in)
    (λ f d s. s.rejects) refl (λ _ _. refl) (λ _ _. refl) fs (filed files) h.each in
    record {
      report = λ i. record {
        key = key i;
        files = lines i;
        missing = missing_ i;
        differences = differences_ i;
        ledger = c.report.ledger;
        rejects = rejects_ i;
      };
      ledger = λ q. ap (λ l. tally_at l q) a.ledger ∙ h.ledger q;
    }
