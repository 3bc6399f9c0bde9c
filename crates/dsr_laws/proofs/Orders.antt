-- The lists of a report are in order.
use Rattle.dsr_laws.proofs.Common.{AddsUp, AllByRecursion, BlockParts, Booked, Booking, Bool, Difference, File, Filed, Head, IsStrictlySortedBy, Key, LedgerLine, Less, List, None, OpeningParts, Option, Ordering, PartyLine, Reject, Rejected, Some, Verdict, [], add_up, all_adjacent, all_parts, and_from, ap, are_parties_in_order, arith, at_key, bookings, cond_both, difference, differences, differences_in, each_append, each_filter, each_flat, each_line, each_map, each_weaker, eq-eqb, exact_bytes, filed, filed_after, filter, flat_map, in_order, is_before, is_key_below, is_lt, is_text_below, is_there, judged_in, key_cmp, key_exact, key_of_line, key_total, keys_of, le-leb, ledger, line_of, lines_are, list_all, lt-ltb, map, mapped_in_order, missing, missing_for, names_of, nat_list_cmp_total, not, or_left, or_right, party_amount, party_lines, range_with_len, recursion_from_All, refl, rejects, rejects_from, rejects_in, report_head, report_of, sorted_in_order, subst, suc, summaries_of, sym, text_cmp, true, usages_in, zero, ℕ, ◌++◌, ◌+◌, ◌<◌, ◌∙◌, ◌∷◌, ◌≡◌, ◌≤◌}
use Rattle.std.proofs.Common.{nat_lt, nat_le}
use Rattle.dsr_ledger.proofs.EachLemmas.{each_of}

-- each item stands in a relation to all later ones
abbrev Sorted : {X : Type 0} → (X → X → Type 0) → List X → Type 0
Sorted r [] = Unit {0}
Sorted r (x ∷ xs) = AllByRecursion (r x) xs × Sorted r xs

abbrev Holds : {X : Type 0} → (X → X → Bool) → X → X → Type 0
Holds test x y = test x y ≡ true

adjacent : {X : Type 0} (test : X → X → Bool) (xs : List X) → Sorted (Holds test) xs → all_adjacent test xs ≡ true
adjacent test [] h = refl
adjacent test (x ∷ []) h = refl
adjacent test (x ∷ y ∷ more) h = and_from _ _ h.0.0 (adjacent test (y ∷ more) h.1)

module _ {X : Type 0} (r : X → X → Type 0) where
  sorted_filter : (p : X → Bool) (xs : List X) → Sorted r xs → Sorted r (filter p xs)
  sorted_filter p [] h = tt
  sorted_filter p (x ∷ xs) h =
      let rest = sorted_filter p xs h.1 in cond_both (p x) _ _ (Sorted r) (λ e. (each_filter (r x) p xs h.0, rest)) (λ e. rest)

  sorted_append : (xs ys : List X) → Sorted r xs → Sorted r ys → AllByRecursion (λ x. AllByRecursion (r x) ys) xs → Sorted r (xs ++ ys)
  sorted_append [] ys h k each = k
  sorted_append (x ∷ xs) ys h k each = (each_append (r x) xs ys h.0 each.0, sorted_append xs ys h.1 k each.1)

-- the places of files ascend
rising : (place : ℕ) (earlier : List (Option OpeningParts)) (files : List File)
    → AllByRecursion (λ d. place ≤ d.place) (filed_after place earlier files) × Sorted (λ c d. c.place < d.place) (filed_after place earlier files)
rising place earlier [] = (tt, tt)
rising place earlier (f ∷ fs) =
    let ds = filed_after (suc place) (earlier ++ (f.opening ∷ [])) fs in let rest = rising (suc place) (earlier ++ (f.opening ∷ [])) fs in
    let weaker = λ (P : Filed → Type 0) (w : (d : Filed) → suc place ≤ d.place → P d). each_weaker (λ (d : Filed). suc place ≤ d.place) P w ds rest.0 in
    ((omega arith, weaker (λ d. place ≤ d.place) (λ d h. omega arith)), (weaker (λ d. place < d.place) (λ d h. omega arith), rest.1))

-- the items of files, in the order of the files
module _ {X : Type 0} (file : X → ℕ) (r : X → X → Type 0) (items : Filed → List X)
    (own : (d : Filed) → AllByRecursion (λ x. file x ≡ d.place) (items d) × Sorted r (items d)) (apart : (x y : X) → file x < file y → r x y) where
  by_file : (ds : List Filed) → Sorted (λ c d. c.place < d.place) ds → Sorted r (flat_map items ds)
  by_file [] h = tt
  by_file (d ∷ ds) h =
      sorted_append r (items d) (flat_map items ds) (own d).1 (by_file ds h.1) (
      each_weaker (λ x. file x ≡ d.place) (λ x. AllByRecursion (r x) (flat_map items ds)) (λ x e. each_flat (r x) items ds (
      each_weaker (λ (c : Filed). d.place < c.place) (λ c. AllByRecursion (r x) (items c)) (λ c less.
      each_weaker (λ y. file y ≡ c.place) (r x) (λ y k. apart x y (omega arith)) (items c) (own c).0) ds h.0)) (items d) (own d).0)

-- the missing numbers ascend
pub range_within : (a n : ℕ) → AllByRecursion (λ m. (a ≤ m) × (m < a + n)) (range_with_len a n)
range_within a zero = tt
range_within a (suc n) =
    ((omega arith, omega arith), each_weaker (λ m. (a + 1 ≤ m) × (m < a + 1 + n)) _ (λ m h. (omega arith, omega arith)) (range_with_len (a + 1) n) (range_within (a + 1) n))

range_sorted : (a n : ℕ) → Sorted (Holds nat_lt) (range_with_len a n)
range_sorted a zero = tt
range_sorted a (suc n) =
    (each_weaker (λ m. (a + 1 ≤ m) × (m < a + 1 + n)) _ (λ m h. lt-ltb a m (omega (arith, h.0))) (range_with_len (a + 1) n) (range_within (a + 1) n), range_sorted (a + 1) n)

missing_sorted : (o : Option Head) (ds : List Filed) → Sorted (Holds nat_lt) (missing_for o ds)
missing_sorted None ds = tt
missing_sorted (Some head) ds = sorted_filter (Holds nat_lt) (λ n. not (is_there n ds)) _ (range_sorted 1 head.number_of_files)

pub missing_ascend : (files : List File) → all_adjacent nat_lt (missing files) ≡ true
unfolding missing
missing_ascend files = adjacent nat_lt (missing files) (missing_sorted (report_head files) (filed files))

-- the differences stand by file
abbrev not_after : Difference → Difference → Bool
not_after a b = nat_le a.file b.file

same_file : (place : ℕ) (ds : List Difference) → AllByRecursion (λ x. x.file ≡ place) ds → Sorted (Holds not_after) ds
same_file place [] h = tt
same_file place (x ∷ xs) h =
    (each_weaker (λ (y : Difference). y.file ≡ place) (Holds not_after x) (λ y e. le-leb x.file y.file (omega (arith, h.0))) xs h.1, same_file place xs h.1)

differences_own : (d : Filed) → AllByRecursion (λ x. x.file ≡ d.place) (differences_in d) × Sorted (Holds not_after) (differences_in d)
differences_own d =
    let Here : Difference → Type 0 = λ x. x.file ≡ d.place in let make = difference d.place (usages_in d.file.blocks) in
    let all = each_filter Here _ (map make (summaries_of d.file.opening)) (each_map Here make _ (each_of (λ s. Here (make s)) (λ s. refl) (summaries_of d.file.opening))) in
    (all, same_file d.place (differences_in d) all)

pub differences_by_file : (files : List File) → all_adjacent (λ a b. nat_le a.file b.file) (differences files) ≡ true
unfolding differences
differences_by_file files =
    adjacent not_after (differences files) (by_file (λ (x : Difference). x.file) (Holds not_after) differences_in differences_own
    (λ x y less. le-leb x.file y.file (omega arith)) (filed files) (rising 1 [] files).1)

-- the rejects stand by file and position
abbrev Late : ℕ → ℕ → Reject → Type 0
Late place n x = (x.file ≡ place) × (n ≤ x.position)

rejects_late : (place n : ℕ) (js : List (BlockParts × Verdict)) → AllByRecursion (Late place n) (rejects_from place n js)
rejects_late place n [] = tt
rejects_late place n ((b, Booked) ∷ js) = each_weaker (Late place (n + 1)) (Late place n) (λ x h. (h.0, omega (arith, h.1))) _ (rejects_late place (n + 1) js)
rejects_late place n ((b, Rejected reason) ∷ js) =
    ((refl, omega arith), each_weaker (Late place (n + 1)) (Late place n) (λ x h. (h.0, omega (arith, h.1))) _ (rejects_late place (n + 1) js))

rejects_sorted : (place n : ℕ) (js : List (BlockParts × Verdict)) → Sorted (Holds is_before) (rejects_from place n js)
rejects_sorted place n [] = tt
rejects_sorted place n ((b, Booked) ∷ js) = rejects_sorted place (n + 1) js
rejects_sorted place n ((b, Rejected reason) ∷ js) =
    let x : Reject = record { file = place; position = n; block_id = b.id; reason = reason } in (
      each_weaker (Late place (n + 1)) (Holds is_before x) (λ y h. or_right (nat_lt place y.file) _ (and_from _ _ (eq-eqb place y.file (sym h.0)) (lt-ltb n y.position (omega
          (arith, h.1))))) _ (rejects_late place (n + 1) js),
      rejects_sorted place (n + 1) js,
    )

pub rejects_in_order : (files : List File) → all_adjacent is_before (rejects files) ≡ true
unfolding rejects
rejects_in_order files =
    adjacent is_before (rejects files) (by_file (λ (x : Reject). x.file) (Holds is_before) rejects_in (λ d.
    (each_weaker (Late d.place 1) (λ x. x.file ≡ d.place) (λ x h. h.0) _ (rejects_late d.place 1 (judged_in d)), rejects_sorted d.place 1 (judged_in d)))
    (λ x y less. or_left (nat_lt x.file y.file) _ (lt-ltb x.file y.file less)) (filed files) (rising 1 [] files).1)

-- items made from keys in strict order
module _ {K X : Type 0} (cmp : K → K → Ordering) (name : X → K) (make : K → X) (named : (k : K) → name (make k) ≡ k) where
  abbrev below : X → X → Bool
  below a b = is_lt (cmp (name a) (name b))

  made_sorted : (ks : List K) → IsStrictlySortedBy cmp ks → Sorted (Holds below) (map make ks)
  unfolding IsStrictlySortedBy
  made_sorted [] h = tt
  made_sorted (k ∷ ks) h = (
    each_map (Holds below (make k)) make ks
        (each_weaker (λ q. cmp k q ≡ Less) _ (λ q e. (λ i. is_lt (cmp (named k i) (named q i))) ∙ ap is_lt e) ks h.0),
    made_sorted ks h.1,
  )

  made_in_order : (ks : List K) → IsStrictlySortedBy cmp ks → all_adjacent below (map make ks) ≡ true
  made_in_order ks h = adjacent below (map make ks) (made_sorted ks h)

-- the lines of the ledger stand by key
pub ledger_by_key : (bs : List Booking) → all_adjacent (λ a b. is_key_below (key_of_line a) (key_of_line b)) (ledger bs) ≡ true
unfolding ledger line_of
ledger_by_key bs =
    let f : Key → LedgerLine = λ key. line_of key (at_key key bs) in let ks = map (λ b. b.key) bs in
    subst (λ ls. all_adjacent (λ a b. is_key_below (key_of_line a) (key_of_line b)) ls ≡ true) (sym (mapped_in_order key_cmp key_total key_exact f ks
    (λ e. e.1)))
    (made_in_order key_cmp key_of_line f (λ k. refl) (keys_of (in_order key_cmp f ks)) (sorted_in_order key_cmp key_total key_exact f ks))

-- and the parties of a line by name
pub parties_by_name : (bs : List Booking) → all_adjacent (λ p q. is_text_below p.party q.party) (party_lines bs) ≡ true
parties_by_name bs =
    let f : List ℕ → PartyLine = λ n. record { party = n; amount = party_amount bs n } in
    subst (λ ps. all_adjacent (λ (p q : PartyLine). is_text_below p.party q.party) ps ≡ true) (sym (lines_are bs))
    (made_in_order text_cmp (λ (p : PartyLine). p.party) f (λ k. refl) (names_of bs)
    (sorted_in_order text_cmp nat_list_cmp_total exact_bytes (party_amount bs) (map (λ q. q.party) (all_parts bs))))

pub all_true : {X : Type 0} (p : X → Bool) (xs : List X) → AllByRecursion (λ x. p x ≡ true) xs → list_all p xs ≡ true
all_true p [] h = refl
all_true p (x ∷ xs) h = and_from (p x) (list_all p xs) h.0 (all_true p xs h.1)

pub parties_in_order : (bs : List Booking) → list_all are_parties_in_order (ledger bs) ≡ true
unfolding line_of
parties_in_order bs =
    all_true are_parties_in_order (ledger bs) (each_line (λ l. are_parties_in_order l ≡ true) bs (λ key among. parties_by_name (at_key key bs)))

pub sums_add_up : (files : List File) → AllByRecursion AddsUp (ledger (bookings files))
unfolding report_of
sums_add_up files = recursion_from_All AddsUp (ledger (bookings files)) (add_up files)
