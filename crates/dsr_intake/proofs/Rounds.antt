-- What holds while the files are opened, and in a round.
use Rattle.dsr_intake.proofs.Common.{◌≡◌, ℕ, zero, suc, ◌+◌, ◌<◌, ◌≤◌, Bool, true, false, ◌||◌, List, [], ◌∷◌, ◌++◌, map, take, set, length, get_or, All, Some, None, Result, Ok, Err, refl, sym, ap, subst, ◌∙◌, arith, length-take, add-one, inl, inr, IsSome, is_some, slice_get, filter_map, OnOk, All-tail, map-append, length-map, map-set, slice_get-map, slice_get-get_or, get_or_from_slice_get, slice_get_within, slice_get_read, EventPart, Outcome, Placed, MayStandAt, has_ended, TapView, Books, File, opened, end_with, with_outcome, Stands, files_count, opened_count, CanBook, CanEnd, AllEnded, file_of, first, outcome_in, IsTapped, IsStoppedAt, IsFileAt, Changes, Opens, first_file, IsGoing, Knows, IsNext, HasMore, taken_count, common_steps, gets, take_all}
use Rattle.std.proofs.lemmas.Bool.{cases_eq}
use Rattle.std.proofs.lemmas.List.Sums.{sum_by-set}
use Rattle.dsr_ledger.specs.layer.Files.{with_file}
use Rattle.std.specs.Option.{option_map}
use Rattle.std.proofs.Math.Seq.{take-suc-set, map-set_same, set-append_seam}
use Rattle.dsr_ledger.specs.inner.Books.{ended_in}
use Rattle.dsr_ledger.proofs.CallerLemmas.{opened_is, can_book, can_end, all_ended}
use Rattle.dsr_intake.specs.inner.Collecting.{IsStopped}
use Rattle.dsr_intake.specs.declared.errors.CollectError.{CollectError}
use Rattle.dsr_intake.specs.declared.errors.CollectError.TheVariants.{Memory, Closed}
use Rattle.dsr_intake.proofs.Filing.{get_end, get_set_same}

abbrev event : ℕ → EventPart → Placed
event n p = record { place = n; part = p }

-- the list with a file changed is the same by either definition
pub file_is_set : (g : File → File) (files : List File) (k : ℕ) (f : File) → IsFileAt files k f → with_file g files k ≡ set files k (g f)
file_is_set g [] k f at = absurd (cc)
file_is_set g (x ∷ files) zero f at = let e : x ≡ f = cc in ap (λ h. g h ∷ files) e
file_is_set g (x ∷ files) (suc k) f at = ap (λ l. x ∷ l) (file_is_set g files k f at)

-- ending a file changes it
pub outcome_changes : (a c : Books) (k : ℕ) (o : Outcome) → ((files : List File) → Stands a files → Stands c (with_outcome files k o)) → (f : File)
    → Changes a c k f (end_with o f)
outcome_changes a c k o h f files stands at = subst (Stands c) (file_is_set (end_with o) files k f at) (h files stands)

pub on_any : {A E P : Type 0} (answer : Result A E) → P → OnOk answer P
on_any (Ok v) p = p
on_any (Err e) p = tt

-- the file of a first event
pub file_first : (e : Placed) → MayStandAt 0 e.part → file_of (e ∷ []) ≡ first_file e.part
file_first e h = grind (arith, h)

-- a file that is opened and ended at once
pub opens_ended : (a b c : Books) (k : ℕ) (o : Outcome) → Opens a b k (opened None)
    → ((files : List File) → Stands b files → Stands c (with_outcome files k o)) → Opens a c k (end_with o (opened None))
opens_ended a b c k o p q files stands len =
    let f = opened None in
    let at : slice_get (files ++ f ∷ []) k ≡ Some f = subst (λ i. slice_get (files ++ f ∷ []) i ≡ Some f) len (get_end files f) in
    let same : set (files ++ f ∷ []) k (end_with o f) ≡ files
    ++ end_with o f ∷ [] = subst (λ i. set (files ++ f ∷ []) i (end_with o f) ≡ files ++ end_with o f ∷ []) len
    (set-append_seam files f [] (end_with o f)) in
    subst (Stands c) (file_is_set (end_with o) (files ++ f ∷ []) k f at ∙ same) (q (files ++ f ∷ []) (p files stands len))

pub get_set_other : {A : Type 0} (xs : List A) (k j : ℕ) (y : A) → (j ≡ k → ⊥) → slice_get (set xs k y) j ≡ slice_get xs j
get_set_other xs k j y h = grind (arith, common_steps, gets, h)

put_here : (now : List TapView) (k : ℕ) (t u x : TapView) → slice_get now k ≡ Some t → slice_get (set now k u) k ≡ Some x → u ≡ x
put_here now k t u x at here = let e = get_set_same now k t u at in cc

pub names_set : (now : List TapView) (k : ℕ) (t u : TapView) → slice_get now k ≡ Some t → u.name ≡ t.name → map (λ x. x.name) (set now k u)
    ≡ map (λ x. x.name) now
names_set now k t u at name = map-set_same (λ x. x.name) now k u t (name ∙ ap (λ x. x.name) (sym (get_or_from_slice_get now k t t at)))

-- the files below k are opened, and no event of the others is taken
pub record Opening (all now : List TapView) (k : ℕ) (books : Books) : Type 0 where
  pub names : map (λ t. t.name) now ≡ map (λ t. t.name) all
  pub tapped : (j : ℕ) (t : TapView) → j < k → slice_get now j ≡ Some t → IsTapped t
  pub fresh : (j : ℕ) (t : TapView) → k ≤ j → slice_get now j ≡ Some t → t.taken ≡ []
  pub stands : Stands books (map (λ t. file_of t.taken) (take k now))

pub opening_more : (all now : List TapView) (k : ℕ) (books new : Books) (t u : TapView) → Opening all now k books → slice_get now k ≡ Some t
    → u.name ≡ t.name → IsTapped u → Opens books new k (file_of u.taken) → Opening all (set now k u) (k + 1) new
opening_more all now k books new t u o at name tapped opens =
    let low : k < length now = slice_get_within now k t at in
    let files = map (λ (x : TapView). file_of x.taken) (take k now) in
    let len : length files ≡ k = length-map (take k now) (λ x. file_of x.taken) ∙ length-take k now ∙ omega arith in
    let grown : take (k + 1) (set now k u) ≡ take k now ++ u ∷ [] = rw add-one (take-suc-set now k u low) in
    record {
      names = names_set now k t u at name ∙ o.names;
      tapped = λ j x below here. elim (cases_eq j k) [
        | inl e ↦ (let f : u ≡ x = put_here now k t u x at (subst (λ i. slice_get (set now k u) i ≡ Some x) e here) in subst IsTapped f tapped)
        | inr n ↦ o.tapped j x (omega arith) (sym (get_set_other now k j u n) ∙ here)
      ];
      fresh = λ j x below here. o.fresh j x (omega arith) (sym (get_set_other now k j u (λ e. omega arith)) ∙ here);
      stands = rw (grown, map-append) (opens files o.stands len);
    }

pub opening_done : (all now : List TapView) (k : ℕ) (books : Books) → Opening all now k books → length now ≤ k → All IsTapped now
    × Stands books (map (λ t. file_of t.taken) now)
opening_done all now k books o h = (
  λ j d low. o.tapped j (get_or now j d) (omega arith) (slice_get-get_or now j d low),
  rw (take_all k now h) at o.stands,
)

-- the books know the file of the tap that is looked at
pub known_here : (now : List TapView) (k : ℕ) (books : Books) (t : TapView) → slice_get now k ≡ Some t
    → Stands books (map (λ x. file_of x.taken) now) → Knows books k (file_of t.taken)
known_here now k books t at stands =
    let f : TapView → File = λ x. file_of x.taken in (map f now, stands, slice_get-map f now k ∙ ap (option_map f) at)

-- one more message of file k
pub round_more : (now : List TapView) (k : ℕ) (books new : Books) (t u : TapView) → slice_get now k ≡ Some t → Stands books (map (λ x. file_of x.taken) now)
    → Changes books new k (file_of t.taken) (file_of u.taken) → Stands new (map (λ x. file_of x.taken) (set now k u))
round_more now k books new t u at stands changes =
    let f : TapView → File = λ x. file_of x.taken in
    rw map-set (changes (map f now) stands (slice_get-map f now k ∙ ap (option_map f) at))

pub stopped_at : (now : List TapView) (k : ℕ) (t u : TapView) (e : CollectError) → slice_get now k ≡ Some t → IsStoppedAt k u e → IsStopped (set now k u) e
stopped_at now k t u Memory at s = tt
stopped_at now k t u (Closed n) at s = (k, u, s.0, get_set_same now k t u at, s.1)

ended_outcome : (es : List Placed) → has_ended es ≡ true → IsSome (first (filter_map outcome_in es))
ended_outcome [] h = cc
ended_outcome (e ∷ es) h = grind (arith, ended_outcome es)

ended_at : (ts : List TapView) (k : ℕ) → All (λ t. has_ended t.taken ≡ true) ts → k < length ts → ended_in (map (λ t. file_of t.taken) ts) k ≡ true
ended_at [] k h below = absurd (omega arith)
ended_at (t ∷ ts) zero h below = ended_outcome t.taken (h 0 t (omega arith))
ended_at (t ∷ ts) (suc k) h below = ended_at ts k (All-tail (λ x. has_ended x.taken ≡ true) t ts h) (omega arith)

-- all files have ended
pub files_ended : (books : Books) (ts : List TapView) → Stands books (map (λ t. file_of t.taken) ts) → length ts ≡ files_count books
    → All (λ t. has_ended t.taken ≡ true) ts → AllEnded books
files_ended books ts stands count h =
    let len = length-map ts (λ t. file_of t.taken) in
    all_ended books (map (λ t. file_of t.taken) ts) stands (len ∙ count) (λ k below. ended_at ts k h (omega (arith, len, below)))

-- a file that has not ended can take a block, and can end
pub going_books : (books : Books) (k : ℕ) (f : File) → Knows books k f → IsGoing f → CanBook books k
going_books books k f known going =
    can_book books known.0 k known.1 (rw known.2 going.opened) (rw known.2 (ap is_some going.running)) (rw known.2 going.short)

pub going_ends : (books : Books) (k : ℕ) (f : File) → Knows books k f → IsGoing f → CanEnd books k
going_ends books k f known going =
    can_end books known.0 k known.1 (slice_get_within known.0 k f known.2) (rw known.2 (ap is_some going.running))

-- the next file can be opened
pub next_opens : (books : Books) (k : ℕ) → IsNext books k → opened_count books < files_count books
next_opens books k next = omega (arith, opened_is books next.0 next.1, next.2, next.3)

-- a file that was opened without an opening can end at once
pub opened_ends : (a b : Books) (k : ℕ) → IsNext a k → ((files : List File) → Stands a files → Stands b (files ++ opened None ∷ [])) → CanEnd b k
opened_ends a b k next opens =
    let f = opened None in
    let at : slice_get (next.0 ++ f ∷ []) k ≡ Some f = subst (λ i. slice_get (next.0 ++ f ∷ []) i ≡ Some f) next.2 (get_end next.0 f) in
    can_end b (next.0 ++ f ∷ []) k (opens next.0 next.1) (slice_get_within (next.0 ++ f ∷ []) k f at) (rw at refl)

-- the tap that was borrowed is at its place
pub lent : (now : List TapView) (k : ℕ) (t : TapView) → k < length now → t ≡ get_or now k t → slice_get now k ≡ Some t
lent now k t low h = slice_get_read now (length now) k t refl low h

-- lists of taps with the same names have the same length
pub same_count : (xs ys : List TapView) → map (λ t. t.name) xs ≡ map (λ t. t.name) ys → length xs ≡ length ys
same_count xs ys e = sym (length-map xs (λ t. t.name)) ∙ ap length e ∙ length-map ys (λ t. t.name)

-- whether a round took more, after one more tap
pub more_taken : (old now : List TapView) (k : ℕ) (t u : TapView) (any one : Bool) → slice_get now k ≡ Some t
    → HasMore any (taken_count old) (taken_count now) → HasMore one (length t.taken) (length u.taken)
    → HasMore (any || one) (taken_count old) (taken_count (set now k u))
more_taken old now k t u any one at was new =
    let low = slice_get_within now k t at in
    let same = get_or_from_slice_get now k t t at in
    let sums = sum_by-set (λ (x : TapView). length x.taken) now k u t low in
    adds any one (taken_count old) (taken_count now) (taken_count (set now k u)) (length t.taken) (length u.taken)
    (ap (λ (x : TapView). taken_count (set now k u) + length x.taken) (sym same) ∙ sums) was new
  where
    adds : (any one : Bool) (a b c n m : ℕ) → c + n ≡ b + m → HasMore any a b → HasMore one n m → HasMore (any || one) a c
    adds true one a b c n m sum was new = (omega (arith, was.0, new.0), ((λ _. (let more = was.1.0 refl in omega (arith, more, new.0))), (λ _. refl)))
    adds false true a b c n m sum was new = (omega (arith, was.0, new.0), ((λ _. (let more = new.1.0 refl in omega (arith, more, was.0))), (λ _. refl)))
    adds false false a b c n m sum was new = (
      omega (arith, was.0, new.0),
      (
        (λ e. absurd (cc)),
        (λ more. elim (cases_eq n m) [ inl e ↦ was.1.1 (omega (arith, e, more, sum)) | inr other ↦ new.1.1 (omega (arith, other, new.0)) ]),
      ),
    )

pub none_taken : (n : ℕ) → HasMore false n n
none_taken n = (omega arith, ((λ e. absurd (cc)), (λ less. absurd (omega (arith, less)))))
