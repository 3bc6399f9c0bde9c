-- The sources of names, opened one after the other, and the name that cannot be opened.
use Rattle.dsr_command.proofs.Common.{◌≡◌, ◌∙◌, ◌+◌, ◌<◌, ℕ, List, [], ◌∷◌, ◌++◌, None, Some, refl, ap, ap₂, sym, subst, length, take, drop, map, slice_index_or, map-append, take-append-drop, take_more}
use Rattle.std.proofs.Common.{suc, drop-cons}
use Rattle.std.specs.Prelude.{◌≢◌, true, false, if◌then◌else◌, nat_lt, count_by, Option, Result, Ok, Err}
use Rattle.dsr_io.specs.meaning.Told.{Told}
use Rattle.dsr_command.specs.declared.identity.FileIdentity.{FileIdentity}
use Rattle.dsr_command.specs.declared.inputs.OpenError.{OpenError}
use Rattle.dsr_command.specs.declared.inputs.OpenError.TheVariants.{CannotOpen, InputTwice, Memory}
use Rattle.dsr_command.specs.declared.world.OpenFault.{OpenFault}
use Rattle.dsr_command.specs.declared.world.OpenFault.TheVariants as fault
use Rattle.dsr_command.specs.Inputs.{IsRefusal, IsRefusalOf}
use Rattle.dsr_command.specs.World.{AreFresh, AreSources, Disk, IsFresh, Opens, before_texts, files_for, is_input, names_read, texts_for, texts_of, with_input}

one_more : (o : Option (List ℕ)) (n : List ℕ) (r s : Result (List (List ℕ)) OpenError) (more texts : List (List ℕ))
    → ((ts : List (List ℕ)) → r ≡ Ok ts → s ≡ Ok (ts ++ more)) → before_texts o n r ≡ Ok texts → before_texts o n s ≡ Ok (texts ++ more)
one_more None n r s more texts step is = cc
one_more (Some t) n (Err e) s more texts step is = cc
one_more (Some t) n (Ok ts) s more texts step is =
    let e : texts ≡ t ∷ ts = cc in
    rw (step ts refl, e) refl

-- texts behind others
pub texts_append : (files : List ℕ → Option (List ℕ)) (xs ys : List (List ℕ)) (texts more : List (List ℕ))
    → texts_of files xs ≡ Ok texts → texts_of files ys ≡ Ok more → texts_of files (xs ++ ys) ≡ Ok (texts ++ more)
texts_append files [] ys texts more are is = let e : texts ≡ [] = cc in rw (is, e) refl
texts_append files (x ∷ xs) ys texts more are is =
    one_more (files x) x (texts_of files xs) (texts_of files (xs ++ ys)) more texts (λ ts e. texts_append files xs ys ts more e is) are

-- one name can be opened, or not
pub one_text : (files : List ℕ → Option (List ℕ)) (name bytes : List ℕ) → files name ≡ Some bytes → texts_of files (name ∷ []) ≡ Ok (bytes ∷ [])
one_text files name bytes is = rw is refl

pub one_missing : (files : List ℕ → Option (List ℕ)) (name : List ℕ) → files name ≡ None → texts_of files (name ∷ []) ≡ Err (CannotOpen name)
one_missing files name is = rw is refl

missing_more : (o : Option (List ℕ)) (n : List ℕ) (m : OpenError) (r s : Result (List (List ℕ)) OpenError) (texts : List (List ℕ))
    → ((ts : List (List ℕ)) → r ≡ Ok ts → s ≡ Err m) → before_texts o n r ≡ Ok texts → before_texts o n s ≡ Err m
missing_more None n m r s texts step is = cc
missing_more (Some t) n m (Err e) s texts step is = cc
missing_more (Some t) n m (Ok ts) s texts step is = rw (step ts refl) refl

first_missing : (o : Option (List ℕ)) (n : List ℕ) (m : OpenError) (more : Result (List (List ℕ)) OpenError) → before_texts o n (Ok []) ≡ Err m
    → before_texts o n more ≡ Err m
first_missing None n m more e = cc
first_missing (Some t) n m more e = absurd cc

texts_missing : (files : List ℕ → Option (List ℕ)) (xs ys : List (List ℕ)) (n : List ℕ) (m : OpenError) (texts : List (List ℕ))
    → texts_of files xs ≡ Ok texts → texts_of files (n ∷ []) ≡ Err m → texts_of files (xs ++ n ∷ ys) ≡ Err m
texts_missing files [] ys n m texts are is = first_missing (files n) n m (texts_of files ys) is
texts_missing files (x ∷ xs) ys n m texts are is =
    missing_more (files x) x m (texts_of files xs) (texts_of files (xs ++ n ∷ ys)) texts (λ ts e. texts_missing files xs ys n m ts e is) are

-- the name at this place cannot be opened
pub missing_at : (files : List ℕ → Option (List ℕ)) (names : List (List ℕ)) (k : ℕ) (e : List ℕ) (texts : List (List ℕ)) (error : OpenError)
    → k < length names → texts_of files (take k names) ≡ Ok texts → texts_of files (slice_index_or names k e ∷ []) ≡ Err error
    → texts_of files names ≡ Err error
missing_at files names k e texts error lt are is =
    let n = slice_index_or names k e in
    let same : take k names ++ n ∷ drop (suc k) names ≡ names =
    ap (λ ys. take k names ++ ys) (sym (drop-cons names k e lt)) ∙ take-append-drop k names in
    subst (λ ns. texts_of files ns ≡ Err error) same (texts_missing files (take k names) (drop (suc k) names) n error texts are is)

fresh_push : {R : Type 0} (told : R → Told) (rs : List R) (ts : List (List ℕ)) (r : R) (t : List ℕ)
    → AreFresh told rs ts → IsFresh (told r) t → AreFresh told (rs ++ r ∷ []) (ts ++ t ∷ [])
fresh_push told [] [] r t are is = (is, tt)
fresh_push told [] (x ∷ xs) r t are is = absurd are
fresh_push told (q ∷ qs) [] r t are is = absurd are
fresh_push told (q ∷ qs) (x ∷ xs) r t are is = (are.0, fresh_push told qs xs r t are.1 is)

-- one more source was opened
pub sources_more : {R : Type 0} (told : R → Told) (file : R → Option FileIdentity) (disk : Disk) (names : List (List ℕ)) (k : ℕ)
    (e : List ℕ) (sources : List R) (source : R) → k < length names
    → AreSources told file (texts_of disk.files (take k names)) (map disk.file (take k names)) sources
    → Opens told file disk (slice_index_or names k e) (Ok source)
    → AreSources told file (texts_of disk.files (take (k + 1) names)) (map disk.file (take (k + 1) names)) (sources ++ source ∷ [])
sources_more told file disk names k e sources source lt are is =
    let n = slice_index_or names k e in
    let same = take_more names k e lt in
    record {
      bytes = are.bytes ++ is.0 ∷ [];
      texts_are = subst (λ ns. texts_of disk.files ns ≡ Ok (are.bytes ++ is.0 ∷ [])) (sym same)
          (texts_append disk.files (take k names) (n ∷ []) are.bytes (is.0 ∷ []) are.texts_are (one_text disk.files n is.0 is.1));
      fresh = fresh_push told sources are.bytes source is.0 are.fresh is.2.fresh;
      files_are = map-append file sources (source ∷ []) ∙ (ap₂ (λ xs x. xs ++ x ∷ []) are.files_are is.2.file_is
          ∙ (sym (map-append disk.file (take k names) (n ∷ [])) ∙ ap (map disk.file) (sym same)));
    }

-- a name cannot be opened
pub unopened_at : {R : Type 0} (told : R → Told) (file : R → Option FileIdentity) (disk : Disk) (names : List (List ℕ)) (k : ℕ)
    (e : List ℕ) (sources : List R) (fault : OpenFault) (error : OpenError) → k < length names
    → AreSources told file (texts_of disk.files (take k names)) (map disk.file (take k names)) sources
    → Opens told file disk (slice_index_or names k e) (Err fault) → IsRefusalOf (slice_index_or names k e) fault error
    → IsRefusal (texts_of disk.files names) error
unopened_at told file disk names k e sources fault Memory lt are is error = tt
unopened_at told file disk names k e sources fault InputTwice lt are is error = absurd error
unopened_at told file disk names k e sources fault.Memory (CannotOpen name) lt are is error = absurd (cc error.0)
unopened_at told file disk names k e sources fault.Missing (CannotOpen name) lt are is error =
    let n = slice_index_or names k e in
    subst (λ m. texts_of disk.files names ≡ Err (CannotOpen m)) (sym error.1)
    (missing_at disk.files names k e are.bytes (CannotOpen n) lt are.texts_are (one_missing disk.files n is))

-- standard input is named twice
pub texts_twice : (disk : Disk) (names : List (List ℕ)) → nat_lt 1 (count_by is_input names) ≡ true → texts_for disk names ≡ Err InputTwice
texts_twice disk names twice = ap (λ b. if b then Err InputTwice else texts_of (with_input disk).files (names_read names)) twice

-- what is read for names that are there
pub texts_named : (disk : Disk) (names : List (List ℕ)) → length names ≢ 0 → nat_lt 1 (count_by is_input names) ≡ false
    → texts_for disk names ≡ texts_of (with_input disk).files names
texts_named disk [] some once = absurd (some refl)
texts_named disk (n ∷ ns) some once = ap (λ b. if b then Err InputTwice else texts_of (with_input disk).files (n ∷ ns)) once

pub files_named : (disk : Disk) (names : List (List ℕ)) → length names ≢ 0 → files_for disk names ≡ map (with_input disk).file names
files_named disk [] some = absurd (some refl)
files_named disk (n ∷ ns) some = refl
