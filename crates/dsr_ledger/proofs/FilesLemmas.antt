-- The states of the files, and one of them.
use Rattle.dsr_ledger.proofs.Common.{◌≡◌, ℕ, List, [], ◌∷◌, ◌++◌, length, get_or, true, sym, ◌∙◌, ap, arith, Bool, zero, suc, ◌+◌, append_assoc, append-nil, false, set, refl, subst, Option, Some, map, slice_get, AllByRecursion, AllZip, length-map, option_map_or, OpeningParts, File, Filed, filed_after, standing, with_file, openings_of, FileBooks, BlockParts, gets, same_Some, all_zipped_more, Outcome, FileStands, FilesStand, IsSmallFile}

-- a change of a file that keeps its opening
abbrev pub changed : (File → List BlockParts) → (File → Option Outcome) → File → File
changed B O f = record { opening = f.opening; blocks = B f; outcome = O f }

abbrev pub changed_in : (File → List BlockParts) → (File → Option Outcome) → Filed → Filed
changed_in B O d = record { place = d.place; standing = d.standing; file = changed B O d.file }

-- what is made item by item
pub zip_folds : {A B W Z : Type 0} (R : A → B → Type 0) (g : A → W) (h : B → W) (op : W → Z → Z) (F : List A → Z) (G : List B → Z)
    → ((x : A) (y : B) → R x y → g x ≡ h y) → F [] ≡ G [] → ((x : A) (xs : List A) → F (x ∷ xs) ≡ op (g x) (F xs))
    → ((y : B) (ys : List B) → G (y ∷ ys) ≡ op (h y) (G ys)) → (xs : List A) (ys : List B) → AllZip R xs ys → F xs ≡ G ys
zip_folds R g h op F G agree none f s [] [] r = none
zip_folds R g h op F G agree none f s (x ∷ xs) (y ∷ ys) r =
    f x xs ∙ (λ i. op (agree x y r.0 i) (zip_folds R g h op F G agree none f s xs ys r.1 i)) ∙ sym (s y ys)
zip_folds R g h op F G agree none f s _ _ r = absurd r

pub zip_maps : {A B W : Type 0} (R : A → B → Type 0) (g : A → W) (h : B → W) → ((x : A) (y : B) → R x y → g x ≡ h y) → (xs : List A) (ys : List B)
    → AllZip R xs ys → map g xs ≡ map h ys
zip_maps R g h agree xs ys r = zip_folds R g h (λ z zs. z ∷ zs) (map g) (map h) agree refl (λ _ _. refl) (λ _ _. refl) xs ys r

-- file k of the represented files
pub record FileAt (n : ℕ) (e : List (Option OpeningParts)) (fs : List FileBooks) (files : List File) (k : ℕ) (f : FileBooks) : Type 0 where
  pub filed : Filed
  pub at : slice_get (filed_after n e files) k ≡ Some filed
  pub stands : FileStands f filed
  pub same : (g : FileBooks) → FileStands g filed → FilesStand n e (set fs k g) files
  pub change : (B : File → List BlockParts) (O : File → Option Outcome) (g : FileBooks) → FileStands g (changed_in B O filed)
      → FilesStand n e (set fs k g) (with_file (changed B O) files k)
  pub own_small : AllByRecursion IsSmallFile files → IsSmallFile filed.file
  pub small : (B : File → List BlockParts) (O : File → Option Outcome) → AllByRecursion IsSmallFile files → IsSmallFile (changed B O filed.file)
      → AllByRecursion IsSmallFile (with_file (changed B O) files k)

pub file_at : (n : ℕ) (e : List (Option OpeningParts)) (fs : List FileBooks) (files : List File) (k : ℕ) (f : FileBooks) → FilesStand n e fs files
    → slice_get fs k ≡ Some f → FileAt n e fs files k f
file_at n e [] files k f h is = absurd (cc)
file_at n e (x ∷ fs) [] k f h is = absurd h
file_at n e (x ∷ fs) (file ∷ files) zero f h is = record {
  filed = record { place = n; standing = standing e file.opening; file = file };
  at = refl;
  stands = subst (λ y. FileStands y (record { place = n; standing = standing e file.opening; file = file })) (same_Some x f is) h.0;
  same = λ g s. (s, h.1);
  change = λ B O g s. (s, h.1);
  own_small = λ s. s.0;
  small = λ B O s t. (t, s.1);
}
file_at n e (x ∷ fs) (file ∷ files) (suc k) f h is =
    let rest = file_at (suc n) (e ++ file.opening ∷ []) fs files k f h.1 is in
    record {
      filed = rest.filed;
      at = rest.at;
      stands = rest.stands;
      same = λ g s. (h.0, rest.same g s);
      change = λ B O g s. (h.0, rest.change B O g s);
      own_small = λ s. rest.own_small s.1;
      small = λ B O s t. (s.0, rest.small B O s.1 t);
    }

-- the files' openings are those of the files with their places
opened_after : (n : ℕ) (e : List (Option OpeningParts)) (files : List File) → map (λ d. d.file.opening) (filed_after n e files) ≡ map (λ f. f.opening) files
opened_after n e [] = refl
opened_after n e (x ∷ files) = ap (λ l. x.opening ∷ l) (opened_after (suc n) (e ++ x.opening ∷ []) files)

pub openings_are : (n : ℕ) (e : List (Option OpeningParts)) (fs : List FileBooks) (files : List File) → FilesStand n e fs files
    → openings_of fs ≡ map (λ f. f.opening) files
openings_are n e fs files h = zip_maps FileStands (λ f. f.opening) (λ d. d.file.opening) (λ f d s. s.opening) fs _ h ∙ opened_after n e files

pub length-stand : (n : ℕ) (e : List (Option OpeningParts)) (fs : List FileBooks) (files : List File) → FilesStand n e fs files → length fs ≡ length files
length-stand n e fs files h =
    sym (length-map fs (λ (f : FileBooks). f.opening)) ∙ ap length (openings_are n e fs files h) ∙ length-map files (λ (f : File). f.opening)

-- one more file
abbrev pub next_filed : ℕ → List (Option OpeningParts) → List File → File → Filed
next_filed n e files file = record { place = n + length files; standing = standing (e ++ map (λ x. x.opening) files) file.opening; file = file }

pub filed_after-push : (n : ℕ) (e : List (Option OpeningParts)) (files : List File) (file : File)
    → filed_after n e (files ++ file ∷ []) ≡ filed_after n e files ++ next_filed n e files file ∷ []
filed_after-push n e [] file =
    let here : n ≡ n + 0 = omega arith in
    λ i. record { place = here i; standing = standing (sym (append-nil e) i) file.opening; file = file } ∷ []
filed_after-push n e (x ∷ files) file =
    let next : suc n + length files ≡ n + suc (length files) = omega arith in
    ap (λ l. record { place = n; standing = standing e x.opening; file = x } ∷ l) (
    filed_after-push (suc n) (e ++ x.opening ∷ []) files file
    ∙ (λ i. filed_after (suc n) (e ++ x.opening ∷ []) files
    ++ record { place = next i; standing = standing (append_assoc e (x.opening ∷ []) (map (λ y. y.opening) files) i) file.opening; file = file } ∷ []))

pub stand_push : (n : ℕ) (e : List (Option OpeningParts)) (fs : List FileBooks) (files : List File) (f : FileBooks) (file : File) → FilesStand n e fs files
    → FileStands f (next_filed n e files file) → FilesStand n e (fs ++ f ∷ []) (files ++ file ∷ [])
stand_push n e fs files f file h one =
    subst (AllZip FileStands (fs ++ f ∷ [])) (sym (filed_after-push n e files file))
    (all_zipped_more FileStands fs (filed_after n e files) f (next_filed n e files file) h one)

-- the file at an index at which one has an opening
pub open_at : (r : FileBooks → Bool) (fs : List FileBooks) (k : ℕ) (g : FileBooks) → g ≡ get_or fs k g → option_map_or r (slice_get fs k) false ≡ true
    → slice_get fs k ≡ Some g
open_at r fs k g is h = grind (arith, gets)
