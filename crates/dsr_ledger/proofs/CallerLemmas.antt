-- What a caller knows of books that represent a list of files.
use Rattle.dsr_ledger.proofs.Common.{◌≡◌, ℕ, zero, suc, ◌^◌, ◌<◌, true, false, List, [], ◌∷◌, ◌++◌, length, refl, sym, ◌∙◌, ap, subst, Option, is_some, slice_get, option_map_or, OpeningParts, FileBooks, Kept, File, Filed, FileStands, FilesStand, has_opening_in, ended_in, blocks_in}
use Rattle.dsr_ledger.specs.declared.books.Books.{Books}
use Rattle.dsr_ledger.specs.inner.Books as inner
use Rattle.dsr_ledger.specs.inner.BooksWords.{Stands, files_count, opened_count, CanBook, CanEnd, AllEnded}
use Rattle.dsr_ledger.proofs.FilesLemmas.{length-stand}

module _ {W : Type 0} (r : FileBooks → W) (s : File → W) (none : W) (agree : (f : FileBooks) (d : Filed) → FileStands f d → r f ≡ s d.file) where
  -- what is read of file k
  tell : (n : ℕ) (e : List (Option OpeningParts)) (fs : List FileBooks) (files : List File) → FilesStand n e fs files → (k : ℕ)
      → option_map_or r (slice_get fs k) none ≡ option_map_or s (slice_get files k) none
  tell n e [] [] h k = refl
  tell n e [] (file ∷ files) h k = absurd h
  tell n e (f ∷ fs) [] h k = absurd h
  tell n e (f ∷ fs) (file ∷ files) h zero = agree f _ h.0
  tell n e (f ∷ fs) (file ∷ files) h (suc k) = tell (suc n) (e ++ file.opening ∷ []) fs files h.1 k

pub has_opening_told : (kept : Kept) (files : List File) → inner.Stands kept files → (k : ℕ)
    → option_map_or (λ f. is_some f.opening) (slice_get kept.files.items k) false ≡ has_opening_in files k
has_opening_told kept files h k =
    tell (λ f. is_some f.opening) (λ f. is_some f.opening) false (λ f d s. ap is_some s.opening) 1 [] kept.files.items files h.each k

pub ended_told : (kept : Kept) (files : List File) → inner.Stands kept files → (k : ℕ)
    → option_map_or (λ f. is_some f.outcome) (slice_get kept.files.items k) false ≡ ended_in files k
ended_told kept files h k = tell (λ f. is_some f.outcome) (λ f. is_some f.outcome) false (λ f d s. ap is_some s.outcome) 1 [] kept.files.items files h.each k

pub blocks_told : (kept : Kept) (files : List File) → inner.Stands kept files → (k : ℕ)
    → option_map_or (λ f. f.blocks) (slice_get kept.files.items k) 0 ≡ blocks_in files k
blocks_told kept files h k = tell (λ f. f.blocks) (λ f. length f.blocks) 0 (λ f d s. s.blocks) 1 [] kept.files.items files h.each k

-- what a clause requires, from the list of files
pub opened_is : (books : Books) (files : List File) → Stands books files → opened_count books ≡ length files
opened_is books files h = length-stand 1 [] books.kept.files.items files h.each

pub can_book : (books : Books) (files : List File) (k : ℕ) → Stands books files → has_opening_in files k ≡ true → ended_in files k ≡ false
    → blocks_in files k < 2 ^ 37 → CanBook books k
can_book books files k h o e b = record {
  opening = has_opening_told books.kept files h k ∙ o;
  going = ended_told books.kept files h k ∙ e;
  room = subst (λ n. n < 2 ^ 37) (sym (blocks_told books.kept files h k)) b;
}

pub can_end : (books : Books) (files : List File) (k : ℕ) → Stands books files → k < length files → ended_in files k ≡ false → CanEnd books k
can_end books files k h below e = record { opened = subst (λ n. k < n) (sym (opened_is books files h)) below; going = ended_told books.kept files h k ∙ e }

pub all_ended : (books : Books) (files : List File) → Stands books files → length files ≡ files_count books
    → ((k : ℕ) → k < length files → ended_in files k ≡ true) → AllEnded books
all_ended books files h all e = record {
  opened = opened_is books files h ∙ all;
  ended = λ k below. ended_told books.kept files h k ∙ e k (subst (λ n. k < n) (sym all) below);
}
