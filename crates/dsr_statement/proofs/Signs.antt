-- Signs and points.
use Rattle.std.proofs.Common.{arith, ◌≡◌, ◌≢◌, ℕ, List, [], ◌∷◌, ◌++◌, false, refl, ap, sym, ◌∙◌, inl, inr, ◌⊎◌, Option, None, eqb}
use Rattle.std.specs.Prelude.{pos, neg_ℤ}
use Rattle.std.specs.Option.{option_map}
use Rattle.std.specs.Char.{is_ascii_digit}
use Rattle.std.specs.List.{list_all, onto_first, join_with_byte}
use Rattle.std.proofs.lemmas.Bool.Decides.{nat_tests}
use Rattle.std.proofs.lemmas.Bool.{and_left, and_parts, cases_Bool, eqb-true}
use Rattle.std.proofs.lemmas.List.Splits.{slice_split-cons_yes, slice_split-cons_no, join_with_byte-slice_split}
use Rattle.dsr_cells.specs.meaning.Texts.{is_run_of}
use Rattle.dsr_cells.proofs.Splits.{pieces, pieces_cases}
use Rattle.dsr_statement.specs.inner.Cuts.{HasNoPoint}
use Rattle.dsr_statement.specs.inner.Numbers.{signed_in, not_zero, number_in, units_of_parts}

-- a text without a minus sign
pub signed_plain : (spelled : ℕ → List ℕ → Option ℕ) (most_below most : ℕ) (text : List ℕ) → ((rest : List ℕ) → text ≢ 45 ∷ rest)
    → signed_in spelled most_below most text ≡ option_map pos (spelled most text)
signed_plain spelled most_below most [] h = refl
signed_plain spelled most_below most (c ∷ cs) h = grind (arith, nat_tests, h cs)

-- a text with a minus sign
pub signed_minus : (spelled : ℕ → List ℕ → Option ℕ) (most_below most : ℕ) (text rest : List ℕ) → text ≡ 45 ∷ rest
    → signed_in spelled most_below most text ≡ option_map (λ n. neg_ℤ (pos n)) (not_zero (spelled most_below rest))
signed_minus spelled most_below most text rest e = ap (signed_in spelled most_below most) e

-- the pieces before a point and those behind it
pieces_around : (whole decimals : List ℕ) → pieces 46 (whole ++ 46 ∷ decimals) ≡ pieces 46 whole ++ pieces 46 decimals
pieces_around [] decimals = slice_split-cons_yes (λ b. eqb b 46) 46 decimals refl
pieces_around (b ∷ bs) decimals = elim (cases_Bool (eqb b 46)) [
  | inl same ↦
      slice_split-cons_yes (λ b. eqb b 46) b (bs ++ 46 ∷ decimals) same ∙ ap (λ ps. [] ∷ ps) (pieces_around bs decimals)
      ∙ ap (λ ps. ps ++ pieces 46 decimals) (sym (slice_split-cons_yes (λ b. eqb b 46) b bs same))
  | inr other ↦
      slice_split-cons_no (λ b. eqb b 46) b (bs ++ 46 ∷ decimals) other ∙ ap (onto_first b) (pieces_around bs decimals)
      ∙ onto (pieces_cases 46 refl bs) ∙ ap (λ ps. ps ++ pieces 46 decimals) (sym (slice_split-cons_no (λ b. eqb b 46) b bs other))
]
  where
    onto : (pieces 46 bs ≡ bs ∷ []) ⊎ ((x : List ℕ) × (y : List ℕ) × (more : List (List ℕ)) × (pieces 46 bs ≡ x ∷ y ∷ more) × (list_all is_ascii_digit bs ≡ false))
        → onto_first b (pieces 46 bs ++ pieces 46 decimals) ≡ onto_first b (pieces 46 bs) ++ pieces 46 decimals
    onto (inl one) = rw one refl
    onto (inr (x, y, more, is, f)) = rw is refl

-- decimals that are not digits
bad_decimals : (limit : ℕ) (whole decimals : List ℕ) → is_run_of is_ascii_digit 10 decimals ≡ false → units_of_parts limit (whole ∷ decimals ∷ []) ≡ None
bad_decimals limit whole decimals f = rw f refl

-- a text cut at a point
pub units_cut : (limit : ℕ) (text whole decimals : List ℕ) → text ≡ whole ++ 46 ∷ decimals
    → units_of_parts limit (pieces 46 text) ≡ units_of_parts limit (whole ∷ decimals ∷ [])
unfolding number_in
units_cut limit text whole decimals e = ap (λ t. units_of_parts limit (pieces 46 t)) e ∙ ap (units_of_parts limit) (pieces_around whole decimals)
    ∙ elim (pieces_cases 46 refl whole) [
      | inl one ↦ elim (pieces_cases 46 refl decimals) [
        | inl two ↦ rw (one, two) refl
        | inr (x, y, more, is, f) ↦ rw (one, is) (sym (bad_decimals limit whole decimals (and_left _ _ f)))
      ]
      | inr (x, y, more, is, f) ↦ elim (pieces_cases 46 refl decimals) [
        | inl two ↦ rw (is, two) (three x y more decimals [] ∙ sym (bad_whole f))
        | inr (u, v, rest, two, g) ↦ rw (is, two) (three x y more u (v ∷ rest) ∙ sym (bad_whole f))
      ]
    ]
  where
    three : (x y : List ℕ) (more : List (List ℕ)) (z : List ℕ) (rest : List (List ℕ)) → units_of_parts limit (x ∷ y ∷ more ++ z ∷ rest) ≡ None
    three x y [] z rest = refl
    three x y (m ∷ more) z rest = refl

    bad_whole : list_all is_ascii_digit whole ≡ false → units_of_parts limit (whole ∷ decimals ∷ []) ≡ None
    bad_whole f = grind (arith, f)

-- a text in which no point has ten bytes behind it
pub units_plain : (limit : ℕ) (text : List ℕ) → HasNoPoint text → units_of_parts limit (pieces 46 text) ≡ None
units_plain limit text none = elim (pieces_cases 46 refl text) [
  | inl one ↦ rw one refl
  | inr (x, y, more, is, f) ↦ rw is (by x y more is)
]
  where
    by : (x y : List ℕ) (more : List (List ℕ)) → pieces 46 text ≡ x ∷ y ∷ more → units_of_parts limit (x ∷ y ∷ more) ≡ None
    by x y (m ∷ more) is = refl
    by x y [] is = elim (cases_Bool (is_run_of is_ascii_digit 10 y)) [
      | inl ten ↦
          let whole : text ≡ x ++ 46 ∷ y = sym (join_with_byte-slice_split 46 text) ∙ ap (join_with_byte 46) is in
          absurd (none x y whole (eqb-true _ _ (and_parts _ _ ten).1))
      | inr other ↦ bad_decimals limit x y other
    ]
