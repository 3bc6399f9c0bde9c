-- The words before a `--`, one after another.
use Rattle.std.proofs.Common.{◌≡◌, ◌∙◌, ◌<◌, ◌≤◌, ◌+◌, ◌||◌, ℕ, zero, suc, List, [], ◌∷◌, Bool, true, false, not, cond, refl, ap, sym, codes, length, drop, drop-cons, map, slice_index_or, take_while, bytes_eq, arith}
use Rattle.std.specs.List.{list_any}
use Rattle.std.proofs.lemmas.List.{drop_all, length-map}
use Rattle.std.proofs.lemmas.List.Sums.{take_while-cons}
use Rattle.dsr_totals.specs.CommandLine.{lacks_equals}

abbrev is_dashes : List ℕ → Bool
is_dashes w = bytes_eq w (codes "--")

abbrev is_paid : List ℕ → Bool
is_paid w = bytes_eq w (codes "--paid")

-- by the first word
by_first : (w : List ℕ) (ws : List (List ℕ)) (b : Bool) → list_any is_paid (cond (not b) (w ∷ take_while (λ v. not (is_dashes v)) ws) [])
    ≡ cond b false (is_paid w || list_any is_paid (take_while (λ v. not (is_dashes v)) ws))
by_first w ws true = refl
by_first w ws false = refl

step : (w : List ℕ) (ws : List (List ℕ)) → lacks_equals (w ∷ ws) ≡ cond (is_dashes w) false (is_paid w || lacks_equals ws)
step w ws = ap (list_any is_paid) (take_while-cons (λ v. not (is_dashes v)) w ws) ∙ by_first w ws (is_dashes w)

index-map : {X Y : Type 0} (f : X → Y) (xs : List X) (k : ℕ) (d : X) → slice_index_or (map f xs) k (f d) ≡ f (slice_index_or xs k d)
index-map f [] k d = refl
index-map f (x ∷ xs) zero d = refl
index-map f (x ∷ xs) (suc k) d = index-map f xs k d

module _ {X : Type 0} (f : X → List ℕ) (xs : List X) (k : ℕ) (same : lacks_equals (map f xs) ≡ lacks_equals (drop k (map f xs))) where
  -- none is `--paid`
  pub at_end : length xs ≤ k → false ≡ lacks_equals (map f xs)
  at_end over = sym (same ∙ ap lacks_equals (drop_all k (map f xs) (omega (arith, length-map xs f))))

  module _ (x : X) (is : x ≡ slice_index_or xs k x) (lt : k < length xs) where
    word : slice_index_or (map f xs) k (f x) ≡ f x
    word = index-map f xs k x ∙ ap f (sym is)

    here : lacks_equals (map f xs) ≡ cond (is_dashes (f x)) false (is_paid (f x) || lacks_equals (drop (suc k) (map f xs)))
    here =
        same ∙ ap lacks_equals (drop-cons (map f xs) k (f x) (omega (arith, length-map xs f)) ∙ ap (λ v. v ∷ drop (suc k) (map f xs)) word)
        ∙ step (f x) (drop (suc k) (map f xs))

    -- a `--` ends them
    pub at_dashes : is_dashes (f x) ≡ true → false ≡ lacks_equals (map f xs)
    at_dashes dashes = sym (here ∙ ap (λ b. cond b false (is_paid (f x) || lacks_equals (drop (suc k) (map f xs)))) dashes)

    module _ (other : is_dashes (f x) ≡ false) where
      past : lacks_equals (map f xs) ≡ (is_paid (f x) || lacks_equals (drop (suc k) (map f xs)))
      past = here ∙ ap (λ b. cond b false (is_paid (f x) || lacks_equals (drop (suc k) (map f xs)))) other

      pub at_paid : is_paid (f x) ≡ true → true ≡ lacks_equals (map f xs)
      at_paid paid = sym (past ∙ ap (λ b. b || lacks_equals (drop (suc k) (map f xs))) paid)

      pub past_other : is_paid (f x) ≡ false → lacks_equals (map f xs) ≡ lacks_equals (drop (k + 1) (map f xs))
      past_other unpaid =
          past ∙ ap (λ b. b || lacks_equals (drop (suc k) (map f xs))) unpaid ∙ ap (λ n. lacks_equals (drop n (map f xs))) next
        where
          next : suc k ≡ k + 1
          next = omega arith
