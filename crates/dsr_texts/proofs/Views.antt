-- The items of a list, and the stale ones after them.
use Rattle.dsr_texts.proofs.Common.{◌≡◌, ℕ, ◌<◌, ◌≤◌, ◌+◌, ◌-◌, [], ◌∷◌, ◌++◌, length, slice_set, slice_index_or, List, take, arith, sym, ◌∙◌, ap, length-take-le, length-set, places, take_more_set, take_all}
use Rattle.std.proofs.Math.Seq.{take-set-lt}
use Rattle.dsr_texts.specs.inner.Views.{IsOneMore}

module _ {T : Type 0} where
  pub positive : (len : ℕ) (xs : List T) → len ≤ length xs → 0 < length (take len xs) → len - 1 < len
  positive len xs le some = let cut = length-take-le len xs le in omega arith

  -- a write to the last item of the front
  pub take-set_last : (len : ℕ) (xs : List T) (w : T) → 0 < length (take len xs) → len ≤ length xs
      → take len (slice_set xs (len - 1) w) ≡ slice_set (take len xs) (length (take len xs) - 1) w
  take-set_last len xs w some le =
      rw (length-take-le len xs le) (take-set-lt len xs (len - 1) w (positive len xs le some))

  -- the last item of the front
  pub take-last : (len : ℕ) (xs : List T) (x : T) → 0 < length (take len xs) → len ≤ length xs
      → slice_index_or xs (len - 1) x ≡ slice_index_or (take len xs) (length (take len xs) - 1) x
  take-last len xs x some le = let cut = length-take-le len xs le in grind (arith, places)

  -- a write to the item by which a list grew
  pub set_one_more : (old new : List T) (w : T) → IsOneMore old new → slice_set new (length new - 1) w ≡ old ++ w ∷ []
  set_one_more old new w more =
      let at : length new - 1 ≡ length old = omega (arith, more.0) in
      let set = take_more_set new (length old) w (omega (arith, more.0)) in
      let all = take_all (length old + 1) (slice_set new (length old) w) (omega (arith, more.0, length-set new (length old) w)) in
      rw at (sym all ∙ set ∙ ap (λ xs. xs ++ w ∷ []) more.1)
