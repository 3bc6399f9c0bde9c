-- END's number at most 2^64 - 1: a larger one is never written, since an outlet takes no byte past 2^64 - 1.
use Rattle.std.proofs.Common.{arith, ◌≡◌, ℕ, ◌+◌, ◌-◌, ◌^◌, ◌<◌, ◌≤◌, List, ◌++◌, length, take, min, subst, sym, ◌∙◌, length-append, inl, inr}
use Rattle.std.proofs.lemmas.Bool.{cases_lt}
use Rattle.std.proofs.lemmas.List.{length-take-le, take-append-le}
use Rattle.dsr_io.specs.meaning.Written.{Written, IsFlushed, IsCut}

-- `before` lines and these bytes, which have `more` lines at least, were taken: so the number of all of them fits
fits : (lines more taken : ℕ) (front : List ℕ) → lines < 2 ^ 64 → lines ≤ taken → more ≤ length front → length front ≤ 2 ^ 64 - 1 - taken
    → min (lines + more) (2 ^ 64 - 1) ≡ lines + more
fits lines more taken front range few enough within = omega (arith, range, few, enough, within)

module _ (lines more : ℕ) (front : List ℕ) (end : ℕ → List ℕ) (before after : Written) (range : lines < 2 ^ 64) (few : lines ≤ before.taken)
    (enough : more ≤ length front) where
  abbrev pub put : List ℕ
  put = front ++ end (min (lines + more) (2 ^ 64 - 1))

  abbrev pub seal : List ℕ
  seal = front ++ end (lines + more)

  pub flushed_seal : IsFlushed put before after → IsFlushed seal before after
  flushed_seal h =
      let within : length front ≤ 2 ^ 64 - 1 - before.taken = omega (arith, h.counted.1, length-append front (end (min (lines + more) (2 ^ 64 - 1)))) in
      subst (λ n. IsFlushed (front ++ end n) before after) (fits lines more before.taken front range few enough within) h

  pub cut_seal : (n : ℕ) → (n ≤ length put) × IsCut (take n put) before after → (n ≤ length seal) × IsCut (take n seal) before after
  cut_seal n (part, h) =
      let less : n ≤ 2 ^ 64 - 1 - before.taken = omega (arith, h.counted.1, length-take-le n put part) in
      elim (cases_lt (2 ^ 64 - 1) (lines + more)) [
        | inr e ↦
            let same : min (lines + more) (2 ^ 64 - 1) ≡ lines + more = omega (arith, e) in
            subst (λ k. (n ≤ length (front ++ end k)) × IsCut (take n (front ++ end k)) before after) same (part, h)
        | inl e ↦
            let first : n ≤ length front = omega (arith, e, less, range, few, enough) in
            let cut : take n put ≡ take n seal =
            take-append-le n front (end (min (lines + more) (2 ^ 64 - 1))) first ∙ sym (take-append-le n front (end (lines + more)) first) in
            (omega (arith, first, length-append front (end (lines + more))), subst (λ t. IsCut t before after) cut h)
      ]
