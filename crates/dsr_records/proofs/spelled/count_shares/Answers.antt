use Rattle.dsr_records.proofs.Common.{◌≡◌, ◌++◌, ◌∷◌, [], ℕ, zero, suc, List, length, map, take, rules, arith, refl, sym, ap, ◌∙◌, append_assoc, length-take, take_all, append-nil, number_or_zero, share_or_zero}
use Rattle.dsr_cells.proofs.RawParts.{few_raw_parts}
use Rattle.dsr_records.proofs.spelled.count_shares.Goals as goal

-- what follows the first n is cut off again
first_kept : (n : ℕ) (front back : List ℕ) → take n (take n front ++ back) ≡ take n (front ++ back)
first_kept zero front back = refl
first_kept (suc n) [] back = refl
first_kept (suc n) (x ∷ front) back = ap (λ xs. x ∷ xs) (first_kept n front back)

pub overflow_add-count : goal.overflow_add-count
overflow_add-count c = omega (arith, few_raw_parts c.args.cell.now)

pub loop-part-preserved : goal.loop-part-preserved
loop-part-preserved c =
    let first = c.loop-part.first.items in
    let more = map share_or_zero c.next.new.self in
    let steps = c.in-Some.ensures.steps in
    let longer = first ++ (c.in_ok-share.share ∷ []) in
    let same = ap number_or_zero (sym c.in_ok-share.was ∙ c.read.ensures) in (
      tt,
      tt,
      search rules,
      search rules,
      ap (λ xs. take 4 (xs ++ more)) c.add_share.ensures ∙ first_kept 4 longer more ∙ ap (take 4) (append_assoc first (c.in_ok-share.share ∷ []) more)
          ∙ ap (λ x. take 4 (first ++ (x ∷ more))) same ∙ ap (λ xs. take 4 (first ++ map share_or_zero xs)) (sym steps) ∙ c.loop-part.invariant.4,
      omega (arith, ap length c.add_share.ensures, length-take 4 longer),
    )

pub returns-clause-first : goal.returns-clause-first
returns-clause-first c =
    let first = c.loop-part.first.items in
    sym (ap (take 4) (append-nil first) ∙ take_all 4 first c.loop-part.invariant.5)
    ∙ ap (λ xs. take 4 (first ++ map share_or_zero xs)) (sym c.in-None.ensures.steps.0) ∙ c.loop-part.invariant.4
