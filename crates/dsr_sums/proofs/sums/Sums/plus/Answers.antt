use Rattle.std.proofs.Common.{◌≡◌, ap, sym, ◌∙◌, ◌&&◌, true, FitsSigned, rules, to_z, of_z}
use Rattle.std.proofs.lemmas.Int.{to_z-of_z}
use Rattle.std.specs.Int.{w128}
use Rattle.std.specs.Prelude.{ℤ, ◌+ℤ◌}
use Rattle.dsr_sums.specs.declared.reports.Role.{Role}
use Rattle.dsr_sums.specs.meaning.Postings.{is_in_range, signed}
use Rattle.dsr_sums.proofs.sums.Sums.plus.Goals as goal

-- a number that is passed is the same number
part : (x y v : ℤ) (role : Role) → FitsSigned w128 x → FitsSigned w128 y → FitsSigned w128 v
    → (is_in_range (to_z w128 (of_z w128 x) +ℤ signed role (to_z w128 (of_z w128 y))) ≡ true) × (v ≡ to_z w128 (of_z w128 x) +ℤ signed role (to_z w128 (of_z w128 y)))
    → (is_in_range (x +ℤ signed role y) ≡ true) × (to_z w128 (of_z w128 v) ≡ x +ℤ signed role y)
part x y v role fits_x fits_y fits_v h =
    let e : to_z w128 (of_z w128 x) +ℤ signed role (to_z w128 (of_z w128 y)) ≡ x +ℤ signed role y =
    λ i. to_z-of_z w128 x fits_x i +ℤ signed role (to_z-of_z w128 y fits_y i) in
    (ap is_in_range (sym e) ∙ h.0, to_z-of_z w128 v fits_v ∙ h.1 ∙ e)

pub returns : goal.returns
returns c =
    let s = c.args.self.now in let n = c.args.numbers.now in
    let a = part s.usages n.usages c.in_ok-added.field-0 c.args.role (search rules) (search rules) (search rules) c.in_ok-added.ensures in
    let b = part s.amount n.amount c.in_ok-added-2.field-0 c.args.role (search rules) (search rules) (search rules) c.in_ok-added-2.ensures in
    let d = part s.claimed n.claimed c.in_ok-added-3.field-0 c.args.role (search rules) (search rules) (search rules) c.in_ok-added-3.ensures in
    let e = part s.unclaimed n.unclaimed c.in_ok-added-4.field-0 c.args.role (search rules) (search rules) (search rules) c.in_ok-added-4.ensures in (
      λ i. a.0 i && (b.0 i && (d.0 i && e.0 i)),
      λ i. record { usages = a.1 i; amount = b.1 i; claimed = d.1 i; unclaimed = e.1 i },
    )
