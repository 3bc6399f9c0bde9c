use Rattle.dsr_records.proofs.Common.{arith, refl, take, codes, BeginsWithType}
use Rattle.dsr_records.proofs.UsualLines.{counted_shares, work_of_cells}
use Rattle.dsr_records.proofs.usual.usual_work.Goals as goal

pub invariant_of-line : goal.invariant_of-line
invariant_of-line c =
    let s = counted_shares c.text-share_cell.result.now c.in_ok-count.count c.in_ok-count.ensures.count in
    (s.0, omega (arith, s.1, c.if-count_values-count.false, c.count_values.ensures), c.in_ok-count.ensures.first)

pub returns : goal.returns
returns c =
    let is = c.if-not-has_type.ensures refl in
    let type : BeginsWithType c.args.page.now (codes "MW01") =
    record { is = is.1; tab = is.2; printable = refl; begins = λ e. omega (arith, e) } in
    let first = c.in_ok-block_id.ensures _ _ (c.behind_type.ensures _ type) in
    let third = c.in_ok-title.ensures _ _ (c.in_ok-work_id.ensures _ _ first) in
    let row = c.in_ok-shares.ensures _ _ (c.in_ok-parties.ensures _ _ (c.in_ok-look.ensures _ _ third)) in
    let lists = invariant_of-line c in
    record {
      line = row.line;
      spells =
          rw (c.text.ensures, c.text-2.ensures, c.text-share_cell.ensures)
          (work_of_cells (take c.in_ok-shares.size c.args.page.now) _ _ _ _ _ row.are (c.if-not-is_identifier.ensures refl)
          (rw c.text-share_cell.ensures at lists.0) (rw c.text-share_cell.ensures at lists.1));
    }
