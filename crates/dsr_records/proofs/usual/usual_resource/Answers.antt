use Rattle.dsr_records.proofs.Common.{arith, refl, take, codes, BeginsWithType}
use Rattle.dsr_records.proofs.UsualLines.{resource_of_cells}
use Rattle.dsr_records.proofs.usual.usual_resource.Goals as goal

pub returns : goal.returns
returns c =
    let is = c.if-not-has_type.ensures refl in
    let type : BeginsWithType c.args.page.now (codes "AS01") =
    record { is = is.1; tab = is.2; printable = refl; begins = λ e. omega (arith, e) } in
    let first = c.in_ok-block_id.ensures _ _ (c.behind_type.ensures _ type) in
    let row = c.in_ok-artists.ensures _ _ (c.in_ok-titles.ensures _ _ (c.in_ok-isrc.ensures _ _ first)) in
    record {
      line = row.line;
      spells =
          rw (c.text.ensures, c.text-2.ensures)
          (resource_of_cells (take c.in_ok-artists.size c.args.page.now) _ _ _ _ row.are (c.if-not-is_identifier.ensures refl));
    }
