use Rattle.dsr_records.proofs.Common.{arith, refl, take, w64, codes, chunk, BeginsWithType}
use Rattle.std.proofs.lemmas.Int.{to_z_pos}
use Rattle.dsr_records.proofs.UsualLines.{usage_of_cells, usages_are}
use Rattle.dsr_records.proofs.usual.usual_usage.Goals as goal

pub returns : goal.returns
returns c =
    let is = c.if-not-has_type.ensures refl in
    let type : BeginsWithType c.args.page.now (codes "SU01") =
    record { is = is.1; tab = is.2; printable = refl; begins = λ e. omega (arith, e) } in
    let first = c.in_ok-block_id.ensures _ _ (c.behind_type.ensures _ type) in
    let row = c.in_ok-amount.ensures _ _ (c.in_ok-usages.ensures _ _ (c.in_ok-summary_id.ensures _ _ first)) in
    let u = c.in_ok-usages.usages in
    let number = c.in_ok-usual_number.field-0 in
    let signed = to_z_pos w64 number (omega (arith, c.in_ok-usual_number.ensures.bound)) in
    record {
      line = row.line;
      spells =
          rw (c.text.ensures, c.text-2.ensures, signed)
          (usage_of_cells (take c.in_ok-amount.size c.args.page.now) _ _ _ _ _ _ row.are (c.if-not-is_identifier.ensures refl)
          (c.if-not-is_identifier-2.ensures refl) (usages_are (chunk u.at u.size u.page.now) number c.in_ok-usual_number.ensures.value)
          c.in_ok-usual_amount.ensures);
    }
