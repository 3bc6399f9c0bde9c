use Rattle.std.proofs.Common.{ap, refl, decimal, ◌∙◌, ◌++◌, ◌∷◌, [], codes}
use Rattle.std.specs.Prelude.{if◌then◌else◌, is_some}
use Rattle.dsr_cells.specs.meaning.Written.{written_day}
use Rattle.dsr_sums.specs.meaning.Statements.{statement_line}
use Rattle.dsr_sums.proofs.TextLemmas.{cell, line_put}
use Rattle.dsr_sums.proofs.text.put_statement.Goals as goal

pub returns : goal.returns
unfolding statement_line
returns c =
    let r = c.args.report.now in
    let a = cell _ _ _ _ _ c.in_ok-put_number.ensures c.in_ok-extend_from_slice.ensures.items refl in
    let b = cell _ _ _ _ _ c.in_ok-put_text.ensures a c.as_str.ensures in
    let d = cell _ _ _ _ _ c.in_ok-put_number-2.ensures b (ap decimal c.from.ensures) in
    let e = cell _ _ _ _ _ c.in_ok-put_day.ensures d refl in
    let f = cell _ _ _ _ _ c.in_ok-put_day-2.ensures e refl in
    let g = cell _ _ _ _ _ c.in_ok-put_text-2.ensures f (c.remarks_name.ensures ∙ ap (λ b. if b then codes "Remarks" else codes "Clean") c.is_some.ensures) in
    let h = cell _ _ _ _ _ c.in_ok-put_text-3.ensures g c.paid_name.ensures in
    c.in_ok-extend_from_slice-2.ensures.items ∙ ap (λ l. l ++ 10 ∷ []) h ∙ line_put c.args.out.now.items (codes "STATEMENT") (decimal c.args.place ∷ r.key.message_id ∷ decimal r.key.number_of_files ∷ written_day r.key.first_day ∷ written_day r.key.last_day
    ∷ (if is_some r.remark then codes "Remarks" else codes "Clean") ∷ (if c.args.is_paid then codes "Paid" else codes "-") ∷ [])
