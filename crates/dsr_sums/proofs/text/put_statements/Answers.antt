use Rattle.std.proofs.Common.{◌≡◌, ◌+◌, ◌++◌, ◌∷◌, [], ap, sym, ◌∙◌, take, arith}
use Rattle.std.proofs.lemmas.List.{take_more, length-take}
use Rattle.dsr_sums.specs.meaning.Statements.{statement_line, statement_lines}
use Rattle.dsr_sums.proofs.TextLemmas.{given_count, given_count-le, lines_more, lines_same, count_more, count_same}
use Rattle.dsr_sums.proofs.text.put_statements.Goals as goal
use Rattle.dsr_sums.proofs.text.put_statements.Goals.{then-is_role+in_ok-put_statement, else-is_role}

pub overflow_add-place : goal.overflow_add-place
overflow_add-place c =
    omega (arith, given_count-le (take c.loop-report.report-index c.args.reports.now), length-take c.loop-report.report-index c.args.reports.now)

pub loop-report-preserved : goal.loop-report-preserved
loop-report-preserved c =
    let rs = c.args.reports.now in let i = c.loop-report.report-index in let r = c.report-item.result in
    let more : take (i + 1) rs ≡ take i rs ++ r ∷ [] =
    take_more rs i r c.loop-report-test.true ∙ ap (λ x. take i rs ++ x ∷ []) (sym c.report-item.is) in
    let was = c.loop-report.invariant in
    elim c.if-is_role.branch [
      | then-is_role+in_ok-put_statement w ↦
          let given = sym c.is_role.ensures ∙ w.if-is_role.true in
          record {
            place = w.place-is ∙ (λ k. was.place k + 1) ∙ omega (arith, count_more (take i rs) r given) ∙ ap (λ l. 1 + given_count l) (sym more);
            lines =
                ap (λ v. v.items) w.out-is ∙ w.in_ok-put_statement.ensures
                ∙ ap (λ b. c.loop-report.out.items ++ statement_line c.loop-report.place b r) w.has-is_paid.ensures
                ∙ lines_more rs (take i rs) r c.args.out.now.items c.loop-report.out.items c.loop-report.place was.lines was.place given
                ∙ ap (λ l. c.args.out.now.items ++ statement_lines 1 rs l) (sym more);
          }
      | else-is_role w ↦
          let paid = sym c.is_role.ensures ∙ w.if-is_role.false in
          record {
            place = w.place-is ∙ was.place ∙ ap (λ n. 1 + n) (sym (count_same (take i rs) r paid)) ∙ ap (λ l. 1 + given_count l) (sym more);
            lines =
                ap (λ v. v.items) w.out-is ∙ lines_same rs (take i rs) r c.args.out.now.items c.loop-report.out.items was.lines paid
                ∙ ap (λ l. c.args.out.now.items ++ statement_lines 1 rs l) (sym more);
          }
    ]
