use Rattle.dsr_statement.proofs.Common.{◌∙◌, ap, map}
use Rattle.dsr_ledger.specs.declared.report.Report.{Report}
use Rattle.dsr_statement.specs.declared.line.Line.TheVariants as lines
use Rattle.dsr_statement.specs.meaning.Lines.{line_bytes}
use Rattle.dsr_statement.specs.meaning.Statement.{files_from, head_of, text_of, statement_of}
use Rattle.dsr_statement.proofs.LineLemmas.{then, turn, statement_parts}
use Rattle.dsr_statement.proofs.write.put_statement.Goals as goal

pub returns : goal.returns
unfolding statement_of
returns g c = λ r is.
    let head = turn c.put_line.ensures (ap line_bytes (c.head_of.ensures ∙ ap (λ (x : Report). head_of x.key) is.others)) in
    let files = turn c.put_files.ensures (ap (λ fs. text_of (files_from 1 fs)) (c.as_slice.ensures ∙ ap (λ (x : Report). x.files) is.others)) in
    let missing = turn c.put_each.ensures
    (ap (λ ns. text_of (map (λ n. lines.Missing n) ns)) (c.as_slice-2.ensures ∙ ap (λ (x : Report). x.missing) is.others)) in
    let differences = turn c.put_each-2.ensures
    (ap (λ ds. text_of (map (λ d. lines.Summary d) ds)) (c.as_slice-3.ensures ∙ ap (λ (x : Report). x.differences) is.others)) in
    let ledger = c.put_lines.ensures r is in
    let rejects = turn c.put_each-3.ensures
    (ap (λ xs. text_of (map (λ x. lines.Reject x) xs)) (c.as_slice-4.ensures ∙ ap (λ (x : Report). x.rejects) is.others)) in
    turn (then head (then files (then missing (then differences (then ledger rejects))))) (statement_parts r)
