use Rattle.dsr_records.proofs.Common.{arith, ◌∙◌, ◌∷◌, ◌+◌, ◌-◌, ap, sym, length, take, drop, length-drop, take_all, pieces_left}
use Rattle.dsr_records.proofs.Cuts.{pieces_at, pieces_last}
use Rattle.dsr_records.proofs.layout.read.first_line.Goals as goal

pub returns-then-end-text-clause-cut : goal.returns-then-end-text-clause-cut
returns-then-end-text-clause-cut c =
    let text = c.args.text.now in
    let end = c.line_end-end.result in
    let behind = drop (end + 1) text in
    pieces_at text end c.line_end-end.ensures.value c.if-end-text.true
    ∙ ap (λ rest. take end text ∷ pieces_left rest) (sym (take_all (length text - (end + 1)) behind (omega (arith, length-drop (end + 1) text))))

pub returns-else-end-text-clause-cut : goal.returns-else-end-text-clause-cut
returns-else-end-text-clause-cut c = pieces_last c.args.text.now c.line_end-end.result c.requires c.line_end-end.ensures.value c.if-end-text.false
