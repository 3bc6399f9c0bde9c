use Rattle.dsr_cells.proofs.Common.{◌∙◌, ap, sym, ◌≡◌, length, eqb-true}
use Rattle.dsr_cells.proofs.Ordered.{same_by_numbers}
use Rattle.dsr_cells.proofs.isrc.Isrc.is_text.Goals as goal

pub returns-then-front_of-front : goal.returns-then-front_of-front
returns-then-front_of-front c same =
    let whole = c.in-Ok.ensures.1 in
    let text : c.args.text.now ≡ c.in-Ok.bytes = sym c.as_bytes.ensures.value ∙ sym whole.same in
    let fronts = sym c.front_of.ensures.value ∙ c.if-front_of-front.true ∙ c.front.ensures.value in
    let backs = sym c.back_of.ensures ∙ eqb-true c.back_of.result c.back.result same ∙ c.back.ensures in
    text ∙ same_by_numbers 8 c.in-Ok.bytes c.args.self.now (ap length whole.same ∙ whole.long ∙ sym c.front.ensures.twelve)
    c.front_of.ensures.bytes c.front.ensures.bytes fronts backs
