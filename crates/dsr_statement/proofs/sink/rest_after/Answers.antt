use Rattle.std.proofs.Common.{◌∙◌, sym}
use Rattle.dsr_statement.proofs.Fronts.{front_is, no_front, no_room}
use Rattle.dsr_statement.proofs.sink.rest_after.Goals as goal
use Rattle.dsr_statement.proofs.sink.rest_after.Goals.{else-count-text-via-then-count-text+else-eq, else-count-text-via-else-count-text}

pub returns-then-eq : goal.returns-then-eq
returns-then-eq c = front_is c.args.text.now c.args.bytes.now (sym c.eq.ensures ∙ c.if-eq.true)

pub returns-else-count-text : goal.returns-else-count-text
returns-else-count-text c = elim c.else-count-text.branch [
  | else-count-text-via-then-count-text+else-eq w ↦ no_front c.args.text.now c.args.bytes.now (sym w.eq.ensures ∙ w.if-eq.false)
  | else-count-text-via-else-count-text w ↦ no_room c.args.text.now c.args.bytes.now w.if-count-text.false
]
