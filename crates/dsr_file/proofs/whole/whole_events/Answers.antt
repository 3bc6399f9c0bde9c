use Rattle.dsr_file.proofs.ReadLemmas.{all_kept}
use Rattle.dsr_file.proofs.whole.whole_events.Goals as goal

pub returns : goal.returns
returns c =
    all_kept c.args.layout.now c.args.bytes.now c.args.ending c.read_whole.new.sink c.in_ok-outcome.outcome c.is_memory.result c.in_ok-outcome.ensures
    c.is_memory.ensures c.if-is_memory.false
