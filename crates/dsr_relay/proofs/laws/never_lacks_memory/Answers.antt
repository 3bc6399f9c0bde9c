use Rattle.dsr_relay.proofs.Pool as law
use Rattle.dsr_relay.proofs.laws.never_lacks_memory.Goals as goal

pub returns : goal.returns
returns c = law.never_lacks_memory
