use Rattle.dsr_cells.proofs.Cuts.{all_of_16, some_of_16}
use Rattle.dsr_cells.proofs.first_cells.run_of_16.Goals as goal

pub returns-then-tabs-eq0 : goal.returns-then-tabs-eq0
returns-then-tabs-eq0 c = all_of_16 c.args.bytes.now c.tabs_of_16-tabs.result c.requires c.tabs_of_16-tabs.ensures c.if-tabs-eq0.true

pub returns-else-tabs-eq0 : goal.returns-else-tabs-eq0
returns-else-tabs-eq0 c = some_of_16 c.args.bytes.now c.tabs_of_16-tabs.result c.requires c.tabs_of_16-tabs.ensures c.if-tabs-eq0.false
