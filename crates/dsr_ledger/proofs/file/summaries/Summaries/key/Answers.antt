use Rattle.dsr_ledger.proofs.Common.{ap, ◌∙◌, option_map, bytes_eq, Found-position}
use Rattle.dsr_ledger.proofs.file.summaries.Summaries.key.Goals as goal

pub returns : goal.returns
returns c = λ id at. ap (option_map (λ s. s.key)) ((Found-position (bytes_eq id) c.args.self.now.states.entries c.args.number at).value ∙ c.index.ensures)
