use Rattle.dsr_statement.specs.meaning.Lines.{line_text}
use Rattle.dsr_statement.proofs.Fronts.{all_put}
use Rattle.dsr_statement.proofs.reading.has_text.Goals as goal

pub returns : goal.returns
returns c = all_put c.args.text.now (line_text c.args.line.now) c.new-rest.result c.put.new.out c.is_done.result c.new-rest.ensures c.put.ensures c.is_done.ensures
