use Rattle.dsr_statement.proofs.Rows.{read_32, file_number_read}
use Rattle.dsr_statement.proofs.file.read_file_number.Goals as goal

pub returns : goal.returns
returns c = file_number_read c.args.text.now _ c.read_u32.result c.number_of.result c.eq.ensures (read_32 _ _ c.read_u32.ensures) c.number_of.ensures.none c.number_of.ensures.some
