use Rattle.dsr_command.proofs.Common.{rules, found_of}
use Rattle.clap.proofs.WalkLemmas.{first_value-rows}
use Rattle.dsr_command.proofs.arguments.read_file_name.Goals as goal

pub returns-in_ok-copy_of-in-Some : goal.returns-in_ok-copy_of-in-Some
returns-in_ok-copy_of-in-Some c = let rows = first_value-rows (found_of c.args.matches.now) c.args.id.now in search rules

pub returns-in-None : goal.returns-in-None
returns-in-None c = let rows = first_value-rows (found_of c.args.matches.now) c.args.id.now in search rules
