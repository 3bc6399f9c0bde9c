use Rattle.dsr_cells.proofs.Common.{◌/◌, arith, rules, common_steps, length-decimal-le}
use Rattle.dsr_cells.proofs.amount.fill_units.Goals as goal

pub write_digits-requires : goal.write_digits-requires
write_digits-requires c = (omega (arith, length-decimal-le 20 (c.args.units / 10000000000) (omega arith) (omega arith) (omega arith)), search rules)

pub returns-clause-start : goal.returns-clause-start
returns-clause-start c =
    let short = length-decimal-le 20 (c.args.units / 10000000000) (omega arith) (omega arith) (omega arith) in
    (omega arith, omega arith)

pub returns-clause-written : goal.returns-clause-written
returns-clause-written c = grind (arith, common_steps)
