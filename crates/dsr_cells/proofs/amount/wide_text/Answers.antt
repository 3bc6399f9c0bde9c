use Rattle.dsr_cells.proofs.Common.{arith, ◌%◌, ◌^◌, length, length-append, ap, ◌∙◌, common_steps, padded_number}
use Rattle.dsr_cells.proofs.Spelled.{padded_length}
use Rattle.dsr_cells.proofs.amount.wide_text.Goals as goal

pub returns-clause-short : goal.returns-clause-short
returns-clause-short c =
    let decimals = padded_number 10 (c.unsigned_abs-units.result % 10 ^ 10) in
    let ten = padded_length (c.unsigned_abs-units.result % 10 ^ 10) (omega arith) in
    let none = ap length c.new-text.ensures in
    let first = ap length c.push_str.ensures.bytes ∙ length-append c.new-text.result.bytes c.sign_of.result.now in
    let second = ap length c.push_str-2.ensures.bytes ∙ length-append c.push_str.new.self.bytes c.format.result.now in
    let third = ap length c.push_str-3.ensures.bytes ∙ length-append c.push_str-2.new.self.bytes _ in
    let all = ap length c.push_decimals.ensures ∙ length-append c.push_str-3.new.self.bytes decimals in
    omega (arith, none, first, second, third, all, ten)

pub returns-clause-text : goal.returns-clause-text
returns-clause-text c = grind (arith, common_steps)
