use Rattle.std.proofs.Common.{rules, ◌<◌, ◌≤◌, ◌^◌, ◌++◌, [], ap, length, subst, take}
use Rattle.std.specs.Option.{option_map}
use Rattle.dsr_statement.specs.meaning.Seals.{origin_lines}
use Rattle.dsr_statement.specs.meaning.Statement.{text_of}
use Rattle.dsr_statement.proofs.LineLemmas.{turn}
use Rattle.dsr_statement.proofs.Sending.{if_ok, if_err}
use Rattle.dsr_io.specs.meaning.Written.{IsCut, IsFlushed}
use Rattle.dsr_seal.proofs.Ends.{flushed_seal, cut_seal}
use Rattle.dsr_seal.proofs.SealLines.{end, lines_within, seal_put, seal_is}
use Rattle.dsr_seal.proofs.write.write_seal.Goals as goal

pub returns-clause-whole : goal.returns-clause-whole
returns-clause-whole g c =
    let layout = option_map (λ d. d.now) c.args.layout in
    let inputs = c.args.inputs.now in
    let before = g.W.Outlet.told c.args.out.now in
    let origin = origin_lines layout inputs in
    let front = text_of origin in
    let line = end c.args.status in
    let puts = turn (seal_put layout inputs (line c.lines_before_end.result) c.put_layout.ensures c.put_inputs.ensures c.put_line.ensures)
    (ap (λ n. front ++ line n) c.lines_before_end.ensures) in
    let all = puts.holds [] before c.new-pieces.ensures.nothing in
    let range : c.args.lines < 2 ^ 64 = search rules in
    let here = if_ok c.finish-answer.result
    (λ whole. subst (λ t. IsFlushed t before (g.W.Outlet.told c.finish-answer.new.self.sender.out.now)) (seal_is layout inputs c.args.lines c.args.status)
    (flushed_seal c.args.lines (length origin) front line before _ range c.requires (lines_within origin) (whole _ before all))) c.finish-answer.ensures.whole in
    search rules

pub returns-clause-part : goal.returns-clause-part
returns-clause-part g c =
    let layout = option_map (λ d. d.now) c.args.layout in
    let inputs = c.args.inputs.now in
    let before = g.W.Outlet.told c.args.out.now in
    let origin = origin_lines layout inputs in
    let front = text_of origin in
    let line = end c.args.status in
    let puts = turn (seal_put layout inputs (line c.lines_before_end.result) c.put_layout.ensures c.put_inputs.ensures c.put_line.ensures)
    (ap (λ n. front ++ line n) c.lines_before_end.ensures) in
    let all = puts.holds [] before c.new-pieces.ensures.nothing in
    let range : c.args.lines < 2 ^ 64 = search rules in
    let here = if_err c.finish-answer.result
    (λ n part. subst (λ t. (n ≤ length t) × IsCut (take n t) before (g.W.Outlet.told c.finish-answer.new.self.sender.out.now)) (seal_is layout inputs c.args.lines c.args.status)
    (cut_seal c.args.lines (length origin) front line before _ range c.requires (lines_within origin) n (part _ before all))) c.finish-answer.ensures.part in
    search rules
