use Rattle.std.proofs.Common.{◌≡◌, ◌∙◌, ◌<◌, ◌≤◌, length, sym, rules}
use Rattle.std.specs.String.{string_bytes}
use Rattle.dsr_totals.proofs.Words.{at_dashes, at_end, at_paid, past_other}
use Rattle.dsr_totals.proofs.arguments.lacks_equals.Goals as goal

pub returns-then-ends_options : goal.returns-then-ends_options
returns-then-ends_options c =
    let words = c.args.words.now in let k = c.loop-word.word-index in
    let under : k < length words = search rules in
    at_dashes string_bytes words k c.loop-word.invariant c.word-item.result c.word-item.is under (sym c.ends_options.ensures ∙ c.if-ends_options.true)

pub returns-then-is_paid_alone : goal.returns-then-is_paid_alone
returns-then-is_paid_alone c =
    let words = c.args.words.now in let k = c.loop-word.word-index in
    let under : k < length words = search rules in
    at_paid string_bytes words k c.loop-word.invariant c.word-item.result c.word-item.is under (sym c.ends_options.ensures ∙ c.if-ends_options.false)
    (sym c.is_paid_alone.ensures ∙ c.if-is_paid_alone.true)

pub loop-word-preserved : goal.loop-word-preserved
loop-word-preserved c =
    let words = c.args.words.now in let k = c.loop-word.word-index in
    let under : k < length words = search rules in
    past_other string_bytes words k c.loop-word.invariant c.word-item.result c.word-item.is under (sym c.ends_options.ensures ∙ c.if-ends_options.false)
    (sym c.is_paid_alone.ensures ∙ c.if-is_paid_alone.false)

pub returns : goal.returns
returns c =
    let words = c.args.words.now in let k = c.loop-word.word-index in
    let over : length words ≤ k = search rules in
    at_end string_bytes words k c.loop-word.invariant over
