use Rattle.std.proofs.Common.{◌≡◌, ◌<◌, ◌≤◌, sym, subst, false, length, set, arith}
use Rattle.dsr_sums.proofs.TotalingLemmas.{none_read, same_at, before_below, one_more, no_more, all_read, all_out}
use Rattle.std.proofs.lemmas.Result.{MatchResult-weaker}
use Rattle.dsr_sums.specs.meaning.Sources.{HasNoTotals}
use Rattle.dsr_sums.proofs.answer.add_up.Goals as goal

pub loop-place-init : goal.loop-place-init
loop-place-init g c =
    none_read g.R.Source.told c.args.given c.args.rules c.args.sources.now c.new-totaling.result c.new-totaling.ensures.holds c.new-totaling.ensures.rules

pub read-requires : goal.read-requires
read-requires g c =
    let l = c.loop-place in let d = c.index-sources-place.result in let below : l.place < length l.sources = omega arith in
    subst (λ r. (g.R.Source.told r).failed ≡ false)
    (same_at g.R.Source.told c.args.given c.args.rules l.place c.args.sources.now l.sources l.totaling l.invariant below d)
    (c.requires l.place d (before_below g.R.Source.told c.args.given c.args.rules l.place c.args.sources.now l.sources l.totaling l.invariant below))

pub returns-in-Err : goal.returns-in-Err
returns-in-Err g c =
    let l = c.loop-place in let below : l.place < length l.sources = omega arith in
    subst (HasNoTotals g.R.Source.told c.args.given c.args.rules c.args.sources.now (set l.sources l.place c.read.new.source)) (sym c.error_at.ensures) (
    no_more g.R.Source.told c.args.given c.args.rules l.place c.args.sources.now l.sources l.totaling l.invariant below c.index-sources-place.result
    c.read.new.source c.read.new.self c.role_at.result c.in-Err.error c.role_at.ensures (c.in-Err.ensures.next l.invariant.ss l.invariant.holds))

pub loop-place-preserved : goal.loop-place-preserved
loop-place-preserved g c =
    let l = c.loop-place in let below : l.place < length l.sources = omega arith in
    one_more g.R.Source.told c.args.given c.args.rules l.place c.args.sources.now l.sources l.totaling l.invariant below c.index-sources-place.result
    c.read.new.source c.read.new.self c.role_at.result c.role_at.ensures c.in-Ok.ensures.rules (c.in-Ok.ensures.next l.invariant.ss l.invariant.holds)

pub returns : goal.returns
returns g c =
    let l = c.loop-place in let w = l.invariant in let done : length l.sources ≤ l.place = omega arith in
    MatchResult-weaker c.text.result (c.text.ensures w.ss w.holds)
    (λ v e. all_read g.R.Source.told c.args.given c.args.rules l.place c.args.sources.now l.sources l.totaling w done v.items e)
    (λ e h. all_out g.R.Source.told c.args.given c.args.rules l.place c.args.sources.now l.sources l.totaling w done e h)
