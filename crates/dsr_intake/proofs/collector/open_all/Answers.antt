use Rattle.dsr_intake.proofs.Common.{◌∙◌, arith, length-set, err_from_is_err_and}
use Rattle.dsr_intake.proofs.Rounds.{opening_more, opening_done, names_set, stopped_at, lent}
use Rattle.dsr_intake.proofs.collector.open_all.Goals as goal

pub returns-in_err-open_one-clause-names : goal.returns-in_err-open_one-clause-names
returns-in_err-open_one-clause-names g c =
    let at = lent c.loop-k.taps.items c.loop-k.k c.index_mut-tap.result.now (omega arith) c.index_mut-tap.ensures.value in
    names_set c.loop-k.taps.items c.loop-k.k c.index_mut-tap.result.now c.open_one.new.tap at c.in_err-open_one.ensures.name
    ∙ c.loop-k.invariant.opening.names

pub returns-in_err-open_one-clause-stopped : goal.returns-in_err-open_one-clause-stopped
returns-in_err-open_one-clause-stopped g c =
    let at = lent c.loop-k.taps.items c.loop-k.k c.index_mut-tap.result.now (omega arith) c.index_mut-tap.ensures.value in
    let p = err_from_is_err_and c.from_residual.result c.from_residual.ensures.1 in
    rw (p.1, p.2) (stopped_at c.loop-k.taps.items c.loop-k.k c.index_mut-tap.result.now c.open_one.new.tap _ at c.in_err-open_one.ensures.stopped)

pub loop-k-preserved : goal.loop-k-preserved
loop-k-preserved g c =
    let at = lent c.loop-k.taps.items c.loop-k.k c.index_mut-tap.result.now (omega arith) c.index_mut-tap.ensures.value in
    let e = c.in_ok-open_one.ensures in
    record {
      len = length-set c.loop-k.taps.items c.loop-k.k c.open_one.new.tap ∙ c.loop-k.invariant.len;
      files = e.files ∙ c.loop-k.invariant.files;
      opening = opening_more c.args.taps.now.items c.loop-k.taps.items c.loop-k.k c.loop-k.books c.open_one.new.books c.index_mut-tap.result.now
          c.open_one.new.tap c.loop-k.invariant.opening at e.name e.tapped e.opened;
    }

pub returns-clause-tapped : goal.returns-clause-tapped
returns-clause-tapped g c = (opening_done c.args.taps.now.items c.loop-k.taps.items c.loop-k.k c.loop-k.books c.loop-k.invariant.opening (omega arith)).0

pub returns-clause-stands : goal.returns-clause-stands
returns-clause-stands g c = (opening_done c.args.taps.now.items c.loop-k.taps.items c.loop-k.k c.loop-k.books c.loop-k.invariant.opening (omega arith)).1
