use Rattle.dsr_intake.proofs.Common.{◌∙◌, arith, set, subst, sym, length-set, err_from_is_err_and, All-set, IsTapped, HasMore, taken_count}
use Rattle.dsr_intake.proofs.Rounds.{known_here, round_more, more_taken, names_set, stopped_at, lent}
use Rattle.dsr_intake.proofs.collector.go_round.Goals as goal

pub returns-in_err-go_on-clause-names : goal.returns-in_err-go_on-clause-names
returns-in_err-go_on-clause-names g c =
    let at = lent c.loop-k.taps.items c.loop-k.k c.index_mut-tap.result.now (omega arith) c.index_mut-tap.ensures.value in
    names_set c.loop-k.taps.items c.loop-k.k c.index_mut-tap.result.now c.go_on.new.tap at c.in_err-go_on.ensures.name ∙ c.loop-k.invariant.names

pub returns-in_err-go_on-clause-stopped : goal.returns-in_err-go_on-clause-stopped
returns-in_err-go_on-clause-stopped g c =
    let at = lent c.loop-k.taps.items c.loop-k.k c.index_mut-tap.result.now (omega arith) c.index_mut-tap.ensures.value in
    let p = err_from_is_err_and c.from_residual.result c.from_residual.ensures.1 in
    rw (p.1, p.2) (stopped_at c.loop-k.taps.items c.loop-k.k c.index_mut-tap.result.now c.go_on.new.tap _ at c.in_err-go_on.ensures.stopped)

pub loop-k-preserved : goal.loop-k-preserved
loop-k-preserved g c =
    let at = lent c.loop-k.taps.items c.loop-k.k c.index_mut-tap.result.now (omega arith) c.index_mut-tap.ensures.value in
    let e = c.in_ok-go_on.ensures in
    let was = c.loop-k.invariant in
    record {
      len = length-set c.loop-k.taps.items c.loop-k.k c.go_on.new.tap ∙ c.loop-k.invariant.len;
      files = e.files ∙ was.files;
      names = names_set c.loop-k.taps.items c.loop-k.k c.index_mut-tap.result.now c.go_on.new.tap at e.name ∙ was.names;
      tapped = All-set IsTapped c.loop-k.taps.items c.loop-k.k c.go_on.new.tap e.tapped was.tapped;
      stands = round_more c.loop-k.taps.items c.loop-k.k c.loop-k.books c.go_on.new.books c.index_mut-tap.result.now c.go_on.new.tap at was.stands e.booked;
      any = subst (λ b. HasMore b (taken_count c.args.taps.now.items) (taken_count (set c.loop-k.taps.items c.loop-k.k c.go_on.new.tap)))
          (sym c.either-now.ensures)
          (more_taken c.args.taps.now.items c.loop-k.taps.items c.loop-k.k c.index_mut-tap.result.now c.go_on.new.tap _ _ at was.any e.any);
    }

pub go_on-requires-clause-file : goal.go_on-requires-clause-file
go_on-requires-clause-file g c =
    let at = lent c.loop-k.taps.items c.loop-k.k c.index_mut-tap.result.now (omega arith) c.index_mut-tap.ensures.value in
    known_here c.loop-k.taps.items c.loop-k.k c.loop-k.books c.index_mut-tap.result.now at c.loop-k.invariant.stands
