use Rattle.dsr_file.proofs.Common.{◌≤◌, ◌∙◌, [], refl, subst, arith, take, length, length-take, err_from_is_err_and, Consumes, LayoutTable, Stands, AddsRead}
use Rattle.dsr_events.specs.declared.fault.Ending.TheVariants.{Whole, Read, Reads}
use Rattle.dsr_file.proofs.ReadLemmas.{done_ends, no_reads, whole_ends, failed_ends, limit_ends, all_ended, some_ended, fault_read, more_reads, piece_refused, not_done}
use Rattle.dsr_file.proofs.HoldLemmas.{holding_none, holding_more, holding_kept, holding_given}
use Rattle.dsr_file.proofs.reading.read_all.Goals as goal

pub loop-init : goal.loop-init
loop-init g c = record {
  ending = c.requires.«open»;
  none = c.requires.none;
  count = omega (arith, c.requires.new);
  name = refl;
  read = λ layout s. no_reads layout (g.R.Source.told c.args.reader.now) c.args.file.now (g.S.Sink.list c.args.sink.now) s;
  held = holding_none g.R.Source.told g.R.Source.holds c.args.reader.now;
}

pub returns-in-Err : goal.returns-in-Err
returns-in-Err g c =
    let told = g.R.Source.told in
    let fs = g.S.Sink.list c.finish_all.new.sink in
    let ends = λ (layout : LayoutTable) (s : Stands layout c.args.file.now [] (g.S.Sink.list c.args.sink.now)).
    failed_ends layout (told c.args.reader.now) (told c.loop.reader) (told c.read.new.self) c.loop.counter c.args.max_reads c.loop.file
    (g.S.Sink.list c.loop.sink) fs (c.loop.invariant.read layout s) c.in-Err.ensures.reads (omega (arith, c.loop-test.true)) c.finish_all.ensures.grows
    c.in-Err.ensures.bytes c.in-Err.ensures.failed in
    record {
      name = c.finish_all.ensures.name ∙ c.loop.invariant.name;
      read = all_ended c.args.max_reads _ _ c.args.file.now c.loop.file Read _ _ fs c.finish_all.result ends c.finish_all.ensures.all;
      refused = some_ended c.args.max_reads _ _ c.args.file.now c.loop.file Read _ _ fs c.finish_all.result ends c.finish_all.ensures.refused;
      held = holding_given told g.R.Source.holds c.args.reader.now c.read.new.self (holding_kept told g.R.Source.holds c.args.reader.now c.loop.reader
          c.read.new.self c.loop.invariant.held c.in-Err.ensures.bytes c.in-Err.ensures.held);
    }

pub returns-in-Ok-eq0 : goal.returns-in-Ok-eq0
returns-in-Ok-eq0 g c =
    let told = g.R.Source.told in
    let fs = g.S.Sink.list c.finish_all-in-Ok-eq0.new.sink in
    let none = c.in-Ok-eq0.field-0-test in
    let bytes = c.in-Ok-eq0.ensures.bytes in
    let ends = λ (layout : LayoutTable) (s : Stands layout c.args.file.now [] (g.S.Sink.list c.args.sink.now)).
    whole_ends layout (told c.args.reader.now) (told c.loop.reader) (told c.read.new.self) c.loop.counter c.args.max_reads c.loop.file
    (g.S.Sink.list c.loop.sink) fs (c.loop.invariant.read layout s)
    (subst (AddsRead (told c.loop.reader).reads (told c.read.new.self).reads) none c.in-Ok-eq0.ensures.reads)
    (omega (arith, c.loop-test.true)) c.finish_all-in-Ok-eq0.ensures.grows
    (subst (λ n. Consumes (told c.loop.reader).remaining (told c.read.new.self).remaining (take n c.read.new.piece)) none bytes.0)
    (bytes.1 none (omega (arith, c.read.auto.piece))) c.requires.unfailed c.in-Ok-eq0.ensures.failed in
    record {
      name = c.finish_all-in-Ok-eq0.ensures.name ∙ c.loop.invariant.name;
      read = all_ended c.args.max_reads _ _ c.args.file.now c.loop.file Whole _ _ fs c.finish_all-in-Ok-eq0.result ends c.finish_all-in-Ok-eq0.ensures.all;
      refused = some_ended c.args.max_reads _ _ c.args.file.now c.loop.file Whole _ _ fs c.finish_all-in-Ok-eq0.result ends
          c.finish_all-in-Ok-eq0.ensures.refused;
      held = holding_given told g.R.Source.holds c.args.reader.now c.read.new.self (holding_more told g.R.Source.holds c.args.reader.now c.loop.reader
          c.read.new.self (take c.in-Ok-eq0.field-0 c.read.new.piece) c.loop.invariant.held bytes.0 c.in-Ok-eq0.ensures.held);
    }

pub returns : goal.returns
returns g c =
    let told = g.R.Source.told in
    let fs = g.S.Sink.list c.finish_all-2.new.sink in
    let ends = λ (layout : LayoutTable) (s : Stands layout c.args.file.now [] (g.S.Sink.list c.args.sink.now)).
    limit_ends layout (told c.args.reader.now) (told c.loop.reader) c.loop.counter c.args.max_reads c.loop.file (g.S.Sink.list c.loop.sink) fs
    (c.loop.invariant.read layout s) (omega (arith, c.loop-test.false, c.loop.auto.counter-end)) c.finish_all-2.ensures.grows c.requires.unfailed in
    record {
      name = c.finish_all-2.ensures.name ∙ c.loop.invariant.name;
      read = all_ended c.args.max_reads _ _ c.args.file.now c.loop.file Reads _ _ fs c.finish_all-2.result ends c.finish_all-2.ensures.all;
      refused = some_ended c.args.max_reads _ _ c.args.file.now c.loop.file Reads _ _ fs c.finish_all-2.result ends c.finish_all-2.ensures.refused;
      held = holding_given told g.R.Source.holds c.args.reader.now c.loop.reader c.loop.invariant.held;
    }

pub returns-in_err-feed-in-Ok-clause-refused : goal.returns-in_err-feed-in-Ok-clause-refused
returns-in_err-feed-in-Ok-clause-refused g c =
    let told = g.R.Source.told in
    let p = err_from_is_err_and c.from_residual.result c.from_residual.ensures.1 in
    rw (p.1, p.2) (λ layout s.
    let r = c.loop.invariant.read layout s in
    piece_refused layout (told c.args.reader.now) (told c.loop.reader) (told c.read.new.self) c.loop.counter c.args.max_reads c.loop.file c.feed.new.file
    (g.S.Sink.list c.loop.sink) _ r c.read.new.piece c.in-Ok.n c.in-Ok.ensures.bytes.0 c.in-Ok.ensures.reads (omega (arith, c.in-Ok.n-test))
    (omega (arith, c.in-Ok.ensures.bound)) (omega (arith, c.read.auto.piece)) c.in-Ok.ensures.failed (omega (arith, c.loop-test.true)) c.in_err-feed-in-Ok.field-0.0
    c.requires.unfailed c.feed.ensures.grows (c.in_err-feed-in-Ok.ensures.refused layout r.given r.stands))

pub returns-then-done-clause-read : goal.returns-then-done-clause-read
returns-then-done-clause-read g c = λ layout s.
    let told = g.R.Source.told in
    let r = c.loop.invariant.read layout s in
    let fed = c.in_ok-feed-in-Ok.ensures.fed layout r.given r.stands in (
      done_ends layout c.feed.new.file _ (g.S.Sink.list c.feed.new.sink) c.outcome.result fed.stands c.outcome.ensures,
      fault_read layout (told c.args.reader.now) (told c.loop.reader) (told c.read.new.self) c.loop.counter c.args.max_reads c.loop.file c.feed.new.file
          (g.S.Sink.list c.loop.sink) (g.S.Sink.list c.feed.new.sink) r c.read.new.piece c.in-Ok.n c.in-Ok.ensures.bytes.0 c.in-Ok.ensures.reads
          (omega (arith, c.in-Ok.n-test)) (omega (arith, c.in-Ok.ensures.bound)) (omega (arith, c.read.auto.piece)) c.in-Ok.ensures.failed (omega (arith, c.loop-test.true))
          c.requires.unfailed c.feed.ensures.grows fed (c.done.ensures.phase.0 c.if-done.true),
    )

pub loop-preserved : goal.loop-preserved
loop-preserved g c =
    let told = g.R.Source.told in
    let few : length (take c.in-Ok.n c.read.new.piece) ≤ 4096 = simp length-take (omega (arith, c.read.auto.piece)) in
    record {
      ending = c.feed.ensures.«open»;
      none = c.feed.ensures.none;
      count = omega (arith, c.in_ok-feed-in-Ok.ensures.used, c.loop.invariant.count, few);
      name = c.feed.ensures.name ∙ c.loop.invariant.name;
      read = λ layout s.
          let r = c.loop.invariant.read layout s in
          more_reads layout (told c.args.reader.now) (told c.loop.reader) (told c.read.new.self) c.loop.counter c.args.max_reads c.loop.file c.feed.new.file
          (g.S.Sink.list c.loop.sink) (g.S.Sink.list c.feed.new.sink) r c.read.new.piece c.in-Ok.n c.in-Ok.ensures.bytes.0 c.in-Ok.ensures.reads
          (omega (arith, c.in-Ok.n-test)) (omega (arith, c.in-Ok.ensures.bound)) (omega (arith, c.read.auto.piece)) c.in-Ok.ensures.failed (omega (arith, c.loop-test.true))
          c.feed.ensures.grows (c.in_ok-feed-in-Ok.ensures.fed layout r.given r.stands) (not_done c.done.result c.done.ensures.phase.1 c.if-done.false);
      held = holding_more told g.R.Source.holds c.args.reader.now c.loop.reader c.read.new.self (take c.in-Ok.n c.read.new.piece) c.loop.invariant.held
          c.in-Ok.ensures.bytes.0 c.in-Ok.ensures.held;
    }

pub returns-in_err-feed-in-Ok-clause-held : goal.returns-in_err-feed-in-Ok-clause-held
returns-in_err-feed-in-Ok-clause-held g c =
    holding_given g.R.Source.told g.R.Source.holds c.args.reader.now c.read.new.self
    (holding_more g.R.Source.told g.R.Source.holds c.args.reader.now c.loop.reader c.read.new.self (take c.in-Ok.n c.read.new.piece)
    c.loop.invariant.held c.in-Ok.ensures.bytes.0 c.in-Ok.ensures.held)

pub returns-then-done-clause-held : goal.returns-then-done-clause-held
returns-then-done-clause-held g c =
    holding_given g.R.Source.told g.R.Source.holds c.args.reader.now c.read.new.self
    (holding_more g.R.Source.told g.R.Source.holds c.args.reader.now c.loop.reader c.read.new.self (take c.in-Ok.n c.read.new.piece)
    c.loop.invariant.held c.in-Ok.ensures.bytes.0 c.in-Ok.ensures.held)
