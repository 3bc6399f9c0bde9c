use Rattle.std.proofs.Common.{◌≡◌, ◌∙◌, ◌<◌, true, false, ap, sym, subst, append-nil, length, take, drop, arith, ◌++◌}
use Rattle.dsr_statement.specs.meaning.Readings.{most_bytes}
use Rattle.dsr_sums.specs.inner.Readings.{FinishesAt, IsReading, IsRefusedIn, HasNoLineFeed, TakesLines}
use Rattle.dsr_sums.proofs.SourceLemmas.{nothing_read, finished_long, finished_whole, finished_failed, refused_within, read_more}
use Rattle.dsr_sums.proofs.reading.read_statement.Goals as goal

pub reads-init : goal.reads-init
reads-init g c =
    nothing_read (g.R.Source.told c.args.source.now) c.args.role c.args.totals.now c.new-reading.result c.new-kept.result c.requires
    c.new-reading.ensures.role c.new-reading.ensures.reads c.new-kept.ensures

pub returns-then-as_slice-gt-LINE_LIMIT : goal.returns-then-as_slice-gt-LINE_LIMIT
returns-then-as_slice-gt-LINE_LIMIT g c =
    let long : most_bytes < length c.reads.kept = omega (arith, ap length c.as_slice.ensures, c.if-as_slice-gt-LINE_LIMIT.true) in
    finished_long (g.R.Source.told c.args.source.now) (g.R.Source.told c.reads.source) c.args.unsealed c.args.role c.args.totals.now c.reads.totals c.reads.reading
    c.reads.kept c.reads.invariant c.finish.result long
    (λ done reads. subst (λ k. FinishesAt c.args.unsealed c.reads.reading.role done k false c.finish.result) c.as_slice-then-as_slice-gt-LINE_LIMIT.ensures (c.finish.ensures done reads))

pub returns-in-Ok-eq0 : goal.returns-in-Ok-eq0
returns-in-Ok-eq0 g c =
    let none : c.in-Ok-eq0.field-0 ≡ 0 = omega arith in
    let (piece, same, more, end, sound) = c.in-Ok-eq0.ensures in
    let nothing : c.read_behind.new.self ≡ c.reads.kept = same ∙ ap (λ p. c.reads.kept ++ p) (end none).0 ∙ append-nil c.reads.kept in
    finished_whole (g.R.Source.told c.args.source.now) (g.R.Source.told c.reads.source) c.args.unsealed c.args.role c.args.totals.now c.reads.totals c.reads.reading
    c.reads.kept c.reads.invariant (g.R.Source.told c.read_behind.new.source) piece c.finish-in-Ok-eq0.result more (end none) sound
    (λ done reads. subst (λ k. FinishesAt c.args.unsealed c.reads.reading.role done k false c.finish-in-Ok-eq0.result) (c.as_slice-in-Ok-eq0.ensures ∙ nothing) (c.finish-in-Ok-eq0.ensures done reads))

pub returns-in-Err : goal.returns-in-Err
returns-in-Err g c =
    let (same, keeps, failed) = c.in-Err.ensures in
    finished_failed (g.R.Source.told c.args.source.now) (g.R.Source.told c.reads.source) c.args.unsealed c.args.role c.args.totals.now c.reads.totals c.reads.reading
    c.reads.kept c.reads.invariant (g.R.Source.told c.read_behind.new.source) c.finish-in-Err.result keeps failed
    (λ done reads. subst (λ k. FinishesAt c.args.unsealed c.reads.reading.role done k true c.finish-in-Err.result) (c.as_slice-in-Err.ensures ∙ same) (c.finish-in-Err.ensures done reads))

pub returns-in-Err-take_lines : goal.returns-in-Err-take_lines
returns-in-Err-take_lines g c =
    let (piece, same, more, end, sound) = c.in-Ok.ensures in
    let all : c.as_slice-in-reads.result.now ≡ c.reads.kept ++ piece = c.as_slice-in-reads.ensures ∙ same in
    refused_within (g.R.Source.told c.args.source.now) (g.R.Source.told c.reads.source) c.args.unsealed c.args.role c.args.totals.now c.reads.totals c.reads.reading
    c.reads.kept c.reads.invariant (g.R.Source.told c.read_behind.new.source) piece more (sound ∙ c.reads.invariant.sound) c.in-Err-take_lines.error
    (λ done reads. subst (λ b. IsRefusedIn done b c.in-Err-take_lines.error) all (c.in-Err-take_lines.ensures.refused done reads))

pub reads-preserved : goal.reads-preserved
reads-preserved g c =
    let (piece, same, more, end, sound) = c.in-Ok.ensures in
    let all : c.as_slice-in-reads.result.now ≡ c.reads.kept ++ piece = c.as_slice-in-reads.ensures ∙ same in
    let used = c.in-Ok-take_lines.used in
    subst (λ k. IsReading (g.R.Source.told c.args.source.now) (g.R.Source.told c.read_behind.new.source) c.args.role c.args.totals.now c.take_lines.new.totals c.take_lines.new.self k)
    (sym (c.drop_front.ensures ∙ ap (drop used) same)) (
    read_more (g.R.Source.told c.args.source.now) (g.R.Source.told c.reads.source) c.args.unsealed c.args.role c.args.totals.now c.reads.totals c.reads.reading
    c.reads.kept c.reads.invariant (g.R.Source.told c.read_behind.new.source) piece more (sound ∙ c.reads.invariant.sound)
    c.take_lines.new.self c.take_lines.new.totals used c.in-Ok-take_lines.ensures.role
    (λ done reads. subst (λ b. TakesLines c.reads.reading c.take_lines.new.self c.reads.totals c.take_lines.new.totals done (take used b)) all (c.in-Ok-take_lines.ensures.taken done reads))
    (subst (λ b. HasNoLineFeed (drop used b)) all c.in-Ok-take_lines.ensures.rest))
