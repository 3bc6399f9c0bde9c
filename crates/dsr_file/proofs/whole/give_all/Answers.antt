use Rattle.dsr_file.proofs.ReadLemmas.{fed_done}
use Rattle.dsr_file.proofs.whole.give_all.Goals as goal

pub returns-then-done : goal.returns-then-done
returns-then-done g c =
    λ layout b s. fed_done layout c.feed.new.file b c.args.bytes.now (g.S.Sink.list c.feed.new.sink) c.outcome.result c.args.ending
    (c.in_ok-feed.ensures.fed layout b s) c.outcome.ensures
