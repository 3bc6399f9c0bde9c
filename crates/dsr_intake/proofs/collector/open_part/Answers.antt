use Rattle.dsr_intake.proofs.Rounds.{on_any, opens_ended, next_opens, opened_ends}
use Rattle.dsr_intake.proofs.collector.open_part.Goals as goal

pub open_next-requires : goal.open_next-requires
open_next-requires c = next_opens c.args.books.now c.args.k c.requires.next

pub open_next-requires-in-Ended : goal.open_next-requires-in-Ended
open_next-requires-in-Ended c = next_opens c.args.books.now c.args.k c.requires.next

pub end_file-requires : goal.end_file-requires
end_file-requires c = opened_ends c.args.books.now _ c.args.k c.requires.next (λ files stands. (c.in_ok-open_next-in-Ended.ensures.stands files stands).1)

pub returns-in_ok-open_next-in-Ended-clause-opened : goal.returns-in_ok-open_next-in-Ended-clause-opened
returns-in_ok-open_next-in-Ended-clause-opened c =
    rw c.in-Ended.is (on_any c.end_file.result (opens_ended c.args.books.now c.open_next-in-Ended.new.self c.end_file.new.self c.args.k
    c.in-Ended.outcome (λ files stands len. (c.in_ok-open_next-in-Ended.ensures.stands files stands).1) c.end_file.ensures.stands))
