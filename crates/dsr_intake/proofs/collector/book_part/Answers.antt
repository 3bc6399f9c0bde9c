use Rattle.dsr_intake.proofs.Common.{add_block, subst, Stands}
use Rattle.dsr_intake.proofs.Rounds.{file_is_set, outcome_changes, on_any, going_books, going_ends}
use Rattle.dsr_intake.proofs.collector.book_part.Goals as goal

pub returns-in_ok-book-in-Block-clause-booked : goal.returns-in_ok-book-in-Block-clause-booked
returns-in_ok-book-in-Block-clause-booked c f files stands at =
    rw c.in-Block.is (subst (Stands c.book.new.self) (file_is_set (add_block c.in-Block.block) files c.args.k f at)
    (c.in_ok-book-in-Block.ensures.stands files stands).1)

pub returns-else-is_memory-clause-booked : goal.returns-else-is_memory-clause-booked
returns-else-is_memory-clause-booked c =
    rw c.in-Ended.is (on_any c.end_file.result (outcome_changes c.args.books.now c.end_file.new.self c.args.k c.in-Ended.outcome c.end_file.ensures.stands))

pub book-requires : goal.book-requires
book-requires c = going_books c.args.books.now c.args.k c.requires.file.0 c.requires.file.1 c.requires.file.2

pub end_file-requires : goal.end_file-requires
end_file-requires c = going_ends c.args.books.now c.args.k c.requires.file.0 c.requires.file.1 c.requires.file.2
