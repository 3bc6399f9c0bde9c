use Rattle.dsr_intake.proofs.Common.{◌≡◌, length, arith, files_count}
use Rattle.dsr_intake.proofs.Rounds.{files_ended, same_count}
use Rattle.dsr_intake.proofs.collector.collect_books.Goals as goal
use Rattle.dsr_intake.proofs.collector.collect_books.Goals.{In_default-book_all}

files_are : (g : _) (c : In_default-book_all g) → length c.book_all.new.taps.items ≡ files_count c.book_all.new.books
files_are g c =
    omega (arith, same_count _ _ c.in_default-book_all.ensures.names, c.in_default-book_all.ensures.files, c.in-Ok.ensures.count)

pub close-requires : goal.close-requires
close-requires g c = files_ended c.book_all.new.books c.book_all.new.taps.items c.in_default-book_all.ensures.stands (files_are g c)
    c.in_default-book_all.ensures.ended
