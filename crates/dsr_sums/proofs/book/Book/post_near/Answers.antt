use Rattle.dsr_sums.specs.meaning.Postings.{signed_sums}
use Rattle.dsr_sums.proofs.PostingLemmas.{posted-push_book}
use Rattle.dsr_sums.proofs.book.Book.post_near.Goals as goal

pub returns-in-Some : goal.returns-in-Some
returns-in-Some c = λ ps held.
    let posted = c.post_at.ensures c.args.account.now c.in-Some.ensures.index in
    posted-push_book c.args.self.now c.post_at.new.self c.args.account.now (signed_sums c.args.role c.args.numbers.now) ps held c.if-self.true
    (record { added = posted.added; range = posted.range })
