use Rattle.std.proofs.Common.{sym}
use Rattle.std.proofs.lemmas.Result.{on_ok_weaker}
use Rattle.dsr_sums.specs.meaning.Postings.{posting, signed_sums}
use Rattle.dsr_sums.specs.inner.Books.{AddsPosting, IsPosted}
use Rattle.dsr_sums.proofs.PostingLemmas.{left-push, posted-push_book}
use Rattle.dsr_sums.proofs.book.Book.post.Goals as goal

pub returns-then-not-self : goal.returns-then-not-self
returns-then-not-self c = λ ps held.
    left-push c.args.self.now c.args.self.now c.args.account.now (signed_sums c.args.role c.args.numbers.now) ps held c.if-not-self.true c.if-not-self.true

pub returns-in-Some : goal.returns-in-Some
returns-in-Some c = λ ps held.
    let posted = c.post_at.ensures c.args.account.now (sym c.in-Some.ensures.index) in
    posted-push_book c.args.self.now c.post_at.new.self c.args.account.now (signed_sums c.args.role c.args.numbers.now) ps held c.if-not-self.false
    (record { added = posted.added; range = posted.range })

pub returns-in-None : goal.returns-in-None
returns-in-None c =
    let n = signed_sums c.args.role c.args.numbers.now in
    let adds : IsPosted c.args.self.now c.post_first.new.self c.args.account.now n → AddsPosting c.args.self.now c.post_first.new.self (posting c.args.role c.args.account.now c.args.numbers.now) =
    λ posted ps held. posted-push_book c.args.self.now c.post_first.new.self c.args.account.now n ps held c.if-not-self.false posted in
    on_ok_weaker c.post_first.result adds c.post_first.ensures
