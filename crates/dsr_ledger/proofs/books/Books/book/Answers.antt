use Rattle.dsr_ledger.proofs.Common.{◌<◌, ◌^◌, refl, arith, subst, is_some, option_map_or, ∥∥₁_map, with_item, length-set}
use Rattle.dsr_ledger.proofs.FilesLemmas.{open_at}
use Rattle.dsr_ledger.proofs.BooksLemmas.{summaries_fit_reached, Answered, answered_stands, answered_reached, numbered_reached}
use Rattle.dsr_ledger.proofs.books.Books.book.Goals.{After-book}
use Rattle.dsr_ledger.proofs.books.Books.book.Goals as goal

answered : (c : After-book) → Answered c.index_mut-file.result.now c.book.new.self c.args.block.now c.book.result c.args.self.now.kept
    (record { files = with_item c.args.self.now.kept.files c.args.k c.book.new.self; ledger = c.book.new.ledger }) c.args.k
answered c =
    let at = open_at (λ f. is_some f.opening) _ c.args.k _ c.index_mut-file.ensures.value c.requires.opening in
    record {
      at = at;
      room = subst (λ o. option_map_or (λ f. f.blocks) o 0 < 2 ^ 37) at c.requires.room;
      items = refl;
      ok = c.book.ensures.ok;
      err = c.book.ensures.err;
      same_ledger = c.book.ensures.same_ledger;
      keys = c.book.ensures.keys;
      numbered = c.book.ensures.numbered;
    }

pub book-requires-clause-numbered : goal.book-requires-clause-numbered
book-requires-clause-numbered c = numbered_reached c.args.self.now.kept c.args.k _ c.args.self.now.reached
    (open_at (λ f. is_some f.opening) _ c.args.k _ c.index_mut-file.ensures.value c.requires.opening)

pub book-requires-clause-summaries_fit : goal.book-requires-clause-summaries_fit
book-requires-clause-summaries_fit c = summaries_fit_reached c.args.self.now.kept c.args.k _ c.args.self.now.reached
    (open_at (λ f. is_some f.opening) _ c.args.k _ c.index_mut-file.ensures.value c.requires.opening)

pub invariant_of-self : goal.invariant_of-self
invariant_of-self c =
    let long = length-set c.args.self.now.kept.files.items c.args.k c.book.new.self in let room = c.args.self.now.room in
    let reached = answered_reached _ _ _ _ _ _ _ (answered (goal.at.invariant_of-self c).After-book) in
    record { most = c.args.self.now.most; room = omega arith; reached = ∥∥₁_map c.args.self.now.reached reached }

pub returns-clause-stands : goal.returns-clause-stands
returns-clause-stands c = λ files h. answered_stands _ _ _ _ _ _ _ (answered (goal.at.returns-clause-stands c).After-book) files h
