use Rattle.dsr_ledger.proofs.Common.{refl, arith, ∥∥₁_map, with_item, Kept, slice_get_read, length-set}
use Rattle.dsr_ledger.proofs.BooksLemmas.{ended, stands_ended, reached_ended}
use Rattle.dsr_ledger.proofs.books.Books.end_file.Goals as goal

pub invariant_of-self : goal.invariant_of-self
invariant_of-self c =
    let f = c.index_mut-file.result.now in let old = c.args.self.now.kept in
    let new : Kept = record { files = with_item old.files c.args.k (ended f c.args.outcome); ledger = old.ledger } in
    let at = slice_get_read old.files.items _ c.args.k f refl c.requires.opened c.index_mut-file.ensures.value in
    let long = length-set old.files.items c.args.k (ended f c.args.outcome) in let room = c.args.self.now.room in
    record {
      most = c.args.self.now.most;
      room = omega arith;
      reached = ∥∥₁_map c.args.self.now.reached (reached_ended old new c.args.k f c.args.outcome at refl refl);
    }

pub returns-clause-stands : goal.returns-clause-stands
returns-clause-stands c = λ files h.
    let f = c.index_mut-file.result.now in let old = c.args.self.now.kept in
    let new : Kept = record { files = with_item old.files c.args.k (ended f c.args.outcome); ledger = old.ledger } in
    let at = slice_get_read old.files.items _ c.args.k f refl c.requires.opened c.index_mut-file.ensures.value in
    stands_ended old new files c.args.k f c.args.outcome at refl refl h
