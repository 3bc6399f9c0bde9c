use Rattle.dsr_ledger.proofs.Common.{List, refl, subst, is_ok, ∥∥₁_map, MatchResult-from_err, Kept, FileBooks}
use Rattle.dsr_ledger.proofs.BooksLemmas.{OpenedAfter, reached_kept, reached_opened, opened_next, not_opened}
use Rattle.dsr_ledger.proofs.books.Books.open_next.Goals as goal

pub invariant_of-self : goal.invariant_of-self
invariant_of-self c =
    let old = c.args.self.now.kept in let new : Kept = record { files = old.files; ledger = c.open_after.new.ledger } in
    let reached = ∥∥₁_map c.args.self.now.reached (reached_kept old new refl c.open_after.ensures.keeps) in
    record { most = c.args.self.now.most; room = c.args.self.now.room; reached = reached }

pub invariant_of-self-2-clause-reached : goal.invariant_of-self-2-clause-reached
invariant_of-self-2-clause-reached c =
    let old = c.args.self.now.kept in let f = c.in_ok-file.file in let new : Kept = record { files = c.push.new.self; ledger = c.open_after.new.ledger } in
    let one = subst (λ (fs : List FileBooks). OpenedAfter fs c.args.opening f) c.as_slice-files.ensures.value c.in_ok-file.ensures.stands in
    ∥∥₁_map c.args.self.now.reached (
    reached_opened old new (is_ok c.push.result) f c.args.opening one c.in_ok-file.ensures.numbered c.push.ensures.items c.open_after.ensures.keeps)

pub returns-in_err-push-clause-stands : goal.returns-in_err-push-clause-stands
returns-in_err-push-clause-stands c = λ files h.
    let old = c.args.self.now.kept in let new : Kept = record { files = c.push.new.self; ledger = c.open_after.new.ledger } in
    MatchResult-from_err c.from_residual-in_err-push.result _ _ c.from_residual-in_err-push.ensures.0
    (λ _. not_opened old new files c.in_err-push.ensures.items c.open_after.ensures.keeps.tallies h)

pub returns-clause-stands : goal.returns-clause-stands
returns-clause-stands c = λ files h.
    let old = c.args.self.now.kept in let f = c.in_ok-file.file in let new : Kept = record { files = c.push.new.self; ledger = c.open_after.new.ledger } in
    let one = subst (λ (fs : List FileBooks). OpenedAfter fs c.args.opening f) c.as_slice-files.ensures.value c.in_ok-file.ensures.stands in
    opened_next old new f c.args.opening files one c.in_ok-push.ensures.items c.open_after.ensures.keeps.tallies h
