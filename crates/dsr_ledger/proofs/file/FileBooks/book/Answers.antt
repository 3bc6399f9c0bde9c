use Rattle.dsr_ledger.proofs.Common.{◌≡◌, ℕ, List, true, cond, ap, ◌∙◌, arith, bytes_eq, is_in}
use Rattle.dsr_ledger.proofs.TextLemmas.{same_text}
use Rattle.dsr_ledger.proofs.StandLemmas.{took}
use Rattle.dsr_ledger.proofs.file.FileBooks.book.Goals as goal

pub returns-then-not-seen-clause-ok : goal.returns-then-not-seen-clause-ok
returns-then-not-seen-clause-ok c = λ d h.
    let f = c.args.self.now in let b = c.args.block.now in let at = ap (λ x. x.id) c.block.view_is in let t = c.in_ok-verdict.ensures.ok in
    let noted = λ (q : List ℕ).
    c.add.ensures q ∙ ap (λ x. cond (bytes_eq x q) true (is_in c.take.new.self.ids q)) (c.in_ok-id.ensures ∙ at)
    ∙ ap (cond (bytes_eq b.id q) true) (ap (λ x. is_in x q) c.take.ensures.ids ∙ c.reserve.ensures.same q) in
    took d f _ _ _ b c.in_ok-verdict.verdict c.has-seen.result c.args.ledger.now c.take.new.ledger h c.in_ok-verdict.ensures.verdict
    (c.has-seen.ensures ∙ ap (is_in f.ids) at) t noted

pub returns-else-not-seen-clause-ok : goal.returns-else-not-seen-clause-ok
returns-else-not-seen-clause-ok c = λ d h.
    let f = c.args.self.now in let b = c.args.block.now in let at = ap (λ x. x.id) c.block.view_is in let t = c.in_ok-verdict.ensures.ok in
    let seen = c.has-seen.ensures ∙ ap (is_in f.ids) at in let there : is_in f.ids b.id ≡ true = grind (arith, seen, c.if-not-seen.false) in
    let noted = λ (q : List ℕ).
    ap (λ x. is_in x q) c.take.ensures.ids ∙ c.reserve.ensures.same q
    ∙ grind (arith, there, λ (s : bytes_eq b.id q ≡ true). ap (is_in f.ids) (same_text b.id q s)) in
    took d f c.take.new.self _ _ b c.in_ok-verdict.verdict c.has-seen.result c.args.ledger.now c.take.new.ledger h c.in_ok-verdict.ensures.verdict seen t noted
