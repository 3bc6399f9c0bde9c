use Rattle.dsr_ledger.proofs.Common.{◌≡◌, ap, sym, ◌∙◌, rules, true, Some, slice_get, bytes_eq, nat_list_eq_equiv, bytes_eq-Decides, index_at}
use Rattle.dsr_ledger.proofs.TextLemmas.{same_text}
use Rattle.dsr_ledger.proofs.IndexMapLemmas.{own_number}
use Rattle.dsr_ledger.proofs.file.summaries.Summaries.hinted.Goals as goal

pub returns-then-eq : goal.returns-then-eq
returns-then-eq c =
    let m = c.args.self.now.states in let own = c.in_ok-own.own.now in let v = c.in_ok-own.field-0-1.now in
    let alike : bytes_eq own c.args.id.now ≡ true = search rules in let at : slice_get m.entries c.args.number ≡ Some (own, v) = search rules in
    ap (index_at c.args.self.now) (sym (same_text own c.args.id.now alike))
    ∙ own_number bytes_eq bytes_eq-Decides nat_list_eq_equiv m c.args.number own v c.as_slice.ensures.unique at
