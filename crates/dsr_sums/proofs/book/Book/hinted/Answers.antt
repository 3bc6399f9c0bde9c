use Rattle.std.proofs.Common.{◌≡◌, ap, sym, ◌∙◌, rules, true, Some, slice_get}
use Rattle.indexmap.specs.IndexMap.{index_of}
use Rattle.dsr_ledger.proofs.IndexMapLemmas.{own_number}
use Rattle.dsr_sums.specs.meaning.Accounts.{account_eq}
use Rattle.dsr_sums.proofs.AccountLemmas.{same_account, account_equivalence}
use Rattle.dsr_sums.proofs.book.Book.hinted.Goals as goal

pub returns-then-is-clause-index : goal.returns-then-is-clause-index
returns-then-is-clause-index c =
    let m = c.args.self.now.sums in let own = c.in_ok-own.own.now in let v = c.in_ok-own.field-0-1.now in
    let alike : account_eq own c.args.account.now ≡ true = search rules in let at : slice_get m.entries c.args.place ≡ Some (own, v) = search rules in
    ap (index_of account_eq m) (sym ((same_account own c.args.account.now).0 alike))
    ∙ own_number account_eq same_account account_equivalence m c.args.place own v c.as_slice.ensures.unique at
