use Rattle.std.proofs.Common.{◌≡◌, ap, sym, ◌∙◌, cond, false, true≢false}
use Rattle.std.specs.Prelude.{Some, unwrap_or}
use Rattle.indexmap.specs.IndexMap.{get}
use Rattle.dsr_sums.specs.inner.Plus.{plus, zero_sums}
use Rattle.dsr_sums.specs.meaning.Accounts.{account_eq}
use Rattle.dsr_sums.specs.meaning.Postings.{are_in_range, signed_sums}
use Rattle.dsr_sums.proofs.AccountLemmas.{same_account, account_equivalence}
use Rattle.dsr_ledger.proofs.IndexMapLemmas.{key_is, value_here, written}
use Rattle.dsr_sums.proofs.book.Book.post_at.Goals as goal

pub returns-in-Some : goal.returns-in-Some
returns-in-Some c = λ a there.
    let m = c.args.self.now.sums in let e = c.pair_mut-sums.ensures in let v = c.pair_mut-sums.result.1.now in
    let n = signed_sums c.args.role c.args.numbers.now in
    let was = ap (λ o. unwrap_or o zero_sums) (value_here account_eq same_account account_equivalence m c.args.place _ v e.unique e.value a there) in
    record {
      added = λ _ q.
          written account_eq same_account account_equivalence m c.args.place _ v e.unique e.value c.in-Some.total q
          ∙ ap (λ k. cond (account_eq k q) (Some c.in-Some.total) (get account_eq m q)) (key_is account_eq same_account m c.args.place _ v e.value a there)
          ∙ ap (λ s. cond (account_eq a q) (Some s) (get account_eq m q)) (c.in-Some.ensures.1 ∙ ap (λ s. plus s n) (sym was));
      range = c.requires.range ∙ sym (ap (λ s. are_in_range (plus s n)) was ∙ c.in-Some.ensures.0);
    }

pub returns-in-None : goal.returns-in-None
returns-in-None c = λ a there.
    let m = c.args.self.now.sums in let e = c.pair_mut-sums.ensures in let v = c.pair_mut-sums.result.1.now in
    let n = signed_sums c.args.role c.args.numbers.now in
    let was = ap (λ o. unwrap_or o zero_sums) (value_here account_eq same_account account_equivalence m c.args.place _ v e.unique e.value a there) in
    let out : are_in_range (plus (unwrap_or (get account_eq m a) zero_sums) n) ≡ false = ap (λ s. are_in_range (plus s n)) was ∙ c.in-None.ensures in
    record { added = λ h. absurd (true≢false (sym h ∙ out)); range = sym out }
