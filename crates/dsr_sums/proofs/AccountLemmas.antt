-- The equality and the order of accounts.
use Rattle.std.proofs.Common.{◌≡◌, ap, sym, ◌∙◌, arith, refl}
use Rattle.std.proofs.lemmas.Bool.Decides.{Decides-and, Decides-like}
use Rattle.std.proofs.lemmas.Slice.Eq.{bytes_eq-Decides}
use Rattle.std.specs.Bool.{Decides}
use Rattle.std.specs.Cmp.{IsEquivalence, IsTotalOrder, both_tied, on_total, then_total}
use Rattle.std.specs.Cmp.Lexicographic.{nat_list_cmp_total, texts_ties}
use Rattle.std.specs.Ordering.{is_eq}
use Rattle.std.specs.declared.cmp.Ordering.TheVariants.{Equal}
use Rattle.dsr_sums.specs.declared.account.Account.{Account}
use Rattle.dsr_sums.specs.meaning.Accounts.{account_eq, account_cmp}

-- accounts are equal only if they are the same
pub same_account : (a b : Account) → Decides (account_eq a b) (a ≡ b)
same_account a b =
    Decides-like (account_eq a b) (λ p i. record { party = p.0 i; territory = p.1.0 i; use_type = p.1.1.0 i; currency = p.1.1.1 i })
    (λ e. (ap (λ k. k.party) e, (ap (λ k. k.territory) e, (ap (λ k. k.use_type) e, ap (λ k. k.currency) e)))) (
    Decides-and _ _ (bytes_eq-Decides a.party b.party) (
    Decides-and _ _ (bytes_eq-Decides a.territory b.territory) (
    Decides-and _ _ (bytes_eq-Decides a.use_type b.use_type) (bytes_eq-Decides a.currency b.currency))))

pub account_total : IsTotalOrder account_cmp
account_total =
    then_total (on_total (λ (k : Account). k.party) nat_list_cmp_total)
    (then_total (on_total (λ (k : Account). k.territory) nat_list_cmp_total)
    (then_total (on_total (λ (k : Account). k.use_type) nat_list_cmp_total) (on_total (λ (k : Account). k.currency) nat_list_cmp_total)))

pub account_ties : (a b : Account) → is_eq (account_cmp a b) ≡ account_eq a b
account_ties a b =
    sym (both_tied _ _ _ _ (texts_ties a.party b.party)
    (both_tied _ _ _ _ (texts_ties a.territory b.territory) (both_tied _ _ _ _ (texts_ties a.use_type b.use_type) (texts_ties a.currency b.currency))))

-- accounts that compare equal are the same
pub account_exact : (a b : Account) → account_cmp a b ≡ Equal → a ≡ b
account_exact a b e = (same_account a b).0 (sym (account_ties a b) ∙ ap is_eq e)

pub account_equivalence : IsEquivalence account_eq
account_equivalence = record {
  refl = λ a. (same_account a a).1 refl;
  symm = λ a b. grind (arith, same_account a b, same_account b a);
  congr = λ a b k e. ap (λ x. account_eq x k) ((same_account a b).0 e);
}
