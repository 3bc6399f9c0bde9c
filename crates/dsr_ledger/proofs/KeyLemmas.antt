-- The equality and the order of keys and of summary keys.
use Rattle.dsr_ledger.proofs.Common.{◌≡◌, ap, sym, ◌∙◌, Decides, is_eq, IsTotalOrder, both_tied, on_total, then_total, nat_list_cmp_total, texts_ties, bytes_eq-Decides, Decides-and, Decides-like, SummaryKey, summary_key_eq, summary_key_cmp, summary_key_in, Equal, Key, key_cmp, key_eq, key_under}

pub summary_key_total : IsTotalOrder summary_key_cmp
summary_key_total =
    then_total (on_total (λ (k : SummaryKey). k.territory) nat_list_cmp_total)
    (then_total (on_total (λ (k : SummaryKey). k.use_type) nat_list_cmp_total) (on_total (λ (k : SummaryKey). k.currency) nat_list_cmp_total))

-- summary keys are equal only if they are the same
pub same_summary_key : (a b : SummaryKey) → Decides (summary_key_eq a b) (a ≡ b)
same_summary_key a b =
    Decides-like (summary_key_eq a b) (λ p i. record { territory = p.0 i; use_type = p.1.0 i; currency = p.1.1 i })
    (λ e. (ap (λ k. k.territory) e, (ap (λ k. k.use_type) e, ap (λ k. k.currency) e))) (
    Decides-and _ _ (bytes_eq-Decides a.territory b.territory) (
    Decides-and _ _ (bytes_eq-Decides a.use_type b.use_type) (bytes_eq-Decides a.currency b.currency)))

pub summary_key_ties : (a b : SummaryKey) → is_eq (summary_key_cmp a b) ≡ summary_key_eq a b
summary_key_ties a b =
    sym (both_tied _ _ _ _ (texts_ties a.territory b.territory) (both_tied _ _ _ _ (texts_ties a.use_type b.use_type) (texts_ties a.currency b.currency)))

pub key_total : IsTotalOrder key_cmp
key_total = then_total (on_total (λ (k : Key). k.isrc) nat_list_cmp_total) (on_total summary_key_in summary_key_total)

-- keys are equal only if they are the same
same_key : (a b : Key) → Decides (key_eq a b) (a ≡ b)
same_key a b =
    Decides-like (key_eq a b) (λ p i. key_under (p.0 i) (p.1 i)) (λ e. (ap (λ k. k.isrc) e, ap summary_key_in e)) (
    Decides-and _ _ (bytes_eq-Decides a.isrc b.isrc) (same_summary_key (summary_key_in a) (summary_key_in b)))

pub key_ties : (a b : Key) → is_eq (key_cmp a b) ≡ key_eq a b
key_ties a b = sym (both_tied _ _ _ _ (texts_ties a.isrc b.isrc) (sym (summary_key_ties (summary_key_in a) (summary_key_in b))))

-- keys that compare equal are the same
pub key_exact : (a b : Key) → key_cmp a b ≡ Equal → a ≡ b
key_exact a b e = (same_key a b).0 (sym (key_ties a b) ∙ ap is_eq e)
