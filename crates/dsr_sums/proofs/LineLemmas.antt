-- One more line in the totals.
use Rattle.std.proofs.Common.{◌≡◌, ap, sym, ◌∙◌, refl, subst, Bool, true, false, true≢false, ◌&&◌, List, [], ◌∷◌, ◌++◌, append-nil}
use Rattle.std.proofs.lemmas.Grind.{flat_map-append}
use Rattle.std.specs.List.{flat_map}
use Rattle.std.specs.Prelude.{ℤ, pos}
use Rattle.dsr_ledger.specs.meaning.Bookings.{Key}
use Rattle.dsr_ledger.specs.declared.report.PartyLine.{PartyLine}
use Rattle.dsr_statement.specs.declared.line.Line.TheVariants as lines
use Rattle.dsr_sums.specs.declared.account.Account.{Account}
use Rattle.dsr_sums.specs.declared.book.Book.{Book}
use Rattle.dsr_sums.specs.declared.reports.Role.{Role}
use Rattle.dsr_sums.specs.declared.totals.Totals.{Totals}
use Rattle.dsr_sums.specs.inner.Books.{HoldsPostings, AddsPosting, AddsLine}
use Rattle.dsr_sums.specs.meaning.Accounts.{currency_account, market_account, party_account}
use Rattle.dsr_sums.specs.meaning.Postings.{Posting, posting, are_summable}
use Rattle.dsr_sums.specs.meaning.Totals.{Booked, booked, numbers, claimed, unclaimed, to_currency, to_market, to_party, are_in_range}

module _ (f : Booked → List Posting) (bs : List Booked) (b : Booked) where
  pushed : flat_map f (bs ++ b ∷ []) ≡ flat_map f bs ++ f b
  pushed = flat_map-append f bs (b ∷ []) ∙ ap (λ l. flat_map f bs ++ l) (append-nil (f b))

  -- a line with one posting
  posts : (old new : Book) (p : Posting) → f b ≡ p ∷ [] → AddsPosting old new p → HoldsPostings old (flat_map f bs)
      → HoldsPostings new (flat_map f (bs ++ b ∷ []))
  posts old new p is adds held = subst (HoldsPostings new) (sym (pushed ∙ ap (λ l. flat_map f bs ++ l) is)) (adds (flat_map f bs) held)

  -- a line with none
  stays : (book : Book) → f b ≡ [] → HoldsPostings book (flat_map f bs) → HoldsPostings book (flat_map f (bs ++ b ∷ []))
  stays book is held = subst (HoldsPostings book) (sym (pushed ∙ ap (λ l. flat_map f bs ++ l) is ∙ append-nil (flat_map f bs))) held

module _ (old new : Totals) (role : Role) (key : Key) where
  pub ledger_added : (usages amount x y : ℤ) (s t : Account) → s ≡ currency_account key.currency
      → t ≡ market_account key.territory key.use_type key.currency → x ≡ usages → y ≡ amount
      → AddsPosting old.currencies new.currencies (posting role s (numbers x y)) → AddsPosting old.markets new.markets (posting role t (numbers x y))
      → new.parties ≡ old.parties → AddsLine old new (booked role (lines.Ledger key usages amount))
  ledger_added usages amount x y s t own_s own_t own_x own_y currency market same bs held =
      let b = booked role (lines.Ledger key usages amount) in
      record {
        currencies = posts to_currency bs b old.currencies new.currencies _ (λ i. posting role (sym own_s i) (numbers (sym own_x i) (sym own_y i)) ∷ []) currency held.currencies;
        markets = posts to_market bs b old.markets new.markets _ (λ i. posting role (sym own_t i) (numbers (sym own_x i) (sym own_y i)) ∷ []) market held.markets;
        parties = subst (λ book. HoldsPostings book (flat_map to_party (bs ++ b ∷ []))) (sym same) (stays to_party bs b old.parties refl held.parties);
      }

  pub party_added : (p : PartyLine) (x : ℤ) (s t : Account) → s ≡ currency_account key.currency → t ≡ party_account p.party key.currency → x ≡ p.amount
      → AddsPosting old.currencies new.currencies (posting role s (claimed x)) → AddsPosting old.parties new.parties (posting role t (numbers (pos 0) x))
      → new.markets ≡ old.markets → AddsLine old new (booked role (lines.Party key p))
  party_added p x s t own_s own_t own_x currency party same bs held =
      let b = booked role (lines.Party key p) in
      record {
        currencies = posts to_currency bs b old.currencies new.currencies _ (λ i. posting role (sym own_s i) (claimed (sym own_x i)) ∷ []) currency held.currencies;
        markets = subst (λ book. HoldsPostings book (flat_map to_market (bs ++ b ∷ []))) (sym same) (stays to_market bs b old.markets refl held.markets);
        parties = posts to_party bs b old.parties new.parties _ (λ i. posting role (sym own_t i) (numbers (pos 0) (sym own_x i)) ∷ []) party held.parties;
      }

  pub unclaimed_added : (amount x : ℤ) (s : Account) → s ≡ currency_account key.currency → x ≡ amount
      → AddsPosting old.currencies new.currencies (posting role s (unclaimed x)) → new.markets ≡ old.markets → new.parties ≡ old.parties
      → AddsLine old new (booked role (lines.Unclaimed key amount))
  unclaimed_added amount x s own_s own_x currency same_markets same_parties bs held =
      let b = booked role (lines.Unclaimed key amount) in
      record {
        currencies = posts to_currency bs b old.currencies new.currencies _ (λ i. posting role (sym own_s i) (unclaimed (sym own_x i)) ∷ []) currency held.currencies;
        markets = subst (λ book. HoldsPostings book (flat_map to_market (bs ++ b ∷ []))) (sym same_markets) (stays to_market bs b old.markets refl held.markets);
        parties = subst (λ book. HoldsPostings book (flat_map to_party (bs ++ b ∷ []))) (sym same_parties) (stays to_party bs b old.parties refl held.parties);
      }

both_true : (a b : Bool) → (a && b) ≡ true → (a ≡ true) × (b ≡ true)
both_true true b h = (refl, h)
both_true false b h = absurd (true≢false (sym h))

-- sums in range are so by currency, by market and by party
pub summable_parts : (bs : List Booked) → are_in_range bs ≡ true
    → (are_summable (flat_map to_currency bs) ≡ true) × (are_summable (flat_map to_market bs) ≡ true) × (are_summable (flat_map to_party bs) ≡ true)
unfolding are_in_range
summable_parts bs h =
    let a = both_true (are_summable (flat_map to_currency bs)) _ h in let b = both_true (are_summable (flat_map to_market bs)) _ a.1 in
    (a.0, b.0, b.1)
