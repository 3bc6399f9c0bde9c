use Rattle.dsr_ledger.proofs.Common.{rules, ◌≡◌, ℕ, Option, SummaryKey, ◌++◌, ◌∷◌, [], refl, ap, ◌∙◌, cond, length, None, Some, position, summary_key_eq, summary_key_in, key_number, party_number}
use Rattle.dsr_ledger.proofs.NumberedLemmas.{place_more}
use Rattle.dsr_ledger.proofs.KeyLemmas.{same_summary_key}
use Rattle.dsr_ledger.proofs.LedgerLemmas.{key_tally, keys_grow}
use Rattle.dsr_ledger.proofs.KeepsLemmas.{keys_stay}
use Rattle.dsr_ledger.proofs.ledger.Ledger.summary_key.Goals as goal

pub returns-clause-there : goal.returns-clause-there
returns-clause-there c =
    let l = c.args.self.now in let ks = l.summary_keys.keys in let key = c.args.key in let none : key_number l key ≡ None = search rules in
    let all : c.insert.new.self.keys ≡ ks ++ key ∷ [] = search rules in let long : length ks ≡ c.in_ok-number.number = search rules in
    ap (position (summary_key_eq key)) all ∙ place_more summary_key_eq same_summary_key ks key key none
    ∙ ap (λ b. cond b (Some (length ks)) (key_number l key)) ((same_summary_key key key).1 refl) ∙ ap Some long

pub returns-clause-keeps : goal.returns-clause-keeps
returns-clause-keeps c =
    let l = c.args.self.now in let ks = l.summary_keys.keys in let key = c.args.key in let none : key_number l key ≡ None = search rules in
    let all : c.insert.new.self.keys ≡ ks ++ key ∷ [] = search rules in
    let new : SummaryKey → Option ℕ = λ q. position (summary_key_eq q) c.insert.new.self.keys in
    let more : (q : SummaryKey) → new q ≡ cond (summary_key_eq key q) (Some (length ks)) (key_number l q) =
    λ q. ap (position (summary_key_eq q)) all ∙ place_more summary_key_eq same_summary_key ks key q none in
    record {
      tallies = λ q. key_tally (key_number l) new key (length ks) none more (party_number l) (summary_key_in q) _ (l.keyed q.isrc);
      keys = keys_grow (key_number l) new key (length ks) none more;
    }

pub returns-in-Some-clause-keeps : goal.returns-in-Some-clause-keeps
returns-in-Some-clause-keeps c = keys_stay c.args.self.now

pub returns-in_err-number-clause-keeps : goal.returns-in_err-number-clause-keeps
returns-in_err-number-clause-keeps c = keys_stay c.args.self.now
