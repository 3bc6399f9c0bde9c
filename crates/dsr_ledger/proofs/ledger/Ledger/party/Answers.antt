use Rattle.dsr_ledger.proofs.Common.{arith, common_steps, rules, ◌≡◌, ◌++◌, ◌∷◌, [], ap, ◌∙◌, cond, length, None, Some, position, bytes_eq, bytes_eq-Decides, summary_key_in, party_number, key_number}
use Rattle.dsr_ledger.proofs.NumberedLemmas.{place_more}
use Rattle.dsr_ledger.proofs.TextLemmas.{text_itself}
use Rattle.dsr_ledger.proofs.LedgerLemmas.{party_tally}
use Rattle.dsr_ledger.proofs.ledger.Ledger.party.Goals as goal

pub returns-clause-same : goal.returns-clause-same
returns-clause-same c = λ q.
    let l = c.args.self.now in let ks = l.parties.keys in let name = c.args.name.now in let none : party_number l name ≡ None = search rules in
    let all : c.insert.new.self.keys ≡ ks ++ name ∷ [] = search rules in
    party_tally (party_number l) (λ x. position (bytes_eq x) c.insert.new.self.keys) name (length ks) none
    (λ x. ap (position (bytes_eq x)) all ∙ place_more bytes_eq bytes_eq-Decides ks name x none) (key_number l (summary_key_in q)) _ (l.seated q.isrc)

pub returns-clause-there : goal.returns-clause-there
returns-clause-there c =
    let l = c.args.self.now in let ks = l.parties.keys in let name = c.args.name.now in let none : party_number l name ≡ None = search rules in
    let all : c.insert.new.self.keys ≡ ks ++ name ∷ [] = search rules in let long : length ks ≡ c.in_ok-number.number = search rules in
    ap (position (bytes_eq name)) all ∙ place_more bytes_eq bytes_eq-Decides ks name name none
    ∙ ap (λ b. cond b (Some (length ks)) (party_number l name)) (text_itself name) ∙ ap Some long

pub returns-clause-seats : goal.returns-clause-seats
returns-clause-seats c = grind (arith, common_steps)
