use Rattle.dsr_ledger.proofs.Common.{rules, subst, sym, ◌≡◌, ℕ, List, ◌++◌, ◌∷◌, [], ap, ◌∙◌, cond, length, None, Some, position, keys_of, lookup, bytes_eq, map-append, length-map, bytes_eq-Decides, on_ok_weaker, on_err_weaker, get, keys, index_of, IsUnchanged, Updates, insert_entry-new, Recording, AreBelow, seat_numbers, line_keys}
use Rattle.dsr_ledger.proofs.NumberedLemmas.{place_more}
use Rattle.dsr_ledger.proofs.TextLemmas.{text_itself}
use Rattle.dsr_ledger.proofs.LedgerLemmas.{each_inserted}
use Rattle.dsr_ledger.proofs.ledger.Ledger.recording_of.Goals as goal

pub invariant_of-self : goal.invariant_of-self
invariant_of-self c =
    let l = c.args.self.now in let w = c.in_ok-made.made in let old = get bytes_eq l.recordings in let new = get bytes_eq c.insert.new.self in
    let made : Updates bytes_eq l.recordings c.insert.new.self c.args.isrc (Some w) → (q : List ℕ) → new q ≡ cond (bytes_eq c.args.isrc q) (Some w) (old q) =
    λ u. u.0 in
    let same : IsUnchanged l.recordings c.insert.new.self → (q : List ℕ) → new q ≡ old q = λ e q. ap (λ es. lookup (bytes_eq q) es) e in
    let ok = on_ok_weaker c.insert.result made c.insert.ensures.updates in let err = on_err_weaker c.insert.result same c.insert.ensures.err in
    let n = length l.parties.keys in let k = length l.summary_keys.keys in
    record {
      seated = each_inserted c.insert.result c.args.isrc w old new ok err (λ r. AreBelow n (seat_numbers r.seats)) l.seated
          (subst (AreBelow n) (sym c.in_ok-made.ensures.seats) (λ p i e. absurd (cc)));
      keyed = each_inserted c.insert.result c.args.isrc w old new ok err (λ r. AreBelow k (line_keys r.lines.items)) l.keyed
          (subst (λ ls. AreBelow k (line_keys ls)) (sym c.in_ok-made.ensures.lines) (λ p i e. absurd (cc)));
    }

pub returns-clause-there : goal.returns-clause-there
returns-clause-there c =
    let m = c.args.self.now.recordings in let isrc = c.args.isrc in let none : index_of bytes_eq m isrc ≡ None = search rules in
    let absent : get bytes_eq m isrc ≡ None = search rules in let long : length m.entries ≡ c.len-number.result = search rules in
    let all : keys c.insert.new.self ≡ keys m ++ isrc ∷ [] =
    ap (λ es. keys_of es) (c.in_ok-_none.ensures.entries ∙ insert_entry-new bytes_eq m isrc c.in_ok-made.made absent)
    ∙ map-append (λ (e : List ℕ × Recording). e.0) m.entries ((isrc, c.in_ok-made.made) ∷ []) in
    ap (position (bytes_eq isrc)) all ∙ place_more bytes_eq bytes_eq-Decides (keys m) isrc isrc none
    ∙ ap (λ b. cond b (Some (length (keys m))) (index_of bytes_eq m isrc)) (text_itself isrc)
    ∙ ap Some (length-map m.entries (λ (e : List ℕ × Recording). e.0) ∙ long)
