use Rattle.dsr_ledger.proofs.Common.{arith, common_steps, ◌≡◌, ℕ, List, refl, ap, sym, subst, ◌∙◌, rules, true, Some, slice_get, option_and_then, bytes_eq, nat_list_eq_equiv, bytes_eq-Decides, slice_get_read, IsUnique, place_in, seat_numbers, party_number, seat_of}
use Rattle.indexmap.specs.IndexSet.{IsUnique as IsUniqueSet}
use Rattle.dsr_ledger.proofs.TextLemmas.{same_text}
use Rattle.dsr_ledger.proofs.IndexMapLemmas.{number_at, value_here}
use Rattle.dsr_ledger.proofs.ledger.Ledger.hinted_seat.Goals as goal

pub returns-then-eq : goal.returns-then-eq
returns-then-eq c = λ isrc is.
    let l = c.args.self.now in let m = l.recordings in let k = c.in_ok-found.field-0-0.now in let v = c.in_ok-found.found.now in
    let n = c.in_ok-party.party.now in let text = c.in_ok-named.named.now in let unique : IsUnique bytes_eq m = search rules in
    let apart : IsUniqueSet bytes_eq l.parties = search rules in let at : slice_get m.entries c.args.recording ≡ Some (k, v) = search rules in
    let sat = c.in_ok-party.ensures.lookup in
    let seat : slice_get (seat_numbers v.seats) c.args.hint ≡ Some n =
    subst (λ (ns : List ℕ). slice_get ns c.args.hint ≡ Some n) c.as_slice-2.ensures.value (slice_get_read _ _ c.args.hint n refl sat.3.0 sat.1) in
    let alike : bytes_eq text c.args.name.now ≡ true = search rules in let called = c.in_ok-named.ensures.lookup in
    let named : slice_get l.parties.keys n ≡ Some text =
    subst (λ (ks : List (List ℕ)). slice_get ks n ≡ Some text) c.as_slice-3.ensures.keys (slice_get_read _ _ n text refl called.3.0 called.1) in
    let number = ap (party_number l) (sym (same_text text c.args.name.now alike)) ∙ number_at bytes_eq bytes_eq-Decides l.parties.keys n text apart named in
    ap (option_and_then (λ r. seat_of (party_number l) r c.args.name.now))
    (value_here bytes_eq bytes_eq-Decides nat_list_eq_equiv m c.args.recording k v unique at isrc is)
    ∙ ap (option_and_then (place_in (seat_numbers v.seats))) number ∙ v.seats.apart c.args.hint n seat

pub returns-in_err-party : goal.returns-in_err-party
returns-in_err-party c = grind (arith, common_steps)
