use Rattle.dsr_ledger.proofs.Common.{refl, ap, position, bytes_eq, keys-with_value_at, summary_key_in, party_number, key_number, seat_of, recording_tally}
use Rattle.dsr_ledger.proofs.LedgerLemmas.{each_same, each_grows, recording_put}
use Rattle.dsr_ledger.proofs.ledger.Ledger.follow.Goals as goal

pub invariant_of-self : goal.invariant_of-self
invariant_of-self c =
    let e = c.pair_mut-found.ensures in
    recording_put c.args.self.now c.args.last _ c.pair_mut-found.result.1.now _ e.unique e.value (λ below. below) (λ below. below)

pub returns-then-last-len : goal.returns-then-last-len
returns-then-last-len c =
    let e = c.pair_mut-found.ensures in let l = c.args.self.now in let m = l.recordings in let k = c.pair_mut-found.result.0.now in
    let v = c.pair_mut-found.result.1.now in let party = party_number l in
    record {
      tallies = λ q. each_same m c.args.last k v _ e.unique e.value (recording_tally party (key_number l (summary_key_in q))) refl q.isrc;
      keys = refl;
      recordings = λ isrc. ap (position (bytes_eq isrc)) (keys-with_value_at m c.args.last _);
      seats = each_grows m c.args.last k v _ e.unique e.value (seat_of party) (λ q n is. is);
    }
