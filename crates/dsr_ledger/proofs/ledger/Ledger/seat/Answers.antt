use Rattle.dsr_ledger.proofs.Common.{arith, common_steps, refl, ap, ◌∙◌, length, option_and_then, position, bytes_eq, IfOk-weaker, index_of, keys-with_value_at, place_in, seat_numbers, summary_key_in, party_number, key_number, seat_of, recording_tally, KeepsSeats}
use Rattle.dsr_ledger.proofs.KeepsLemmas.{seats_twice}
use Rattle.dsr_ledger.proofs.RecordingLemmas.{below_with}
use Rattle.dsr_ledger.proofs.LedgerLemmas.{put_here, each_same, each_grows, recording_put, parties_are_numbered, seated_tally, seated_grows}
use Rattle.dsr_ledger.proofs.ledger.Ledger.seat.Goals as goal

pub invariant_of-self : goal.invariant_of-self
invariant_of-self c =
    let e = c.pair_mut-found.ensures in let l = c.party.new.self in let v = c.pair_mut-found.result.1.now in let n = c.in_ok-party.party in
    let below = (parties_are_numbered l.parties.keys).below c.args.name.now n c.in_ok-party.ensures.there in
    recording_put l c.args.recording _ v _ e.unique e.value
    (below_with (seat_numbers v.seats) (seat_numbers c.seat.new.self) n (length l.parties.keys) c.seat.ensures.more below) (λ old. old)

pub returns-clause-keeps : goal.returns-clause-keeps
returns-clause-keeps c =
    let e = c.pair_mut-found.ensures in let l = c.party.new.self in let m = l.recordings in let k = c.pair_mut-found.result.0.now in
    let v = c.pair_mut-found.result.1.now in let w = c.seat.new.self in let n = c.in_ok-party.party in let party = party_number l in
    let all = length l.parties.keys in let numbered = parties_are_numbered l.parties.keys in let there = c.in_ok-party.ensures.there in
    let name = c.args.name.now in
    let kept : KeepsSeats c.args.self.now l = record {
      tallies = c.party.ensures.same;
      keys = c.party.ensures.keys;
      recordings = λ isrc. ap (λ rs. index_of bytes_eq rs isrc) c.party.ensures.recordings;
      seats = λ isrc q i e. c.party.ensures.seats isrc q ∙ e;
    } in
    seats_twice c.args.self.now l _ kept (record {
      tallies = λ q.
          let number = key_number l (summary_key_in q) in
          each_same m c.args.recording k v _ e.unique e.value (recording_tally party number)
          (seated_tally party all numbered v w name n there c.seat.ensures.more number) q.isrc;
      keys = refl;
      recordings = λ isrc. ap (position (bytes_eq isrc)) (keys-with_value_at m c.args.recording _);
      seats = each_grows m c.args.recording k v _ e.unique e.value (seat_of party) (seated_grows party all numbered v w name n there c.seat.ensures.more);
    })

pub returns-clause-there : goal.returns-clause-there
returns-clause-there c = λ isrc is.
    let e = c.pair_mut-found.ensures in let l = c.party.new.self in
    let at = ap (λ rs. index_of bytes_eq rs isrc) c.party.ensures.recordings ∙ is in
    IfOk-weaker c.seat.result _ _ (λ s h. ap (option_and_then (λ r. seat_of (party_number l) r c.args.name.now))
    (put_here l.recordings c.args.recording _ c.pair_mut-found.result.1.now _ e.unique e.value isrc at)
    ∙ ap (option_and_then (place_in (seat_numbers c.seat.new.self))) c.in_ok-party.ensures.there ∙ h) c.seat.ensures.there

pub pair_mut-found-requires : goal.pair_mut-found-requires
pair_mut-found-requires c = grind (arith, common_steps)
