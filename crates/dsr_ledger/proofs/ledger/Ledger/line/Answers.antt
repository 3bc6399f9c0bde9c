use Rattle.dsr_ledger.proofs.Common.{arith, common_steps, ℕ, refl, sym, ap, subst, ◌∙◌, length, option_and_then, position, bytes_eq, same_Some, IfOk-weaker, keys-with_value_at, Recording, place_in, place_by, seat_numbers, summary_key_in, line_keys, lines_tally, IsWide, party_number, key_number, seat_of, recording_tally}
use Rattle.dsr_ledger.proofs.RecordingLemmas.{below_with}
use Rattle.dsr_ledger.proofs.LedgerLemmas.{put_here, each_same, each_grows, each_wide, have_here, recording_put, summary_keys_are_numbered}
use Rattle.dsr_ledger.proofs.SeatedLemmas.{seats_below}
use Rattle.dsr_ledger.proofs.ledger.Ledger.line.Goals as goal

pub line-requires : goal.line-requires
line-requires c =
    let e = c.pair_mut-found.ensures in let v = c.pair_mut-found.result.1.now in let p = c.requires.there in let ss = c.args.shares.now in
    let have = have_here c.args.self.now c.args.recording _ v e.unique e.value p.0 p.1 ss p.2 p.3 in
    seats_below _ (length (seat_numbers v.seats)) have.numbered.below ss p.1 have.seated

pub invariant_of-self : goal.invariant_of-self
invariant_of-self c =
    let e = c.pair_mut-found.ensures in let l = c.args.self.now in let v = c.pair_mut-found.result.1.now in let w = c.line.new.self in
    let below = (summary_keys_are_numbered l.summary_keys.keys).below c.requires.known.0 c.args.number c.requires.known.1 in
    recording_put l c.args.recording _ v w e.unique e.value (λ old. rw c.line.ensures.seats old)
    (below_with (line_keys v.lines.items) (line_keys w.lines.items) c.args.number (length l.summary_keys.keys) c.line.ensures.keys below)

pub returns-clause-keeps : goal.returns-clause-keeps
returns-clause-keeps c =
    let e = c.pair_mut-found.ensures in let l = c.args.self.now in let m = l.recordings in let i = c.args.recording in let k = c.pair_mut-found.result.0.now in
    let v = c.pair_mut-found.result.1.now in let w = c.line.new.self in let party = party_number l in let grow = c.line.ensures.grows in
    let seat = ap (λ ss. place_by party (seat_numbers ss)) c.line.ensures.seats in
    record {
      tallies = λ q.
          let number = key_number l (summary_key_in q) in
          each_same m i k v w e.unique e.value (recording_tally party number)
          (ap (λ s. lines_tally s w.lines.items number) seat ∙ grow.tallies (seat_of party v) number) q.isrc;
      keys = refl;
      recordings = λ isrc. ap (position (bytes_eq isrc)) (keys-with_value_at m i w);
      seats = λ isrc name. each_same m i k v w e.unique e.value (option_and_then (λ r. seat_of party r name)) (ap (λ s. s name) seat) isrc;
      lines = each_grows m i k v w e.unique e.value (λ r. place_by (key_number l) (line_keys r.lines.items))
          (λ key n at. grind (arith, λ (x : ℕ). grow.numbers x n));
      wide = each_wide m i k v w e.unique e.value grow.wide;
    }

pub returns-clause-there : goal.returns-clause-there
returns-clause-there c = λ isrc key is known.
    let e = c.pair_mut-found.ensures in let l = c.args.self.now in let w = c.line.new.self in
    let put = put_here l.recordings c.args.recording _ c.pair_mut-found.result.1.now w e.unique e.value isrc is in
    IfOk-weaker c.line.result _ _ (λ i h. (
      ap (option_and_then (λ r. place_by (key_number l) (line_keys r.lines.items) key)) put ∙ ap (option_and_then (place_in (line_keys w.lines.items))) known
          ∙ h.0,
      λ r found. subst (λ (x : Recording). IsWide c.args.shares.now x.lines.items i) (same_Some w r (sym put ∙ found)) h.1,
    )) c.line.ensures.there

pub pair_mut-found-requires : goal.pair_mut-found-requires
pair_mut-found-requires c = grind (arith, common_steps)
