use Rattle.dsr_ledger.proofs.Common.{arith, common_steps, ◌≡◌, refl, sym, ap, subst, ◌∙◌, length, map, position, bytes_eq, keys-with_value_at, Line, AreBelow, place_in, place_by, option_and_then, part_of, seat_numbers, summary_key_eq, summary_key_in, Tally, line_keys, line_tally, tally_with, TallyFits, party_number, key_number, seat_of, recording_tally}
use Rattle.dsr_ledger.proofs.LedgerLemmas.{changed_at, each_same, each_wide, recording_put, summary_keys_are_numbered, line_changed, line_here}
use Rattle.dsr_ledger.proofs.NumberedLemmas.{numbers_kept}
use Rattle.dsr_ledger.proofs.RecordingLemmas.{key_of, line_put, wide_written, wide_below, wide_here}
use Rattle.dsr_ledger.proofs.ledger.Ledger.add.Goals as goal

pub index_mut-line-requires : goal.index_mut-line-requires
index_mut-line-requires c =
    let e = c.pair_mut-found.ensures in let p = c.requires.fits in let v = c.pair_mut-found.result.1.now in let ss = c.args.shares.now in
    let h = line_here c.args.self.now c.args.recording _ v e.unique e.value p.0 p.2 ss p.1 c.args.line p.3 in
    let below = wide_below ss v.lines.items c.args.line h.wide in grind (arith, common_steps)

pub add-requires-clause-fits : goal.add-requires-clause-fits
add-requires-clause-fits c =
    let e = c.pair_mut-found.ensures in let p = c.requires.fits in let v = c.pair_mut-found.result.1.now in
    let h = line_here c.args.self.now c.args.recording _ v e.unique e.value p.0 p.2 c.args.shares.now p.1 c.args.line p.3 in
    let fits = subst (TallyFits 1) (h.tally c.index_mut-line.result.now c.index_mut-line.ensures.value) p.4 in
    record { usages = fits.usages; amount = fits.amount }

pub add-requires-2 : goal.add-requires-2
add-requires-2 c =
    let e = c.pair_mut-found.ensures in let p = c.requires.fits in let v = c.pair_mut-found.result.1.now in let ss = c.args.shares.now in
    let h = line_here c.args.self.now c.args.recording _ v e.unique e.value p.0 p.2 ss p.1 c.args.line p.3 in
    let fits = subst (TallyFits 1) (h.tally c.index_mut-line.result.now c.index_mut-line.ensures.value) p.4 in
    record {
      wide = wide_here ss v.lines.items c.args.line c.index_mut-line.result.now h.wide c.index_mut-line.ensures.value;
      fits = (length (seat_numbers v.seats), seat_of (party_number c.args.self.now) v, p.2, h.have, p.5, fits.owed);
      spare = omega (arith, c.requires.spare, c.add.ensures.spares);
    }

pub invariant_of-found : goal.invariant_of-found
invariant_of-found c =
    let e = c.pair_mut-found.ensures in let p = c.requires.fits in let v = c.pair_mut-found.result.1.now in let i = c.args.line in
    let w : Line = record { sums = c.add.new.self; parts = c.add-2.new.self } in let ss = c.args.shares.now in
    let h = line_here c.args.self.now c.args.recording _ v e.unique e.value p.0 p.2 ss p.1 i p.3 in
    line_put v i c.index_mut-line.result.now w (wide_below ss v.lines.items i h.wide) c.index_mut-line.ensures.value (ap (λ s. s.key) c.add.ensures.sums)
    (subst (AreBelow (length (seat_numbers v.seats))) (sym c.add-2.ensures.seats))

pub invariant_of-self : goal.invariant_of-self
invariant_of-self c =
    let e = c.pair_mut-found.ensures in let l = c.args.self.now in let v = c.pair_mut-found.result.1.now in let x = c.index_mut-line.result.now in
    let kept = numbers_kept key_of v.lines.items c.args.line x _ c.index_mut-line.ensures.value (ap (λ s. s.key) c.add.ensures.sums) in
    recording_put l c.args.recording c.pair_mut-found.result.0.now v _ e.unique e.value (λ below. below)
    (subst (AreBelow (length l.summary_keys.keys)) (sym kept))

pub returns-clause-numbers : goal.returns-clause-numbers
returns-clause-numbers c =
    let e = c.pair_mut-found.ensures in let l = c.args.self.now in let m = l.recordings in let k = c.pair_mut-found.result.0.now in
    let v = c.pair_mut-found.result.1.now in let ls = v.lines.items in let i = c.args.line in let p = c.requires.fits in let ss = c.args.shares.now in
    let x = c.index_mut-line.result.now in let w : Line = record { sums = c.add.new.self; parts = c.add-2.new.self } in
    let is = c.index_mut-line.ensures.value in
    let h = line_here l c.args.recording k v e.unique e.value p.0 p.2 ss p.1 i p.3 in
    record {
      keys = refl;
      recordings = λ isrc. ap (position (bytes_eq isrc)) (keys-with_value_at m c.args.recording _);
      seats = λ isrc name. each_same m c.args.recording k v _ e.unique e.value (option_and_then (λ r. seat_of (party_number l) r name)) refl isrc;
      lines = λ isrc key. each_same m c.args.recording k v _ e.unique e.value (option_and_then (λ r. place_by (key_number l) (line_keys r.lines.items) key))
          (ap (λ ks. place_by (key_number l) ks key) (numbers_kept key_of ls i x w is (ap (λ s. s.key) c.add.ensures.sums))) isrc;
      wide = each_wide m c.args.recording k v _ e.unique e.value (wide_written ls i x w (wide_below ss ls i h.wide) is
          (λ q j there. ap (λ ns. place_in ns q) c.add-2.ensures.seats ∙ there));
    }

pub returns-clause-tally : goal.returns-clause-tally
returns-clause-tally c = λ isrc key es is q.
    let e = c.pair_mut-found.ensures in let l = c.args.self.now in let m = l.recordings in let k = c.pair_mut-found.result.0.now in
    let v = c.pair_mut-found.result.1.now in let party = party_number l in let number = key_number l in let seat = seat_of party v in
    let f : Tally → Tally = tally_with c.args.usage.now (map (part_of c.args.usage.now.amount) es) in let sums = c.add.ensures.sums in
    let h = line_here l c.args.recording k v e.unique e.value isrc es c.args.shares.now key c.args.line is in
    let x = c.index_mut-line.result.now in let w : Line = record { sums = c.add.new.self; parts = c.add-2.new.self } in
    let change : line_tally seat w ≡ f (line_tally seat x) = λ j. record {
      is_booked = (sums j).is_booked;
      usages = (sums j).usages;
      amount = (sums j).amount;
      owed = λ o. c.add-2.ensures.owed (length (seat_numbers v.seats)) seat es h.have o j;
    } in
    changed_at m c.args.recording k v _ e.unique e.value (recording_tally party (number (summary_key_in q))) (summary_key_eq key (summary_key_in q)) f isrc
    is.recording_is (line_changed number (length l.summary_keys.keys) (summary_keys_are_numbered l.summary_keys.keys) seat f v.lines.items c.args.line x w key
    c.index_mut-line.ensures.value (ap (λ s. s.key) sums) change h.place (summary_key_in q)) q.isrc

pub pair_mut-found-requires : goal.pair_mut-found-requires
pair_mut-found-requires c = grind (arith, common_steps)
