use Rattle.dsr_ledger.proofs.Common.{common_steps, ◌≡◌, List, suc, ◌+◌, [], ◌∷◌, ◌++◌, length, take, drop, get_or, cond, sym, ap, ◌∙◌, subst, arith, ◌^◌, Some, map, ◌+ℤ◌, slice_get, refill, w128, FitsSigned, bytes_eq, take_all, map-append, length-map, take-append_seam, slice_get-get_or, AllZip-long, SeatPart, SeatShare, AreIndexed, AreApart, part_seats, owed_in, owed_plus, owed_for, owed_with, part_of, rounded, IsSeated}
use Rattle.dsr_ledger.proofs.TallyLemmas.{part_fits, owed_more}
use Rattle.dsr_ledger.proofs.PartLemmas.{seat_of_part, prefix_size}
use Rattle.dsr_ledger.proofs.SeatedLemmas.{zip_step, take_next}
use Rattle.dsr_ledger.proofs.ledger.parts.Parts.add.Goals as goal

-- a slice that is lent whole is given back whole
given_back : (ps ws : List SeatPart) → part_seats ws ≡ part_seats ps → refill (length ps) ps ws ≡ ws
given_back ps ws seats =
    let long = sym (length-map ps seat_of_part) ∙ ap length (sym seats) ∙ length-map ws seat_of_part in
    ap (λ n. take n (ws ++ drop (length ws) ps)) long ∙ take-append_seam ws (drop (length ws) ps)

abbrev none : SeatShare
none = record { seat = 0; share = 0 }

pub add_share-next-requires-clause-fits : goal.add_share-next-requires-clause-fits
add_share-next-requires-clause-fits c =
    let i = c.loop-share.share-index in let s = get_or c.args.shares.now i none in let p = c.requires.fits in let a = c.args.amount in
    let at : slice_get c.args.shares.now i ≡ Some s = slice_get-get_or c.args.shares.now i none c.loop-share-test.true in
    let z = zip_step (IsSeated p.1) c.args.shares.now p.2 i s p.3.seated at in
    let q = z.other.0 in let x = part_of a z.other in let size = prefix_size a p.2 i z.other z.there in let most = p.4 in
    let fits = part_fits (owed_in c.loop-share.parts (p.1 q)) (owed_in c.args.self.now.items.items (p.1 q)) q (map (part_of a) (take i p.2)) (rounded x)
    (10 ^ 22) (c.loop-share.invariant.owed p.0 p.1 p.2 p.3 q) (omega arith) (p.5 q) in
    subst (λ n. FitsSigned w128 ((owed_in c.loop-share.parts (Some s.seat)).amount +ℤ rounded (part_of a (q, n)))) (sym z.related.1) (
    subst (λ o. FitsSigned w128 ((owed_in c.loop-share.parts o).amount +ℤ rounded x)) z.related.0 fits)

pub loop-share-preserved : goal.loop-share-preserved
loop-share-preserved c =
    let i = c.loop-share.share-index in let s = get_or c.args.shares.now i none in let a = c.args.amount in let next : i + 1 ≡ suc i = omega arith in
    let at : slice_get c.args.shares.now i ≡ Some s = slice_get-get_or c.args.shares.now i none c.loop-share-test.true in let before = c.loop-share.invariant in
    record {
      spares = omega (arith, before.spares, c.add_share-next.ensures.spares);
      seats = c.add_share-next.ensures.seats ∙ before.seats;
      owed = λ n seat es have q.
          let z = zip_step (IsSeated seat) c.args.shares.now es i s have.seated at in
          let x = part_of a z.other in let old = owed_in c.loop-share.parts (seat q) in
          owed_more old (owed_in c.add_share-next.new.parts (seat q)) (owed_in c.args.self.now.items.items (seat q)) q (map (part_of a) (take i es)) x
          (before.owed n seat es have q) (c.add_share-next.ensures.part n seat z.other.0 have.numbered z.related.0 q
          ∙ ap (λ m. cond (bytes_eq z.other.0 q) (owed_with (rounded (part_of a (z.other.0, m))) old) old) z.related.1)
          ∙ ap (λ ps. owed_plus (owed_in c.args.self.now.items.items (seat q)) (owed_for q ps))
          (sym (ap (map (part_of a)) (ap (λ m. take m es) next ∙ take_next es i z.other z.there) ∙ map-append (part_of a) (take i es) (z.other ∷ [])));
    }

pub returns-clause-owed : goal.returns-clause-owed
returns-clause-owed c = λ n seat es have q.
    let ps = c.args.self.now.items.items in let h = c.loop-share.invariant in let done = c.loop-share-test.false in
    let long = AllZip-long (IsSeated seat) c.args.shares.now es have.seated in
    ap (λ ws. owed_in ws (seat q)) (given_back ps c.loop-share.parts h.seats) ∙ h.owed n seat es have q
    ∙ ap (λ l. owed_plus (owed_in ps (seat q)) (owed_for q (map (part_of c.args.amount) l))) (take_all c.loop-share.share-index es (omega arith))

pub add_share-next-requires-clause-indexed : goal.add_share-next-requires-clause-indexed
add_share-next-requires-clause-indexed c =
    subst (λ ns. AreIndexed ns c.args.self.now.index) (sym c.loop-share.invariant.seats) c.args.self.now.indexed

pub add_share-next-requires-clause-has_part : goal.add_share-next-requires-clause-has_part
add_share-next-requires-clause-has_part c = grind (arith, common_steps)

pub invariant_of-self : goal.invariant_of-self
invariant_of-self c =
    let s = c.args.self.now in let seats = c.loop-share.invariant.seats in
    let same = sym (ap part_seats (given_back s.items.items c.loop-share.parts seats) ∙ seats) in
    record { apart = subst AreApart same s.apart; indexed = subst (λ ns. AreIndexed ns s.index) same s.indexed }
