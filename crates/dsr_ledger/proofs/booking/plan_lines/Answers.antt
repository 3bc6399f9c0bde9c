use Rattle.dsr_ledger.proofs.Common.{sym, ◌++◌, ◌≡◌, suc, ◌+◌, [], ◌∷◌, take, get_or, ap, ◌∙◌, subst, arith, Some, slice_get, bytes_eq, take_all, Found-position, slice_get-get_or, Usage, IsLined, AreLined, seat_at, index_at}
use Rattle.dsr_ledger.proofs.KeepsLemmas.{lines_twice, lined_grows}
use Rattle.dsr_ledger.proofs.SeatedLemmas.{zip_append, item_at, take_next, values_long, seated_grows}
use Rattle.dsr_ledger.proofs.OpeningLemmas.{key_here}
use Rattle.dsr_ledger.proofs.booking.plan_lines.Goals as goal

pub key-key-requires : goal.key-key-requires
key-key-requires c =
    let n = get_or c.args.numbers.now c.loop-number.number-index 0 in
    let at = slice_get-get_or c.args.numbers.now c.loop-number.number-index 0 c.loop-number-test.true in let p = c.requires.named in
    let x = item_at (λ (u : Usage). index_at c.args.summaries.now u.summary_id) p.1 c.args.numbers.now p.3 c.loop-number.number-index n at in
    (Found-position (bytes_eq x.0.summary_id) c.args.summaries.now.states.entries n x.2).within

pub line-requires-clause-there : goal.line-requires-clause-there
line-requires-clause-there c =
    let p = c.requires.there in let keeps = c.loop-number.invariant.keeps in let was = seat_at c.args.ledger.now p.0 in
    let seated = seated_grows was (seat_at c.loop-number.ledger p.0) (λ q i e. keeps.seats p.0 q ∙ e) c.args.shares.now p.1 p.3 in
    (p.0, p.1, keeps.recordings p.0 ∙ p.2, seated)

pub line-requires-clause-known : goal.line-requires-clause-known
line-requires-clause-known c =
    let n = get_or c.args.numbers.now c.loop-number.number-index 0 in
    let at = slice_get-get_or c.args.numbers.now c.loop-number.number-index 0 c.loop-number-test.true in let p = c.requires.named in
    let m = c.args.summaries.now in let x = item_at (λ (u : Usage). index_at m u.summary_id) p.1 c.args.numbers.now p.3 c.loop-number.number-index n at in
    let id = x.0.summary_id in
    let key = key_here c.args.ledger.now c.loop-number.ledger p.0 m id c.key-key.result c.loop-number.invariant.keeps.keys p.2 (c.key-key.ensures id x.2) in
    (key.0, key.2)

pub returns-in_err-line-clause-keeps : goal.returns-in_err-line-clause-keeps
returns-in_err-line-clause-keeps c = lines_twice c.args.ledger.now c.loop-number.ledger c.line.new.self c.loop-number.invariant.keeps c.line.ensures.keeps

pub returns-in_err-push-clause-keeps : goal.returns-in_err-push-clause-keeps
returns-in_err-push-clause-keeps c = lines_twice c.args.ledger.now c.loop-number.ledger c.line.new.self c.loop-number.invariant.keeps c.line.ensures.keeps

pub loop-number-preserved : goal.loop-number-preserved
loop-number-preserved c =
    let i = c.loop-number.number-index in let n = get_or c.args.numbers.now i 0 in let next : i + 1 ≡ suc i = omega arith in
    let at : slice_get c.args.numbers.now i ≡ Some n = slice_get-get_or c.args.numbers.now i 0 c.loop-number-test.true in
    let before = c.loop-number.invariant in let keeps = c.line.ensures.keeps in let was = c.loop-number.ledger in let is = c.line.new.self in
    let ss = c.args.shares.now in let m = c.args.summaries.now in
    record {
      keeps = lines_twice c.args.ledger.now was is before.keeps keeps;
      lined = λ isrc place us there numbered named.
          let x = item_at (λ (u : Usage). index_at m u.summary_id) us c.args.numbers.now named i n at in let id = x.0.summary_id in
          let key = key_here c.args.ledger.now was place m id c.key-key.result before.keeps.keys numbered (c.key-key.ensures id x.2) in
          let found = c.in_ok-line.ensures.there isrc key.0 (before.keeps.recordings isrc ∙ there) key.2 in
          let one : IsLined is isrc ss (place id) c.in_ok-line.line = record { summary_key = key.0; key_is = key.1; line_is = found.0; wide = found.1 } in
          let all = lined_grows was is isrc ss place (keeps.lines isrc) (keeps.wide isrc ss) (take i us) c.loop-number.plan.items
          (before.lined isrc place us there numbered named) in
          subst (λ l. AreLined is place isrc ss l c.push.new.self.items) (sym (ap (λ k. take k us) next ∙ take_next us i x.0 x.1)) (
          subst (AreLined is place isrc ss (take i us ++ x.0 ∷ [])) (sym c.in_ok-push.ensures.items) (
          zip_append (λ (u : Usage) k. IsLined is isrc ss (place u.summary_id) k) (take i us) (x.0 ∷ []) c.loop-number.plan.items (c.in_ok-line.line ∷ [])
          all (one, tt)));
    }

pub returns-clause-lined : goal.returns-clause-lined
returns-clause-lined c = λ isrc place us there numbered named.
    let long = values_long (λ (u : Usage). index_at c.args.summaries.now u.summary_id) us c.args.numbers.now named in let test = c.loop-number-test.false in
    subst (λ l. AreLined c.loop-number.ledger place isrc c.args.shares.now l c.loop-number.plan.items)
    (take_all c.loop-number.number-index us (omega arith)) (c.loop-number.invariant.lined isrc place us there numbered named)
