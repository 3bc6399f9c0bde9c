use Rattle.dsr_ledger.proofs.Common.{subst, [], ◌∷◌, ◌++◌, take, sym, ap, ◌∙◌, option_map, option_or, take_more, summary_key_named, named, state_at, found_in, no_sums, AreNumbered}
use Rattle.dsr_ledger.proofs.KeepsLemmas.{keys_stay, keys_twice}
use Rattle.dsr_ledger.proofs.OpeningLemmas.{none_numbered, numbered_push, found_in-push, sums_added}
use Rattle.dsr_ledger.proofs.file.open.states_of.Goals as goal

pub returns-in_err-key-clause-keeps : goal.returns-in_err-key-clause-keeps
returns-in_err-key-clause-keeps c = keys_twice _ _ _ c.loop-summary.invariant.keeps c.numbered_key.ensures.keeps

pub returns-in_err-add-clause-keeps : goal.returns-in_err-add-clause-keeps
returns-in_err-add-clause-keeps c = keys_twice _ _ _ c.loop-summary.invariant.keeps c.numbered_key.ensures.keeps

pub loop-summary-init : goal.loop-summary-init
loop-summary-init c =
    let none = c.in_ok-summaries.ensures in let was = c.args.ledger.now in
    record { keeps = keys_stay was; sums = λ id. ap (option_map (λ s. s.sums)) (none id); numbers = none_numbered was c.in_ok-summaries.summaries none }

pub loop-summary-preserved : goal.loop-summary-preserved
loop-summary-preserved c =
    let i = c.loop-summary.summary-index in let os = take i c.args.stated.now in
    let s = c.summary-item.result in let n = c.in_ok-key.key in let was = c.loop-summary.summaries in
    let more = take_more c.args.stated.now i s c.loop-summary-test.true ∙ ap (λ x. os ++ x ∷ []) (sym c.summary-item.is) in
    let before = c.loop-summary.invariant in let step = c.numbered_key.ensures.keeps in
    record {
      keeps = keys_twice c.args.ledger.now c.loop-summary.ledger c.numbered_key.new.ledger before.keeps step;
      sums = λ id. ap (option_map (λ x. x.sums)) (c.in_ok-add.ensures id) ∙ sums_added (state_at was id) n (named id s)
          ∙ ap (λ o. option_or o (option_map (λ x. no_sums) (named id s))) (before.sums id) ∙ sym (ap (λ l. found_in l [] id) more ∙ found_in-push id os s);
      numbers = subst (λ l. AreNumbered c.numbered_key.new.ledger (summary_key_named l) c.add.new.self) (sym more) (
          numbered_push c.loop-summary.ledger c.numbered_key.new.ledger n os s was c.add.new.self step.keys
          c.in_ok-key.ensures.there c.in_ok-add.ensures before.numbers);
    }
