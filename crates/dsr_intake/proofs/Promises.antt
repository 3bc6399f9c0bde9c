-- A thread's list of events, by the result of reading its file.
use Rattle.dsr_intake.proofs.Common.{arith, ◌≡◌, ◌∙◌, Bool, true, false, sym, has_ended, List, [], ◌∷◌, ◌++◌, inl, inr, ap, refl, Result, Ok, Err, IfErr, IfOk, OnOk, Outcome, Placed, Told, run_orderly, Options, ends_clean, IsGiven}
use Rattle.dsr_file.specs.declared.reading.ReadFileError.{ReadFileError}
use Rattle.dsr_file.specs.declared.reading.ReadFileError.TheVariants.{Memory, Refused}
use Rattle.dsr_file.specs.layer.Sources.{IsRead, IsRefusal}
use Rattle.dsr_file.proofs.FeedLemmas.{known_run}
use Rattle.dsr_file.specs.layer.Runs.{EndsWith}
use Rattle.dsr_events.specs.layer.Names.{is_memory}
use Rattle.std.specs.Prelude.{not}
use Rattle.dsr_intake.specs.inner.Collecting.{was_refused_memory}
use Rattle.dsr_intake.proofs.EndLemmas.{clean_is_whole, ends_clean_push, memory_is_unclean}
use Rattle.dsr_relay.proofs.Taking.{going_on}

module _ (options : Options) (before after : Told) (sent : List Placed) where
  pub given_from_unclean : ends_clean sent ≡ false → IsGiven options before after sent
  given_from_unclean h = record { given = λ clean. cc }

  pub given_from_answer : (answer : Result Outcome ReadFileError)
      → OnOk answer (IsRead options.layout options.max_reads before after sent) → IfErr answer (IsRefusal options.layout options.max_reads before after sent)
      → IsGiven options before after sent
  given_from_answer (Ok o) read refused =
      elim read [ inl whole ↦ record { given = λ clean. whole } | inr cut ↦ given_from_unclean (memory_is_unclean _ _ sent cut.3.events_are) ]
  given_from_answer (Err Memory) read refused = given_from_unclean (ap ends_clean refused.1)
  given_from_answer (Err (Refused e)) read refused =
      let run = known_run options.layout refused.0 refused.1 (sent ++ e ∷ []) refused.3 in
      record { given = λ clean. let none = clean_is_whole sent (e ∷ []) (run_orderly run.0 run.1 _ run.2) clean in cc }

  -- what a thread gave is the same after it sent the end of a file of which nothing was read
  pub given_at_end : (answer : Result Outcome ReadFileError) (sent_last : List Placed) → IsGiven options before after sent
      → (answer ≡ Err Memory → ends_clean sent_last ≡ false) → ((answer ≡ Err Memory → ⊥) → sent_last ≡ sent) → IsGiven options before after sent_last
  given_at_end (Ok o) last given memory other = let same : last ≡ sent = other (λ e. absurd (cc)) in rw same given
  given_at_end (Err Memory) last given memory other = let unclean : ends_clean last ≡ false = memory refl in record { given = λ clean. cc }
  given_at_end (Err (Refused e)) last given memory other = let same : last ≡ sent = other (λ e. absurd (cc)) in rw same given

  pub nothing_was_put : (answer : Result Outcome ReadFileError) → answer ≡ Err Memory
      → IfErr answer (IsRefusal options.layout options.max_reads before after sent) → sent ≡ []
  nothing_was_put (Ok o) is refused = absurd (cc)
  nothing_was_put (Err Memory) is refused = refused.1
  nothing_was_put (Err (Refused e)) is refused = absurd (cc)

  -- what a thread says of memory is how the events end that it sent
  pub told_memory : (answer : Result Outcome ReadFileError) (sent_last : List Placed) → IfOk answer (λ o. EndsWith sent o)
      → IfErr answer (IsRefusal options.layout options.max_reads before after sent)
      → (answer ≡ Err Memory → ends_clean sent_last ≡ false) → ((answer ≡ Err Memory → ⊥) → sent_last ≡ sent) → has_ended sent_last ≡ true
      → was_refused_memory answer ≡ not (ends_clean sent_last)
  told_memory (Ok o) last ends refused memory other ended =
      let same : last ≡ sent = other (λ e. absurd (cc)) in
      sym (ap (λ l. not (ends_clean l)) (same ∙ ends.1) ∙ ap not (ends_clean_push ends.0 _) ∙ not_not (is_memory o))
    where
      not_not : (b : Bool) → not (not b) ≡ b
      not_not b = grind arith
  told_memory (Err Memory) last ends refused memory other ended = sym (ap not (memory refl))
  told_memory (Err (Refused e)) last ends refused memory other ended =
      let same : last ≡ sent = other (λ e. absurd (cc)) in
      let run = known_run options.layout refused.0 refused.1 (sent ++ e ∷ []) refused.3 in
      let going : has_ended sent ≡ false = going_on sent e (run_orderly run.0 run.1 _ run.2) in
      let gone : has_ended last ≡ false = ap has_ended same ∙ going in
      absurd (cc)
