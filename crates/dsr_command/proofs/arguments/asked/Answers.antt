use Rattle.dsr_command.proofs.Common.{◌≡◌, ◌∙◌, ap, subst, refl, [], true, map, fault_of, is_simple, matches_of, IsAskedBy, bare_command, command_line}
use Rattle.std.specs.String.{string_bytes}
use Rattle.clap.specs.Faults.{is_simple_and_free}
use Rattle.clap.proofs.OnLiterals.{clap_on_literals}
use Rattle.clap.specs.Kinds.{HasKind}
use Rattle.dsr_command.proofs.Answered.{answered}
use Rattle.dsr_command.proofs.arguments.asked.Goals as goal

simple : is_simple command_line ≡ true
unfolding clap_on_literals bare_command command_line
simple = refl

simple_and_free : is_simple_and_free command_line ≡ true
unfolding clap_on_literals bare_command command_line
simple_and_free = refl

pub returns-in-Ok-read_matches-clause-taken : goal.returns-in-Ok-read_matches-clause-taken
returns-in-Ok-read_matches-clause-taken c =
    let is = c.in-Ok.ensures in
    subst (λ a. fault_of a (map string_bytes c.args.words.now) ≡ []) is
    (c.in-Ok-try_get_matches_from.ensures.kinds (ap is_simple_and_free is ∙ simple_and_free))

pub returns-in-Ok-read_matches-clause-asked : goal.returns-in-Ok-read_matches-clause-asked
returns-in-Ok-read_matches-clause-asked c =
    let is = c.in-Ok.ensures in
    let rows = c.in-Ok-try_get_matches_from.ensures.matches (ap is_simple is ∙ simple) in
    subst (λ r. IsAskedBy r c.in-Ok-read_matches.asked) (rows.0 ∙ ap (λ a. matches_of a (map string_bytes c.args.words.now)) is)
    c.in-Ok-read_matches.ensures.asked

pub returns-clause-fault : goal.returns-clause-fault
returns-clause-fault c =
    let is = c.in-Ok.ensures in
    answered _ c.in-Err.error c.fault_of_error.result
    (subst (λ a. HasKind (fault_of a (map string_bytes c.args.words.now)) c.in-Err.error) is
    (c.in-Err.ensures.kinds (ap is_simple_and_free is ∙ simple_and_free)))
    c.fault_of_error.ensures
