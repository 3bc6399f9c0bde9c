use Rattle.std.proofs.Common.{subst, codes}
use Rattle.clap.specs.Words.{found_of}
use Rattle.clap.proofs.WalkLemmas.{one_text-rows}
use Rattle.dsr_command.specs.CommandLine.{IsFlagAsked}
use Rattle.dsr_totals.proofs.arguments.read_matches.Goals as goal

pub returns : goal.returns
returns c =
    let f = found_of c.args.matches.now in
    record {
      given = c.in_ok-read_names.ensures;
      paid = c.in_ok-read_names-2.ensures;
      lists = c.in_ok-read_names-3.ensures;
      with_remarks = subst (λ t. IsFlagAsked t c.is_set.result) (one_text-rows f (codes "with-remarks")) c.is_set.ensures;
      unsealed = subst (λ t. IsFlagAsked t c.is_set-2.result) (one_text-rows f (codes "unsealed")) c.is_set-2.ensures;
      same_message = subst (λ t. IsFlagAsked t c.is_set-3.result) (one_text-rows f (codes "same-message")) c.is_set-3.ensures;
      output = c.in_ok-read_file_name.ensures;
    }
