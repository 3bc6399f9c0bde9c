use Rattle.dsr_command.proofs.Common.{ap, subst, codes, found_of, one_text, IsNumberAsked, IsFlagAsked}
use Rattle.clap.proofs.WalkLemmas.{one_text-rows}
use Rattle.dsr_command.proofs.arguments.read_matches.Goals as goal

pub returns-clause-asked : goal.returns-clause-asked
returns-clause-asked c =
    let f = found_of c.args.matches.now in
    let options = c.standard-standard.ensures in
    record {
      capacity = subst (λ t. IsNumberAsked 16 1024 t c.number_or.result) (one_text-rows f (codes "capacity"))
          (subst (λ s. IsNumberAsked s 1024 (one_text f (codes "capacity")) c.number_or.result) (ap (λ o. o.capacity) options) c.number_or.ensures.asked);
      reads = subst (λ t. IsNumberAsked 4194304 16777216 t c.number_or-2.result) (one_text-rows f (codes "max-reads"))
          (subst (λ s. IsNumberAsked s 16777216 (one_text f (codes "max-reads")) c.number_or-2.result)
          (ap (λ o. o.max_reads) options) c.number_or-2.ensures.asked);
      files = c.in_ok-read_names.ensures;
      layout = c.in_ok-read_file_name.ensures;
      output = c.in_ok-read_file_name-2.ensures;
      progress = subst (λ t. IsFlagAsked t c.is_set.result) (one_text-rows f (codes "progress")) c.is_set.ensures;
      seal = subst (λ t. IsFlagAsked t c.is_set-2.result) (one_text-rows f (codes "seal")) c.is_set-2.ensures;
    }
