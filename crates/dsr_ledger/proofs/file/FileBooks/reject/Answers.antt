use Rattle.dsr_ledger.proofs.Common.{rules, refl, length, ap, arith, tally_at}
use Rattle.dsr_ledger.proofs.TallyLemmas.{fewer_sums, tally_plus-none}
use Rattle.dsr_ledger.proofs.file.FileBooks.reject.Goals as goal

pub count_usages-requires : goal.count_usages-requires
count_usages-requires c = λ id x at.
    let room = c.block.invariant in let long = ap length c.as_slice.ensures in
    fewer_sums 63 (length c.as_slice.result.now) x.sums (omega arith) (c.requires.summaries_fit id x at)

pub returns-clause-ok : goal.returns-clause-ok
returns-clause-ok c = record {
  place = refl;
  opening = refl;
  standing = refl;
  blocks = refl;
  summaries = search rules;
  rejects = search rules;
  outcome = refl;
  tallies = λ q. tally_plus-none (tally_at c.args.ledger.now q);
  range = search rules;
}
