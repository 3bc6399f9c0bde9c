use Rattle.dsr_ledger.proofs.Common.{◌≡◌, ◌≤◌, map, take, filter, vec_len, vec_capacity}
use Rattle.dsr_ledger.proofs.LineLemmas.{party_of}
use Rattle.dsr_ledger.proofs.view.sorted.parties_by_name.Given as goal

abbrev pub invariant-loop-part : goal.invariant-loop-part
invariant-loop-part l = record {
  all : l.listed.items ≡ map (party_of l.names l.numbers l.parts) (filter (λ p. p.has_part) (take l.part-index l.parts));
  many : vec_len l.listed ≤ l.part-index;
  room : vec_capacity l.listed ≡ vec_capacity l.fn.listed;
}
