use Rattle.dsr_statement.proofs.Common.{[], ◌∷◌, ◌++◌, ◌∙◌, ap, flat_map}
use Rattle.dsr_statement.specs.meaning.Statement.{lines_of_ledger}
use Rattle.dsr_statement.specs.inner.Pieces.{nothing}
use Rattle.dsr_statement.specs.inner.Rows.{ledger_bytes}
use Rattle.dsr_statement.proofs.LineLemmas.{one_more, text_flat, turn}
use Rattle.dsr_statement.proofs.write.put_viewed_lines.Goals as goal

pub loop-line-init : goal.loop-line-init
loop-line-init g c = record { ready = c.requires; put = λ all h. ([], h, nothing g.W.Outlet.told _) }

pub loop-line-preserved : goal.loop-line-preserved
loop-line-preserved g c = record {
  ready = c.next.ensures.ready;
  put = λ all h.
      let so_far = c.loop-line.invariant.put all h in
      let line = turn c.put_ledger.ensures (λ i. ledger_bytes (record c.in-Some.line { parties = c.parties.ensures i })) in
      (so_far.0 ++ _ ∷ [], c.in-Some.ensures.line all so_far.0 so_far.1, one_more [] ledger_bytes so_far.0 _ so_far.2 line);
}

pub returns : goal.returns
returns g c = λ all h.
    let so_far = c.loop-line.invariant.put all h in
    turn so_far.2 (ap (flat_map ledger_bytes) (c.in_default.ensures.all all so_far.0 so_far.1) ∙ text_flat lines_of_ledger all)
