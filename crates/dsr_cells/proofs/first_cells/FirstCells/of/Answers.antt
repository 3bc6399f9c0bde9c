use Rattle.dsr_cells.proofs.Common.{arith, rules, ◌++◌, ◌∷◌, [], ◌≤◌, length, refl, ℕ, List, Bor, length_push, cells}
use Rattle.dsr_cells.proofs.Rows.{one_more, last_one, first_ten, all_of_ten}
use Rattle.dsr_cells.proofs.first_cells.FirstCells.of.Goals as goal

pub loop-index-preserved : goal.loop-index-preserved
loop-index-preserved c =
    record {
      text = search rules;
      count = search rules;
      cut = rw c.push.ensures.items
          (one_more (λ (b : Bor (List ℕ)). b.now) c.loop-index.cells.items c.in-Some.cell c.args.line.now c.loop-index.rest.now c.in-Some.after.now
          c.loop-index.invariant.cut c.in-Some.ensures);
    }

pub returns-in-None : goal.returns-in-None
returns-in-None c =
    let all = last_one (λ (b : Bor (List ℕ)). b.now) c.loop-index.cells.items c.loop-index.rest c.args.line.now c.loop-index.rest.now
    c.loop-index.invariant.cut refl c.in-None.ensures in
    let items = c.loop-index.cells.items ++ c.loop-index.rest ∷ [] in
    let few : length items ≤ 10 = omega (arith, length_push c.loop-index.cells.items c.loop-index.rest) in
    rw c.push-in-None.ensures.items (all_of_ten (λ (b : Bor (List ℕ)). b.now) items (cells c.args.line.now) all few)

pub returns : goal.returns
returns c = first_ten (λ (b : Bor (List ℕ)). b.now) c.loop-index.cells.items (cells c.loop-index.rest.now) (cells c.args.line.now)
    c.loop-index.invariant.cut (omega arith)
