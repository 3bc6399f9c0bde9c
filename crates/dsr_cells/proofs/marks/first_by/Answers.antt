use Rattle.dsr_cells.proofs.Common.{◌∙◌, ◌+◌, ◌-◌, ◌≤◌, length, arith, run_in_chunk_fails, run_in_chunk_stops}
use Rattle.dsr_cells.proofs.RawParts.{is_mark}
use Rattle.dsr_cells.proofs.Marked.{found_mark, no_mark, plain_over}
use Rattle.dsr_cells.proofs.marks.first_by.Goals as goal

pub returns-in-Some : goal.returns-in-Some
returns-in-Some g c =
    let bytes = c.args.bytes.now in
    let at = c.loop-at.at in
    let n = c.in-Some.plain in
    let room : at + g.row.N ≤ length bytes = omega (arith, c.loop-at-test.true) in
    let fails = run_in_chunk_fails is_mark bytes at g.row.N n 0 room c.in-Some.ensures.count in
    let stops = run_in_chunk_stops is_mark bytes at g.row.N n 0 room c.in-Some.ensures.count c.in-Some.ensures.few in
    found_mark bytes (at + n) (omega (arith, room, c.in-Some.ensures.few)) (plain_over bytes at at n (omega arith) c.loop-at.invariant fails) stops

pub loop-at-preserved : goal.loop-at-preserved
loop-at-preserved g c =
    let bytes = c.args.bytes.now in
    let at = c.loop-at.at in
    let room : at + g.row.N ≤ length bytes = omega (arith, c.loop-at-test.true) in
    let fails = run_in_chunk_fails is_mark bytes at g.row.N g.row.N 0 room c.in_default.ensures.count in
    plain_over bytes at at g.row.N (omega arith) c.loop-at.invariant fails

pub returns-in_err-plain : goal.returns-in_err-plain
returns-in_err-plain g c =
    let bytes = c.args.bytes.now in
    let last = length bytes - g.row.N in
    let room : last + g.row.N ≤ length bytes = omega (arith, c.requires.long) in
    let fails = run_in_chunk_fails is_mark bytes last g.row.N g.row.N 0 room c.in_err-plain.ensures.count in
    let plain = plain_over bytes c.loop-at.at last g.row.N (omega (arith, c.loop-at-test.false)) c.loop-at.invariant fails in
    c.from_residual.ensures ∙ no_mark bytes (λ k less. plain k (omega (arith, less, room)))

pub returns : goal.returns
returns g c =
    let bytes = c.args.bytes.now in
    let last = length bytes - g.row.N in
    let n = c.in_ok-plain.plain in
    let room : last + g.row.N ≤ length bytes = omega (arith, c.requires.long) in
    let fails = run_in_chunk_fails is_mark bytes last g.row.N n 0 room c.in_ok-plain.ensures.count in
    let stops = run_in_chunk_stops is_mark bytes last g.row.N n 0 room c.in_ok-plain.ensures.count c.in_ok-plain.ensures.few in
    found_mark bytes (last + n) (omega (arith, room, c.in_ok-plain.ensures.few))
    (plain_over bytes c.loop-at.at last n (omega (arith, c.loop-at-test.false)) c.loop-at.invariant fails) stops
