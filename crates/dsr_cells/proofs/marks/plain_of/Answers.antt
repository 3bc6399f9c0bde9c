use Rattle.dsr_cells.proofs.Common.{◌∙◌, ◌≡◌, ap, not, sym, arith, prefix_len, chunk, length-chunk, leading_from_mask_l, trailing_mask_l, count_trailing_zeros}
use Rattle.dsr_cells.proofs.Marked.{some_lane}
use Rattle.dsr_cells.proofs.RawParts.{is_mark}
use Rattle.dsr_cells.proofs.marks.plain_of.Goals as goal

pub returns-then-marks-eq0-clause-count : goal.returns-then-marks-eq0-clause-count
returns-then-marks-eq0-clause-count g c =
    let run = chunk c.args.at g.row.N c.args.bytes.now in
    let long = length-chunk c.args.at g.row.N c.args.bytes.now c.requires.within in
    sym (leading_from_mask_l is_mark run (sym c.marks_of-marks.ensures ∙ c.if-marks-eq0.true) ∙ long)

counted : goal.returns-clause-count
counted g c =
    let run = chunk c.args.at g.row.N c.args.bytes.now in
    let long = length-chunk c.args.at g.row.N c.args.bytes.now c.requires.within in
    ap (count_trailing_zeros 64) c.marks_of-marks.ensures
    ∙ trailing_mask_l is_mark 64 run (omega (arith, long, c.requires.few)) (omega (arith, c.marks_of-marks.ensures, c.if-marks-eq0.false))

pub returns-clause-count : goal.returns-clause-count
returns-clause-count g c = counted g c

pub returns-clause-few : goal.returns-clause-few
returns-clause-few g c =
    let run = chunk c.args.at g.row.N c.args.bytes.now in
    let long = length-chunk c.args.at g.row.N c.args.bytes.now c.requires.within in
    let count : count_trailing_zeros 64 c.marks_of-marks.result ≡ prefix_len (λ b. not (is_mark b)) run = counted g c in
    omega (arith, count, long, some_lane is_mark run (omega (arith, c.marks_of-marks.ensures, c.if-marks-eq0.false)))
