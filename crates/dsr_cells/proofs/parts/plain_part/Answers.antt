use Rattle.dsr_cells.proofs.Common.{◌≡◌, ◌-◌, ◌∙◌, ap, sym, arith, get_or, position, IsCharBoundary-after_ascii}
use Rattle.dsr_cells.proofs.RawParts.{is_mark, cut_at, plain_text}
use Rattle.dsr_cells.proofs.parts.plain_part.Goals as goal

pub range_from-requires : goal.range_from-requires
range_from-requires c some =
    let pipe : get_or c.args.text.now c.in-Some.i 0 ≡ 124 = ap (λ t. get_or t c.in-Some.i 0) (sym c.as_bytes-bytes.ensures.value) ∙ c.if-bytes-i-eq124.true in
    let there = cut_at c.args.text.now c.in-Some.i (sym (c.in-Some.ensures ∙ ap (position is_mark) c.as_bytes-bytes.ensures.value)) pipe in
    IsCharBoundary-after_ascii c.args.text.now c.in-Some.i c.utf8.text there.within (omega arith)

pub returns-in-None-clause-cuts : goal.returns-in-None-clause-cuts
returns-in-None-clause-cuts c = (plain_text c.args.text.now (sym (c.in-None.ensures ∙ ap (position is_mark) c.as_bytes-bytes.ensures.value))).cut

pub returns-in-None-clause-value : goal.returns-in-None-clause-value
returns-in-None-clause-value c = (plain_text c.args.text.now (sym (c.in-None.ensures ∙ ap (position is_mark) c.as_bytes-bytes.ensures.value))).value

pub returns-in-Some-clause-cuts : goal.returns-in-Some-clause-cuts
returns-in-Some-clause-cuts c =
    let pipe : get_or c.args.text.now c.in-Some.i 0 ≡ 124 = ap (λ t. get_or t c.in-Some.i 0) (sym c.as_bytes-bytes.ensures.value) ∙ c.if-bytes-i-eq124.true in
    let there = cut_at c.args.text.now c.in-Some.i (sym (c.in-Some.ensures ∙ ap (position is_mark) c.as_bytes-bytes.ensures.value)) pipe in
    let whole : c.in-Some.i - 0 ≡ c.in-Some.i = omega arith in
    rw (c.range.ensures.value, c.range_from.ensures.value, whole) there.cut

pub returns-in-Some-clause-value : goal.returns-in-Some-clause-value
returns-in-Some-clause-value c =
    let pipe : get_or c.args.text.now c.in-Some.i 0 ≡ 124 = ap (λ t. get_or t c.in-Some.i 0) (sym c.as_bytes-bytes.ensures.value) ∙ c.if-bytes-i-eq124.true in
    let there = cut_at c.args.text.now c.in-Some.i (sym (c.in-Some.ensures ∙ ap (position is_mark) c.as_bytes-bytes.ensures.value)) pipe in
    let whole : c.in-Some.i - 0 ≡ c.in-Some.i = omega arith in
    rw (c.range.ensures.value, whole) there.value
