use Rattle.dsr_file.proofs.Common.{◌≡◌, ◌++◌, ◌∷◌, [], false, ◌+◌, ◌∙◌, sym, subst, arith, take, take_all, length-append, length-take, CutsTo}
use Rattle.dsr_file.proofs.CutLemmas.{more_bytes, none_before, feed_there, fed_line, here_line, within, empty_is}
use Rattle.dsr_file.proofs.cutter.Cutter.rest.Goals as goal

pub returns-then-end-len-clause-cut : goal.returns-then-end-len-clause-cut
returns-then-end-len-clause-cut c = λ b ps k.
    let more = more_bytes _ _ (take c.line_end-end.result c.args.piece.now) ps k (none_before c.args.piece.now _ c.line_end-end.ensures.value) in (
      c.args.self.now.bytes.items ++ take c.line_end-end.result c.args.piece.now,
      simp (length-append, length-take)
          (omega (arith, c.line_end-end.ensures.bound, c.if-end-len.true, c.len.ensures)),
      more.pieces_are,
    )

pub returns-then-end-piece-clause-cut : goal.returns-then-end-piece-clause-cut
returns-then-end-piece-clause-cut c = λ b ps k.
    let more = more_bytes _ _ (take c.line_end-end.result c.args.piece.now) ps k (none_before c.args.piece.now _ c.line_end-end.ensures.value) in
    let all : take c.line_end-end.result c.args.piece.now ≡ c.args.piece.now = take_all _ c.args.piece.now (omega (arith, c.if-end-piece.true)) in
    rw (c.append.ensures.bytes, c.append.ensures.fresh) (subst
    (λ x. CutsTo (c.args.self.now.bytes.items ++ x) false (b ++ take c.line_end-end.result c.args.piece.now) ps) all more)

pub returns-then-is_empty-clause-cut : goal.returns-then-is_empty-clause-cut
returns-then-is_empty-clause-cut c = λ b ps k.
    let short = within _ _ c.line_end-end.ensures.bound c.if-end-piece.false in
    let none = none_before c.args.piece.now _ c.line_end-end.ensures.value in
    let there = feed_there c.args.piece.now _ c.line_end-end.ensures.value short in
    let fed = fed_line c.args.self.now.bytes.items b c.args.piece.now ps c.line_end-end.result k none short there in
    rw (here_line c.args.piece.now c.line_end-end.result short)
    (subst (λ x. CutsTo [] false (b ++ take (c.line_end-end.result + 1) c.args.piece.now) (ps ++ (x ++ take c.line_end-end.result c.args.piece.now) ∷ []))
    (sym c.line.ensures.value ∙ empty_is _ _ c.is_empty.ensures c.if-is_empty.true) fed)

pub returns-clause-cut : goal.returns-clause-cut
returns-clause-cut c = λ b ps k.
    let short = within _ _ c.line_end-end.ensures.bound c.if-end-piece.false in
    let none = none_before c.args.piece.now _ c.line_end-end.ensures.value in
    let there = feed_there c.args.piece.now _ c.line_end-end.ensures.value short in
    rw c.append-2.ensures.bytes (fed_line c.args.self.now.bytes.items b c.args.piece.now ps c.line_end-end.result k none short there)
