use Rattle.dsr_cells.proofs.Common.{◌∙◌, ◌%◌, ◌^◌, ap, cond, refl, eqb, map, List, replicate, bit_or, w8, ℕ, chunk, mask_l, top, zip2, length-map, bitmask_splat, length-chunk, zip2_splat, map-map, chunk-fits}
use Rattle.dsr_cells.proofs.Lanes.{same_flags}
use Rattle.dsr_cells.proofs.Marked.{is_pipe_with_bit}
use Rattle.dsr_cells.proofs.RawParts.{is_mark}
use Rattle.dsr_cells.proofs.marks.marks_of.Goals as goal

pub returns : goal.returns
returns g c =
    let n = g.row.N in
    let run = chunk c.args.at n c.args.bytes.now in
    let long = length-chunk c.args.at n c.args.bytes.now c.requires.within in
    let joined = map (λ b. bit_or b 32) run in
    ap (λ (vs : List ℕ). mask_l (map (top 7) (zip2 (λ a b. cond (eqb a b) 255 0) vs (replicate {A = ℕ} n 124))) % 2 ^ 64) (zip2_splat bit_or run n 32 long)
    ∙ bitmask_splat w8 eqb joined n 124 (length-map run (λ b. bit_or b 32) ∙ long) c.requires.few
    ∙ ap mask_l
    (map-map (λ b. eqb b 124) (λ b. bit_or b 32) run ∙ same_flags is_pipe_with_bit is_mark run refl
    (chunk-fits w8 c.args.at n c.args.bytes.now c.type_inv.bytes))
