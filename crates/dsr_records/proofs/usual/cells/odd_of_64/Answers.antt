use Rattle.dsr_records.proofs.Common.{◌∙◌, ◌+◌, ◌-◌, ◌%◌, ◌^◌, ap, arith, cond, refl, leb, map, replicate, List, ℕ, w8, chunk, mask_l, top, zip2, length-map, tops_compared, zip2_splat, zip2_splat_left, mask_l-mod, length-chunk, map-map, chunk-fits, same_flags}
use Rattle.dsr_records.proofs.usual.cells.odd_of_64.Goals as goal

pub returns : goal.returns
returns c =
    let run = chunk c.args.at 64 c.args.page.now in
    let long = length-chunk c.args.at 64 c.args.page.now c.requires in
    let less = λ (b : ℕ). (b + (256 - 32)) % 256 in
    let shifted = map less run in
    let longs = length-map run less ∙ long in
    ap (λ (vs : List ℕ). mask_l (map (top 7) (zip2 (λ a b. cond (leb a b) 255 0) (replicate {A = ℕ} 64 95) vs)) % 2 ^ 64)
    (zip2_splat (λ a b. (a + (256 - b)) % 256) run 64 32 long)
    ∙ ap (λ m. mask_l m % 2 ^ 64) (tops_compared w8 leb (replicate 64 95) shifted ∙ zip2_splat_left leb 95 64 shifted longs)
    ∙ mask_l-mod (map (λ x. leb 95 x) shifted) 64 (omega (arith, longs, length-map shifted (λ x. leb 95 x)))
    ∙ ap mask_l (map-map (λ x. leb 95 x) less run ∙ same_flags _ _ run refl (chunk-fits w8 c.args.at 64 c.args.page.now c.type_inv.page))
