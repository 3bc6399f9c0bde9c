use Rattle.dsr_cells.proofs.Common.{arith, eqb, w8, chunk, bitmask_splat, length-chunk}
use Rattle.dsr_cells.proofs.first_cells.tabs_of_16.Goals as goal

pub returns : goal.returns
returns c =
    let run = chunk 0 16 c.args.bytes.now in
    bitmask_splat w8 eqb run 16 9 (length-chunk 0 16 c.args.bytes.now c.requires) (omega arith)
