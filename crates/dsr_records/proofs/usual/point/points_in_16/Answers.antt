use Rattle.dsr_records.proofs.Common.{arith, eqb, w8, chunk, bitmask_splat, length-chunk}
use Rattle.dsr_records.proofs.usual.point.points_in_16.Goals as goal

pub returns : goal.returns
returns c =
    bitmask_splat w8 eqb (chunk c.args.at 16 c.args.page.now) 16 46 (length-chunk c.args.at 16 c.args.page.now c.requires) (omega arith)
