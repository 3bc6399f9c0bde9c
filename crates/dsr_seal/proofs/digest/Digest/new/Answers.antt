use Rattle.std.proofs.Common.{rules, ◌≡◌}
use Rattle.hex.specs.Hex.{encode_lower}
use Rattle.dsr_seal.proofs.Hex.{ascii_text}
use Rattle.dsr_seal.proofs.digest.Digest.new.Goals as goal

pub invariant_of-result : goal.invariant_of-result
invariant_of-result c =
    let is : c.encode_to_slice.new.output ≡ encode_lower c.args.sha256.now = search rules in
    ascii_text c.args.sha256.now c.encode_to_slice.new.output is
