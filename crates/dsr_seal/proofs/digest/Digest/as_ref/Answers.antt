use Rattle.std.proofs.lemmas.Str.{IsUtf8-from_ascii}
use Rattle.dsr_seal.proofs.digest.Digest.as_ref.Goals as goal

pub from_utf8_unchecked-requires : goal.from_utf8_unchecked-requires
from_utf8_unchecked-requires c = IsUtf8-from_ascii c.self.inside.sha256 c.self.invariant
