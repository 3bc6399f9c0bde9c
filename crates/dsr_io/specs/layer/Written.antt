-- What an outlet took.
use Rattle.std.specs.Prelude.{◌≡◌, ℕ, ◌-◌, List, length}
use Rattle.std.specs.Io.KnownBytes.{Appends}
use Rattle.dsr_io.specs.meaning.Written.{Written, Counts}

-- it took these bytes
pub record IsTaken (bytes : List ℕ) (before after : Written) : Type 0 where
  pub added : Appends before.contents after.contents bytes
  pub counted : Counts (length bytes) before after
  pub sound : after.failed ≡ before.failed
  pub flushes : after.flushes ≡ before.flushes
