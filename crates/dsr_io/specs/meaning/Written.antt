-- The state of an outlet, and how several calls changed it.
use Rattle.std.specs.Prelude.{◌≡◌, ℕ, ◌+◌, ◌-◌, ◌^◌, ◌≤◌, Bool, true, false, List, length, Option}
use Rattle.std.specs.Io.KnownBytes.{Appends}

-- the bytes that it holds, if they are known, how many it took, whether it has failed, how many flushes succeeded, and
-- whether it took bytes since the last of these
pub record Written : Type 0 where
  pub contents : Option (List ℕ)
  pub taken : ℕ
  pub failed : Bool
  pub flushes : ℕ
  pub unflushed : Bool

-- it took n more bytes: no byte past 2^64 - 1 is taken
abbrev pub Counts : ℕ → Written → Written → Type 0
Counts n before after = (after.taken ≡ before.taken + n) × (n ≤ 2 ^ 64 - 1 - before.taken)

-- it took these bytes, and then was flushed once
pub record IsFlushed (bytes : List ℕ) (before after : Written) : Type 0 where
  pub added : Appends before.contents after.contents bytes
  pub counted : Counts (length bytes) before after
  pub sound : after.failed ≡ before.failed
  pub once : after.flushes ≡ before.flushes + 1
  pub at_the_end : after.unflushed ≡ false

-- it took these bytes, and then failed
pub record IsCut (bytes : List ℕ) (before after : Written) : Type 0 where
  pub added : Appends before.contents after.contents bytes
  pub counted : Counts (length bytes) before after
  pub failed : after.failed ≡ true
  pub flushes : after.flushes ≡ before.flushes
