-- What a counted outlet keeps.
use Rattle.std.specs.Prelude.{ℕ, ◌≡◌, ◌≤◌, ◌-◌, ◌==◌, List, length, drop, Option, None, Some, if◌then◌else◌}
use Rattle.std.specs.Io.KnownBytes.{Keeps}
use Rattle.dsr_io.specs.meaning.Written.{Written}
use Rattle.dsr_seal.specs.meaning.Counts.{line_feeds}

-- the last n of these bytes
abbrev pub last : ℕ → List ℕ → List ℕ
last n bytes = drop (length bytes - n) bytes

-- this is how many lines an outlet took: at most its bytes, and where it is known what it holds, the line feeds among those
-- that it took, which are the last ones
pub record IsCounted (lines : ℕ) (out : Written) : Type 0 where
  pub few : lines ≤ out.taken
  pub exact : (held : List ℕ) → out.contents ≡ Some held → lines ≡ line_feeds (last out.taken held)

-- what an outlet holds, if that is known and so many lines are those among the bytes that it took
abbrev pub held_if : ℕ → ℕ → Option (List ℕ) → Option (List ℕ)
held_if lines taken None = None
held_if lines taken (Some held) = if line_feeds (last taken held) == lines then Some held else None

-- what an outlet tells that passes on to this one and counted so many lines: all that this one tells, but that what it holds is
-- known only while so many lines are those of it
abbrev pub told_counted : ℕ → Written → Written
told_counted lines out = record out { contents = held_if lines out.taken out.contents }

-- the state of the outlet inside: the same, and where it is known what the counting one holds, it holds that
pub record IsInside (counted out : Written) : Type 0 where
  pub held : Keeps counted.contents out.contents
  pub taken : out.taken ≡ counted.taken
  pub failed : out.failed ≡ counted.failed
  pub flushes : out.flushes ≡ counted.flushes
  pub unflushed : out.unflushed ≡ counted.unflushed
