-- How many events may come without a further byte.
use Rattle.std.specs.Prelude.{ℕ, Bool, true, false}
use Rattle.dsr_file.specs.declared.phase.Phase.{Phase}
use Rattle.dsr_file.specs.declared.phase.Phase.TheVariants.{Reading, Waiting, Done}

-- how many events may have come beyond the number of bytes used
abbrev pub allowance : Phase → ℕ
allowance Reading = 0
allowance (Waiting o) = 2
allowance (Done o) = 3

-- how many may still come
abbrev pub left : Phase → ℕ
left Reading = 2
left (Waiting o) = 1
left (Done o) = 0

abbrev pub has_given_all : Phase → Bool
has_given_all Reading = false
has_given_all (Waiting o) = false
has_given_all (Done o) = true
