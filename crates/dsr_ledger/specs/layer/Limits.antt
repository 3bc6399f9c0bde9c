-- The limits of a report and of its numbers.
use Rattle.std.specs.Prelude.{ℕ, ◌^◌}

-- the most files of a report
abbrev pub most_files : ℕ
most_files = 64

-- the most blocks of a file
abbrev pub most_blocks : ℕ
most_blocks = 2 ^ 37

-- the most usages of a block, which has at most 64 records, its resource among them
abbrev pub most_usages : ℕ
most_usages = 63

-- the amount of a usage, in units, is below this in absolute value
abbrev pub amount_bound : ℕ
amount_bound = 10 ^ 22
