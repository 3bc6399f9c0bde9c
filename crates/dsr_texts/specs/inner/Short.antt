-- How a text is stored in an array of 22 bytes.
use Rattle.std.specs.Prelude.{◌≡◌, ◌-◌, ℕ, List, drop, replicate}

-- the bytes after a text of `size` bytes are zeros
abbrev pub HasZerosBehind : ℕ → List ℕ → Type 0
HasZerosBehind size bytes = drop size bytes ≡ replicate (22 - size) 0
