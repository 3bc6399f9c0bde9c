-- A file's digest: how many bytes it has, and their SHA-256.
use Rattle.std.specs.Prelude.{ℕ, ◌||◌, Bool, List}
use Rattle.std.specs.Char.{is_ascii_digit}
use Rattle.std.specs.Int.{is_in_range}
use Rattle.dsr_cells.specs.meaning.Texts.{is_run_of}

-- a number of bytes, and their SHA-256 (FIPS 180-4) as a text
pub record Digest : Type 0 where
  pub bytes : ℕ
  pub sha256 : List ℕ

-- a digit or a small letter a to f
abbrev pub is_small_hex : ℕ → Bool
is_small_hex b = is_ascii_digit b || is_in_range 97 102 b

-- a SHA-256 as a text: 64 digits and small letters a to f
abbrev pub is_sha256_text : List ℕ → Bool
is_sha256_text = is_run_of is_small_hex 64
