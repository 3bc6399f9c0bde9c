-- The lines of a text. 10 is a line feed, 13 a carriage return; 239, 187 and 191 are the byte order mark.
use Rattle.std.specs.Prelude.{ℕ, ◌-◌, ◌==◌, nat_eq, nat_lt, ◌&&◌, Bool, List, [], ◌∷◌, length, take, drop, slice_index, if◌then◌else◌}
use Rattle.std.specs.List.{slice_split, starts_with}

-- the maximum length of a line in bytes; its line feed and the byte order mark are not counted, a carriage return is
abbrev pub line_limit : ℕ
line_limit = 8192

-- the byte order mark that a text may begin with
abbrev pub byte_order_mark : List ℕ
byte_order_mark = 239 ∷ 187 ∷ 191 ∷ []

abbrev pub without_mark : List ℕ → List ℕ
without_mark bytes = if starts_with nat_eq bytes byte_order_mark then drop 3 bytes else bytes

abbrev pub is_line_feed : ℕ → Bool
is_line_feed b = b == 10

-- the pieces before, between and after the line feeds, without the mark
abbrev pub pieces : List ℕ → List (List ℕ)
pieces bytes = slice_split is_line_feed (without_mark bytes)

abbrev pub is_long : List ℕ → Bool
is_long piece = nat_lt line_limit (length piece)

-- a line without the one carriage return that it may end with
abbrev pub without_return : List ℕ → List ℕ
without_return line =
    if nat_lt 0 (length line) && (slice_index line (length line - 1) == 13) then take (length line - 1) line else line

-- the pieces without the last one if that is empty
abbrev pub without_empty_last : List (List ℕ) → List (List ℕ)
without_empty_last [] = []
without_empty_last (last ∷ []) = if length last == 0 then [] else last ∷ []
without_empty_last (piece ∷ next ∷ more) = piece ∷ without_empty_last (next ∷ more)

-- the lines of a whole text: the piece after the last line feed is a line unless it is empty
abbrev pub whole_lines : List ℕ → List (List ℕ)
whole_lines bytes = without_empty_last (pieces bytes)
