-- Lines with the key of the ledger line before them.
use Rattle.std.specs.Prelude.{◌≡◌, ℕ, Bool, List, [], ◌∷◌, ◌++◌}
use Rattle.std.specs.List.{list_all}
use Rattle.dsr_ledger.specs.meaning.Bookings.{Key}
use Rattle.dsr_statement.specs.declared.line.Line.{Line}
use Rattle.dsr_statement.specs.declared.line.Line.TheVariants as lines
use Rattle.dsr_statement.specs.meaning.Cells.{is_cell}
use Rattle.dsr_statement.specs.meaning.Lines.{key_cells}

-- the cells of a key are spelled as in a report
abbrev pub is_key : Key → Bool
is_key key = list_all is_cell (key_cells key [])

-- the cells of a key, a TAB behind each, and then this text
abbrev pub key_before : Key → List ℕ → List ℕ
key_before key text = key.isrc ++ 9 ∷ (key.territory ++ 9 ∷ (key.use_type ++ 9 ∷ (key.currency ++ 9 ∷ text)))

-- the line of a party or of an unclaimed amount with this key
abbrev pub HasKey : Key → Line → Type 0
HasKey key (lines.Party own p) = own ≡ key
HasKey key (lines.Unclaimed own amount) = own ≡ key
HasKey key _ = ⊥
