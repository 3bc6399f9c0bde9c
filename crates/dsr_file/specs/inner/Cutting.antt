-- What a cutter represents.
use Rattle.std.specs.Prelude.{◌≡◌, ℕ, ◌-◌, ◌+◌, ◌<◌, ◌≤◌, Bool, true, false, List, [], ◌∷◌, ◌++◌, length, take}
use Rattle.dsr_cells.specs.meaning.Lines.{without_mark, pieces, line_limit}
use Rattle.dsr_file.specs.declared.cutter.Cutter.{Cutter}
use Rattle.dsr_file.specs.declared.cutter.Cut.{Cut}
use Rattle.dsr_file.specs.declared.cutter.Cut.TheVariants.{More, Kept, Here, Long}

-- whether the bytes begin with the mark does not depend on what follows them
abbrev pub IsSettled : List ℕ → Type 0
IsSettled bytes = (more : List ℕ) → without_mark (bytes ++ more) ≡ without_mark bytes ++ more

-- the bytes consist of these whole pieces, and then of the bytes that are kept
pub record CutsTo (kept : List ℕ) (fresh : Bool) (bytes : List ℕ) (whole : List (List ℕ)) : Type 0 where
  pub pieces_are : pieces bytes ≡ whole ++ kept ∷ []
  pub settled : fresh ≡ false → IsSettled bytes
  pub start : fresh ≡ true → (bytes ≡ kept) × (length kept < 3) × (whole ≡ [])

-- no byte is kept, and the place of the byte order mark is behind
abbrev pub IsBetweenLines : Cutter → Type 0
IsBetweenLines c = (c.bytes.items ≡ []) × (c.fresh ≡ false)

-- a line in the bytes used is not too long, and no byte is kept
abbrev pub FitsCut : Cut → List ℕ → Cutter → Type 0
FitsCut Here used c = (length used ≤ line_limit + 1) × (c.bytes.items ≡ []) × (c.fresh ≡ false)
FitsCut _ used c = Unit {0}

-- what the bytes so far are, after a cutter has used some and returned this
abbrev pub CutSteps : List ℕ → List ℕ → List (List ℕ) → Cut → Cutter → Type 0
CutSteps bytes used whole More c = CutsTo c.bytes.items c.fresh (bytes ++ used) whole
CutSteps bytes used whole Kept c = CutsTo [] false (bytes ++ used) (whole ++ c.bytes.items ∷ [])
CutSteps bytes used whole Here c = CutsTo [] false (bytes ++ used) (whole ++ take (length used - 1) used ∷ [])
CutSteps bytes used whole Long c = (long : List ℕ) × (line_limit < length long) × (pieces (bytes ++ used) ≡ whole ++ long ∷ [])
