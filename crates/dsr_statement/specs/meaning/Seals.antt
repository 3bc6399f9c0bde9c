-- The seal of a statement: the lines behind those of its report, which say of which bytes it is, and that it is whole.
use Rattle.std.specs.Prelude.{ℕ, suc, ◌+◌, List, [], ◌∷◌, ◌++◌, length, Option, None, Some}
use Rattle.dsr_statement.specs.declared.line.Line.{Line}
use Rattle.dsr_statement.specs.declared.line.Line.TheVariants as lines
use Rattle.dsr_statement.specs.declared.verdict.Status.{Status}
use Rattle.dsr_statement.specs.meaning.Digests.{Digest}

abbrev pub layout_lines : Option Digest → List Line
layout_lines None = []
layout_lines (Some digest) = lines.Layout digest ∷ []

-- the INPUT lines of files, the first of which has this place in the order given
abbrev pub inputs_from : ℕ → List Digest → List Line
inputs_from place [] = []
inputs_from place (digest ∷ more) = lines.Input place digest ∷ inputs_from (suc place) more

-- what a statement is of: the layout, if one was given, and the files
abbrev pub origin_lines : Option Digest → List Digest → List Line
origin_lines layout inputs = layout_lines layout ++ inputs_from 1 inputs

-- the seal of a statement that has so many lines and this status: what it is of, and END with the number of all lines before it
abbrev pub seal_lines : Option Digest → List Digest → ℕ → Status → List Line
seal_lines layout inputs count status =
    origin_lines layout inputs ++ lines.End (count + length (origin_lines layout inputs)) status ∷ []
