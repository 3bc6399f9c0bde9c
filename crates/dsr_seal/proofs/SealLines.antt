-- The lines of a seal: how many they are, and putting them one after another.
use Rattle.std.proofs.Common.{arith, ◌≡◌, ℕ, suc, ◌+◌, ◌<◌, ◌≤◌, List, [], ◌∷◌, ◌++◌, length, take, get_or, ap, sym, refl, ◌∙◌, append_assoc, length-append}
use Rattle.std.specs.Prelude.{Option, None, Some, is_some, Bool}
use Rattle.std.specs.Option.{option_map}
use mir.Val.{bool_byte}
use Rattle.std.proofs.lemmas.Grind.{flat_map-append}
use Rattle.std.proofs.lemmas.List.{append-nil, length-take-le, take_more}
use Rattle.dsr_statement.specs.declared.verdict.Status.{Status}
use Rattle.dsr_io.specs.meaning.Written.{Written}
use Rattle.dsr_statement.specs.declared.line.Line.{Line}
use Rattle.dsr_statement.specs.declared.line.Line.TheVariants as lines
use Rattle.dsr_statement.specs.declared.pieces.Pieces.{Pieces}
use Rattle.dsr_statement.specs.inner.Pieces.{Puts}
use Rattle.dsr_statement.specs.meaning.Digests.{Digest}
use Rattle.dsr_statement.specs.meaning.Lines.{line_bytes, line_text}
use Rattle.dsr_statement.specs.meaning.Seals.{inputs_from, layout_lines, origin_lines, seal_lines}
use Rattle.dsr_statement.specs.meaning.Statement.{text_of}
use Rattle.dsr_statement.proofs.LineLemmas.{then, turn}

-- a line has at least one byte, its line feed
pub lines_within : (ls : List Line) → length ls ≤ length (text_of ls)
lines_within [] = omega arith
lines_within (l ∷ ls) =
    let rest = lines_within ls in
    omega (arith, rest, length-append (line_bytes l) (text_of ls), length-append (line_text l) (10 ∷ []))

pub length-inputs_from : (place : ℕ) (inputs : List Digest) → length (inputs_from place inputs) ≡ length inputs
length-inputs_from place [] = refl
length-inputs_from place (digest ∷ more) = ap suc (length-inputs_from (suc place) more)

inputs_more : (place : ℕ) (inputs : List Digest) (digest : Digest)
    → text_of (inputs_from place (inputs ++ digest ∷ [])) ≡ text_of (inputs_from place inputs) ++ line_bytes (lines.Input (place + length inputs) digest)
inputs_more place [] digest =
    let on : place ≡ place + 0 = omega arith in
    append-nil (line_bytes (lines.Input place digest)) ∙ ap (λ n. line_bytes (lines.Input n digest)) on
inputs_more place (x ∷ xs) digest =
    let on : suc place + length xs ≡ place + suc (length xs) = omega arith in
    let first = line_bytes (lines.Input place x) in
    ap (λ l. first ++ l) (inputs_more (suc place) xs digest ∙ ap (λ n. text_of (inputs_from (suc place) xs) ++ line_bytes (lines.Input n digest)) on)
    ∙ sym (append_assoc first (text_of (inputs_from (suc place) xs)) (line_bytes (lines.Input (place + suc (length xs)) digest)))

pub more_inputs : {W : Type 0} {told : W → Written} {p q r : Pieces W} {digest : Digest} (inputs : List Digest) (i place : ℕ) (d : Digest)
    → i < length inputs → place ≡ i + 1 → Puts told p q (text_of (inputs_from 1 (take i inputs)))
    → Puts told q r (line_bytes (lines.Input place digest)) → digest ≡ get_or inputs i d
    → Puts told p r (text_of (inputs_from 1 (take (i + 1) inputs)))
more_inputs {W} {told} {p} {q} {r} {digest} inputs i place d less at before now is =
    let was = take i inputs in
    let next = take_more inputs i d less ∙ ap (λ x. was ++ x ∷ []) (sym is) in
    let here : place ≡ 1 + length was = omega (arith, at, length-take-le i inputs (omega (arith, less))) in
    let line = ap (λ xs. text_of (inputs_from 1 xs)) next ∙ inputs_more 1 was digest in
    turn (then before (turn now (ap (λ n. line_bytes (lines.Input n digest)) here))) (sym line)

-- a layout has one line, and each file has one
pub length-origin_lines : {T : Type 0} (view : T → Digest) (layout : Option T) (inputs : List Digest) (is : Bool) (one : ℕ)
    → is ≡ is_some layout → one ≡ bool_byte is → length (origin_lines (option_map view layout) inputs) ≡ one + length inputs
length-origin_lines view None inputs is one e n =
    let zero_lines : one ≡ 0 = n ∙ ap bool_byte e in
    length-inputs_from 1 inputs ∙ omega (arith, zero_lines)
length-origin_lines view (Some digest) inputs is one e n =
    let one_line : one ≡ 1 = n ∙ ap bool_byte e in
    let rest = length-inputs_from 1 inputs in
    omega (arith, one_line, rest)

abbrev pub end : Status → ℕ → List ℕ
end status count = line_bytes (lines.End count status)

pub seal_put : {W : Type 0} {told : W → Written} {p q r s : Pieces W} (layout : Option Digest) (inputs : List Digest) (line : List ℕ)
    → Puts told p q (text_of (layout_lines layout)) → Puts told q r (text_of (inputs_from 1 inputs)) → Puts told r s line
    → Puts told p s (text_of (origin_lines layout inputs) ++ line)
seal_put layout inputs line first second last =
    then (turn (then first second) (sym (flat_map-append line_bytes (layout_lines layout) (inputs_from 1 inputs)))) last

pub seal_is : (layout : Option Digest) (inputs : List Digest) (count : ℕ) (status : Status)
    → text_of (origin_lines layout inputs) ++ line_bytes (lines.End (count + length (origin_lines layout inputs)) status)
    ≡ text_of (seal_lines layout inputs count status)
seal_is layout inputs count status =
    let before = origin_lines layout inputs in
    let last = line_bytes (lines.End (count + length before) status) in
    sym (flat_map-append line_bytes before (lines.End (count + length before) status ∷ []) ∙ ap (λ l. text_of before ++ l) (append-nil last))
