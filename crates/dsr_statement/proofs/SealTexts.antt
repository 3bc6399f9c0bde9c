-- The lines of a seal are short ASCII texts of one line.
use Rattle.std.proofs.Common.{arith, lit<, ◌≡◌, ◌<◌, ◌≤◌, ◌^◌, ℕ, suc, ◌+◌, List, [], ◌∷◌, ◌++◌, length, Bool, true, false, refl, ◌∙◌, length-append, Option, Some, None, eqb, nat_lt, nat_le}
use Rattle.std.specs.Prelude.{◌&&◌, not, decimal}
use Rattle.std.specs.Char.{is_ascii_digit}
use Rattle.std.specs.List.{list_all}
use Rattle.std.specs.Str.{IsAscii, is_utf8}
use Rattle.std.proofs.lemmas.Bool.{and_parts, and_from, eqb-true, le-leb, ltb-true}
use Rattle.std.proofs.lemmas.Bool.Decides.{nat_tests}
use Rattle.std.proofs.lemmas.Fmt.{length-decimal-le}
use Rattle.std.proofs.lemmas.List.Folds.{list_all-append}
use Rattle.std.proofs.lemmas.Str.{IsUtf8-from_ascii, is_utf8-from_IsUtf8}
use Rattle.std.proofs.lemmas.Str.Ascii.{IsAscii-cons, IsAscii-nil}
use Rattle.dsr_cells.proofs.Spelled.{all_digits}
use Rattle.dsr_statement.specs.declared.line.Line.{Line}
use Rattle.dsr_statement.specs.declared.line.Line.TheVariants as lines
use Rattle.dsr_statement.specs.declared.verdict.Status.{Status}
use Rattle.dsr_statement.specs.declared.verdict.Status.TheVariants as statuses
use Rattle.dsr_statement.specs.meaning.Cells.{is_cell}
use Rattle.dsr_statement.specs.meaning.Digests.{Digest, is_sha256_text, is_small_hex}
use Rattle.dsr_statement.specs.meaning.Lines.{digest_cells, is_line, line_text}
use Rattle.dsr_statement.specs.meaning.Names.{status_name}
use Rattle.dsr_statement.specs.meaning.Readings.{most_bytes}
use Rattle.dsr_statement.specs.meaning.Seals.{inputs_from, layout_lines, origin_lines, seal_lines}
use Rattle.dsr_statement.specs.layer.Statements.{has_no_feed, is_text}
use Rattle.dsr_statement.proofs.Plain.{all_weaker}

-- a byte of ASCII, and no line feed
abbrev line_byte : ℕ → Bool
line_byte b = nat_lt b 128 && not (eqb b 10)

abbrev are_line_bytes : List ℕ → Bool
are_line_bytes text = list_all line_byte text

ascii_of : (text : List ℕ) → are_line_bytes text ≡ true → IsAscii text
ascii_of [] h = IsAscii-nil
ascii_of (b ∷ bs) h =
    let both = and_parts (line_byte b) (list_all line_byte bs) h in
    IsAscii-cons b bs (ltb-true b 128 (and_parts (nat_lt b 128) (not (eqb b 10)) both.0).0) (ascii_of bs both.1)

short_text : (text : List ℕ) → are_line_bytes text ≡ true → length text ≤ most_bytes
    → (is_utf8 text && (nat_le (length text) most_bytes && has_no_feed text)) ≡ true
short_text text h short =
    and_from (is_utf8 text) _ (is_utf8-from_IsUtf8 text (IsUtf8-from_ascii text (ascii_of text h)))
    (and_from (nat_le (length text) most_bytes) (has_no_feed text) (le-leb (length text) most_bytes short)
    (all_weaker line_byte (λ b. not (eqb b 10)) (λ b g. (and_parts (nat_lt b 128) (not (eqb b 10)) g).1) text h))

both_parts : (a b : List ℕ) → are_line_bytes a ≡ true → are_line_bytes b ≡ true → are_line_bytes (a ++ b) ≡ true
both_parts a b p q = list_all-append line_byte a b ∙ and_from (are_line_bytes a) (are_line_bytes b) p q

digit : (b : ℕ) → is_ascii_digit b ≡ true → line_byte b ≡ true
digit b h = grind (arith, nat_tests)

small_hex : (b : ℕ) → is_small_hex b ≡ true → line_byte b ≡ true
small_hex b h = grind (arith, nat_tests)

number_bytes : (n : ℕ) → n < 2 ^ 64 → are_line_bytes (decimal n) ≡ true
number_bytes n h = all_weaker is_ascii_digit line_byte digit (decimal n) (all_digits n (omega arith))

number_length : (n : ℕ) → n < 2 ^ 64 → length (decimal n) ≤ 20
number_length n h = length-decimal-le 20 n (lit< tt) (omega arith) h

-- the cells of a digest
digest_bytes : (d : Digest) → list_all is_cell (digest_cells d) ≡ true → are_line_bytes (decimal d.bytes ++ 9 ∷ d.sha256) ≡ true
digest_bytes d h =
    let both = and_parts (nat_lt d.bytes (2 ^ 64)) (is_sha256_text d.sha256 && true) h in
    let text = (and_parts (is_sha256_text d.sha256) true both.1).0 in
    let hex = (and_parts (list_all is_small_hex d.sha256) (eqb (length d.sha256) 64) text).0 in
    both_parts (decimal d.bytes) (9 ∷ d.sha256) (number_bytes d.bytes (ltb-true d.bytes (2 ^ 64) both.0))
    (all_weaker is_small_hex line_byte small_hex d.sha256 hex)

digest_length : (d : Digest) → list_all is_cell (digest_cells d) ≡ true → length (decimal d.bytes ++ 9 ∷ d.sha256) ≤ 85
digest_length d h =
    let both = and_parts (nat_lt d.bytes (2 ^ 64)) (is_sha256_text d.sha256 && true) h in
    let text = (and_parts (is_sha256_text d.sha256) true both.1).0 in
    let long : length d.sha256 ≡ 64 = eqb-true (length d.sha256) 64 (and_parts (list_all is_small_hex d.sha256) (eqb (length d.sha256) 64) text).1 in
    omega (arith, long, length-append (decimal d.bytes) (9 ∷ d.sha256), number_length d.bytes (ltb-true d.bytes (2 ^ 64) both.0))

status_bytes : (s : Status) → are_line_bytes (status_name s) ≡ true
unfolding status_name
status_bytes statuses.Clean = refl
status_bytes statuses.Remarks = refl

status_length : (s : Status) → length (status_name s) ≤ 7
unfolding status_name
status_length statuses.Clean = omega arith
status_length statuses.Remarks = omega arith

-- a line of a seal
abbrev is_of_seal : Line → Bool
is_of_seal (lines.Layout d) = true
is_of_seal (lines.Input place d) = true
is_of_seal (lines.End n s) = true
is_of_seal _ = false

line_is_text : (l : Line) → is_of_seal l ≡ true → is_line l ≡ true → is_text l ≡ true
line_is_text (lines.Layout d) of h = short_text (line_text (lines.Layout d)) (digest_bytes d h) (omega (arith, digest_length d h))
line_is_text (lines.Input place d) of h =
    let both = and_parts (nat_lt place (2 ^ 64)) (list_all is_cell (digest_cells d)) h in
    let low = ltb-true place (2 ^ 64) both.0 in
    short_text (line_text (lines.Input place d))
    (both_parts (decimal place) (9 ∷ (decimal d.bytes ++ 9 ∷ d.sha256)) (number_bytes place low) (digest_bytes d both.1))
    (omega (arith, number_length place low, digest_length d both.1, length-append (decimal place) (9 ∷ (decimal d.bytes ++ 9 ∷ d.sha256))))
line_is_text (lines.End n s) of h =
    let low = ltb-true n (2 ^ 64) (and_parts (nat_lt n (2 ^ 64)) true h).0 in
    short_text (line_text (lines.End n s)) (both_parts (decimal n) (9 ∷ status_name s) (number_bytes n low) (status_bytes s))
    (omega (arith, number_length n low, status_length s, length-append (decimal n) (9 ∷ status_name s)))
line_is_text _ of h = cc

all_are_texts : (ls : List Line) → list_all is_of_seal ls ≡ true → list_all is_line ls ≡ true → list_all is_text ls ≡ true
all_are_texts [] of h = refl
all_are_texts (l ∷ ls) of h =
    let both = and_parts (is_of_seal l) (list_all is_of_seal ls) of in
    let valid = and_parts (is_line l) (list_all is_line ls) h in
    and_from (is_text l) (list_all is_text ls) (line_is_text l both.0 valid.0) (all_are_texts ls both.1 valid.1)

of_inputs : (place : ℕ) (ds : List Digest) → list_all is_of_seal (inputs_from place ds) ≡ true
of_inputs place [] = refl
of_inputs place (d ∷ ds) = of_inputs (suc place) ds

of_layout : (layout : Option Digest) → list_all is_of_seal (layout_lines layout) ≡ true
of_layout None = refl
of_layout (Some d) = refl

-- the lines of a seal are texts
pub seal_texts : (layout : Option Digest) (inputs : List Digest) (count : ℕ) (status : Status)
    → list_all is_line (seal_lines layout inputs count status) ≡ true → list_all is_text (seal_lines layout inputs count status) ≡ true
seal_texts layout inputs count status h =
    let origin = list_all-append is_of_seal (layout_lines layout) (inputs_from 1 inputs)
    ∙ and_from (list_all is_of_seal (layout_lines layout)) (list_all is_of_seal (inputs_from 1 inputs)) (of_layout layout) (of_inputs 1 inputs) in
    let end = lines.End (count + length (origin_lines layout inputs)) status ∷ [] in
    all_are_texts (seal_lines layout inputs count status) (list_all-append is_of_seal (origin_lines layout inputs) end
    ∙ and_from (list_all is_of_seal (origin_lines layout inputs)) true origin refl) h
