-- The seal of a run: its digests are spelled, and the lines before it are counted.
use Rattle.dsr_laws.proofs.Common.{AllByRecursion, IsReadable, Line, List, None, Option, Report, ReportKey, Some, [], and_from, and_parts, ap, arith, each_append, eq-eqb, eqb, is_line, is_text, is_utf8, lacks, length, length-append, length-map, line_text, list_all, list_all-append, lt-ltb, map, nat_tests, refl, statement_lines, subst, suc, sym, true, zero, ℕ, ◌%◌, ◌++◌, ◌+◌, ◌/◌, ◌<◌, ◌^◌, ◌∙◌, ◌∷◌, ◌≡◌, ◌≤◌}
use Rattle.std.specs.Prelude.{cond, nat_le, slice_index, Ok}
use Rattle.dsr_statement.specs.meaning.Readings.{most_bytes}
use Rattle.std.specs.Option.{option_map}
use Rattle.std.specs.Int.{to_be_bytes, w32}
use Rattle.std.proofs.lemmas.Grind.{flat_map-append}
use Rattle.std.proofs.lemmas.List.Sums.{AllPass-from_list_all, sum_by-append, sum_by-cons}
use Rattle.hex.specs.Hex.{encode_lower, lower_digits}
unfoldable use Rattle.hex.specs.Hex.{encode_with}
use Rattle.hex.proofs.HexLemmas.{length-encode_with}
unfoldable use Rattle.sha2.specs.Sha256.{digest_bytes, sha256}
use Rattle.sha2.proofs.Facts256.{length-sha256}
use Rattle.dsr_seal.specs.meaning.Counts.{line_feeds}
use Rattle.dsr_seal.specs.meaning.Digests.{digest_of, sha256_text}
use Rattle.dsr_seal.proofs.SealLines.{length-inputs_from, lines_within}
use Rattle.dsr_statement.specs.declared.line.Line.TheVariants as lines
use Rattle.dsr_statement.specs.layer.Readings.{IsReading}
use Rattle.dsr_statement.specs.layer.Seals.{AreDigestsOf, seal_of, sealed_lines}
use Rattle.dsr_statement.specs.meaning.Digests.{Digest, is_sha256_text, is_small_hex}
use Rattle.dsr_statement.specs.meaning.Lines.{line_bytes}
use Rattle.dsr_statement.specs.meaning.Seals.{inputs_from, layout_lines, origin_lines, seal_lines}
unfoldable use Rattle.dsr_statement.specs.meaning.Statement.{statement_of}
use Rattle.dsr_statement.specs.meaning.Statement.{text_of}
use Rattle.dsr_statement.specs.meaning.Status.{status_of}
use Rattle.dsr_statement.proofs.SealedAgain.{is_sealed_statement, sealed_again}
use Rattle.dsr_laws.specs.layer.Again.{AreSealable, IsReadSealed, sealed_text}

-- the text of a SHA-256
digest_small : (h : List ℕ) (n : ℕ) → AllByRecursion (λ b. b < 256) (digest_bytes h n)
unfolding digest_bytes
digest_small h zero = tt
digest_small h (suc n) =
    each_append (λ b. b < 256) (digest_bytes h n) (to_be_bytes w32 (slice_index h n)) (digest_small h n)
    (omega arith, (omega arith, (omega arith, (omega arith, tt))))

hex_digit : (d : ℕ) → d < 16 → is_small_hex (slice_index lower_digits d) ≡ true
hex_digit d low = AllPass-from_list_all is_small_hex lower_digits refl d 0 low

hex_small : (bytes : List ℕ) → AllByRecursion (λ b. b < 256) bytes → list_all is_small_hex (encode_lower bytes) ≡ true
unfolding encode_with
hex_small [] h = refl
hex_small (b ∷ bs) h =
    and_from _ _ (hex_digit (b / 16) (omega (arith, h.0))) (and_from _ _ (hex_digit (b % 16) (omega arith)) (hex_small bs h.1))

sha256_spelled : (bytes : List ℕ) → is_sha256_text (sha256_text bytes) ≡ true
unfolding sha256
sha256_spelled bytes =
    and_from _ _ (hex_small (sha256 bytes) (digest_small _ 8))
    (eq-eqb (length (sha256_text bytes)) 64 (omega (arith, length-encode_with lower_digits (sha256 bytes), length-sha256 bytes)))

-- lines without line feeds are counted by the line feeds behind them
abbrev feed : ℕ → ℕ
feed b = cond (eqb b 10) 1 0

no_feeds : (text : List ℕ) → lacks 10 text ≡ true → line_feeds text ≡ 0
no_feeds [] h = refl
no_feeds (b ∷ bs) h = grind (arith, nat_tests, sum_by-cons feed b bs, no_feeds bs)

feeds_counted : (ls : List Line) → list_all is_text ls ≡ true → line_feeds (text_of ls) ≡ length ls
feeds_counted [] h = refl
feeds_counted (l ∷ ls) h =
    let text = line_text l in let (own, rest) = and_parts (is_text l) (list_all is_text ls) h in
    let none = no_feeds text (and_parts (nat_le (length text) most_bytes) _ (and_parts (is_utf8 text) _ own).1).1 in
    omega (arith, sum_by-append feed (line_bytes l) (text_of ls), sum_by-append feed text (10 ∷ []), none, feeds_counted ls rest)

-- the lines of a seal are in their ranges
layout_spelled : (layout : Option (List ℕ)) → ((bytes : List ℕ) → layout ≡ Some bytes → length bytes < 2 ^ 64)
    → (list_all is_line (layout_lines (option_map digest_of layout)) ≡ true) × (length (layout_lines (option_map digest_of layout)) ≤ 1)
layout_spelled None h = (refl, omega arith)
layout_spelled (Some bytes) h =
    (and_from _ _ (and_from _ _ (lt-ltb (length bytes) (2 ^ 64) (h bytes refl)) (and_from _ _ (sha256_spelled bytes) refl)) refl, omega arith)

inputs_spelled : (place : ℕ) (given : List (List ℕ)) → AllByRecursion (λ bytes. length bytes < 2 ^ 64) given → place + length given ≤ 2 ^ 63
    → list_all is_line (inputs_from place (map digest_of given)) ≡ true
inputs_spelled place [] h low = refl
inputs_spelled place (bytes ∷ more) h low =
    and_from _ _ (and_from _ _ (lt-ltb place (2 ^ 64) (omega arith))
    (and_from _ _ (lt-ltb (length bytes) (2 ^ 64) h.0) (and_from _ _ (sha256_spelled bytes) refl))) (inputs_spelled (suc place) more h.1 (omega arith))

-- a report that is read again, with the digests of its files
module _ (key : ReportKey) (r : Report) (readable : IsReadable key r) (layout : Option (List ℕ)) (given : List (List ℕ)) (sealable : AreSealable layout given r)
    (few : length r.files ≤ 64) where
  abbrev own : Option Digest
  own = option_map digest_of layout

  abbrev inputs : List Digest
  inputs = map digest_of given

  counted : line_feeds (statement_of r) ≡ length (statement_lines r)
  unfolding statement_of
  counted = feeds_counted (statement_lines r) readable.texts

  digests : AreDigestsOf own inputs r
  unfolding statement_of
  digests =
      let first = layout_spelled layout sealable.layout_short in let many = length-map given digest_of in
      let rest = inputs_spelled 1 given sealable.short (omega (arith, sealable.each)) in
      let count = length (statement_lines r) + length (origin_lines own inputs) in
      let low : count < 2 ^ 64 =
      omega (
        arith,
        sealable.statement,
        sealable.each,
        lines_within (statement_lines r),
        length-append (layout_lines own) (inputs_from 1 inputs),
        length-inputs_from 1 inputs,
        first.1,
      ) in
      let origin = list_all-append is_line (layout_lines own) (inputs_from 1 inputs) ∙ and_from _ _ first.0 rest in
      record {
        each = omega (arith, sealable.each);
        spelled =
            list_all-append is_line (origin_lines own inputs) (lines.End count (status_of r) ∷ [])
            ∙ and_from _ _ origin (and_from _ _ (and_from _ _ (lt-ltb count (2 ^ 64) low) refl) refl);
      }

  text_is : text_of (sealed_lines own inputs r) ≡ sealed_text layout given r
  unfolding statement_of
  text_is =
      flat_map-append line_bytes (statement_lines r) (seal_of own inputs r)
      ∙ ap (λ n. text_of (statement_lines r) ++ text_of (seal_lines own inputs n (status_of r))) (sym counted)

  pub sealed_read : IsReadSealed layout given r
  sealed_read = (
    is_sealed_statement key r readable own inputs digests,
    subst (λ text. IsReading text (Ok (sealed_lines own inputs r))) text_is (sealed_again key r readable own inputs digests),
  )
