-- The names of other places that several proof files cite, of definitions and of lemmas, passed on from one place. Declares nothing.
pub use Rattle.std.proofs.Common.{Bool, Bor, Equal, Err, Fits, FitsSigned, Greater, Less, List, None, Ok, Option, Ordering, Result, Some, [], add-one, ap, append_assoc, ap₂, arith, bit_or, cond, drop, drop-cons, eqb, false, get_or, inl, inr, length, length-append, length-drop, lit<, ltb, map, min, mul-lt-mul_of_pos_right, mul_assoc, mul_comm, nat_cmp, not, refl, replicate, rules, slice_index, subst, suc, sym, take, take-append-drop, take_all, to_z, true, true≢false, w16, w64, w8, zero, zero-add, ℕ, ◌%◌, ◌&&◌, ◌*◌, ◌++◌, ◌+◌, ◌-◌, ◌/◌, ◌<◌, ◌^◌, ◌||◌, ◌∙◌, ◌∷◌, ◌≡◌, ◌≢◌, ◌≤◌, ◌⊎◌}
pub use Rattle.std.proofs.Math.Nat.{add-mul, add-mul-mod_self_left, min-eq_left, min-eq_right, mod-eq_of_lt, mul-div_cancel, mul-lt-mul_of_pos_left, one-le-pow, pow-le-pow_right, pow-suc, sub-zero}
pub use Rattle.std.proofs.Math.Seq.{take-add}
pub use Rattle.std.proofs.lemmas.Bool.{agree_below, agree_below_at, and_from, and_left, and_parts, and_right, cases_Bool, cases_eq, cases_lt, eq-eqb, eqb-false, eqb-true, false_from_ne_true, le-leb, le-ltb, leb-true, lt-leb, lt-ltb, ne_eqb}
pub use Rattle.std.proofs.lemmas.Bool.Decides.{nat_tests}
pub use Rattle.std.proofs.lemmas.Fmt.{decimal-digits_value, decimal_is_IsNumeral_wide, length-decimal-le, length-decimal-le_wide}
pub use Rattle.std.proofs.lemmas.Grind.{common_steps}
pub use Rattle.std.proofs.lemmas.Int.{ints, to_z_pos}
pub use Rattle.std.proofs.lemmas.List.{append-nil, drop-drop, drop-replicate, drop-set, drop-take, drop_all, get_or-replicate, get_or-take, get_or_append_left, length-map, length-replicate, length-take, length_push, map-append, take-map, take-take, take_more}
pub use Rattle.std.proofs.lemmas.List.Folds.{list_all-append}
pub use Rattle.std.proofs.lemmas.List.Splits.{length-slice_split, slice_split-cons_no, slice_split-cons_yes, slice_split_at, slice_split_none}
pub use Rattle.std.proofs.lemmas.Map.Text.{is_eq-slice_cmp}
pub use Rattle.std.proofs.lemmas.Nat.{and_block, and_mask, pow-add, pow_pos, xor_block, xor_lt}
pub use Rattle.std.proofs.lemmas.Simd.{Each1-chunk, Each1-replicate, Each1-weaker, bitmask_splat, chunk-fits, leading_from_mask_l, length-chunk, map-map, run_in_chunk_fails, run_in_chunk_stops, trailing_mask_l, zip2_splat}
pub use Rattle.std.proofs.lemmas.Str.{IsCharBoundary-after_ascii, IsCharBoundary-before_ascii}
pub use Rattle.std.proofs.lemmas.Str.Parse.{IsDigitsTest, IsNumeralModel, digits_value_short, not_in_digits, numerals_by_weight}
pub use Rattle.std.proofs.lemmas.Str.Pattern.{split_parts, strip_prefix_char}
pub use Rattle.std.specs.Char.{is_ascii_digit}
pub use Rattle.std.specs.Fmt.{decimal, format_spec, styled_decimal}
pub use Rattle.std.specs.Int.{from_le_bytes}
pub use Rattle.std.specs.Int.Bits.{bit_and, bit_xor}
pub use Rattle.std.specs.Int.Count.{count_trailing_zeros}
pub use Rattle.std.specs.List.{All, list_all, onto_first, position, position_or_len, prefix_len, slice_split}
pub use Rattle.std.specs.Option.{option_map}
pub use Rattle.std.specs.Ordering.{MatchOrdering, is_eq, ordering_then}
pub use Rattle.std.specs.Prelude.{IfSome, count_by, if◌then◌else◌, neg_ℤ, negsuc, pos, unsigned_abs, ℤ}
pub use Rattle.std.specs.Simd.Lanes.{Each1, chunk, mask_l, number_l, top, zip2}
pub use Rattle.std.specs.String.{string_bytes}
pub use Rattle.jiff_core.specs.Calendar.{IsDate, days_in_month}
pub use Rattle.memchr.specs.Find.{IsFirstByte, is_byte}
pub use denote.Shadow.{shadow}
pub use denote.Text.{Utf8}
pub use Rattle.dsr_cells.specs.inner.Digits.{IsFilledUp, IsWordOf, SpellsNumber, number_of_eight, word_of_eight, word_of_four}
pub use Rattle.dsr_cells.specs.meaning.Cells.{cells, parts_after, raw_parts, value_after, value_of}
pub use Rattle.dsr_cells.specs.meaning.Days.{CivilDay, day_of, day_of_parts, if_civil, is_civil_day}
pub use Rattle.dsr_cells.specs.meaning.Numbers.{amount_of, decimal_of, decimal_of_parts, digits_of, digits_sum, is_digits, signed_of}
pub use Rattle.dsr_cells.specs.meaning.Texts.{is_isrc_text, is_run_of}
pub use Rattle.dsr_cells.specs.meaning.Written.{padded_number, written, written_day}
