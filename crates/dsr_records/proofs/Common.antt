-- The names of other places that several proof files cite, of definitions and of lemmas, passed on from one place. Declares nothing.
pub use Rattle.std.proofs.Common.{Bool, List, None, Option, Result, Some, [], add-one, ap, append_assoc, arith, cond, div-one, drop, drop-cons, eqb, false, get_or, inl, inr, leb, length, length-append, length-drop, length-take, lit<, ltb, map, mul_comm, not, pow-suc, pow_mono, refl, replicate, rules, slice_get, slice_index, slice_index_or, subst, suc, sym, take, true, w64, w8, zero, ℕ, ◌%◌, ◌*◌, ◌++◌, ◌+◌, ◌-◌, ◌/◌, ◌<◌, ◌^◌, ◌||◌, ◌∙◌, ◌∷◌, ◌≡◌, ◌≤◌}
pub use Rattle.std.proofs.Math.Seq.{take-add}
pub use Rattle.std.proofs.lemmas.Bool.{and_parts, cases_Bool, cases_lt, eq-eqb, eqb-true, false_from_ne_true, false≢true, leb-true, ltb-true, ne_eqb, or_cases}
pub use Rattle.std.proofs.lemmas.Bool.Decides.{nat_tests}
pub use Rattle.std.proofs.lemmas.List.{append-nil, drop-drop, drop-take, get_or-take, get_or_past, length-map, take-take, take_all, take_more}
pub use Rattle.std.proofs.lemmas.List.Elements.{All-from_get_or, All-get_or}
pub use Rattle.std.proofs.lemmas.List.Folds.{list_all_more}
pub use Rattle.std.proofs.lemmas.List.Splits.{length-slice_split, slice_split_first, slice_split_none}
pub use Rattle.std.proofs.lemmas.List.Sums.{AllPass-from_list_all, fails_before_first, list_all-from_AllPass, passes_at_first, position_or_len_is}
pub use Rattle.std.proofs.lemmas.Nat.Bits.{bit_at-trailing_zeros}
pub use Rattle.std.proofs.lemmas.Simd.{bit_mask_l, bitmask_splat, chunk-fits, get_or-chunk, leading_from_mask_l, length-chunk, map-map, mask_l-lt, mask_l-mod, run_in_chunk_stops, tops_compared, trailing_mask_l, zip2_splat, zip2_splat_left}
pub use Rattle.std.proofs.lemmas.Str.{IsUtf8-append, IsUtf8-from_ascii, IsUtf8-from_is_utf8, is_utf8-from_IsUtf8}
pub use Rattle.std.specs.Char.{is_ascii_digit}
pub use Rattle.std.specs.Int.{bit_at}
pub use Rattle.std.specs.Int.Count.{count_trailing_zeros}
pub use Rattle.std.specs.List.{AllByRecursion, list_all, list_any, position_or_len, prefix_len, slice_split, starts_with}
pub use Rattle.std.specs.Option.{option_and_then, unwrap_or}
pub use Rattle.std.specs.Prelude.{Ok, codes, pos, ℤ}
pub use Rattle.std.specs.Simd.Lanes.{chunk, mask_l, top, zip2}
pub use Rattle.std.specs.Str.{IsAscii, IsUtf8, is_utf8}
pub use Rattle.dsr_cells.proofs.Lanes.{part_passes, same_flags}
pub use Rattle.dsr_cells.proofs.Numbers.{decimal_parts, is_digits_yes}
pub use Rattle.dsr_cells.specs.inner.Digits.{IsFilledUp}
pub use Rattle.dsr_cells.specs.meaning.Cells.{cells, raw_parts}
pub use Rattle.dsr_cells.specs.meaning.Numbers.{amount_of, decimal_of, digits_of, digits_sum, is_digits, number_of, signed_of, usages_of}
pub use mathlib.Core.List.{map-append}
pub use Rattle.dsr_records.specs.inner.Rows.{pieces_left, share_count}
pub use Rattle.dsr_records.specs.inner.Usual.{BeginsWithType, IsFront, IsLineOf, is_plain, is_printable, is_shown, odd_bits}
pub use Rattle.dsr_records.specs.meaning.Layouts.{and_positions, empty_layout, has_kind, place_of, place_of_role, position_of, positions_from, standard_layout, with_lines}
pub use Rattle.dsr_records.specs.meaning.Records.{LayoutTable, RoleLine, cell_in, role_of}
pub use Rattle.dsr_records.specs.meaning.Tables.{is_share}
pub use Rattle.dsr_records.specs.meaning.Values.{number_or_zero, record_by_row, record_of, share_or_zero, shares_of, values_of}
