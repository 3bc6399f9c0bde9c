-- The names of other places that the proof files cite, of definitions and of lemmas, passed on from one place. Declares nothing.
pub use Rattle.std.proofs.Common.{Bool, Bor, Err, List, Ok, Result, T, [], ap, append-nil, append_assoc, arith, cond, decimal, drop, false, fold, get_or, inl, inr, length, length-append, map, map-id, nat_eq, not, of_z, refl, rules, set, subst, suc, sum, sym, take, to_z, true, true≢false, zero, ℕ, ⊎_elim, ◌&&◌, ◌*◌, ◌++◌, ◌+◌, ◌-◌, ◌<◌, ◌^◌, ◌||◌, ◌∙◌, ◌∷◌, ◌≡◌, ◌≤◌, ◌⊎◌}
pub use Rattle.std.proofs.Math.ListN.{length-set}
pub use Rattle.std.proofs.Math.Logic.{∥∥₁_elim, ∥∥₁_map}
pub use Rattle.std.proofs.Math.Seq.{map-set_same, take-append_seam}
pub use Rattle.std.proofs.Props.{props}
pub use Rattle.std.proofs.lemmas.Bool.{cases_eq, cond_both, lt-ltb, ltb-false, ltb-true}
pub use Rattle.std.proofs.lemmas.Bool.Decides.{Decides-and, Decides-like, nat_tests}
pub use Rattle.std.proofs.lemmas.Cmp.{eq_by_cmp_equiv, nat_eq_equiv, ranked}
pub use Rattle.std.proofs.lemmas.Grind.{common_steps}
pub use Rattle.std.proofs.lemmas.Int.{fits_signed_from_abs, ints, quot-rem, rem_below, to_z-of_z, unsigned_abs-mul}
pub use Rattle.std.proofs.lemmas.List.{drop-append-le, drop_all, flat_map_more, get_or-map, get_or-take, get_or_append_left, get_or_default, get_or_push, length-map, length-take, length_push, map-append, map_push, take-map, take_all, take_more}
pub use Rattle.std.proofs.lemmas.List.Concat.{flat_map-append}
pub use Rattle.std.proofs.lemmas.List.Elements.{All-contains_itself, All-filter, All-from_recursion, All-map, All-push, All-set, All-weaker, Contains-append_left, Contains-append_right, Contains-get_or, filter-append, filter_more, filter_passes, recursion_from_All}
pub use Rattle.std.proofs.lemmas.List.Folds.{find-append, list_any-append, list_any_at, list_any_none, position_or_len_push}
pub use Rattle.std.proofs.lemmas.List.FromFn.{filter_of_map_range_with_len_more}
pub use Rattle.std.proofs.lemmas.List.MinMax.{ranks_by}
pub use Rattle.std.proofs.lemmas.List.Quantifiers.{position-Some}
pub use Rattle.std.proofs.lemmas.List.Sorted.{All-permutation, Contains-permutation, IsPermutation-map, answers_always}
pub use Rattle.std.proofs.lemmas.List.Sums.{count_by-le-length, fails_before_first, length-filter, position_or_len_is, prefix_len-le-length, sum_by-append, sum_by-cons, sum_by-le, sum_by-le-sum_by, sum_by_more_le}
pub use Rattle.std.proofs.lemmas.Map.Entries.{lookup_from_place}
pub use Rattle.std.proofs.lemmas.Map.Keys.{IsDistinct-IsPermutation, IsDistinct-from_apart, IsDistinct-from_sorted, IsDistinct-push, apart_from_distinct, sorted_from_all_adjacent}
pub use Rattle.std.proofs.lemmas.Map.Lookups.{exact_bytes}
pub use Rattle.std.proofs.lemmas.Map.Steps.{length-le_from_distinct_below}
pub use Rattle.std.proofs.lemmas.Map.Text.{is_eq-slice_cmp}
pub use Rattle.std.proofs.lemmas.Map.Views.{any-filter_same, list_any-from_Contains}
pub use Rattle.std.proofs.lemmas.Option.{MatchOption-at_some, get_or_from_slice_get, gets, same_Some, slice_get-get_or, slice_get-map, slice_get_read, slice_get_within}
pub use Rattle.std.proofs.lemmas.Result.{IfOk-weaker, MatchResult-from_err, on_err_weaker, on_ok_weaker}
pub use Rattle.std.proofs.lemmas.Simd.{map-map}
pub use Rattle.std.proofs.lemmas.Slice.Eq.{bytes_eq-Decides}
pub use Rattle.std.proofs.lemmas.Slice.Zip.{AllZip-left, AllZip-long, all_zipped_more, get_or-zip, length-zip}
pub use Rattle.std.specs.Bool.{Decides}
pub use Rattle.std.specs.Cmp.{Equal-is, IsEquivalence, IsTotalOrder, both_tied, on_total, then_total, tied_itself}
pub use Rattle.std.specs.Cmp.Lexicographic.{nat_list_cmp_total, nat_list_eq_equiv, texts_ties}
pub use Rattle.std.specs.Int.{w128}
pub use Rattle.std.specs.Int.RustNames.{FitsSigned, int_div}
pub use Rattle.std.specs.List.{AllByRecursion, AllZip, Contains, drop-map, flat_map, list_all, list_any, position, prefix_len, range_with_len, refill, zip}
unfoldable pub use Rattle.std.specs.List.{IsDistinct}
pub use Rattle.std.specs.List.Sorted.{IsBinarySearchResult, IsNonDecreasingBy, IsPermutation, IsSearchInRange, IsSortedBy}
unfoldable pub use Rattle.std.specs.List.Sorted.{IsStrictlySortedBy}
pub use Rattle.std.specs.Map.{keys_of, lookup}
pub use Rattle.std.specs.Option.{ForSome, option_and_then, option_map_or, option_or}
pub use Rattle.std.specs.Ordering.{eq_by_cmp, is_eq, is_lt, nat_cmp, ordering_index, ordering_then}
pub use Rattle.std.specs.Prelude.{All, AllPairs, IfOk, IsSomeAnd, MatchResult, None, OnErr, OnOk, Option, Some, filter, find, if◌then◌else◌, is_ok, is_some, nat_lt, negsuc, option_map, pos, slice_get, sum_by, unsigned_abs, vec_capacity, vec_len, ℤ, ◌*ℤ◌, ◌+ℤ◌, ◌-ℤ◌, ◌<ℤ◌, ◌≤ℤ◌}
pub use Rattle.std.specs.Str.{bytes_eq}
pub use Rattle.std.specs.Vec.{with_item}
pub use Rattle.std.specs.Vec.Iter.{into_iter_items, into_iter_len}
pub use Rattle.std.specs.declared.cmp.Ordering.{Ordering}
pub use Rattle.std.specs.declared.cmp.Ordering.TheVariants.{Equal, Less}
pub use Rattle.dsr_events.specs.declared.fault.Outcome.{Outcome}
pub use Rattle.dsr_events.specs.declared.record.Head.{Head}
pub use Rattle.dsr_events.specs.declared.record.Summary.{Summary}
pub use Rattle.dsr_events.specs.declared.record.Usage.{Usage}
pub use Rattle.dsr_events.specs.meaning.Blocks.{BlockParts}
pub use Rattle.dsr_events.specs.meaning.Works.{WorkParts}
pub use Rattle.dsr_events.specs.meaning.Openings.{OpeningParts}
pub use Rattle.indexmap.proofs.CallerLemmas.{insert_entry-new, keys-with_value_at, updates-with_value_at}
pub use Rattle.indexmap.proofs.MapLemmas.{Found-position, some_index}
pub use Rattle.indexmap.specs.IndexMap.{IndexMap, IsUnchanged, IsUnique, Updates, get, index_of, keys, with_value_at}
pub use Rattle.indexmap.specs.IndexSet.{insert_key}
pub use Rattle.dsr_ledger.specs.declared.booking.Plan.{Plan}
pub use Rattle.dsr_ledger.specs.declared.books.Kept.{Kept}
pub use Rattle.dsr_ledger.specs.declared.file.FileBooks.{FileBooks}
pub use Rattle.dsr_ledger.specs.declared.file.ids.Ids.{Ids}
pub use Rattle.dsr_ledger.specs.declared.file.summaries.Summaries.{Summaries}
pub use Rattle.dsr_ledger.specs.declared.file.summaries.SummaryState.{SummaryState}
pub use Rattle.dsr_ledger.specs.declared.ledger.Ledger.{Ledger}
pub use Rattle.dsr_ledger.specs.declared.ledger.line.Line.{Line}
pub use Rattle.dsr_ledger.specs.declared.ledger.part.SeatPart.{SeatPart}
pub use Rattle.dsr_ledger.specs.declared.ledger.parts.Parts.{Parts}
pub use Rattle.dsr_ledger.specs.declared.ledger.parts.SeatShare.{SeatShare}
pub use Rattle.dsr_ledger.specs.declared.ledger.recording.Recording.{Recording}
pub use Rattle.dsr_ledger.specs.declared.ledger.seats.Seats.{Seats}
pub use Rattle.dsr_ledger.specs.declared.ledger.summary_key.SummaryKey.{SummaryKey}
pub use Rattle.dsr_ledger.specs.declared.report.LedgerLine.{LedgerLine}
pub use Rattle.dsr_ledger.specs.declared.report.PartyLine.{PartyLine}
pub use Rattle.dsr_ledger.specs.declared.sums.Sums.{Sums}
pub use Rattle.dsr_ledger.specs.declared.verdict.Standing.{Standing}
pub use Rattle.dsr_ledger.specs.declared.verdict.Verdict.{Verdict}
pub use Rattle.dsr_ledger.specs.declared.verdict.Verdict.TheVariants.{Booked, Rejected}
pub use Rattle.dsr_ledger.specs.declared.view.LedgerView.{LedgerView}
pub use Rattle.dsr_ledger.specs.inner.Assembly.{difference_to, differences_kept, differences_to, is_number_kept, line_kept, missing_kept, sums_or_zeros}
pub use Rattle.dsr_ledger.specs.inner.Books.{IsReached, IsSmallFile, Stands, blocks_in, ended_in, has_opening_in}
pub use Rattle.dsr_ledger.specs.inner.FileSteps.{IsBlockInRange, IsNumberedFile, IsSameFile, TakesBlock, AreLined, IsLined, IsPlanned}
pub use Rattle.dsr_ledger.specs.inner.Ids.{is_between, is_in}
pub use Rattle.dsr_ledger.specs.inner.IdRanks.{number_of_id, rank_of, with_byte}
pub use Rattle.dsr_ledger.specs.inner.Numbered.{AreIndexed, Rise, AreApart, AreBelow, Grows, IsNumbered, IsWithNumber, place_by, place_in, read_at}
pub use Rattle.dsr_ledger.specs.inner.Stands.{AreOfSmall, AreSmall, IsSmall, FileStands, FilesStand, LedgerStands, Took, openings_of}
pub use Rattle.dsr_ledger.specs.inner.Seated.{Owed, PartsGrow, nothing_owed, owed_at_place, owed_for, owed_in, owed_kept, owed_of, owed_plus, owed_with, part_in, part_seats, parts_size, AreSeated, AreSeatsBelow, HasPart, HaveParts, HaveSeats, IsSeated, SeatedMore, seat_numbers, shares_of}
pub use Rattle.dsr_ledger.specs.inner.Summaries.{IsInRange, SumsFit, AreNumbered, StateFits, found_in, index_at, is_known, named, no_sums, nothing_found, number_at, state_at, state_plus, state_with, sums_at, sums_with}
pub use Rattle.dsr_ledger.specs.inner.Recordings.{IsLineOf, IsWideAt, KeepsKeys, KeepsLines, KeepsSeats, SameNumbers, key_number, line_at, party_number, recording_number, recording_tally, seat_at, seat_of, tally_at, summary_key_cmp, summary_key_eq, summary_key_in}
pub use Rattle.dsr_ledger.specs.inner.View.{AreDistinctBelow, AreListed, key_in, lent, line_for, numbered_by, party_in, AreBefore, AreGiven, HaveGiven, IsBookedLine, booked_lines, keys_under, lines_left, most_left}
pub use Rattle.dsr_ledger.specs.inner.Tallies.{AreWithin, IsWide, LinesGrow, Tally, TallyFits, key_tally, line_in, line_keys, line_tally, lines_tally, no_tally, tally_of, tally_plus, tally_with}
pub use Rattle.dsr_ledger.specs.meaning.Bookings.{Booking, booked_under, bookings, filed_bookings, key_under, summary_key_named, summary_key_of, usage_bookings, verdict_bookings, Key, in_order, key_cmp, key_eq, text_cmp}
unfoldable pub use Rattle.dsr_ledger.specs.meaning.Bookings.{block_bookings}
pub use Rattle.dsr_ledger.specs.meaning.Files.{File, Filed, filed, filed_after, first_head, has_same_number, is_of_report, is_same_report, standing, summaries_of}
pub use Rattle.dsr_ledger.specs.layer.Files.{opened, with_block, with_file, with_one, with_outcome}
pub use Rattle.dsr_ledger.specs.meaning.Findings.{difference, differences_in, differs, ended_whole, has_number, is_ours, is_there, missing_for, naming, rejects_from, rejects_in, usages_in}
unfoldable pub use Rattle.dsr_ledger.specs.meaning.Findings.{differences, rejects}
pub use Rattle.dsr_ledger.specs.meaning.Ledger.{amount_sum, at_key, is_at_key, Part, all_parts, is_for, part_of, parts_of, party_amount, rounded, unclaimed, work_parts}
unfoldable pub use Rattle.dsr_ledger.specs.meaning.Ledger.{ledger, line_of, party_lines}
pub use Rattle.dsr_ledger.specs.meaning.Reports.{file_line, key_of, outcome_of, report_head}
unfoldable pub use Rattle.dsr_ledger.specs.meaning.Reports.{missing, report_of}
pub use Rattle.dsr_ledger.specs.meaning.Limits.{int_sum_by}
pub use Rattle.dsr_ledger.specs.meaning.Verdicts.{first_reason, has_id, is_summary, judged, judged_in, names_unknown, reasons, share_total, verdict}
pub use Rattle.dsr_ledger.specs.layer.Verdicts.{verdict_after, verdict_in, verdict_of}
unfoldable pub use Rattle.dsr_ledger.specs.meaning.Verdicts.{verdict_by}
