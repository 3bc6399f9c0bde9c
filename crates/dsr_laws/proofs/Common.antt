-- The names of other places that the proof files cite, passed on from one place. Declares nothing.
pub use Rattle.std.proofs.Common.{Bool, List, [], ap, append-nil, arith, drop, eqb, false, inl, inr, length, length-append, length-drop, length-take, map, refl, rules, subst, suc, sym, take, true, zero, ℕ, ◌%◌, ◌*◌, ◌++◌, ◌+◌, ◌-◌, ◌/◌, ◌<◌, ◌^◌, ◌∙◌, ◌∷◌, ◌≡◌, ◌≤◌}
pub use Rattle.std.proofs.lemmas.Bool.{and_from, and_parts, cases_Bool, cond_both, eq-eqb, le-leb, leb-true, lt-ltb, ltb-false, not-false, or_left, or_right}
pub use Rattle.std.proofs.lemmas.Bool.Decides.{nat_tests}
pub use Rattle.std.proofs.lemmas.Int.{ints}
pub use Rattle.std.proofs.lemmas.List.{length-map}
pub use Rattle.std.proofs.lemmas.List.Elements.{recursion_from_All}
pub use Rattle.std.proofs.lemmas.List.Folds.{list_all-append}
pub use Rattle.std.proofs.lemmas.List.Splits.{length-slice_split}
pub use Rattle.std.proofs.lemmas.List.Sums.{count_by-le-length}
pub use Rattle.std.proofs.lemmas.Map.Lookups.{exact_bytes}
pub use Rattle.std.proofs.lemmas.Str.{IsUtf8-append, IsUtf8-from_ascii, IsUtf8-from_is_utf8, IsUtf8-nil, is_utf8-from_IsUtf8}
pub use Rattle.std.specs.Cmp.{Equal-is}
pub use Rattle.std.specs.Cmp.Lexicographic.{nat_list_cmp_total}
pub use Rattle.std.specs.Int.{is_in_range}
pub use Rattle.std.specs.List.{AllByRecursion, cons_option, filter_map, flat_map, join_with_byte, list_all, list_any, onto_first, range_with_len, slice_split, zip}
unfoldable pub use Rattle.std.specs.List.Sorted.{IsStrictlySortedBy}
pub use Rattle.std.specs.Map.{keys_of}
pub use Rattle.std.specs.Option.{option_to_list, unwrap_or}
pub use Rattle.std.specs.Ordering.{eq_by_cmp, is_lt}
pub use Rattle.std.specs.Prelude.{Err, None, Ok, Option, Result, Some, count_by, filter, find, int_le, is_some, neg_ℤ, negsuc, not, pos, slice_get, unsigned_abs, ℤ, ◌&&◌, ◌+ℤ◌, ◌-ℤ◌, ◌<ℤ◌, ◌≤ℤ◌}
pub use Rattle.std.specs.Str.{IsAscii, IsUtf8, bytes_eq, is_utf8}
pub use Rattle.std.specs.declared.cmp.Ordering.{Ordering}
pub use Rattle.std.specs.declared.cmp.Ordering.TheVariants.{Less}
pub use Rattle.jiff_core.proofs.CalendarLemmas.{day_count_bounds, days_from_civil-day_count}
pub use Rattle.jiff_core.proofs.SignedLemmas.{signed_arith}
pub use Rattle.jiff_core.specs.Calendar.{days_in_month}
pub use Rattle.dsr_cells.proofs.Days.{civil_from, in_range}
pub use Rattle.dsr_cells.proofs.Numbers.{digits_sum-lt, scaled-lt}
pub use Rattle.dsr_cells.specs.meaning.Cells.{cells}
pub use Rattle.dsr_cells.specs.meaning.Days.{CivilDay, day_number, day_of, day_of_parts, is_civil_day}
pub use Rattle.dsr_cells.specs.meaning.Lines.{is_line_feed, is_long, pieces, without_mark, without_return}
pub use Rattle.dsr_cells.specs.meaning.Numbers.{amount_of, decimal_of, decimal_of_parts, digits_sum, is_digits, number_of, signed_of, usages_of}
pub use Rattle.dsr_cells.specs.meaning.Texts.{is_currency_text, is_identifier_text, is_isrc_text, is_territory_text, is_use_type_text}
pub use Rattle.dsr_events.specs.declared.event.EventPart.{EventPart}
pub use Rattle.dsr_events.specs.declared.fault.Ending.{Ending}
pub use Rattle.dsr_events.specs.declared.fault.FileFault.{FileFault}
pub use Rattle.dsr_events.specs.declared.fault.Outcome.{Outcome}
pub use Rattle.dsr_events.specs.declared.kinds.Column.{Column}
pub use Rattle.dsr_events.specs.declared.kinds.Kind.{Kind}
pub use Rattle.dsr_events.specs.declared.record.Head.{Head}
pub use Rattle.dsr_events.specs.declared.record.Record.{Record}
pub use Rattle.dsr_events.specs.declared.record.Summary.{Summary}
pub use Rattle.dsr_events.specs.declared.record.Usage.{Usage}
pub use Rattle.dsr_events.specs.meaning.Blocks.{BlockParts}
pub use Rattle.dsr_events.specs.meaning.Names.{column_named}
pub use Rattle.dsr_events.specs.meaning.Openings.{OpeningParts}
pub use Rattle.dsr_events.specs.meaning.Orderly.{Placed}
pub use Rattle.dsr_events.specs.meaning.Works.{WorkParts}
pub use Rattle.dsr_file.specs.meaning.Faults.{column, count_fault, early_fault, fault_if, place}
pub use Rattle.dsr_file.specs.meaning.Readings.{Holds, Reading, SkippedLine, block_limit, block_of, but_last, closed, has_id, is_skipped_line, is_skipped_record, kept, last_of, of_record, opened, opening_of, opens, parts, records, summaries, usages, works, works_then_usages}
unfoldable pub use Rattle.dsr_file.specs.meaning.Readings.{events_of, of_text, of_utf8, reading}
pub use Rattle.dsr_file.specs.meaning.Runs.{FileText, events_of_text}
pub use Rattle.dsr_file.specs.meaning.Sources.{EndsAs, GaveText}
pub use Rattle.dsr_file.specs.meaning.Texts.{AllGood, At, First, counts_fault, first_from, first_if, last_is_line, lines, lines_among, outcome, outcome_at, placed, readings, taken}
unfoldable pub use Rattle.dsr_file.specs.meaning.Texts.{events}
pub use Rattle.dsr_intake.specs.declared.options.Options.{Options}
pub use Rattle.dsr_intake.specs.meaning.Texts.{GaveEach, block_in, file_of, first, opening_in, outcome_in, refusal_of}
unfoldable pub use Rattle.dsr_intake.specs.meaning.Texts.{report_of_texts}
pub use Rattle.dsr_io.specs.meaning.Told.{Told}
pub use Rattle.dsr_ledger.proofs.EachLemmas.{AreFew, abs-int_sum_by, abs-sum, each_append, each_filter, each_flat, each_map, each_weaker, few_flat, fewer}
pub use Rattle.dsr_ledger.proofs.KeyLemmas.{key_exact, key_total}
pub use Rattle.dsr_ledger.proofs.LawLemmas.{add_up, each_line, each_party}
pub use Rattle.dsr_ledger.proofs.NumberedLemmas.{each_at}
pub use Rattle.dsr_ledger.proofs.OrderLemmas.{mapped_in_order, sorted_in_order}
pub use Rattle.dsr_ledger.proofs.PartyLemmas.{lines_are, names_of, parts_and_rest}
pub use Rattle.dsr_ledger.proofs.SmallLemmas.{booked_whole}
pub use Rattle.dsr_ledger.proofs.TallyLemmas.{size_of, small_parts}
pub use Rattle.dsr_ledger.proofs.TextLemmas.{same_text}
pub use Rattle.dsr_ledger.specs.declared.report.Difference.{Difference}
pub use Rattle.dsr_ledger.specs.declared.report.LedgerLine.{LedgerLine}
pub use Rattle.dsr_ledger.specs.declared.report.PartyLine.{PartyLine}
pub use Rattle.dsr_ledger.specs.declared.report.Reject.{Reject}
pub use Rattle.dsr_ledger.specs.declared.report.Report.{Report}
pub use Rattle.dsr_ledger.specs.declared.report.ReportKey.{ReportKey}
pub use Rattle.dsr_ledger.specs.declared.verdict.Reason.{Reason}
pub use Rattle.dsr_ledger.specs.declared.verdict.Standing.{Standing}
pub use Rattle.dsr_ledger.specs.declared.verdict.Verdict.{Verdict}
pub use Rattle.dsr_ledger.specs.declared.verdict.Verdict.TheVariants.{Booked, Rejected}
pub use Rattle.dsr_ledger.specs.inner.Stands.{IsSmall}
pub use Rattle.dsr_ledger.specs.inner.Summaries.{IsInRange}
pub use Rattle.dsr_ledger.specs.layer.Laws.{AddsUp}
pub use Rattle.dsr_ledger.specs.meaning.Bookings.{Booking, Key, booked_under, bookings, filed_bookings, in_order, key_cmp, summary_key_named, summary_key_of, text_cmp, verdict_bookings}
unfoldable pub use Rattle.dsr_ledger.specs.meaning.Bookings.{block_bookings}
pub use Rattle.dsr_ledger.specs.meaning.Files.{File, Filed, filed, filed_after, first_head, summaries_of}
pub use Rattle.dsr_ledger.specs.meaning.Findings.{difference, differences_in, is_there, missing_for, naming, rejects_from, rejects_in, usages_in}
unfoldable pub use Rattle.dsr_ledger.specs.meaning.Findings.{differences, rejects}
pub use Rattle.dsr_ledger.specs.meaning.Laws.{key_of_line}
pub use Rattle.dsr_ledger.specs.meaning.Ledger.{Part, all_parts, amount_sum, at_key, is_at_key, is_for, part_of, parts_of, party_amount, rounded, unclaimed, usages_sum, work_parts}
unfoldable pub use Rattle.dsr_ledger.specs.meaning.Ledger.{ledger, line_of, party_lines}
pub use Rattle.dsr_ledger.specs.meaning.Limits.{int_sum_by}
pub use Rattle.dsr_ledger.specs.meaning.Reports.{file_line, key_of, outcome_of, report_head}
unfoldable pub use Rattle.dsr_ledger.specs.meaning.Reports.{missing, report_of}
pub use Rattle.dsr_ledger.specs.meaning.Verdicts.{first_reason, judged, judged_in, reasons}
unfoldable pub use Rattle.dsr_ledger.specs.meaning.Verdicts.{verdict_by}
pub use Rattle.dsr_records.specs.declared.fault.RecordFault.{RecordFault}
pub use Rattle.dsr_records.specs.meaning.Layouts.{is_left_out}
pub use Rattle.dsr_records.specs.meaning.Records.{LayoutTable, RoleLine, cell_in, cells_at, column_fault, first_fault, is_skipped, or_else, role_of, type_of}
pub use Rattle.dsr_records.specs.meaning.Tables.{cell_of, columns_of, if_file_number, is_not_before, is_spelled, may_be_empty, text_of}
pub use Rattle.dsr_records.specs.meaning.Values.{day_or_first, number_or_zero, record_by_kind, record_by_role, record_of, unless_fault, whole_or_zero}
pub use Rattle.dsr_statement.proofs.Plain.{IsPrinted, all_weaker, cell_fits, fits, lacks, most_of, shown}
pub use Rattle.dsr_statement.proofs.ReportAgain.{report_again, without_report}
pub use Rattle.dsr_statement.specs.declared.line.Line.{Line}
pub use Rattle.dsr_statement.specs.layer.Readings.{IsReading}
pub use Rattle.dsr_statement.specs.layer.Statements.{IsReadable, all_adjacent, are_parties_in_order, is_before, is_text}
pub use Rattle.dsr_statement.specs.meaning.Cells.{are_days, are_usages, cell_text, is_amount, is_cell, is_printed_fault}
pub use Rattle.dsr_statement.specs.meaning.Lines.{column_cells, is_line, key_cells, line_cells, line_text, outcome_cells}
pub use Rattle.dsr_statement.specs.meaning.Order.{is_key_below, is_text_below}
pub use Rattle.dsr_statement.specs.meaning.Statement.{files_from, head_of, lines_of_ledger, statement_lines, statement_of}
