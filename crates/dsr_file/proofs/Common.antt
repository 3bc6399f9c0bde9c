-- The names of other places that the proof files cite, of definitions and of lemmas, passed on from one place. Declares nothing.
pub use Rattle.std.proofs.Common.{Bool, Err, IfOk, List, None, Ok, Option, Result, Some, [], add-zero, ap, append_assoc, arith, cond, count_by, drop, eqb, false, get_or, inl, inr, leb, length, length-append, length-drop, length-take, ltb, map, not, refl, rules, subst, suc, sym, take, take-add, take-append-drop, take_all, true, unwrap_or, zero-add, ℕ, ◌&&◌, ◌*◌, ◌++◌, ◌+◌, ◌-◌, ◌<◌, ◌||◌, ◌∙◌, ◌∷◌, ◌≡◌, ◌≢◌, ◌≤◌, ◌⊎◌}
pub use Rattle.std.proofs.lemmas.Bool.{cases_eq, cases_lt, eqb-true, false≢true, le-ltb, lt-ltb, ne_eqb}
pub use Rattle.std.proofs.lemmas.Bool.Decides.{nat_tests}
pub use Rattle.std.proofs.lemmas.Grind.{common_steps}
pub use Rattle.std.proofs.lemmas.List.{append-nil, get_or-take, length-map, map-append, take_more}
pub use Rattle.std.proofs.lemmas.List.Folds.{list_all-append, list_any-append}
pub use Rattle.std.proofs.lemmas.Result.{IfErr-weaker, IfOk-weaker, err_from_is_err_and}
pub use Rattle.std.proofs.lemmas.Str.{IsUtf8-append, IsUtf8-from_ascii, IsUtf8-from_is_utf8, is_utf8-from_IsUtf8}
pub use Rattle.std.specs.Io.KnownBytes.{Consumes, IsAtEnd}
pub use Rattle.std.specs.List.{filter_map, list_all, list_any, onto_first, position_or_len, slice_split, starts_with}
pub use Rattle.std.specs.Option.{IfNone, IfSome, is_some, option_map, option_to_list}
pub use Rattle.std.specs.Prelude.{IfErr, IsTrue, MatchResult, if◌then◌else◌, nat_eq, nat_le, option_and_then, slice_index, zero, ◌==◌}
pub use Rattle.std.specs.Str.{IsUtf8, bytes_eq, is_utf8}
pub use Rattle.dsr_cells.specs.meaning.Lines.{byte_order_mark, is_line_feed, is_long, line_limit, pieces, without_mark, without_return}
pub use Rattle.dsr_events.specs.declared.event.EventPart.{EventPart}
pub use Rattle.dsr_events.specs.declared.event.EventPart.TheVariants.{Ended}
pub use Rattle.dsr_events.specs.declared.fault.Ending.{Ending}
pub use Rattle.dsr_events.specs.declared.fault.FileFault.{FileFault}
pub use Rattle.dsr_events.specs.declared.fault.Outcome.{Outcome}
pub use Rattle.dsr_events.specs.declared.kinds.Kind.{Kind}
pub use Rattle.dsr_events.specs.declared.record.Record.{Record}
pub use Rattle.dsr_events.specs.declared.record.Record.TheVariants.{Foot, Head, Resource, Skipped, Summary, Usage, Work}
pub use Rattle.dsr_events.specs.meaning.Blocks.{BlockParts}
pub use Rattle.dsr_events.specs.layer.Blocks.{OpensBlock}
pub use Rattle.dsr_events.specs.meaning.Openings.{HasDistinctIds, OpeningParts, distinct}
pub use Rattle.dsr_events.specs.meaning.Orderly.{has_ended, is_ended, Placed}
pub use Rattle.dsr_events.specs.layer.Orderly.{IsOrderly}
pub use Rattle.dsr_io.specs.meaning.Told.{Answered}
pub use Rattle.dsr_io.specs.layer.Told.{AddsRead}
pub use Rattle.dsr_records.specs.inner.Rows.{found_by, record_seen}
pub use Rattle.dsr_records.specs.meaning.Layouts.{is_left_out}
pub use Rattle.dsr_records.specs.meaning.Values.{id_of_record, record_of}
pub use Rattle.dsr_records.specs.layer.Values.{kind_of_record}
pub use Rattle.dsr_records.specs.meaning.Records.{LayoutTable, or_else}
pub use mathlib.Core.List.{IsPrefix}
pub use Rattle.dsr_file.specs.declared.grammar.Grammar.{Grammar}
pub use Rattle.dsr_file.specs.declared.grammar.Step.{Step}
pub use Rattle.dsr_file.specs.declared.grammar.Step.TheVariants.{Faulty, Good, NoMemory}
pub use Rattle.dsr_file.specs.declared.phase.Phase.{Phase}
pub use Rattle.dsr_file.specs.declared.reader.FileReader.{FileReader}
pub use Rattle.dsr_file.specs.declared.stage.Stage.{Stage}
pub use Rattle.dsr_file.specs.declared.stage.Stage.TheVariants.{Closed, Front, Open, Start}
pub use Rattle.dsr_file.specs.inner.Stages.{event_at, block_count, foot_in, summary_count, IsFree, IsMember, IsNew, IsOpen, KeepsStage, block_length, column_at, given_by, part_given, records_of, stage_after, stage_fault}
pub use Rattle.dsr_file.specs.inner.Standing.{AtAnswer, AtCut, AtLine, AtLines, EndsAfter, IsAt, IsDone, SameBut, Taken, phase_after, SameText, Stands, StandsAt, bytes_used, ending_told, events_left, first_ending}
pub use Rattle.dsr_file.specs.inner.Cutting.{CutSteps, CutsTo, FitsCut, IsBetweenLines, IsSettled}
pub use Rattle.dsr_file.specs.inner.ReaderSteps.{Fed, FedSome, Reads}
pub use Rattle.dsr_file.specs.inner.Grammars.{IsRecord, Keeps, LineSteps, TakesMemory, kept_count_fault}
pub use Rattle.dsr_file.specs.meaning.Faults.{column, count_fault, early_fault, fault_if, first_id, in_part, last_part, member_fault, place, summary_fault, summary_limit}
unfoldable pub use Rattle.dsr_file.specs.meaning.Faults.{fault_of}
pub use Rattle.dsr_file.specs.meaning.Texts.{lines_among, AllGood, At, First, counts_fault, end_of, ended_so_far, first_from, first_if, outcome, outcome_at, placed, readings, so_far, taken, text_events}
pub use Rattle.dsr_file.specs.meaning.Readings.{block_limit, block_of, but_last, closed, has_id, is_usage, last_of, opened, opening_of, opens, parts, summaries, usages, works, works_then_usages, Holds, Reading, SkippedLine, file_fault, is_skipped_line, is_skipped_record, kept, of_record, records}
unfoldable pub use Rattle.dsr_file.specs.meaning.Readings.{events_of, of_text, of_utf8, reading}
pub use Rattle.dsr_file.specs.meaning.Runs.{FileText}
pub use Rattle.dsr_file.specs.layer.Runs.{BeginsEvents, EndsByMemory, EndsWith, HasEvents, IsCutOff, IsRun, IsSomeRun, ended, known_events, known_lines}
unfoldable pub use Rattle.dsr_file.specs.meaning.Texts.{events, events_so_far}
