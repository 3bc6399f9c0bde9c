-- The names of other places that the proof files cite, of definitions and of lemmas, passed on from one place. Declares nothing.
pub use Rattle.std.proofs.Common.{All, Bool, Err, IfErr, IsSome, List, None, Ok, Result, Some, [], add-one, ap, append_assoc, arith, drop, false, get_or, inl, inr, is_some, length, length-append, length-take, map, refl, set, slice_get, subst, suc, sym, take, true, true≢false, vec_capacity, vec_len, zero, ℕ, ◌++◌, ◌+◌, ◌<◌, ◌^◌, ◌||◌, ◌∙◌, ◌∷◌, ◌≡◌, ◌≤◌, ◌⊎◌}
pub use Rattle.std.proofs.lemmas.Grind.{common_steps}
pub use Rattle.std.proofs.lemmas.List.{append-nil, length-map, length-set, map-append, map-set, set-get_or, set-set, take-append-drop, take_all}
pub use Rattle.std.proofs.lemmas.List.Elements.{All-append, All-cons, All-head, All-nil, All-push, All-set, All-tail, filter_map-append}
pub use Rattle.std.proofs.lemmas.Option.{get_or_from_slice_get, gets, slice_get-get_or, slice_get-map, slice_get_read, slice_get_within}
pub use Rattle.std.proofs.lemmas.Result.{err_from_is_err_and}
pub use Rattle.std.specs.List.{filter_map}
pub use Rattle.std.specs.Prelude.{IfOk, MatchOption, OnOk, Option, is_ok}
pub use Rattle.std.specs.Vec.Iter.{into_iter_items, into_iter_len}
pub use Rattle.dsr_events.specs.declared.event.EventPart.{EventPart}
pub use Rattle.dsr_events.specs.declared.fault.Outcome.{Outcome}
pub use Rattle.dsr_events.proofs.OrderlyLaws.{orderly_front, orderly_next, slice_get_front}
pub use Rattle.dsr_events.specs.meaning.Orderly.{has_ended, is_ended, Placed}
pub use Rattle.dsr_events.specs.layer.Orderly.{IsOrderly, MayStandAt}
pub use Rattle.dsr_file.proofs.RunLemmas.{run_orderly}
pub use Rattle.dsr_file.specs.meaning.Runs.{FileText, events_of_text}
pub use Rattle.dsr_io.specs.meaning.Told.{Told}
pub use Rattle.dsr_ledger.specs.declared.books.Books.{Books}
pub use Rattle.dsr_ledger.specs.inner.BooksWords.{AllEnded, CanBook, CanEnd, Stands, files_count, opened_count}
pub use Rattle.dsr_ledger.specs.meaning.Files.{File}
pub use Rattle.dsr_ledger.specs.layer.Files.{add_block, end_with, opened, with_block, with_outcome}
pub use Rattle.dsr_relay.specs.layer.Views.{TapView}
pub use Rattle.dsr_intake.specs.declared.options.Options.{Options}
pub use Rattle.dsr_intake.specs.inner.Collecting.{Changes, IsDrained, IsFileAt, IsFollowed, IsGoing, IsNext, IsStoppedAt, IsTapped, Knows, Opens, TakesAll, first_file, is_opening, with_part, ends_clean, is_clean_end, IsGiven, HasMore, taken_count}
pub use Rattle.dsr_intake.specs.meaning.Texts.{GaveEach, block_in, file_of, first, opening_in, outcome_in}
unfoldable pub use Rattle.dsr_intake.specs.meaning.Texts.{report_of_texts}
