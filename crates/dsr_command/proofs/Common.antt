-- The names of other places that the proof files cite, of definitions and of lemmas, passed on from one place. Declares nothing.
pub use Rattle.std.proofs.Common.{All, Bor, IfOk, List, None, Some, [], ap, ap₂, arith, codes, drop, false, inl, inr, length, length-append, length-take, map, option_map, pos, refl, rules, slice_index_or, subst, sym, take, true, true≢false, unwrap_or, ℕ, ◌++◌, ◌+◌, ◌-◌, ◌<◌, ◌∙◌, ◌∷◌, ◌≡◌, ◌≢◌, ◌≤◌}
pub use Rattle.std.proofs.lemmas.Grind.{common_steps}
pub use Rattle.std.proofs.lemmas.List.{append-nil, append_assoc, get_or_default, map-append, take-append-drop, take-append-le, take_all, take_more}
pub use Rattle.std.proofs.lemmas.List.Elements.{All-push}
pub use Rattle.std.specs.Vec.Iter.{into_iter_items}
pub use Rattle.clap.specs.Words.{Rule, all_of, fault_of, found_of, is_simple, matches_of, one_text, rows_of, rule_of, with_rule}
pub use Rattle.dsr_io.proofs.Taken.{cut_after, cut_at_flush, flushed_after, taken_more, taken_none}
pub use Rattle.dsr_io.specs.meaning.Written.{IsCut, IsFlushed, Written}
pub use Rattle.dsr_io.specs.layer.Written.{IsTaken}
pub use Rattle.dsr_command.specs.CommandLine.{Answers, IsAskedBy, IsFaultOf, IsFlagAsked, IsNumberAsked, is_request, option_rule}
unfoldable pub use Rattle.dsr_command.specs.CommandLine.{bare_command, command_line}
pub use Rattle.dsr_command.specs.Faults.{IsWritten, joined}
