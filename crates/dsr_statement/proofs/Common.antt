-- The names of other places that the proof files cite, of definitions and of lemmas, passed on from one place. Declares nothing.
pub use Rattle.std.proofs.Common.{Bool, Err, FitsSigned, IfErr, List, Ok, Result, [], ap, append_assoc, arith, drop, false, get_or, length, length-append, map, min, of_z, refl, rules, subst, suc, sym, take, to_z, true, ℕ, ◌++◌, ◌+◌, ◌-◌, ◌<◌, ◌^◌, ◌∙◌, ◌∷◌, ◌≡◌, ◌≤◌}
pub use Rattle.std.proofs.lemmas.Grind.{common_steps, flat_map-append}
pub use Rattle.std.proofs.lemmas.Int.{to_z-of_z}
pub use Rattle.std.proofs.lemmas.List.{append-nil, drop-set, length-drop, length-take-le, take-append-le, take_all, take_more}
pub use Rattle.std.specs.Int.{w128}
pub use Rattle.std.specs.List.{flat_map}
pub use Rattle.std.specs.Prelude.{slice_set, ℤ}
pub use Rattle.dsr_ledger.specs.declared.report.LedgerLine.{LedgerLine}
pub use Rattle.dsr_io.specs.meaning.Written.{IsCut, Written}
pub use Rattle.dsr_io.specs.layer.Written.{IsTaken}
pub use Rattle.dsr_statement.specs.declared.pieces.Pieces.{Pieces}
pub use Rattle.dsr_statement.specs.inner.Pieces.{Holds, IsBroken, IsSent, Puts}
