-- The names of other places that the proof files cite, of definitions and of lemmas, passed on from one place. Declares nothing.
pub use Rattle.std.proofs.Common.{Bor, List, None, Option, Some, [], ap, arith, drop, eqb, inl, length, length-append, length-drop, length-set, length-take-le, nat_eq, option_map, refl, replicate, rules, slice_get, slice_index_or, slice_set, suc, sym, take, true, zero, ℕ, ◌&&◌, ◌++◌, ◌+◌, ◌-◌, ◌<◌, ◌∙◌, ◌∷◌, ◌≡◌, ◌≤◌}
pub use Rattle.std.proofs.lemmas.List.{drop-drop, drop-replicate, length-take, places, take-append-drop, take-append-le, take-take, take_all, take_more_set}
pub use Rattle.std.proofs.lemmas.Simd.{put_chunk_whole}
pub use Rattle.std.specs.Simd.Lanes.{chunk, put_chunk}
pub use Rattle.dsr_texts.specs.inner.Bytes.{AreBytes}
