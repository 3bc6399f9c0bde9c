-- The names of other places that the proof files cite, of definitions and of lemmas, passed on from one place. Declares nothing.
pub use Rattle.std.proofs.Common.{Bool, List, Some, [], ap, append_assoc, arith, drop, false, inl, inr, length, length-append, map, refl, rules, set, slice_get, slice_index_or, subst, suc, sym, take, true, true≢false, zero, ℕ, ⊎_elim, ◌*◌, ◌++◌, ◌+◌, ◌-◌, ◌<◌, ◌||◌, ◌∙◌, ◌∷◌, ◌≡◌, ◌≢◌, ◌≤◌, ◌⊎◌}
pub use Rattle.std.proofs.lemmas.Grind.{common_steps}
pub use Rattle.std.specs.List.{AllByRecursion, sum_by}
pub use Rattle.crossbeam_channel.specs.Claims.{view}
pub use Rattle.crossbeam_channel.specs.Fifo.{Forks, Learns, Merges, Pops, Pushes}
pub use Rattle.dsr_events.proofs.OrderlyLaws.{ended_whole, orderly_front, orderly_next, orderly_nil}
pub use Rattle.dsr_events.specs.meaning.Orderly.{has_ended, is_ended, Placed}
pub use Rattle.dsr_events.specs.layer.Orderly.{IsOrderly, block_event}
pub use Rattle.dsr_relay.specs.declared.rule.Log.{Log}
pub use Rattle.dsr_relay.specs.declared.rule.Log.TheVariants.{Both, Fresh, Sends, Spent, Takes}
pub use Rattle.dsr_relay.specs.inner.Feeds.{feed_view, sent_of}
pub use Rattle.dsr_relay.specs.inner.Taps.{arrived, tap_view}
pub use Rattle.dsr_relay.specs.layer.Lanes.{get, put}
pub use Rattle.dsr_relay.specs.layer.Lanes.{Gets, Happens, IsFresh, IsPrefix, Lane, Leads, Moves, Puts, Step, file_of}
pub use Rattle.dsr_relay.specs.layer.Rule.{Knows}
pub use Rattle.dsr_relay.specs.layer.Rule.{AreMessages, IsMessage, Message, events_of, Comes, Goes, IsLeft, Relayed, both_of, out_of, received_of}
pub use Rattle.dsr_relay.specs.layer.Views.{FeedView, TapView, batch_after, goes_out}
