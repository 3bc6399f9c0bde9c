-- The model of a feed.
use Rattle.std.specs.Prelude.{◌≡◌, ◌≤◌, List, ◌++◌, length}
use Rattle.crossbeam_channel.specs.Ends.{sends_on, ruled_capacity}
use Rattle.crossbeam_channel.specs.Claims.{view, IsSeatAt}
use Rattle.dsr_events.specs.meaning.Orderly.{Placed}
use Rattle.dsr_events.specs.layer.Orderly.{IsOrderly}
use Rattle.dsr_relay.specs.layer.Rule.{events_of, out_of}
use Rattle.dsr_relay.specs.layer.Views.{FeedView}
use Rattle.dsr_relay.specs.declared.rule.Log.TheVariants.{Sends}
use Rattle.dsr_relay.specs.declared.feed.Feed.TheInside.{Inside}

-- the events of the messages sent, followed by the batch
abbrev pub sent_of : Inside → List Placed
sent_of f = events_of (out_of (view f.pass)) ++ f.batch

abbrev pub feed_view : Inside → FeedView
feed_view f = record {
  name = record { of = record {}; table = f.pass.table_id; key = f.pass.me.0.of; capacity = ruled_capacity (sends_on f.sender) };
  sent = sent_of f;
  batch = f.batch;
}

pub record IsFeed (f : Inside) : Type 0 where
  pub seat : IsSeatAt (sends_on f.sender) f.pass
  pub knows : view f.pass ≡ Sends (out_of (view f.pass)) (ruled_capacity (sends_on f.sender))
  pub waits : length f.batch ≤ 31
  pub orderly : IsOrderly (sent_of f)
  pub count : f.count ≡ length (sent_of f)
