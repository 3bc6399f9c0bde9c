-- The model of a tap.
use Rattle.std.specs.Prelude.{◌≡◌, ◌≤◌, List, ◌++◌, length, take}
use Rattle.crossbeam_channel.specs.Ends.{receives_on, ruled_capacity}
use Rattle.crossbeam_channel.specs.Claims.{view, IsSeatAt}
use Rattle.dsr_events.specs.meaning.Orderly.{Placed, has_ended}
use Rattle.dsr_events.specs.layer.Orderly.{IsOrderly}
use Rattle.dsr_relay.specs.layer.Rule.{events_of, received_of}
use Rattle.dsr_relay.specs.layer.Views.{TapView}
use Rattle.dsr_relay.specs.declared.rule.Log.TheVariants.{Takes}
use Rattle.dsr_relay.specs.declared.tap.Tap.TheInside.{Inside}

-- the events received
abbrev pub arrived : Inside → List Placed
arrived t = events_of (received_of (view t.pass))

abbrev pub tap_view : Inside → TapView
tap_view t = record {
  name = record { of = record {}; table = t.pass.table_id; key = t.pass.me.0.of; capacity = ruled_capacity (receives_on t.receiver) };
  taken = take t.count (arrived t);
  held = t.held;
}

pub record IsTap (t : Inside) : Type 0 where
  pub seat : IsSeatAt (receives_on t.receiver) t.pass
  pub knows : view t.pass ≡ Takes (received_of (view t.pass))
  pub few : length t.held ≤ 31
  pub orderly : IsOrderly (arrived t)
  pub whole : take t.count (arrived t) ++ t.held ≡ arrived t
  pub count : length (take t.count (arrived t)) ≡ t.count
  pub ended : t.ended ≡ has_ended (take t.count (arrived t))
