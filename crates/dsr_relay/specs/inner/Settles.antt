-- The model of the result of joining two ends.
use Rattle.std.specs.Prelude.{◌≡◌, length, drop}
use Rattle.dsr_relay.specs.layer.Views.{SettledView}
use Rattle.dsr_relay.specs.declared.settled.Settled.TheInside.{Inside}

abbrev pub settled_view : Inside → SettledView
settled_view s = record { taken = s.tap.value.taken; left = drop (length s.tap.value.taken) s.feed.value.sent }

pub record IsSettled (s : Inside) : Type 0 where
  pub taken : s.taken ≡ length (settled_view s).taken
  pub left : s.left ≡ length (settled_view s).left
