-- The models of the two ends of the way by which memory comes back.
use Rattle.std.specs.Prelude.{◌≡◌, ℕ}
use Rattle.crossbeam_channel.specs.Ends.{sends_on, receives_on}
use Rattle.crossbeam_channel.specs.Claims.{view, IsSeatAt}
use Rattle.dsr_relay.specs.layer.Way.{given_of, got_of}
use Rattle.dsr_relay.specs.declared.way.Count.TheVariants.{Gave, Got}
use Rattle.dsr_relay.specs.declared.way.Giver.TheInside as giver
use Rattle.dsr_relay.specs.declared.way.Getter.TheInside as getter

abbrev pub given_by : giver.Inside → ℕ
given_by g = given_of (view g.pass)

pub record IsGiver (g : giver.Inside) : Type 0 where
  pub seat : IsSeatAt (sends_on g.sender) g.pass
  pub knows : view g.pass ≡ Gave (given_of (view g.pass))

abbrev pub got_by : getter.Inside → ℕ
got_by g = got_of (view g.pass)

pub record IsGetter (g : getter.Inside) : Type 0 where
  pub seat : IsSeatAt (receives_on g.receiver) g.pass
  pub knows : view g.pass ≡ Got (got_of (view g.pass))
