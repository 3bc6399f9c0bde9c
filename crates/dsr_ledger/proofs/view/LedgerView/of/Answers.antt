use Rattle.dsr_ledger.proofs.Common.{◌≤◌, [], ap, arith, length, refl}
use Rattle.dsr_ledger.proofs.ViewLemmas.{none_given}
use Rattle.dsr_ledger.proofs.view.LedgerView.of.Goals as goal

pub returns-clause-ready : goal.returns-clause-ready
returns-clause-ready c =
    let past : length c.in_ok-with_capacity.field-0.items ≤ 0 = omega (arith, ap length c.in_ok-with_capacity.ensures.items) in
    ([], none_given _ _ c.in_ok-sorted_recordings.ensures c.into_iter.ensures.rest refl past)

pub returns-clause-none_given : goal.returns-clause-none_given
returns-clause-none_given c = λ bs stand.
    let past : length c.in_ok-with_capacity.field-0.items ≤ 0 = omega (arith, ap length c.in_ok-with_capacity.ensures.items) in
    record {
      bookings = bs;
      stand = stand;
      all_are = refl;
      keys = [];
      have = none_given _ _ c.in_ok-sorted_recordings.ensures c.into_iter.ensures.rest refl past;
      given_are = refl;
    }
