use Rattle.std.specs.List.{flat_map}
use Rattle.dsr_sums.specs.meaning.Totals.{to_currency, to_market, to_party}
use Rattle.dsr_sums.proofs.LineLemmas.{summable_parts}
use Rattle.dsr_sums.proofs.totals.Totals.sort.Goals as goal

pub returns : goal.returns
returns c = λ bs held whole.
    let parts = summable_parts bs whole in
    record {
      currencies = c.in_ok-sort.ensures (flat_map to_currency bs) held.currencies parts.0;
      markets = c.in_ok-sort-2.ensures (flat_map to_market bs) held.markets parts.1;
      parties = c.in_ok-sort-3.ensures (flat_map to_party bs) held.parties parts.2;
    }
