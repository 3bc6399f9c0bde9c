use Rattle.dsr_records.proofs.Common.{◌≡◌, ◌+◌, ◌++◌, ◌≤◌, length, map, take, list_all, raw_parts, is_share, shares_of, share_or_zero}
use Rattle.dsr_records.proofs.spelled.count_shares.Given as goal

abbrev pub invariant-loop-part : goal.invariant-loop-part
invariant-loop-part l =
    (goal.iterator-loop-part).can_next l.part-iterator × (goal.iterator-loop-part).is_finite l.part-iterator
    × (l.count + length l.part-iterator ≡ length (raw_parts l.cell)) × (list_all is_share l.part-iterator ≡ list_all is_share (raw_parts l.cell))
    × (take 4 (l.first.items ++ map share_or_zero l.part-iterator) ≡ take 4 (shares_of l.cell)) × (length l.first.items ≤ 4)
