use Rattle.std.proofs.Common.{◌≡◌, ◌++◌}
use Rattle.std.specs.List.{flat_map}
use Rattle.dsr_sums.specs.inner.SumsLines.{sums_line}
use Rattle.dsr_sums.proofs.text.put_book.Given as goal

abbrev pub invariant-loop-account : goal.invariant-loop-account
invariant-loop-account l = l.out.items ≡ l.initial.out.items ++ flat_map (λ e. sums_line l.kind (e.0.now, e.1.now)) l.yielded
