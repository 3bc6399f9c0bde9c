use Rattle.std.proofs.Common.{◌≡◌, ◌+◌, ◌-◌, ◌<◌, ◌++◌, ◌∷◌, [], ap, sym, ◌∙◌, refl, subst, take, drop, length, length-drop, suc, arith}
use Rattle.std.proofs.lemmas.List.Sums.{fails_before_first}
use Rattle.std.proofs.lemmas.List.{take-append-drop, take_all}
use Rattle.std.specs.List.{position_or_len}
use Rattle.std.proofs.Math.Seq.{take-add}
use Rattle.std.specs.Prelude.{◌==◌}
use Rattle.dsr_sums.specs.inner.Readings.{TakesLine, TakesLines, IsRefusedAt, IsRefusedIn}
use Rattle.dsr_sums.proofs.ReadingLemmas.{cut_short, cut_at, cut_past, refused_in, takes_none, takes_more}
use Rattle.dsr_sums.proofs.reading.Reading.take_lines.Goals as goal

pub returns-then-end-bytes-clause-rest : goal.returns-then-end-bytes-clause-rest
returns-then-end-bytes-clause-rest c = λ k d below.
    let rest = drop c.lines.used c.args.bytes.now in
    let all : take (length c.args.bytes.now - c.lines.used) rest ≡ rest = take_all _ rest (omega (arith, length-drop c.lines.used c.args.bytes.now)) in
    let end : c.line_end-end.result ≡ position_or_len (λ b. b == 10) rest = c.line_end-end.ensures.value ∙ ap (position_or_len (λ b. b == 10)) all in
    fails_before_first (λ b. b == 10) rest k d (omega (arith, end, length-drop c.lines.used c.args.bytes.now))

pub returns-in-Err-clause-refused : goal.returns-in-Err-clause-refused
returns-in-Err-clause-refused c = λ done reads.
    let bytes = c.args.bytes.now in let used = c.lines.used in let rest = drop used bytes in let end = c.line_end-end.result in
    let first = c.lines.invariant.taken done reads in
    let below : end < length rest = omega (arith, length-drop used bytes) in
    let all : take (length bytes - used) rest ≡ rest = take_all _ rest (omega (arith, length-drop used bytes)) in
    let is : end ≡ position_or_len (λ b. b == 10) rest = c.line_end-end.ensures.value ∙ ap (position_or_len (λ b. b == 10)) all in
    let slice : take (used + end - used) rest ≡ take end rest = ap (λ n. take n rest) (omega arith) in
    let whole : take used bytes ++ (take end rest ++ 10 ∷ drop (suc end) rest) ≡ bytes =
    ap (λ l. take used bytes ++ l) (sym (cut_at rest end is below)) ∙ take-append-drop used bytes in
    subst (λ b. IsRefusedIn done b c.in-Err.error) whole (
    refused_in done first.0 (take used bytes) (take end rest) (drop (suc end) rest) c.in-Err.error first.1 (cut_short rest end is)
    (subst (λ t. IsRefusedAt (done ++ first.0) t c.in-Err.error) slice (c.in-Err.ensures.refused (done ++ first.0) first.2)))

pub lines-init : goal.lines-init
lines-init c = record { within = omega arith; role = refl; taken = λ done reads. takes_none c.args.self.now c.args.totals.now done reads }

pub lines-preserved : goal.lines-preserved
lines-preserved c =
    let bytes = c.args.bytes.now in let used = c.lines.used in let rest = drop used bytes in let end = c.line_end-end.result in
    let self = c.args.self.now in let totals = c.args.totals.now in let inv = c.lines.invariant in
    let below : end < length rest = omega (arith, length-drop used bytes) in
    let all : take (length bytes - used) rest ≡ rest = take_all _ rest (omega (arith, length-drop used bytes)) in
    let is : end ≡ position_or_len (λ b. b == 10) rest = c.line_end-end.ensures.value ∙ ap (position_or_len (λ b. b == 10)) all in
    let slice : take (used + end - used) rest ≡ take end rest = ap (λ n. take n rest) (omega arith) in
    let past : take used bytes ++ (take end rest ++ 10 ∷ []) ≡ take (used + (end + 1)) bytes =
    sym (take-add used (end + 1) bytes ∙ ap (λ l. take used bytes ++ l) (cut_past rest end is below)) in
    record {
      within = omega (arith, length-drop used bytes);
      role = c.in-Ok.ensures.role ∙ inv.role;
      taken = λ done reads.
          subst (λ b. TakesLines self c.take.new.self totals c.take.new.totals done b) past (
          takes_more self c.lines.self c.take.new.self totals c.lines.totals c.take.new.totals done (take used bytes) (take end rest) inv.role
          (cut_short rest end is)
          (λ ds h. subst (λ t. TakesLine c.lines.self c.take.new.self c.lines.totals c.take.new.totals ds t) slice (c.in-Ok.ensures.taken ds h))
          (inv.taken done reads));
    }
