use Rattle.dsr_ledger.proofs.Common.{◌≡◌, ◌∙◌, ap, refl, map, flat_map, ∥∥₁_map, first_head, key_of, option_map, openings_of, line_kept, missing_kept, differences_kept}
use Rattle.dsr_ledger.proofs.ClosedLemmas.{closed_is}
use Rattle.dsr_ledger.proofs.SmallLemmas.{small_lines}
use Rattle.dsr_ledger.proofs.closed.ClosedBooks.of.Goals as goal

pub returns : goal.returns
returns c = λ files h.
    let same : c.as_slice.result.now ≡ c.args.kept.files.items = c.as_slice.ensures.value in let found = c.in_ok-report.ensures in
    closed_is c.args.kept _ (record {
      key = found.key ∙ ap (λ fs. option_map key_of (first_head (openings_of fs))) same;
      lines = found.lines ∙ ap (map line_kept) same;
      missing = found.missing ∙ ap (λ fs. missing_kept (first_head (openings_of fs)) fs) same;
      differences = found.differences ∙ ap (flat_map differences_kept) same;
      ledger = refl;
      rejects = c.in_ok-report-2.ensures;
    }) files h

pub invariant_of-result : goal.invariant_of-result
invariant_of-result c = record { small = ∥∥₁_map c.requires.reached (small_lines c.args.kept c.requires.few) }
