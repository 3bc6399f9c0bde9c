-- What the reader keeps of lines is enough for the next one.
use Rattle.std.proofs.Common.{arith, ◌≡◌, ℕ, suc, List, [], ◌∷◌, Bool, true, false, refl, ap, sym, ◌∙◌}
use Rattle.std.specs.Prelude.{◌&&◌, ℤ, ◌-ℤ◌}
use Rattle.std.specs.Option.{option_or}
use Rattle.std.specs.Bool.{Decides}
use Rattle.std.proofs.lemmas.Bool.Decides.{Decides-and, Decides-like}
use Rattle.std.proofs.lemmas.Slice.Eq.{bytes_eq-Decides}
use Rattle.dsr_ledger.specs.meaning.Bookings.{Key, key_eq}
use Rattle.dsr_statement.specs.declared.line.Line.{Line}
use Rattle.dsr_statement.specs.declared.line.Line.TheVariants as lines
use Rattle.dsr_statement.specs.declared.reader.StatementReader.{StatementReader}
use Rattle.dsr_statement.specs.meaning.Cells.{Isrc, Territory, UseType, Currency, is_cell}
use Rattle.dsr_statement.specs.meaning.Lines.{is_line}
use Rattle.dsr_statement.specs.meaning.Order.{is_placed, left_of, of_latest, party_follows, unclaimed_follows}
use Rattle.dsr_statement.specs.meaning.Status.{first_remark}
use Rattle.dsr_statement.specs.inner.After.{IsAfter, KeepsLedger, kept}
use Rattle.dsr_statement.specs.inner.Near.{is_key}
use Rattle.dsr_statement.proofs.RemarkLines.{remark_next, remark_same}

-- keys are equal by their test if they are the same
pub same_key : (a b : Key) → Decides (key_eq a b) (a ≡ b)
same_key a b =
    Decides-like (key_eq a b) (λ p i. record { isrc = p.0 i; territory = p.1.0 i; use_type = p.1.1.0 i; currency = p.1.1.1 i })
    (λ e. (ap (λ k. k.isrc) e, (ap (λ k. k.territory) e, (ap (λ k. k.use_type) e, ap (λ k. k.currency) e)))) (
    Decides-and _ _ (bytes_eq-Decides a.isrc b.isrc) (Decides-and _ _ (bytes_eq-Decides a.territory b.territory) (
    Decides-and _ _ (bytes_eq-Decides a.use_type b.use_type) (bytes_eq-Decides a.currency b.currency))))

-- the cells of a ledger line's key are spelled as in a report
front : (a b c d more : Bool) → (a && (b && (c && (d && more)))) ≡ true → (a && (b && (c && (d && true)))) ≡ true
front true true true true more h = refl
front _ _ _ _ more h = h

key_of_ledger : (key : Key) (usages amount : ℤ) → is_line (lines.Ledger key usages amount) ≡ true → is_key key ≡ true
key_of_ledger key usages amount h =
    front (is_cell (Isrc key.isrc)) (is_cell (Territory key.territory)) (is_cell (UseType key.use_type)) (is_cell (Currency key.currency)) _ h

-- within a ledger line its key and what is left of it are kept
within : (r : StatementReader) (key : Key) (before : List Line) → KeepsLedger r before → of_latest false (unclaimed_follows key) before ≡ true
    → (r.key ≡ key) × (is_key r.key ≡ true) × (r.left ≡ left_of before)
within r key (lines.Ledger last usages amount ∷ before) kept f = (kept.0 ∙ (same_key last key).0 f, kept.1, kept.2)
within r key (lines.Party last q ∷ before) kept f = (kept.0 ∙ (same_key last key).0 f, kept.1, kept.2)
within r key _ kept f = cc

party_within : (key : Key) (party : List ℕ) (before : List Line) → of_latest false (party_follows key party) before ≡ true
    → of_latest false (unclaimed_follows key) before ≡ true
party_within key party before f = grind arith

-- what is kept of one more line
pub after_kept : (r : StatementReader) (before : List Line) (l : Line) → IsAfter r before → is_line l ≡ true → is_placed before l ≡ true
    → IsAfter (kept r l) (l ∷ before)
after_kept r before (lines.Ledger key usages amount) h good placed = record {
  last = refl;
  ledger = (refl, key_of_ledger key usages amount good, refl);
  next = ap suc h.next;
  files = h.files;
  remark = h.remark ∙ sym (remark_same before (lines.Ledger key usages amount) refl);
}
after_kept r before (lines.Party key p) h good placed =
    let same = within r key before h.ledger (party_within key p.party before placed) in record {
      last = refl;
      ledger = (same.0, same.1, ap (λ z. z -ℤ p.amount) same.2, refl);
      next = ap suc h.next;
      files = h.files;
      remark = h.remark ∙ sym (remark_same before (lines.Party key p) refl);
    }
after_kept r before (lines.Unclaimed key amount) h good placed = record {
  last = refl;
  ledger = (within r key before h.ledger placed).0;
  next = ap suc h.next;
  files = h.files;
  remark = h.remark ∙ sym (remark_same before (lines.Unclaimed key amount) refl);
}
after_kept r before l h good placed = record {
  last = refl;
  ledger = tt;
  next = ap suc h.next;
  files = omega arith;
  remark = (λ i. option_or (h.remark i) (first_remark (h.next i) (l ∷ []))) ∙ sym (remark_next before l);
}
