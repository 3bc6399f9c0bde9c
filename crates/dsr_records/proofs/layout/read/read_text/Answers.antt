use Rattle.dsr_records.proofs.Common.{◌≡◌, ap, ◌∙◌, refl, Some, false, is_utf8, false_from_ne_true, IsUtf8-from_is_utf8, is_utf8-from_IsUtf8}
use Rattle.dsr_cells.specs.meaning.Lines.{without_return}
use Rattle.dsr_records.proofs.layout.read.read_text.Goals as goal

pub returns-in-Some : goal.returns-in-Some
returns-in-Some c =
    let text = c.in-Some.ensures in
    rw (is_utf8-from_IsUtf8 c.args.piece.now text.1) (ap Some (c.strip_return.ensures ∙ ap without_return text.0))

pub returns-in-None : goal.returns-in-None
returns-in-None c =
    let bad : is_utf8 c.args.piece.now ≡ false = false_from_ne_true _ (λ e. c.in-None.ensures (IsUtf8-from_is_utf8 c.args.piece.now e)) in
    rw bad refl
