use Rattle.dsr_command.proofs.Common.{◌≡◌, ◌∙◌, append_assoc, refl, subst}
use Rattle.std.specs.Prelude.{IfOk}
use Rattle.dsr_cells.proofs.WrittenAmounts.{styled_is_padded}
use Rattle.dsr_command.proofs.new_file.part_name.Goals as goal

pub returns : goal.returns
returns c =
    let text = rw (c.laid_out.ensures, styled_is_padded 20 c.args.number refl) at c.in_ok-format.ensures.ok in
    subst (λ bytes. IfOk c.of_string.result (λ part. part ≡ bytes)) (text ∙ simp append_assoc) c.of_string.ensures
