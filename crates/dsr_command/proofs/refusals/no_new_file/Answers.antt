use Rattle.dsr_command.proofs.refusals.no_new_file.Goals as goal

pub returns-in-IsRead-clause-told : goal.returns-in-IsRead-clause-told
returns-in-IsRead-clause-told g c =
    rw c.in-IsRead.is (c.write_parts.result, rw (c.shown-name.ensures, c.as_str.ensures) at c.write_parts.ensures)

pub returns-in-CannotCreate-clause-told : goal.returns-in-CannotCreate-clause-told
returns-in-CannotCreate-clause-told g c =
    rw c.in-CannotCreate.is (c.write_parts-in-CannotCreate.result, rw (c.shown-name.ensures, c.as_str.ensures) at c.write_parts-in-CannotCreate.ensures)
