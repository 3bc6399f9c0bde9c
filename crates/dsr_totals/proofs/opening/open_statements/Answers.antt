use Rattle.std.proofs.Common.{refl}
use Rattle.dsr_command.proofs.Worlds.{at_disk, where_told}
use Rattle.dsr_totals.specs.declared.command.Asked.{Asked}
use Rattle.dsr_totals.proofs.Opened.{all_opened, given_refused, lists_refused, not_opened}
use Rattle.dsr_totals.proofs.opening.open_statements.Goals as goal

pub returns-in-Err-clause-opened : goal.returns-in-Err-clause-opened
returns-in-Err-clause-opened g c =
    where_told (g.W.World.disk c.args.world.now) _ (λ d is.
    given_refused g.W.Reader.Source.told d c.args.asked.now c.in-Err.error (at_disk _ _ d is c.in-Err.ensures.opened))

pub returns-in-Err-read_lists-clause-opened : goal.returns-in-Err-read_lists-clause-opened
returns-in-Err-read_lists-clause-opened g c =
    let asked = c.args.asked.now in
    where_told (g.W.World.disk c.args.world.now) _ (λ d is.
    lists_refused g.W.Reader.Source.told g.W.Reader.FileSource.file d asked asked c.in-Ok.given.items (at_disk _ _ d is c.in-Ok.ensures.opened)
    c.in-Err-read_lists.error (at_disk _ _ d is c.in-Err-read_lists.ensures.listed))

pub returns-in-Ok-with_paid-clause-opened : goal.returns-in-Ok-with_paid-clause-opened
returns-in-Ok-with_paid-clause-opened g c =
    let asked = c.args.asked.now in let now : Asked = record asked { paid = c.read_lists.new.names } in
    where_told (g.W.World.disk c.args.world.now) _ (λ d is.
    let are = at_disk _ _ d is c.in-Ok.ensures.opened in
    all_opened g.W.Reader.Source.told g.W.Reader.FileSource.file d asked now c.in-Ok.given.items are
    (at_disk _ _ d is c.in-Ok-read_lists.ensures.listed) refl _
    (at_disk _ _ d is c.in-Ok-with_paid.ensures.opened are) (at_disk _ _ d is c.in-Ok-read_lists.ensures.files))

pub returns-clause-opened : goal.returns-clause-opened
returns-clause-opened g c =
    let asked = c.args.asked.now in let now : Asked = record asked { paid = c.read_lists.new.names } in
    where_told (g.W.World.disk c.args.world.now) _ (λ d is.
    let are = at_disk _ _ d is c.in-Ok.ensures.opened in
    not_opened g.W.Reader.Source.told g.W.Reader.FileSource.file d asked now c.in-Ok.given.items are
    (at_disk _ _ d is c.in-Ok-read_lists.ensures.listed) refl c.in-Err-with_paid.error
    (at_disk _ _ d is c.in-Err-with_paid.ensures.opened are))
