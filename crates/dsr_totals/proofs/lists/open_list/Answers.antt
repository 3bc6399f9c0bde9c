use Rattle.std.specs.Prelude.{Ok}
use Rattle.std.proofs.Common.{◌∙◌, ap, subst}
use Rattle.dsr_command.proofs.Worlds.{at_disk, where_told}
use Rattle.dsr_command.specs.World.{Opens}
use Rattle.dsr_totals.proofs.Listing.{one_listed, one_unread}
use Rattle.dsr_totals.proofs.lists.open_list.Goals as goal

pub returns-in-Ok-read_list-clause-listed : goal.returns-in-Ok-read_list-clause-listed
returns-in-Ok-read_list-clause-listed g c =
    let told = g.W.Reader.Source.told in let file = g.W.Reader.FileSource.file in
    where_told (g.W.World.disk c.args.world.now) _ (λ d is.
    one_listed told file d c.args.list.now c.in-Ok.source (told c.read_list.new.source) c.args.names.now c.read_list.new.names
    (subst (λ n. Opens told file d n (Ok c.in-Ok.source)) c.as_str.ensures (at_disk _ _ d is c.in-Ok.ensures.opened)) c.in-Ok-read_list.ensures)

pub returns-clause-listed : goal.returns-clause-listed
returns-clause-listed g c =
    let told = g.W.Reader.Source.told in let file = g.W.Reader.FileSource.file in
    where_told (g.W.World.disk c.args.world.now) _ (λ d is.
    one_unread told file d c.args.list.now c.in-Ok.source c.read_list.new.source c.in-Err-read_list.fault c.unread.result
    (subst (λ n. Opens told file d n (Ok c.in-Ok.source)) c.as_str.ensures (at_disk _ _ d is c.in-Ok.ensures.opened)) c.in-Err-read_list.ensures
    c.unread.ensures)

pub returns-in-Ok-read_list-clause-file : goal.returns-in-Ok-read_list-clause-file
returns-in-Ok-read_list-clause-file g c =
    where_told (g.W.World.disk c.args.world.now) _ (λ d is.
    let opened = at_disk _ _ d is c.in-Ok.ensures.opened in
    c.identity-file.ensures ∙ opened.2.file_is ∙ ap d.file c.as_str.ensures)
