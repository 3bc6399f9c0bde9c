use Rattle.dsr_command.proofs.Common.{◌∙◌, ap, subst, sym}
use Rattle.std.specs.Prelude.{Ok}
use Rattle.dsr_command.specs.LayoutFile.{layout_file}
use Rattle.dsr_command.specs.World.{Opens}
use Rattle.dsr_command.proofs.Options.{layout_fault, layout_given, options_had, seal_given}
use Rattle.dsr_command.proofs.Worlds.{at_disk, where_told}
use Rattle.dsr_command.proofs.layout_file.read_options.Goals as goal

pub returns-in-Err : goal.returns-in-Err
returns-in-Err g c =
    let told = g.W.Reader.Source.told in
    let file = g.W.Reader.FileSource.file in
    where_told (g.W.World.disk c.args.world.now) _ (λ d is.
    layout_fault told file d c.args.asked.now.layout c.in-Some.name c.args.asked.now.seal c.in-Ok.reader c.read_layout.new.reader c.in-Err.error c.in-Some.is
    (subst (λ n. Opens told file d n (Ok c.in-Ok.reader)) c.as_str.ensures (at_disk _ _ d is c.in-Ok.ensures.opened))
    (rw c.in-Err.is at c.read_layout.ensures))

pub returns-in-Ok-read_layout : goal.returns-in-Ok-read_layout
returns-in-Ok-read_layout g c =
    let told = g.W.Reader.Source.told in
    let file = g.W.Reader.FileSource.file in
    let had = c.in-Ok-read_layout.had in
    let named = c.args.asked.now.layout in
    let seal = c.args.asked.now.seal in
    where_told (g.W.World.disk c.args.world.now) _ (λ d is.
    let opened = subst (λ n. Opens told file d n (Ok c.in-Ok.reader)) c.as_str.ensures (at_disk _ _ d is c.in-Ok.ensures.opened) in
    let gave = rw c.in-Ok-read_layout.is at c.read_layout.ensures in
    options_had told d c.args.asked.now had.0 c.identity-file.result had.1 c.with_options.result
    (layout_given told file d named c.in-Some.name seal c.in-Ok.reader c.read_layout.new.reader had c.in-Some.is opened gave)
    (c.identity-file.ensures ∙ (opened.2.file_is ∙ ap (layout_file d) (sym c.in-Some.is)))
    (seal_given told file d named c.in-Some.name seal c.in-Ok.reader c.read_layout.new.reader had c.in-Some.is opened gave)
    c.with_options.ensures.options c.with_options.ensures.had c.with_options.ensures.memory)
