use Rattle.std.proofs.Common.{◌∷◌, []}
use Rattle.dsr_command.proofs.Programs.{printed, stored, unstored}
use Rattle.dsr_command.proofs.Worlds.{at_disk, where_told}
use Rattle.dsr_command.specs.Faults.{dsr}
use Rattle.dsr_command.specs.LayoutFile.{sealing_for}
use Rattle.dsr_command.specs.Outputs.{outputs}
use Rattle.dsr_command.specs.World.{files_for, ghosts, made, texts_for}
use Rattle.dsr.specs.Serving.{IsAnswerFor, IsAnswerTold, files_read}
use Rattle.dsr.proofs.Serving.{all_read, sealed_as_asked}
use Rattle.dsr.proofs.program.read_files.Goals as goal

pub returns-in_default : goal.returns-in_default
returns-in_default g c =
    let had = ghosts g.W.Reader.Source.told g.W.New.Outlet.told in
    let left = g.W.World.disk c.args.world.now in
    let asked = c.args.asked.now in
    let o = c.args.options.options.value in
    let before = outputs (g.O.Outlet.told c.args.out) (g.F.Outlet.told c.args.fault.now) in
    let after = outputs (g.O.Outlet.told c.run_printed.result.0) (g.F.Outlet.told c.run_printed.new.fault) in
    where_told left _ (λ d is at.
    sealed_as_asked had d left asked o c.args.options.seal before after c.run_printed.result.1 at.seal
    (printed had dsr (IsAnswerFor had.told o c.args.options.seal) IsAnswerTold g.W.Reader.FileSource.file d
    (c.args.options.layout ∷ []) (files_for d asked.files) (files_read d asked) (texts_for d asked.files) c.in-Ok.inputs.items
    (at_disk _ _ d is c.in-Ok.ensures.opened) (all_read d asked c.args.options.layout at.file)
    left asked.output before after c.run_printed.result.1 c.in_default.is c.run_printed.ensures is))

pub returns-in-Ok-create_beside : goal.returns-in-Ok-create_beside
returns-in-Ok-create_beside g c =
    let had = ghosts g.W.Reader.Source.told g.W.New.Outlet.told in
    let between = g.W.World.disk c.create_beside.new.world in
    let left = g.W.World.disk c.run_into.new.world in
    let asked = c.args.asked.now in
    let o = c.args.options.options.value in
    let out = g.O.Outlet.told c.args.out in
    let f = g.F.Outlet.told c.args.fault.now in
    let h = g.F.Outlet.told c.run_into.new.fault in
    where_told (g.W.World.disk c.args.world.now) _ (λ d is at.
    let created = rw c.deref.ensures.value at (at_disk _ _ d is c.in-Ok-create_beside.ensures.created) in
    sealed_as_asked had d left asked o c.args.options.seal (outputs out f) (outputs out h) c.run_into.result at.seal
    (stored had dsr (IsAnswerFor had.told o c.args.options.seal) IsAnswerTold g.W.Reader.FileSource.file d
    (c.args.options.layout ∷ []) (files_for d asked.files) (files_read d asked) (texts_for d asked.files) c.in-Ok.inputs.items
    (at_disk _ _ d is c.in-Ok.ensures.opened) (all_read d asked c.args.options.layout at.file)
    between left asked.output c.in-Some.name (c.in-Ok-create_beside.new, c.in-Ok-create_beside.place) out f h c.run_into.result
    c.in-Some.is created (at_disk between _ (made d) created.1.1 c.run_into.ensures created.1.0)))

pub returns-in-Err-create_beside : goal.returns-in-Err-create_beside
returns-in-Err-create_beside g c =
    let had = ghosts g.W.Reader.Source.told g.W.New.Outlet.told in
    let left = g.W.World.disk c.create_beside.new.world in
    let asked = c.args.asked.now in
    where_told (g.W.World.disk c.args.world.now) _ (λ d is at.
    unstored had dsr (IsAnswerFor had.told c.args.options.options.value (sealing_for d asked)) IsAnswerTold g.W.Reader.FileSource.file d
    (c.args.options.layout ∷ []) (files_for d asked.files) (files_read d asked) (texts_for d asked.files) c.in-Ok.inputs.items
    (at_disk _ _ d is c.in-Ok.ensures.opened) (all_read d asked c.args.options.layout at.file)
    left asked.output c.in-Some.name c.in-Err-create_beside.error
    (g.O.Outlet.told c.args.out) (g.F.Outlet.told c.args.fault.now) (g.F.Outlet.told c.no_new_file.new.fault) c.no_new_file.result
    c.in-Some.is (rw c.deref.ensures.value at (at_disk _ _ d is c.in-Err-create_beside.ensures.created))
    c.no_new_file.ensures.told c.no_new_file.ensures.status)
