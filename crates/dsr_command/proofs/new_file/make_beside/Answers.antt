use Rattle.dsr_command.proofs.Common.{◌∙◌, ap, inl, option_map, sym}
use Rattle.dsr_command.specs.World.{made}
use Rattle.dsr_command.proofs.Worlds.{at_disk, where_told}
use Rattle.dsr_command.proofs.new_file.make_beside.Goals as goal

pub returns-in-Ok-None-clause-made : goal.returns-in-Ok-None-clause-made
returns-in-Ok-None-clause-made g c =
    where_told (g.W.World.disk c.args.world.now) _ (λ d is.
    inl (sym (rw (c.in-Ok-None.field-0-is, c.as_str.ensures) at (at_disk _ _ d is c.in-Ok-None.ensures)), is))

pub returns-in-Ok-create-clause-made : goal.returns-in-Ok-create-clause-made
returns-in-Ok-create-clause-made g c =
    let created = c.in-Ok-create.ensures.created in
    where_told (g.W.World.disk c.args.world.now) _ (λ d is.
    let same = c.in-Ok.ensures ∙ is in
    let leads = sym (rw (c.in-Ok-Some.field-0-is, c.as_str.ensures) at (at_disk _ _ d is c.in-Ok-Some.ensures)) in
    (leads, created.0 ∙ ap (option_map made) same, at_disk _ _ d same created.1))
