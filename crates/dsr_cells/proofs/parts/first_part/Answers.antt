use Rattle.dsr_cells.proofs.parts.first_part.Goals as goal

pub range_from-requires : goal.range_from-requires
range_from-requires c some = c.in-Some-first_cut.ensures.boundary
