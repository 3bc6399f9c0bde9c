use Rattle.std.proofs.Common.{◌<◌, length, rules}
use Rattle.dsr_totals.proofs.Listing.{bad_name}
use Rattle.dsr_totals.proofs.lists.push_names.Goals as goal

pub returns-in-Err : goal.returns-in-Err
returns-in-Err c = λ read.
    let some : 0 < length c.names.rest.now = search rules in
    bad_name c.name_end-end.result c.args.bytes.now c.names.rest.now _ _ c.args.names.now c.names.names c.name_end-end.ensures c.names.invariant
    some c.cut.ensures (c.in-Err.ensures read)
