use Rattle.dsr_ledger.proofs.Common.{map-id}
use Rattle.dsr_ledger.proofs.ledger.seats.Seats.find.Goals as goal

pub search-requires : goal.search-requires
search-requires c = rw (map-id c.as_slice.result.now, c.as_slice.ensures) c.args.self.now.indexed
