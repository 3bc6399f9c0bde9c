use Rattle.dsr_ledger.proofs.Common.{◌≡◌, rules, Some, slice_get, bytes_eq, nat_list_eq_equiv, bytes_eq-Decides}
use Rattle.dsr_ledger.proofs.IndexMapLemmas.{own_number}
use Rattle.dsr_ledger.proofs.ledger.Ledger.expected.Goals as goal

pub returns : goal.returns
returns c =
    let m = c.args.self.now.recordings in let own = c.in_ok-isrc.isrc.now in let v = c.in_ok-isrc.field-0-1.now in let next = c.in_ok-found.found.now.next in
    let at : slice_get m.entries next ≡ Some (own, v) = search rules in
    own_number bytes_eq bytes_eq-Decides nat_list_eq_equiv m next own v c.as_slice-recordings.ensures.unique at
