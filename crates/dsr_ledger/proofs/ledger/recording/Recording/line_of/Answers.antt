use Rattle.dsr_ledger.proofs.ledger.recording.Recording.line_of.Goals as goal

pub find-requires-clause-indexed : goal.find-requires-clause-indexed
find-requires-clause-indexed c = rw c.as_slice.ensures.value c.args.self.now.indexed
