use Rattle.std.proofs.Common.{◌∷◌, subst, sym}
use Rattle.dsr_statement.specs.declared.reader.StatementReader.{StatementReader}
use Rattle.dsr_statement.specs.inner.After.{IsAfter}
use Rattle.dsr_statement.proofs.Readers.{after_kept}
use Rattle.dsr_statement.proofs.reader.StatementReader.place.Goals as goal

pub returns-in-Ok-clause-after : goal.returns-in-Ok-clause-after
returns-in-Ok-clause-after c = λ before h good.
    subst (λ (r : StatementReader). IsAfter r (c.args.line.now ∷ before)) (sym c.in-Ok.ensures)
    (after_kept c.args.self.now before c.args.line.now h good (c.in_default.ensures before h).0)
