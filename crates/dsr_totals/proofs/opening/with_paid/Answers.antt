use Rattle.std.proofs.Common.{◌≡◌, ◌≢◌, ◌++◌, length, rules, sym, ◌∙◌}
use Rattle.dsr_command.proofs.Worlds.{at_disk, where_told}
use Rattle.dsr_totals.proofs.Opened.{named_twice, none_paid, paid_refused, some_paid}
use Rattle.dsr_totals.proofs.opening.with_paid.Goals as goal

pub returns-then-is_input_twice-clause-opened : goal.returns-then-is_input_twice-clause-opened
returns-then-is_input_twice-clause-opened g c =
    where_told (g.W.World.disk c.args.world.now) _ (λ d is are. named_twice d c.args.asked.now (sym c.is_input_twice.ensures ∙ c.if-is_input_twice.true))

pub returns-then-len-eq0-clause-opened : goal.returns-then-len-eq0-clause-opened
returns-then-len-eq0-clause-opened g c =
    let none : length c.args.asked.now.paid ≡ 0 = search rules in
    where_told (g.W.World.disk c.args.world.now) _ (λ d is are.
    none_paid g.W.Reader.Source.told g.W.Reader.FileSource.file d c.args.asked.now c.args.given.items (sym c.is_input_twice.ensures ∙ c.if-is_input_twice.false) none are)

pub returns-in-Err-clause-opened : goal.returns-in-Err-clause-opened
returns-in-Err-clause-opened g c =
    let some : length c.args.asked.now.paid ≢ 0 = search rules in
    where_told (g.W.World.disk c.args.world.now) _ (λ d is are.
    paid_refused g.W.Reader.Source.told g.W.Reader.FileSource.file d c.args.asked.now c.args.given.items c.in-Err.error (sym c.is_input_twice.ensures ∙ c.if-is_input_twice.false)
    some are
    (at_disk _ _ d is c.in-Err.ensures.opened))

pub returns-in-Ok-append-clause-opened : goal.returns-in-Ok-append-clause-opened
returns-in-Ok-append-clause-opened g c =
    let given = c.args.given.items in
    let paid = c.in-Ok.paid.items in
    let items : c.append.new.self.items ≡ given ++ paid = search rules in
    let some : length c.args.asked.now.paid ≢ 0 = search rules in
    where_told (g.W.World.disk c.args.world.now) _ (λ d is are.
    rw items (some_paid g.W.Reader.Source.told g.W.Reader.FileSource.file d c.args.asked.now given paid (sym c.is_input_twice.ensures ∙ c.if-is_input_twice.false) some are
    (at_disk _ _ d is c.in-Ok.ensures.opened)))
