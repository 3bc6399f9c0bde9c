use Rattle.std.proofs.Common.{rules, ap, ◌∙◌, ◌<◌, ◌++◌, length, take}
use Rattle.dsr_sums.proofs.KeptLemmas.{read_in}
use Rattle.dsr_sums.proofs.kept.Kept.read_behind.Goals as goal
use borrow.Rule.Slice.PartMut.{take_put}

pub returns-in-Ok : goal.returns-in-Ok
returns-in-Ok g c =
    let n = c.in-Ok.count in
    let piece = c.read.new.piece in
    let some : 0 < length piece = search rules in (
      take n piece,
      read_in c.self.inside.room piece c.self.inside.count _ n c.self.invariant c.in-Ok.ensures.bound.0 ∙ ap (λ t. t ++ take n piece) c.self.view_is,
      c.in-Ok.ensures.bytes.0,
      (λ none. (ap (λ m. take m piece) none, c.in-Ok.ensures.bytes.1 none some)),
      c.in-Ok.ensures.failed,
    )

pub returns-in-Err : goal.returns-in-Err
returns-in-Err g c = (
  take_put c.self.inside.count _ c.self.inside.room c.read.new.piece c.self.invariant ∙ c.self.view_is,
  c.in-Err.ensures.bytes,
  c.in-Err.ensures.failed,
)
