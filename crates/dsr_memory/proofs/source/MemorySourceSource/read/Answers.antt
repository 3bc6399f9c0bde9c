use Rattle.std.proofs.Common.{◌≡◌, ◌-◌, length, take, drop, min, ap, refl, ◌∙◌, arith, length-drop, length-take}
use Rattle.std.proofs.lemmas.List.{take_all}
use Rattle.dsr_memory.proofs.Pieces.{consumed, at_the_end}
use Rattle.dsr_memory.proofs.source.MemorySourceSource.read.Goals as goal

pub returns-clause-bytes : goal.returns-clause-bytes
returns-clause-bytes c =
    let l = c.args.self.now.bytes.items in
    let piece = c.args.piece.now in
    let given = c.copy_from_slice.new.self in
    let a = c.min-at.result in
    let n = c.min-count.result in
    let same : c.deref.result.now ≡ l = c.deref.ensures.value in
    let is_at : a ≡ min c.args.self.now.at (length l) = omega arith in
    let size : length (drop a l) ≡ length l - a = length-drop a l in
    let d = c.deref.result.now in
    let rest : take (length d - a) (drop a d) ≡ drop a l =
    take_all (length d - a) (drop a d) (omega (arith, length-drop a d)) ∙ ap (drop a) same in
    let is_count : n ≡ min (min (length (drop a l)) (length piece)) 64 = omega (arith, ap length rest) in
    let is_given : given ≡ take n (drop a l) = c.copy_from_slice.ensures.after ∙ ap (take n) rest in
    let length_given : length given ≡ n = omega (arith, c.copy_from_slice.ensures.len, length-take n piece) in (
      consumed l (drop a l) given (drop n piece) c.args.self.now.at a n is_at refl is_given (omega arith),
      λ none room. at_the_end l (drop a l) given piece a n refl is_count length_given none room,
    )
