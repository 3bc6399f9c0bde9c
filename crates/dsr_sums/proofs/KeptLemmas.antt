-- The bytes in the front of a room.
use Rattle.std.proofs.Common.{arith, ◌≡◌, ◌≤◌, ◌+◌, ◌-◌, ℕ, List, ◌++◌, length, take, drop, ap, sym, ◌∙◌}
use Rattle.std.proofs.Math.Seq.{take-append-add}
use Rattle.std.proofs.lemmas.List.{drop-take, length-drop, length-take-le, take-append-le}
use Rattle.std.specs.List.{copy_within}
use lib.Seq.{take_at}
use borrow.Rule.Slice.PartMut.{post_of, put_mid}

-- bytes that were put behind them
pub read_in : (room piece : List ℕ) (count k n : ℕ) → count ≤ length room → n ≤ length piece
    → take (count + n) (put_mid count k room piece) ≡ take count room ++ take n piece
read_in room piece count k n within few =
    ap (λ m. take (m + n) (put_mid count k room piece)) (sym (length-take-le count room within))
    ∙ take-append-add (take count room) (piece ++ post_of count k room) n
    ∙ ap (λ t. take count room ++ t) (take-append-le n piece (post_of count k room) few)

-- the last of them, moved to the front
pub moved : (room : List ℕ) (count from : ℕ) → from ≤ count → count ≤ length room
    → take (count - from) (copy_within room from count 0) ≡ drop from (take count room)
moved room count from low within =
    let n = count - from in
    let whole : from + n ≡ count = omega (arith, low) in
    take_at (take n (drop from room)) _ n (length-take-le n (drop from room) (omega (arith, length-drop from room, low, within)))
    ∙ sym (drop-take from n room) ∙ ap (λ m. drop from (take m room)) whole
