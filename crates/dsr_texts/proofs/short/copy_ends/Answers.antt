use Rattle.dsr_texts.proofs.Common.{arith, ◌≡◌, ◌≤◌, ◌+◌, ◌-◌, ℕ, List, ◌++◌, length, take, drop, ap, ◌∙◌, length-append, length-drop, take-append-le, take-append-drop, take-take, take_all, length-take, length-take-le, put_chunk_whole, chunk, put_chunk}
use Rattle.std.proofs.lemmas.Slice.{take-put_mid, drop-put_mid, drop-append-drop}
use borrow.Rule.Slice.PartMut.{put_mid, mid_of}
use Rattle.dsr_texts.proofs.short.copy_ends.Goals as goal

-- the vectors overwrite as many bytes: the first of the text, and the last
abbrev front_of : List ℕ → List ℕ → ℕ → List ℕ
front_of bytes text half = put_chunk 0 (take half bytes) (chunk 0 half text)

front_is : (bytes text : List ℕ) (half : ℕ) → half ≤ length text → half ≤ length bytes
    → front_of bytes text half ≡ take half text
front_is bytes text half long room =
    put_chunk_whole (take half bytes) (take half text) (omega (arith, length-take-le half bytes room, length-take-le half text long))

back_is : (bytes text : List ℕ) (half k : ℕ) → half ≤ length text → length text ≤ length bytes → k ≡ half
    → put_chunk 0 (mid_of (length text - half) k (front_of bytes text half ++ drop half bytes)) (chunk (length text - half) half text)
    ≡ drop (length text - half) text
back_is bytes text half k long room e =
    let tail = length text - half in
    let before = front_of bytes text half ++ drop half bytes in
    let front : length (front_of bytes text half) ≡ half = ap length (front_is bytes text half long (omega (arith, room))) ∙ length-take-le half text long in
    let whole : length before ≡ length bytes = omega (arith, front, length-drop half bytes, length-append (front_of bytes text half) (drop half bytes)) in
    put_chunk_whole (take k (drop tail before)) (take half (drop tail text))
    (omega (arith, e, whole, length-take k (drop tail before), length-drop tail before, length-take half (drop tail text), length-drop tail text))
    ∙ take_all half (drop tail text) (omega (arith, length-drop tail text))

-- the first and the last bytes of a text, which meet or overlap, make up the text
ends : (text front back rest : List ℕ) (half k : ℕ) → half ≤ length text → length text ≤ half + half → front ≡ take half text
    → back ≡ drop (length text - half) text
    → take (length text) (put_mid (length text - half) k (front ++ rest) back) ≡ text
ends text front back rest half k long short e1 e2 =
    let lf : length front ≡ half = omega (arith, ap length e1, length-take half text) in
    let lb : length back ≡ half = omega (arith, ap length e2, length-drop (length text - half) text) in
    let within : length text - half ≤ length (front ++ rest) = omega (arith, length-append front rest) in
    take-put_mid (length text - half) k (front ++ rest) back (length text) (omega arith) within
    ∙ ap (λ t. t ++ back) (take-append-le (length text - half) front rest (omega arith) ∙ ap (take (length text - half)) e1)
    ∙ ap (λ t. take (length text - half) (take half text) ++ t) e2
    ∙ ap (λ t. t ++ drop (length text - half) text) (take-take (length text - half) half text (omega arith)) ∙ take-append-drop (length text - half) text

pub returns-clause-front : goal.returns-clause-front
returns-clause-front g c =
    let room : length c.args.text.now ≤ length c.args.bytes.now = omega (arith, c.told-bytes, c.requires.room) in
    ends c.args.text.now _ _ _ g.row.HALF _ c.requires.long c.requires.short
    (front_is c.args.bytes.now c.args.text.now g.row.HALF c.requires.long (omega (arith, c.requires.long, room)))
    (back_is c.args.bytes.now c.args.text.now g.row.HALF _ c.requires.long room (omega arith))

-- and the bytes after the text are unchanged
behind : (text front back bytes : List ℕ) (half : ℕ) → half ≤ length text → length front ≡ half → length back ≡ half → length text ≤ length bytes
    → drop (length text) (put_mid (length text - half) (length text - half + half - (length text - half)) (front ++ drop half bytes) back)
    ≡ drop (length text) bytes
behind text front back bytes half long lf lb room =
    let within : length text - half ≤ length (front ++ drop half bytes) = omega (arith, length-append front (drop half bytes), length-drop half bytes) in
    drop-put_mid _ _ (front ++ drop half bytes) back (length text) (omega arith) within (omega arith) ∙ drop-append-drop half bytes front (length text) long lf

pub returns-clause-rest : goal.returns-clause-rest
returns-clause-rest g c =
    let text = c.args.text.now in
    let half = g.row.HALF in
    let room : length text ≤ length c.args.bytes.now = omega (arith, c.told-bytes, c.requires.room) in
    let front = front_is c.args.bytes.now text half c.requires.long (omega (arith, c.requires.long, room)) in
    let back = back_is c.args.bytes.now text half (length text - half + half - (length text - half)) c.requires.long room (omega arith) in
    behind text _ _ c.args.bytes.now half c.requires.long (ap length front ∙ length-take-le half text c.requires.long)
    (ap length back ∙ omega (arith, c.requires.long, length-drop (length text - half) text)) room
