-- Lines that are written part by part.
use Rattle.dsr_command.proofs.Common.{◌≡◌, ◌∙◌, ◌+◌, ◌<◌, ◌≤◌, ℕ, List, [], ◌∷◌, ◌++◌, false, ap, sym, arith, length, take, drop, map, slice_index_or, Bor, append_assoc, append-nil, length-append, map-append, take_more, take-append-drop, take-append-le, Written, IsCut, IsWritten, joined}
use Rattle.std.specs.List.{concat}
use Rattle.std.proofs.lemmas.List.Folds.{concat-append}
use Rattle.std.proofs.Math.Seq.{take-append-add}

joined_append : (xs ys : List (Bor (List ℕ))) → joined (xs ++ ys) ≡ joined xs ++ joined ys
joined_append xs ys = ap concat (map-append (λ p. p.now) xs ys) ∙ concat-append (map (λ p. p.now) xs) (map (λ p. p.now) ys)

-- the parts up to one, and that one
pub joined_next : (parts : List (Bor (List ℕ))) (i : ℕ) (d : Bor (List ℕ)) → i < length parts
    → joined (take (i + 1) parts) ≡ joined (take i parts) ++ (slice_index_or parts i d).now
joined_next parts i d lt =
    let p = slice_index_or parts i d in
    ap joined (take_more parts i d lt) ∙ (joined_append (take i parts) (p ∷ []) ∙ ap (λ l. joined (take i parts) ++ l) (append-nil p.now))

-- all parts: those before one, that one, and those after it
pub joined_at : (parts : List (Bor (List ℕ))) (i : ℕ) (d : Bor (List ℕ)) → i < length parts
    → joined parts ≡ joined (take i parts) ++ ((slice_index_or parts i d).now ++ joined (drop (i + 1) parts))
joined_at parts i d lt =
    let rest = joined (drop (i + 1) parts) in
    ap joined (sym (take-append-drop (i + 1) parts)) ∙ (joined_append (take (i + 1) parts) (drop (i + 1) parts)
    ∙ (ap (λ l. l ++ rest) (joined_next parts i d lt) ∙ append_assoc (joined (take i parts)) (slice_index_or parts i d).now rest))

-- a line of which the front and a part of the rest were written
pub written_in_part : (a b : Written) (line front part rest : List ℕ) (n : ℕ) → line ≡ front ++ (part ++ rest)
    → n ≤ length part → IsCut (front ++ take n part) a b → IsWritten false a b line
written_in_part a b line front part rest n is le out =
    let seen : take (length front + n) line ≡ front ++ take n part =
    ap (take (length front + n)) is ∙ (take-append-add front (part ++ rest) n ∙ ap (λ l. front ++ l) (take-append-le n part rest le)) in
    (length front + n, rw (is, length-append front (part ++ rest), length-append part rest) (omega arith), rw seen out)
