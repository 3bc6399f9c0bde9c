-- The parts of records, with one more record at the end.
use Rattle.dsr_file.proofs.Common.{◌≡◌, ◌∙◌, sym, ap, refl, true, false, cond, List, [], ◌∷◌, ◌++◌, drop, Some, append-nil, append_assoc, onto_first, Record, parts, opens, but_last, last_of, closed}

-- the parts of two lists, put together: the last of the first list and the first of the second become one
abbrev pub join : {X : Type 0} → List (List X) → List (List X) → List (List X)
join [] qs = qs
join (p ∷ []) [] = p ∷ []
join (p ∷ []) (q ∷ qs) = (p ++ q) ∷ qs
join (p ∷ r ∷ ps) qs = p ∷ join (r ∷ ps) qs

pub join_onto : {X : Type 0} (x : X) (ps qs : List (List X)) → join (onto_first x ps) qs ≡ onto_first x (join ps qs)
join_onto x [] [] = refl
join_onto x [] (q ∷ qs) = refl
join_onto x (p ∷ []) [] = refl
join_onto x (p ∷ []) (q ∷ qs) = refl
join_onto x (p ∷ r ∷ ps) qs = refl

pub join_last : {X : Type 0} (ps : List (List X)) (k q : List X) (qs : List (List X)) → join (ps ++ k ∷ []) (q ∷ qs) ≡ ps ++ (k ++ q) ∷ qs
join_last [] k q qs = refl
join_last (p ∷ []) k q qs = refl
join_last (p ∷ r ∷ ps) k q qs = ap (λ z. p ∷ z) (join_last (r ∷ ps) k q qs)

-- a list that is not empty, by its last item
pub snoc : {X : Type 0} (q : X) (qs : List X) → (ps : List X) × (k : X) × (q ∷ qs ≡ ps ++ k ∷ [])
snoc q [] = ([], q, refl)
snoc q (r ∷ qs) = let s = snoc r qs in (q ∷ s.0, s.1, ap (λ z. q ∷ z) s.2)

-- there is a first part
parts_some : (rs : List Record) → (p : List Record) × (ps : List (List Record)) × (parts rs ≡ p ∷ ps)
parts_some [] = ([], [], refl)
parts_some (r ∷ rs) =
    let e = parts_some rs in
    elim (opens r) as (λ b. (p : List Record) × (ps : List (List Record)) × (cond b ([] ∷ onto_first r (parts rs)) (onto_first r (parts rs)) ≡ p ∷ ps))
    [ true ↦ ([], onto_first r (parts rs), refl) | false ↦ (r ∷ e.0, e.1, ap (onto_first r) e.2) ]

parts_join : (rs ss : List Record) → parts (rs ++ ss) ≡ join (parts rs) (parts ss)
parts_join [] ss = let s = parts_some ss in rw s.2 refl
parts_join (r ∷ rs) ss =
    let s = parts_some rs in
    let e : onto_first r (parts (rs ++ ss)) ≡ join (onto_first r (parts rs)) (parts ss) =
    ap (onto_first r) (parts_join rs ss) ∙ sym (join_onto r (parts rs) (parts ss)) in
    elim (opens r) as (λ b. cond b ([] ∷ onto_first r (parts (rs ++ ss))) (onto_first r (parts (rs ++ ss)))
    ≡ join (cond b ([] ∷ onto_first r (parts rs)) (onto_first r (parts rs))) (parts ss))
    [ true ↦ ap (λ ps. [] ∷ ps) e ∙ rw s.2 refl | false ↦ e ]

-- any other record
pub parts_stay : (rs : List Record) (r : Record) (ps : List (List Record)) (k : List Record) → opens r ≡ false → parts rs ≡ ps ++ k ∷ []
    → parts (rs ++ r ∷ []) ≡ ps ++ (k ++ r ∷ []) ∷ []
parts_stay rs r ps k o e = parts_join rs (r ∷ []) ∙ rw (e, o) (join_last ps k (r ∷ []) [])

-- a record that opens a part
pub parts_open : (rs : List Record) (r : Record) → opens r ≡ true → parts (rs ++ r ∷ []) ≡ parts rs ++ (r ∷ []) ∷ []
parts_open rs r o =
    let s = parts_some rs in
    let l = snoc s.0 s.1 in
    let e = s.2 ∙ l.2 in
    parts_join rs (r ∷ []) ∙ ap (λ z. join z (parts (r ∷ []))) e ∙ last l.0 l.1
    ∙ ap (λ z. z ++ (r ∷ []) ∷ []) (sym e)
  where
    last : (ps : List (List Record)) (k : List Record) → join (ps ++ k ∷ []) (parts (r ∷ [])) ≡ (ps ++ k ∷ []) ++ (r ∷ []) ∷ []
    last ps k = rw o (join_last ps k [] ((r ∷ []) ∷ []) ∙ ap (λ z. ps ++ z ∷ (r ∷ []) ∷ []) (append-nil k) ∙ sym (append_assoc ps (k ∷ []) ((r ∷ []) ∷ [])))

pub but_last_push : {X : Type 0} (xs : List X) (x : X) → but_last (xs ++ x ∷ []) ≡ xs
but_last_push [] x = refl
but_last_push (y ∷ []) x = refl
but_last_push (y ∷ z ∷ xs) x = ap (λ ys. y ∷ ys) (but_last_push (z ∷ xs) x)

pub last_of_push : {X : Type 0} (xs : List X) (x : X) → last_of (xs ++ x ∷ []) ≡ Some x
last_of_push [] x = refl
last_of_push (y ∷ []) x = refl
last_of_push (y ∷ z ∷ xs) x = last_of_push (z ∷ xs) x

-- a record that opens no part closes none
pub closed_stay : (rs : List Record) (r : Record) → opens r ≡ false → closed (rs ++ r ∷ []) ≡ closed rs
closed_stay rs r o =
    let s = parts_some rs in
    let l = snoc s.0 s.1 in
    ap (λ ps. drop 1 (but_last ps)) (parts_stay rs r l.0 l.1 o (s.2 ∙ l.2)) ∙ ap (drop 1) (but_last_push l.0 (l.1 ++ r ∷ []) ∙ sym (but_last_push l.0 l.1))
    ∙ sym (ap (λ ps. drop 1 (but_last ps)) (s.2 ∙ l.2))

-- one that does closes the last
pub closed_open : (rs : List Record) (r : Record) → opens r ≡ true → closed (rs ++ r ∷ []) ≡ drop 1 (parts rs)
closed_open rs r o = ap (λ ps. drop 1 (but_last ps)) (parts_open rs r o) ∙ ap (drop 1) (but_last_push (parts rs) (r ∷ []))
