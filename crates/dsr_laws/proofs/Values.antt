-- The cells of a line, the parts of a list cell, and their values: as texts they keep what the line has.
use Rattle.std.proofs.Common.{arith, rules, List, [], ◌∷◌, ◌++◌, ◌≡◌, ◌∙◌, ◌<◌, ◌≤◌, ◌+◌, ◌/◌, ℕ, Bool, true, refl, sym, subst, length, get_or, suc, zero, map, append_assoc, length-append, eqb, not, ◌&&◌}
use Rattle.std.specs.Prelude.{replicate}
use Rattle.std.proofs.Math.Seq.{get_or-append_seam, take-append_seam, drop-append-add}
use Rattle.std.proofs.lemmas.Bool.{and_from, and_parts, cond_both, eqb-true}
use Rattle.std.proofs.lemmas.List.{length-replicate}
use Rattle.std.proofs.lemmas.Bool.Decides.{nat_tests}
use Rattle.std.proofs.lemmas.List.Folds.{list_all-append}
use Rattle.std.proofs.lemmas.List.Splits.{join_with_byte-slice_split}
use Rattle.std.proofs.lemmas.Str.{IsCharBoundary-after_ascii, IsCharBoundary-before_ascii, IsUtf8-append, IsUtf8-drop, IsUtf8-take}
use Rattle.std.specs.List.{AllByRecursion, join_with_byte, list_all, onto_first, slice_split}
use Rattle.std.specs.Str.{IsUtf8}
use Rattle.dsr_statement.proofs.Plain.{lacks, pieces_lack as no_piece_has}
use Rattle.dsr_cells.specs.meaning.Cells.{parts_after, raw_parts, value_after, value_of}

-- the parts of a cell, joined by pipes, are the cell
join_onto : (b : ℕ) (ps : List (List ℕ)) → join_with_byte 124 (onto_first b ps) ≡ b ∷ join_with_byte 124 ps
join_onto b [] = refl
join_onto b (p ∷ []) = refl
join_onto b (p ∷ q ∷ ps) = refl

parts_joined : (k : ℕ) (text : List ℕ) → (join_with_byte 124 (parts_after k text) ≡ text) × (0 < length (parts_after k text))
parts_joined k [] = (refl, omega arith)
parts_joined k (b ∷ bs) = grind (arith, nat_tests, join_onto b, onto_some b, join_empty b bs (parts_after 0 bs), parts_joined (k + 1) bs, parts_joined 0 bs)
  where
    join_empty : (b : ℕ) (bs : List ℕ) (ps : List (List ℕ)) → b ≡ 124 → 0 < length ps → join_with_byte 124 ps ≡ bs → join_with_byte 124 ([] ∷ ps) ≡ b ∷ bs
    join_empty b bs [] e some h = absurd (omega arith)
    join_empty b bs (p ∷ ps) e some h = cc

    onto_some : (b : ℕ) (ps : List (List ℕ)) → 0 < length (onto_first b ps)
    onto_some b ps = grind arith

-- what a text has, its parts before and after an ASCII byte have
module _ (P : List ℕ → Type 0) (cut : (front : List ℕ) (c : ℕ) (rest : List ℕ) → c < 128 → P (front ++ (c ∷ rest)) → P front × P rest) where
  each_joined : (c : ℕ) → c < 128 → (ps : List (List ℕ)) → P (join_with_byte c ps) → AllByRecursion P ps
  each_joined c low [] h = tt
  each_joined c low (p ∷ []) h = (h, tt)
  each_joined c low (p ∷ q ∷ ps) h = let two = cut p c (join_with_byte c (q ∷ ps)) low h in (two.0, each_joined c low (q ∷ ps) two.1)

  pub each_piece : (c : ℕ) → c < 128 → (text : List ℕ) → P text → AllByRecursion P (slice_split (λ b. eqb b c) text)
  each_piece c low text h = each_joined c low (slice_split (λ b. eqb b c) text) (subst P (sym (join_with_byte-slice_split c text)) h)

  pub each_part : (cell : List ℕ) → P cell → AllByRecursion P (raw_parts cell)
  each_part [] h = tt
  each_part (c ∷ cs) h = each_joined 124 (omega arith) (parts_after 0 (c ∷ cs)) (subst P (sym (parts_joined 0 (c ∷ cs)).0) h)

-- no piece has the byte between pieces
each_true : {X : Type 0} (p : X → Bool) (xs : List X) → list_all p xs ≡ true → AllByRecursion (λ x. p x ≡ true) xs
each_true p [] h = tt
each_true p (x ∷ xs) h = let two = and_parts (p x) (list_all p xs) h in (two.0, each_true p xs two.1)

pub pieces_lack : (c : ℕ) (text : List ℕ) → AllByRecursion (λ p. lacks c p ≡ true) (slice_split (λ b. eqb b c) text)
pieces_lack c text = each_true (lacks c) (slice_split (λ b. eqb b c) text) (no_piece_has c text)

-- UTF-8 of at most 8,192 bytes, each of which passes: a text of a line without a line feed, and of a cell without a TAB too
pub record IsText (passes : ℕ → Bool) (text : List ℕ) : Type 0 where
  pub utf8 : IsUtf8 text
  pub all : list_all passes text ≡ true
  pub short : length text ≤ 8192

abbrev pub no_feed : ℕ → Bool
no_feed b = not (eqb b 10)

abbrev pub plain : ℕ → Bool
plain b = not (eqb b 10) && not (eqb b 9)

utf8_cut : (front : List ℕ) (c : ℕ) (rest : List ℕ) → c < 128 → IsUtf8 (front ++ (c ∷ rest)) → IsUtf8 front × IsUtf8 rest
utf8_cut front c rest low u =
    let text = front ++ (c ∷ rest) in let n = length front in
    let within : n < length text = omega (arith, length-append front (c ∷ rest)) in
    let at : get_or text n 0 < 128 = omega (arith, get_or-append_seam front c rest 0) in (
      subst IsUtf8 (take-append_seam front (c ∷ rest)) (IsUtf8-take text n u (IsCharBoundary-before_ascii text n within at)),
      subst IsUtf8 (drop-append-add front (c ∷ rest) 1) (IsUtf8-drop text (n + 1) u (IsCharBoundary-after_ascii text n u within at)),
    )

module _ (p : ℕ → Bool) where
  all_cut : (front : List ℕ) (c : ℕ) (rest : List ℕ) → list_all p (front ++ (c ∷ rest)) ≡ true → (list_all p front ≡ true) × (list_all p rest ≡ true)
  all_cut front c rest h = grind (arith, list_all-append p front (c ∷ rest))

  text_cut : (front : List ℕ) (c : ℕ) (rest : List ℕ) → c < 128 → IsText p (front ++ (c ∷ rest)) → IsText p front × IsText p rest
  text_cut front c rest low h =
      let u = utf8_cut front c rest low h.utf8 in let a = all_cut front c rest h.all in
      let long = length-append front (c ∷ rest) in
      (record { utf8 = u.0; all = a.0; short = omega (arith, h.short) }, record { utf8 = u.1; all = a.1; short = omega (arith, h.short) })

-- what follows from two facts of each item
pub each_both : {X : Type 0} (P Q R : X → Type 0) → ((x : X) → P x → Q x → R x) → (xs : List X) → AllByRecursion P xs → AllByRecursion Q xs
    → AllByRecursion R xs
each_both P Q R f [] p q = tt
each_both P Q R f (x ∷ xs) p q = (f x p.0 q.0, each_both P Q R f xs p.1 q.1)

all_plain : (text : List ℕ) → list_all no_feed text ≡ true → lacks 9 text ≡ true → list_all plain text ≡ true
all_plain [] f t = refl
all_plain (b ∷ bs) f t = grind (arith, nat_tests, all_plain bs)

pub cells_of_line : (line : List ℕ) → IsText no_feed line → AllByRecursion (IsText plain) (slice_split (λ b. eqb b 9) line)
cells_of_line line h =
    each_both (IsText no_feed) (λ p. lacks 9 p ≡ true) (IsText plain) (λ p l t. record { utf8 = l.utf8; all = all_plain p l.all t; short = l.short })
    (slice_split (λ b. eqb b 9) line) (each_piece (IsText no_feed) (text_cut no_feed) 9 (omega arith) line h) (pieces_lack 9 line)

-- the value of a part: what a text keeps that is put together of texts and backslashes
module _ (P : List ℕ → Type 0) (cut : (front : List ℕ) (c : ℕ) (rest : List ℕ) → c < 128 → P (front ++ (c ∷ rest)) → P front × P rest)
    (append : (a b : List ℕ) → P a → P b → P (a ++ b)) (slashes : (n : ℕ) → P (replicate n 92)) where
  -- after a run of backslashes, and after a text
  value_keeps : (text : List ℕ) → ((k : ℕ) → P text → P (value_after k text))
      × ((front : List ℕ) → P (front ++ text) → P (front ++ value_after 0 text))
  value_keeps [] = (λ k u. slashes ((k + 1) / 2), λ front u. u)
  value_keeps (c ∷ cs) =
      let rest = value_keeps cs in
      let slash : eqb c 92 ≡ true → (front : List ℕ) → P (front ++ (c ∷ cs)) → P front × P cs = λ is front u. cut front c cs (omega (arith, eqb-true c 92 is)) u in
      let Behind : List ℕ → List ℕ → Type 0 = λ front v. P (front ++ v) in (
        λ k u. cond_both (eqb c 92) _ _ P (λ is. rest.0 (k + 1) (slash is [] u).1) (λ other.
            append _ (c ∷ value_after 0 cs) (cond_both (eqb c 124) _ _ P (λ pipe. slashes (k / 2)) (λ own. slashes ((k + 1) / 2))) (rest.1 (c ∷ []) u)),
        λ front u. cond_both (eqb c 92) _ _ (Behind front) (λ is. append front (value_after 1 cs) (slash is front u).0 (rest.0 1 (slash is front u).1)) (λ other.
            let own = subst P (append_assoc front (c ∷ []) (value_after 0 cs)) (rest.1 (front ++ (c ∷ [])) (subst P (sym (append_assoc front (c ∷ []) cs)) u)) in
            cond_both (eqb c 124) _ _ (λ v. P (front ++ (v ++ (c ∷ value_after 0 cs)))) (λ pipe. own) (λ plain_. own)),
      )

value_length : (k : ℕ) (text : List ℕ) → length (value_after k text) ≤ k + length text
value_length k [] = omega (arith, length-replicate {A = ℕ} ((k + 1) / 2) 92)
value_length k (c ∷ cs) = grind (arith, value_length (k + 1) cs, value_length 0 cs, length-append {A = ℕ}, length-replicate {A = ℕ})

abbrev Passes : List ℕ → Type 0
Passes text = IsUtf8 text × (list_all plain text ≡ true)

value_text : (part : List ℕ) → IsText plain part → IsText plain (value_of part)
value_text part h =
    let kept = (value_keeps Passes cuts appended slashes_pass part).1 [] (h.utf8, h.all) in
    record { utf8 = kept.0; all = kept.1; short = omega (arith, value_length 0 part, h.short) }
  where
    cuts : (front : List ℕ) (c : ℕ) (rest : List ℕ) → c < 128 → Passes (front ++ (c ∷ rest)) → Passes front × Passes rest
    cuts front c rest low h =
        let u = utf8_cut front c rest low h.0 in let a = all_cut plain front c rest h.1 in ((u.0, a.0), (u.1, a.1))

    appended : (a b : List ℕ) → Passes a → Passes b → Passes (a ++ b)
    appended a b p q = (IsUtf8-append a b p.0 q.0, list_all-append plain a b ∙ and_from _ _ p.1 q.1)

    slashes_pass : (n : ℕ) → Passes (replicate n 92)
    slashes_pass zero = search rules
    slashes_pass (suc n) = appended (92 ∷ []) (replicate n 92) (search rules) (slashes_pass n)

-- the values of a list cell
pub values_text : (cell : List ℕ) → IsText plain cell → AllByRecursion (IsText plain) (map value_of (raw_parts cell))
values_text cell h = values (raw_parts cell) (each_part (IsText plain) (text_cut plain) cell h)
  where
    values : (ps : List (List ℕ)) → AllByRecursion (IsText plain) ps → AllByRecursion (IsText plain) (map value_of ps)
    values [] h = tt
    values (p ∷ ps) h = (value_text p h.0, values ps h.1)
