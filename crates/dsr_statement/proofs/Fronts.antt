-- Texts that begin with given bytes.
use Rattle.std.specs.Prelude.{◌↔◌}
use Rattle.std.proofs.Common.{Bool, arith, ◌≡◌, ◌≢◌, ℕ, ◌-◌, ◌<◌, List, [], ◌++◌, length, take, drop, true, false, ap, sym, ◌∙◌, Option, Some, None, length-append, length-drop, take_all, subst}
use Rattle.std.specs.Option.{MatchOption, option_map}
use Rattle.std.specs.Borrow.{Bor}
use Rattle.std.specs.Str.{bytes_eq}
use Rattle.std.proofs.lemmas.List.{append-nil, take-append-drop, append_cancel_left}
use Rattle.std.proofs.lemmas.Slice.Eq.{bytes_eq-Decides}
use Rattle.std.proofs.Math.Seq.{take-append_seam}
use Rattle.dsr_statement.specs.inner.Sinks.{Matches}

pub front_is : (text bytes : List ℕ) → bytes_eq (take (length bytes) text) bytes ≡ true
    → text ≡ bytes ++ take (length text - length bytes) (drop (length bytes) text)
front_is text bytes h =
    let same : take (length bytes) text ≡ bytes = (bytes_eq-Decides (take (length bytes) text) bytes).0 h in
    let all : take (length text - length bytes) (drop (length bytes) text) ≡ drop (length bytes) text =
    take_all (length text - length bytes) (drop (length bytes) text) (omega (arith, length-drop (length bytes) text)) in
    sym (take-append-drop (length bytes) text) ∙ ap (λ t. t ++ drop (length bytes) text) same ∙ ap (λ t. bytes ++ t) (sym all)

pub no_front : (text bytes : List ℕ) → bytes_eq (take (length bytes) text) bytes ≡ false → (rest : List ℕ) → text ≢ bytes ++ rest
no_front text bytes h rest e =
    let same : take (length bytes) text ≡ bytes = ap (take (length bytes)) e ∙ take-append_seam bytes rest in
    let yes : bytes_eq (take (length bytes) text) bytes ≡ true = (bytes_eq-Decides (take (length bytes) text) bytes).1 same in
    cc

pub no_room : (text bytes : List ℕ) → length text < length bytes → (rest : List ℕ) → text ≢ bytes ++ rest
no_room text bytes h rest e = omega (arith, ap length e, length-append bytes rest)

-- what is left after a text, and after other bytes
pub after_text : (text bytes : List ℕ) (o : Option (List ℕ)) → MatchOption o ((rest : List ℕ) → text ≢ bytes ++ rest) (λ r. text ≡ bytes ++ r)
    → Matches (Some text) bytes o
after_text text bytes None h rest = (λ e. cc, λ e. let same : text ≡ bytes ++ rest = cc in absurd (h rest same))
after_text text bytes (Some r) h rest = (
  λ e. let same : r ≡ rest = cc in ap (λ t. Some t) (h ∙ ap (λ t. bytes ++ t) same),
  λ e. let same : text ≡ bytes ++ rest = cc in ap (λ t. Some t) (append_cancel_left bytes r rest (sym h ∙ same)),
)

abbrev left : Option (Bor (List ℕ)) → Option (List ℕ)
left o = option_map (λ (r : Bor (List ℕ)). r.now) o

pub after_given : (before : Option (Bor (List ℕ))) (text : Bor (List ℕ)) (bytes : List ℕ) (o : Option (Bor (List ℕ))) → before ≡ Some text
    → MatchOption o ((rest : List ℕ) → text.now ≢ bytes ++ rest) (λ r. text.now ≡ bytes ++ r.now) → Matches (left before) bytes (left o)
after_given before text bytes None is h = subst (λ b. Matches (left b) bytes None) (sym is) (after_text text.now bytes None h)
after_given before text bytes (Some r) is h = subst (λ b. Matches (left b) bytes (Some r.now)) (sym is) (after_text text.now bytes (Some r.now) h)

pub after_none : (before : Option (Bor (List ℕ))) (bytes : List ℕ) → before ≡ None → Matches (left before) bytes None
after_none before bytes is = subst (λ b. Matches (left b) bytes None) (sym is) (λ rest. (λ e. cc, λ e. cc))

-- exactly a text was put against it
pub all_put : (text line : List ℕ) (before after : Option (List ℕ)) (is_done : Bool) → before ≡ Some text → Matches before line after
    → (is_done ≡ true) ↔ (after ≡ Some []) → (is_done ≡ true) ↔ (line ≡ text)
all_put text line before after is_done start h (to, from) =
    let (on, back) = h [] in (
      λ d. let was : before ≡ Some (line ++ []) = on (to d) in let same : line ++ [] ≡ text = cc in sym (append-nil line) ∙ same,
      λ e. from (back (start ∙ ap (λ t. Some t) (sym e ∙ sym (append-nil line)))),
    )
