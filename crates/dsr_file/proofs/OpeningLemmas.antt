-- Summaries whose identifiers are all different.
use Rattle.dsr_file.proofs.Common.{◌≡◌, sym, refl, subst, Bool, true, false, not, ◌&&◌, ◌||◌, List, [], ◌∷◌, ◌++◌, Result, Ok, Err, MatchResult, list_any, bytes_eq, list_any-append, distinct, arith}
use Rattle.dsr_events.specs.declared.record.Summary.{Summary}

pub distinct_push : (ss : List Summary) (s : Summary) → distinct ss ≡ true → list_any (λ t. bytes_eq t.id s.id) ss ≡ false → distinct (ss ++ s ∷ []) ≡ true
distinct_push [] s d n = refl
distinct_push (x ∷ ss) s d n = more (list_any (λ t. bytes_eq x.id t.id) ss) (list_any (λ t. bytes_eq x.id t.id) (ss ++ s ∷ [])) (bytes_eq x.id s.id)
    (distinct ss) (distinct (ss ++ s ∷ [])) (list_any (λ t. bytes_eq t.id s.id) ss) (list_any-append (λ t. bytes_eq x.id t.id) ss (s ∷ [])) d n
    (distinct_push ss s)
  where
    more : (a b c d e f : Bool) → b ≡ (a || (c || false)) → (not a && d) ≡ true → (c || f) ≡ false → (d ≡ true → f ≡ false → e ≡ true) → (not b && e) ≡ true
    more a b c d e f p q r h = grind arith

-- what holds of a list with and without an item holds after the item was pushed or refused
pub pushed : {T X : Type 0} (P : X → Type 0) (r : Result (Unit {0}) T) (t : T) (new a b : X) → MatchResult r (λ _. new ≡ a) (λ back. (back ≡ t) × (new ≡ b))
    → P a → P b → P new
pushed P (Ok x) t new a b e p q = subst P (sym e) p
pushed P (Err x) t new a b e p q = subst P (sym e.1) q
