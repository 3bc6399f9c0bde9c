-- How lists of events end.
use Rattle.dsr_intake.proofs.Common.{◌≡◌, ℕ, suc, ◌+◌, true, false, ◌||◌, List, [], ◌∷◌, ◌++◌, length, Some, slice_get, refl, ap, ◌∙◌, arith, length-append, EventPart, Placed, is_ended, has_ended, IsOrderly, slice_get_front, is_clean_end, ends_clean}
use Rattle.dsr_events.specs.declared.fault.FileFault.TheVariants.{Memory}
use Rattle.dsr_events.specs.declared.fault.Outcome.TheVariants.{Fault}
use Rattle.dsr_events.specs.declared.event.EventPart.TheVariants.{Ended}
use Rattle.dsr_file.specs.meaning.Texts.{placed}

pub ends_clean_push : (xs : List Placed) (e : Placed) → ends_clean (xs ++ e ∷ []) ≡ is_clean_end e.part
ends_clean_push [] e = refl
ends_clean_push (x ∷ []) e = refl
ends_clean_push (x ∷ y ∷ xs) e = ends_clean_push (y ∷ xs) e

pub has_ended_push : (xs : List Placed) (e : Placed) → has_ended (xs ++ e ∷ []) ≡ (has_ended xs || is_ended e.part)
has_ended_push [] e = grind arith
has_ended_push (x ∷ xs) e = grind (arith, has_ended_push xs e)

clean_is_ended : (p : EventPart) → is_clean_end p ≡ true → is_ended p ≡ true
clean_is_ended p h = grind arith

-- if a list has a clean end, its last event is an Ended
clean_last : (xs : List Placed) → ends_clean xs ≡ true → (i : ℕ) × (e : Placed) × (slice_get xs i ≡ Some e) × (is_ended e.part ≡ true) × (i + 1 ≡ length xs)
clean_last [] h = cc
clean_last (x ∷ []) h = (0, x, refl, clean_is_ended x.part h, refl)
clean_last (x ∷ y ∷ xs) h = let r = clean_last (y ∷ xs) h in (suc r.0, r.1, r.2, r.3, omega (arith, r.4))

-- nothing follows a clean end
pub clean_is_whole : (xs ys : List Placed) → IsOrderly (xs ++ ys) → ends_clean xs ≡ true → ys ≡ []
clean_is_whole xs [] o h = refl
clean_is_whole xs (y ∷ ys) o h =
    let l = clean_last xs h in
    let e = o.ended_last l.0 l.1 (slice_get_front xs (y ∷ ys) l.0 l.1 l.2) l.3 in
    absurd (omega (arith, e, l.4, length-append xs (y ∷ ys)))

placed_unclean : (n : ℕ) (parts : List EventPart) (line : ℕ) → ends_clean (placed n (parts ++ Ended (Fault line Memory) ∷ [])) ≡ false
placed_unclean n [] line = refl
placed_unclean n (q ∷ []) line = refl
placed_unclean n (q ∷ r ∷ parts) line = placed_unclean (n + 1) (r ∷ parts) line

-- events that end with Memory have no clean end
pub memory_is_unclean : (parts : List EventPart) (line : ℕ) (es : List Placed) → es ≡ placed 0 (parts ++ Ended (Fault line Memory) ∷ []) → ends_clean es
    ≡ false
memory_is_unclean parts line es h = ap ends_clean h ∙ placed_unclean 0 parts line
