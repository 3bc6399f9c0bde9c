-- The lines and events of bytes, with one more line.
use Rattle.dsr_file.proofs.Common.{◌≡◌, ℕ, suc, ◌+◌, ◌<◌, ◌≤◌, ◌∙◌, sym, ap, refl, List, [], ◌∷◌, ◌++◌, length, map, Some, add-zero, arith, if◌then◌else◌, append-nil, map-append, nat_tests, pieces, line_limit, LayoutTable, FileFault, Ending, EventPart, Ended, lines_among, Reading, reading, records, events_of, fault_of, AllGood, first_from, counts_fault, events_so_far, placed, readings}
use Rattle.dsr_events.specs.declared.fault.Ending.TheVariants as endings
use Rattle.dsr_events.specs.declared.fault.Outcome.TheVariants as outcomes
use Rattle.dsr_file.proofs.LineLemmas.{first_at}

pub placed-append : (n : ℕ) (xs ys : List EventPart) → placed n (xs ++ ys) ≡ placed n xs ++ placed (n + length xs) ys
placed-append n [] ys = ap (λ m. placed m ys) (sym (add-zero n))
placed-append n (x ∷ xs) ys =
    ap (λ es. record { place = n; part = x } ∷ es) (placed-append (n + 1) xs ys ∙ ap (λ m. placed (n + 1) xs ++ placed m ys) (omega arith))

pub length-placed : (n : ℕ) (xs : List EventPart) → length (placed n xs) ≡ length xs
length-placed n [] = refl
length-placed n (x ∷ xs) = ap suc (length-placed (n + 1) xs)

-- all complete pieces are lines
pub lines_last : (ending : Ending) (ps : List (List ℕ)) (k : List ℕ) → lines_among ending (ps ++ k ∷ []) ≡ ps ++ lines_among ending (k ∷ [])
lines_last ending [] k = refl
lines_last ending (p ∷ []) k = refl
lines_last ending (p ∷ q ∷ ps) k = ap (λ xs. p ∷ xs) (lines_last ending (q ∷ ps) k)

pub no_last : (k : List ℕ) → length k ≤ line_limit → lines_among endings.Read (k ∷ []) ≡ []
no_last k h = grind (arith, nat_tests)

pub long_last : (k : List ℕ) → line_limit < length k → (ending : Ending) → lines_among ending (k ∷ []) ≡ k ∷ []
long_last k h ending = grind (arith, nat_tests)

-- the lines so far
pub readings_short : (layout : LayoutTable) (b k : List ℕ) (ps : List (List ℕ)) → pieces b ≡ ps ++ k ∷ [] → length k ≤ line_limit
    → readings layout b endings.Read ≡ map (reading layout) ps
readings_short layout b k ps e h =
    ap (map (reading layout)) (ap (lines_among endings.Read) e ∙ lines_last endings.Read ps k ∙ ap (λ xs. ps ++ xs) (no_last k h) ∙ append-nil ps)

pub readings_long : (layout : LayoutTable) (b k : List ℕ) (ps : List (List ℕ)) → pieces b ≡ ps ++ k ∷ [] → line_limit < length k
    → readings layout b endings.Read ≡ map (reading layout) ps ++ reading layout k ∷ []
readings_long layout b k ps e h =
    ap (map (reading layout)) (ap (lines_among endings.Read) e ∙ lines_last endings.Read ps k ∙ ap (λ xs. ps ++ xs) (long_last k h endings.Read))
    ∙ map-append (reading layout) ps (k ∷ [])

-- the events of good lines
pub good_events : (ls : List Reading) → first_from [] ls ≡ AllGood → events_so_far ls ≡ events_of (records ls)
unfolding events_so_far
good_events ls g = rw g (append-nil _)

pub fault_events : (ls : List Reading) (l : Reading) (f : FileFault) → first_from [] ls ≡ AllGood → fault_of ls l ≡ Some f
    → events_so_far (ls ++ l ∷ []) ≡ events_of (records (if counts_fault f then ls ++ l ∷ [] else ls)) ++ Ended (outcomes.Fault (length ls + 1) f) ∷ []
unfolding events_so_far
fault_events ls l f g e = rw (first_at ls l f [] g e) refl
