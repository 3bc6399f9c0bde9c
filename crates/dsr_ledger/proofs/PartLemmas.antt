-- The parts of a line: one more part, and parts by shares.
use Rattle.dsr_ledger.proofs.Common.{◌≡◌, ℕ, ◌+◌, ◌<◌, ◌≤◌, List, [], ◌∷◌, ◌++◌, length, take, ap, subst, ◌∙◌, arith, ℤ, Option, None, Some, map, slice_get, unsigned_abs, get_or-map, length-map, take-map, sum_by_more_le, get_or_from_slice_get, slice_get_within, SeatPart, SeatShare, IsNumbered, Grows, place_by, owed_kept, nothing_owed, part_in, part_seats, parts_size, PartsGrow, Part, part_of, rounded, HasPart, HaveParts, AreSeatsBelow}
use Rattle.dsr_ledger.proofs.NumberedLemmas.{items_grow, items_pushed, by_numbered}
use Rattle.dsr_ledger.proofs.EachLemmas.{each_weaker}

abbrev pub seat_of_part : SeatPart → ℕ
seat_of_part p = p.seat

pub parts_twice : (a b c : List SeatPart) → PartsGrow a b → PartsGrow b c → PartsGrow a c
parts_twice a b c g h = record { owed = λ seat. h.owed seat ∙ g.owed seat; places = λ s i e. h.places s i (g.places s i e) }

-- one more part, of which nothing is owed
pub parts_more : (ps : List SeatPart) (p : SeatPart) → part_in ps p.seat ≡ None → owed_kept p ≡ nothing_owed → PartsGrow ps (ps ++ p ∷ [])
parts_more ps p none nothing = record {
  owed = λ seat. items_pushed seat_of_part owed_kept nothing_owed ps p none nothing seat;
  places = items_grow seat_of_part ps p none;
}

-- parties with different seats have different places
pub places_are_numbered_by : (seat : List ℕ → Option ℕ) (n : ℕ) (ps : List SeatPart) → IsNumbered seat n
    → IsNumbered (place_by seat (part_seats ps)) (length ps)
places_are_numbered_by seat n ps h = subst (IsNumbered (place_by seat (part_seats ps))) (length-map ps seat_of_part) (by_numbered seat n (part_seats ps) h)

pub part_kept : (old new : List SeatPart) (s : SeatShare) → Grows (part_in old) (part_in new) → HasPart old s → HasPart new s
part_kept old new s g h = record { place = h.place; there = g s.seat h.place h.there }

-- seats that have parts keep them
pub parts_kept : (ss : List SeatShare) (old new : List SeatPart) → Grows (part_in old) (part_in new) → HaveParts ss old → HaveParts ss new
parts_kept ss old new g = each_weaker (HasPart old) (HasPart new) (λ s. part_kept old new s g) ss

-- where each seat below n has a part, those of shares with such seats have
pub parts_all : (ps : List SeatPart) (ss : List SeatShare) (n : ℕ) → ((s : ℕ) → s < n → (i : ℕ) × (part_in ps s ≡ Some i)) → AreSeatsBelow n ss
    → HaveParts ss ps
parts_all ps ss n all = each_weaker (λ s. s.seat < n) (HasPart ps) (λ s less. let p = all s.seat less in record { place = p.0; there = p.1 }) ss

-- the parts before one, and that one, are no more than all
pub prefix_size : (a : ℤ) (es : List (List ℕ × ℕ)) (i : ℕ) (e : List ℕ × ℕ) → slice_get es i ≡ Some e
    → parts_size (map (part_of a) (take i es)) + unsigned_abs (rounded (part_of a e)) ≤ parts_size (map (part_of a) es)
prefix_size a es i e at =
    let size = λ (p : Part). unsigned_abs (rounded p) in let below = slice_get_within es i e at in
    let most = sum_by_more_le size (map (part_of a) es) i (part_of a e) (omega (arith, length-map es (part_of a))) in
    let same = get_or-map (part_of a) es i e (part_of a e) below ∙ ap (part_of a) (get_or_from_slice_get es i e e at) in
    omega (arith, most, ap size same, ap parts_size (take-map (part_of a) i es))
