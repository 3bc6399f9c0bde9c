-- What determines a line of the ledger.
use Rattle.dsr_ledger.proofs.Common.{Bool, recursion_from_All, eq_by_cmp_equiv, ◌≡◌, ℕ, get_or, List, [], ◌∷◌, length, true, cond, refl, sym, ◌∙◌, ap, nat_lt, ◌-ℤ◌, filter, map, Option, list_any, AllByRecursion, keys_of, eq_by_cmp, nat_list_cmp_total, exact_bytes, PartyLine, int_sum_by, text_cmp, key_cmp, Key, Booking, all_parts, party_amount, unclaimed, party_lines, at_key, is_at_key, line_of, ledger, owed_for, Owed, owed_kept, nothing_owed, tally_of, key_tally, option_map_or, map-map, map-id, SeatPart, AreListed, AreDistinctBelow, All, All-filter, All-map, Contains, IsDistinct, IsPermutation, IsSortedBy, IsStrictlySortedBy, ◌<◌, Some, ℤ, is_lt, is_eq-slice_cmp, bytes_eq, bytes_eq-Decides, get_or-map, get_or_default, length-map, slice_get-get_or, slice_get-map, option_map, option_and_then, numbered_by, owed_in, part_seats, party_in, place_by, place_in, subst}
use Rattle.dsr_ledger.proofs.EachLemmas.{some_if, some_pass}
use Rattle.dsr_ledger.proofs.OrderLemmas.{same_in_order, in_order_is}
use Rattle.dsr_ledger.proofs.KeyLemmas.{key_total, key_exact, key_ties}
use Rattle.dsr_ledger.proofs.IndexMapLemmas.{number_at}
use Rattle.dsr_ledger.proofs.SortedLemmas.{all_there, below_number, differ, entries_by, kept_apart, kept_in, kept_out, mapped, own_below, own_place, own_value, put_in_order, there}
use Rattle.dsr_ledger.proofs.NumberedLemmas.{by_numbered, places_are_numbered, read_is}
use Rattle.dsr_ledger.proofs.PartyLemmas.{some_for, unclaimed_is}

-- a key has a booking if it is among the bookings' keys
pub some_at : (q : Key) (bs : List Booking) → nat_lt 0 (length (at_key q bs)) ≡ list_any (eq_by_cmp key_cmp q) (map (λ b. b.key) bs)
some_at q = some_pass (is_at_key q) (eq_by_cmp key_cmp q) (λ b. b.key) (λ b. sym (key_ties b.key q) ∙ (eq_by_cmp_equiv key_total).symm b.key q)

same_parties : (os bs : List Booking) → ((q : List ℕ) → owed_for q (all_parts os) ≡ owed_for q (all_parts bs)) → party_lines os ≡ party_lines bs
unfolding party_lines
same_parties os bs same =
    ap (map (λ e. record { party = e.0; amount = e.1 })) (
    same_in_order text_cmp nat_list_cmp_total exact_bytes (party_amount os) (party_amount bs) (map (λ p. p.party) (all_parts os))
    (map (λ p. p.party) (all_parts bs)) (λ q. (owed_for q (all_parts os)).has_part) (λ q. some_for q (all_parts os))
    (λ q. ap (λ o. o.has_part) (same q) ∙ some_for q (all_parts bs)) (λ q. ap (λ o. o.amount) (same q)))

same_line : (key : Key) (os bs : List Booking) → tally_of os ≡ tally_of bs → line_of key os ≡ line_of key bs
unfolding line_of
same_line key os bs same =
    let amount = ap (λ t. t.amount) same in let parties = same_parties os bs (λ q. ap (λ t. t.owed q) same) in
    let left : unclaimed os ≡ unclaimed bs =
    sym (unclaimed_is os) ∙ (λ i. amount i -ℤ int_sum_by (λ p. p.amount) (parties i)) ∙ unclaimed_is bs in
    λ i. record (line_of key bs) { usages = (same i).usages; amount = amount i; parties = parties i; unclaimed = left i }

pub same_ledger : (os bs : List Booking) → ((key : Key) → key_tally os key ≡ key_tally bs key) → ledger os ≡ ledger bs
unfolding ledger
same_ledger os bs same =
    ap (map (λ e. e.1)) (
    same_in_order key_cmp key_total key_exact (λ key. line_of key (at_key key os)) (λ key. line_of key (at_key key bs)) (map (λ b. b.key) os)
    (map (λ b. b.key) bs) (λ q. nat_lt 0 (length (at_key q os))) (λ q. some_at q os) (λ q. ap (λ t. t.is_booked) (same q) ∙ some_at q bs)
    (λ q. same_line q (at_key q os) (at_key q bs) (same q)))

abbrev pub line : List ℕ → Owed → PartyLine
line party o = record { party = party; amount = o.amount }

-- the lines of parties that have a part, by their names alone
lines_by_name : (owed : List ℕ → Owed) (ls : List PartyLine) → AllByRecursion (λ l. owed l.party ≡ record { has_part = true; amount = l.amount }) ls
    → ls ≡ map (λ q. line q (owed q)) (filter (λ q. (owed q).has_part) (map (λ l. l.party) ls))
lines_by_name owed [] h = refl
lines_by_name owed (l ∷ ls) h =
    let f : List ℕ → PartyLine = λ q. line q (owed q) in let kept = filter (λ q. (owed q).has_part) (map (λ x. x.party) ls) in
    (λ i. line l.party (sym h.0 i) ∷ lines_by_name owed ls h.1 i) ∙ (λ i. map f (cond ((sym h.0 i).has_part) (l.party ∷ kept) kept))

-- parts at seats of parties
module _ (ps : List (List ℕ)) (ns : List ℕ) (parts : List SeatPart) where
  abbrev seat : List ℕ → Option ℕ
  seat = place_by (party_in ps) ns

  abbrev name : SeatPart → List ℕ
  name p = get_or ps (get_or ns p.seat 0) []

  -- the line of a part
  abbrev pub party_of : SeatPart → PartyLine
  party_of p = record { party = name p; amount = p.amount }

  abbrev has : SeatPart → Bool
  has p = p.has_part

  module _ (distinct : IsDistinct bytes_eq ps) (numbers : AreDistinctBelow (length ps) ns) (seats : AreDistinctBelow (length ns) (part_seats parts)) where
    named : All (λ p. seat (name p) ≡ Some p.seat) parts
    named i d within =
        let p = get_or parts i d in let low = below_number (λ (x : SeatPart). x.seat) parts _ seats i p within (get_or_default parts i d p within) in
        let n = get_or ns p.seat 0 in
        ap (option_and_then (place_in ns))
        (number_at bytes_eq bytes_eq-Decides ps n (name p) distinct (slice_get-get_or ps n [] (own_below ns _ numbers p.seat low)))
        ∙ numbers.apart p.seat n (slice_get-get_or ns p.seat 0 low)

    -- the part of a party that has one
    abbrev part : List ℕ → Option SeatPart
    part = numbered_by seat (λ p. p.seat) (filter has parts)

    apart : (a b : List ℕ) (n : ℕ) → seat a ≡ Some n → seat b ≡ Some n → a ≡ b
    apart = (by_numbered (party_in ps) (length ps) ns (places_are_numbered bytes_eq bytes_eq-Decides ps)).apart

    -- the lines of the parts, put in order
    in_order : (ls : List PartyLine) → IsPermutation (map party_of (filter has parts)) ls → IsSortedBy (λ a b. is_lt (text_cmp a.party b.party)) ls
        → AreListed text_cmp (λ q. option_map (λ p. p.amount) (part q)) (entries_by (λ l. l.party) (λ l. l.amount) ls)
    in_order ls moved sorted =
        let xs = filter has parts in let ids = kept_apart (λ (p : SeatPart). p.seat) has parts seats.apart in
        let own = All-filter has (λ p. seat (name p) ≡ Some p.seat) parts named in
        let names : map name xs ≡ map (λ l. l.party) (map party_of xs) = sym (map-map (λ (l : PartyLine). l.party) party_of xs) in
        put_in_order bytes_eq bytes_eq-Decides nat_list_cmp_total is_eq-slice_cmp (λ (l : PartyLine). l.party) (λ (l : PartyLine). l.amount)
        (λ q. option_map (λ p. p.amount) (part q)) (map party_of xs) ls
        (subst (IsDistinct bytes_eq) names
        (differ bytes_eq bytes_eq-Decides nat_list_cmp_total is_eq-slice_cmp name (λ (p : SeatPart). p) seat apart
        (λ (p : SeatPart). p.seat) xs ids xs (map-id xs) own))
        (All-map (λ l. option_map (λ p. p.amount) (part l.party) ≡ Some l.amount) party_of xs (λ i d within.
        ap (option_map (λ p. p.amount)) (own_value seat (λ (p : SeatPart). p.seat) xs ids i (get_or xs i d)
        (name (get_or xs i d)) (slice_get-get_or xs i d within) (own i d within))))
        (λ q v e.
        let p = mapped (λ (x : SeatPart). x.amount) (part q) v e in let at = own_place seat (λ (x : SeatPart). x.seat) xs q p.0 p.1 in
        let is : name p.0 ≡ q = apart (name p.0) q p.0.seat (all_there (λ x. seat (name x) ≡ Some x.seat) xs at.0 p.0 own at.1) at.2 in
        subst (λ l. Contains l q) names (there (map name xs) at.0 q (slice_get-map name xs at.0 ∙ ap (option_map name) at.1 ∙ ap Some is)))
        moved sorted

    abbrev owed_of_parts : List ℕ → Owed
    owed_of_parts q = option_map_or owed_kept (numbered_by seat (λ p. p.seat) parts q) nothing_owed

    -- a party that has a part is owed its amount
    owed_there : (q : List ℕ) (a : ℤ) → option_map (λ p. p.amount) (part q) ≡ Some a → owed_of_parts q ≡ record { has_part = true; amount = a }
    owed_there q a e =
        let p = mapped (λ (x : SeatPart). x.amount) (part q) a e in let kept = kept_in seat (λ (x : SeatPart). x.seat) has parts seats.apart q p.0 p.1 in
        ap (λ o. option_map_or owed_kept o nothing_owed) kept.0 ∙ (λ i. record { has_part = kept.1 i; amount = p.2 i })

    -- they are those of the bookings that the parts represent
    pub party_lines_are : (ls : List PartyLine) (bs : List Booking) → IsPermutation (map party_of (filter has parts)) ls
        → IsSortedBy (λ a b. is_lt (text_cmp a.party b.party)) ls → ((q : List ℕ) → owed_in parts (seat q) ≡ owed_for q (all_parts bs)) → ls ≡ party_lines bs
    unfolding party_lines
    party_lines_are ls bs moved sorted is =
        let owed : List ℕ → Owed = λ q. owed_for q (all_parts bs) in let listed = in_order ls moved sorted in
        let read = λ (q : List ℕ). sym (read_is owed_kept nothing_owed parts (place_by seat (part_seats parts) q)) ∙ is q in
        let keys : keys_of (entries_by (λ l. l.party) (λ l. l.amount) ls) ≡ map (λ l. l.party) ls =
        map-map (λ (e : List ℕ × ℤ). e.0) (λ (l : PartyLine). (l.party, l.amount)) ls in
        lines_by_name owed ls (recursion_from_All (λ l. owed l.party ≡ record { has_part = true; amount = l.amount }) ls (λ i d within.
        let f : PartyLine → List ℕ × ℤ = λ l. (l.party, l.amount) in let l = get_or ls i d in
        sym (read l.party) ∙ owed_there l.party l.amount (subst (λ (e : List ℕ × ℤ). option_map (λ p. p.amount) (part e.0) ≡ Some e.1)
        (get_or-map f ls i d (f d) within) (listed.own i (f d) (subst (λ n. i < n) (sym (length-map ls f)) within)))))
        ∙ sym (map-map (λ (e : List ℕ × _). record { party = e.0; amount = e.1 }) (λ q. (q, party_amount bs q))
        (filter (λ q. (owed q).has_part) (map (λ l. l.party) ls)))
        ∙ ap (map (λ e. record { party = e.0; amount = e.1 })) (
        in_order_is text_cmp nat_list_cmp_total exact_bytes (party_amount bs) (map (λ p. p.party) (all_parts bs)) (λ q. (owed q).has_part)
        (map (λ l. l.party) ls) (subst (IsStrictlySortedBy text_cmp) keys listed.order) (λ q. some_for q (all_parts bs)) (λ q e.
        let v = some_if (λ o. (option_map_or owed_kept o nothing_owed).has_part) (numbered_by seat (λ p. p.seat) parts q)
        refl (ap (λ x. x.has_part) (read q) ∙ e) in
        let has_it : v.0.has_part ≡ true = ap (λ o. (option_map_or owed_kept o nothing_owed).has_part) (sym v.1) ∙ ap (λ x. x.has_part) (read q) ∙ e in
        let at = kept_out seat (λ (x : SeatPart). x.seat) has parts seats.apart q v.0 v.1 has_it in
        subst (λ ks. Contains ks q) keys (listed.all q v.0.amount (ap (option_map (λ p. p.amount)) at))))
