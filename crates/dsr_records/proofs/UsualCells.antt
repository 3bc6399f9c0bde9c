-- Lemmas on the printable bytes of a page, whose other bytes are known as a bit mask.
use Rattle.dsr_records.proofs.Common.{arith, ◌≡◌, ◌<◌, ◌≤◌, ◌+◌, ◌-◌, ◌/◌, ◌^◌, ◌∙◌, ℕ, Bool, List, length, map, take, drop, get_or, true, false, not, cond, inl, inr, sym, [], ◌∷◌, ap, w64, pow_mono, length-take, refl, slice_index, drop-cons, bit_at, count_trailing_zeros, list_all, prefix_len, chunk, IsAscii, IsUtf8, and_parts, cases_lt, get_or_past, get_or-take, length-map, drop-drop, drop-take, take-take, All-from_get_or, All-get_or, fails_before_first, list_all-from_AllPass, AllPass-from_list_all, nat_tests, bit_at-trailing_zeros, IsUtf8-from_ascii, length-chunk, trailing_mask_l, bit_mask_l, mask_l-lt, part_passes, is_printable, is_shown, odd_bits, zero, suc, div-one, pow-suc, mul_comm, ◌*◌, mask_l}
use Rattle.std.proofs.Math.Nat.{zero-div, div-div-eq-div-mul}

halved : (b : Bool) (n : ℕ) → (cond b 1 0 + 2 * n) / 2 ≡ n
halved true n = omega arith
halved false n = omega arith

-- a right shift drops bytes
mask-drop : (p : ℕ → Bool) (bytes : List ℕ) (k : ℕ) → mask_l (map p bytes) / 2 ^ k ≡ mask_l (map p (drop k bytes))
mask-drop p [] zero = zero-div (2 ^ 0)
mask-drop p [] (suc k) = zero-div (2 ^ suc k)
mask-drop p (b ∷ bytes) zero = div-one (mask_l (map p (b ∷ bytes)))
mask-drop p (b ∷ bytes) (suc k) =
    ap (λ n. mask_l (map p (b ∷ bytes)) / n) (pow-suc 2 k ∙ mul_comm (2 ^ k) 2)
    ∙ sym (div-div-eq-div-mul (mask_l (map p (b ∷ bytes))) 2 (2 ^ k))
    ∙ ap (λ n. n / 2 ^ k) (halved (p b) (mask_l (map p bytes)))
    ∙ mask-drop p bytes k

abbrev is_odd : ℕ → Bool
is_odd b = not (is_printable b)

not_odd : (b : Bool) → not b ≡ false → b ≡ true
not_odd true e = refl
not_odd false e = cc

-- the lowest bit is that of the first byte that is not printable
module _ (xs : List ℕ) (odd : ℕ) (few : length xs ≤ 64) (are : odd ≡ odd_bits xs) (some : 0 < odd) where
  abbrev first : ℕ
  first = count_trailing_zeros 64 odd

  counted : first ≡ prefix_len (λ b. not (is_odd b)) xs
  counted = ap (count_trailing_zeros 64) are ∙ trailing_mask_l is_odd 64 xs few (omega (arith, are, some))

  run_within : first < length xs
  run_within =
      let small : odd < 2 ^ 64 = omega (arith, are, mask_l-lt (map is_odd xs), pow_mono {i = length (map is_odd xs)} {j = 64} (omega (arith, length-map xs is_odd, few))) in
      let set : bit_at (odd_bits xs) first ≡ 1 = ap (λ n. bit_at n first) (sym are) ∙ (bit_at-trailing_zeros w64 odd some small).1 in
      elim (cases_lt first (length xs)) [
        | inl inside ↦ inside
        | inr past ↦
            let clear : bit_at (odd_bits xs) first ≡ 0 = bit_mask_l (map is_odd xs) first
            ∙ ap (λ b. cond b 1 0) (get_or_past (map is_odd xs) first false (omega (arith, length-map xs is_odd, past))) in
            absurd (omega (arith, set, clear))
      ]

  run_printable : list_all is_printable (take first xs) ≡ true
  run_printable =
      list_all-from_AllPass is_printable (take first xs)
      (All-from_get_or (λ b. is_printable b ≡ true) (take first xs) 0 (λ k less.
      let low : k < first = omega (arith, less, length-take first xs) in
      let fails : is_odd (get_or xs k 0) ≡ false = fails_before_first is_odd xs k 0 (omega (arith, low, counted)) in
      ap is_printable (get_or-take first xs k 0 low) ∙ not_odd _ fails))

module _ (page : List ℕ) (at end odd : ℕ) (few : end ≤ at + 64) (inside : end ≤ length page) (known : odd ≡ odd_bits (chunk at (end - at) page)) where
  module _ (order : at ≤ end) (some : 0 < odd) where
    seen_length : length (chunk at (end - at) page) ≡ end - at
    seen_length = length-chunk at (end - at) page (omega (arith, inside, order))

    pub cell_within : at + count_trailing_zeros 64 odd < end
    cell_within = omega (arith, order, seen_length, run_within (chunk at (end - at) page) odd (omega (arith, seen_length, few)) known some)

    pub cell_printable : list_all is_printable (chunk at (count_trailing_zeros 64 odd) page) ≡ true
    cell_printable =
        let n = count_trailing_zeros 64 odd in
        ap (list_all is_printable) (sym (take-take n (end - at) (drop at page) (omega (arith, cell_within))))
        ∙ run_printable (chunk at (end - at) page) odd (omega (arith, seen_length, few)) known some

  pub left_behind : (n : ℕ) → at + n < end → odd / 2 ^ n / 2 ≡ odd_bits (chunk (at + n + 1) (end - (at + n + 1)) page)
  left_behind n less =
      let cut : n + 1 + (end - (at + n + 1)) ≡ end - at = omega (arith, less) in
      let next : at + (n + 1) ≡ at + n + 1 = omega arith in
      ap (λ m. m / 2 ^ n / 2) known
      ∙ ap (λ m. m / 2) (mask-drop is_odd (chunk at (end - at) page) n)
      ∙ mask-drop is_odd (drop n (chunk at (end - at) page)) 1
      ∙ ap odd_bits (drop-drop 1 n (chunk at (end - at) page)
      ∙ ap (λ k. drop (n + 1) (take k (drop at page))) (sym cut) ∙ drop-take (n + 1) (end - (at + n + 1)) (drop at page)
      ∙ ap (take (end - (at + n + 1))) (drop-drop (n + 1) at page ∙ ap (λ k. drop k page) next))

pub behind_type : (page : List ℕ) (odd : ℕ) → odd ≡ odd_bits (chunk 0 64 page) → odd / 32 ≡ odd_bits (chunk 5 59 page)
behind_type page odd are = ap (λ n. n / 32) are ∙ mask-drop is_odd (chunk 0 64 page) 5 ∙ ap odd_bits (drop-take 5 59 page)

low : (b : ℕ) → is_printable b ≡ true → b < 128
low b e = grind (arith, nat_tests)

printable_ascii : (bytes : List ℕ) → list_all is_printable bytes ≡ true → IsAscii bytes
printable_ascii bytes all i = elim (cases_lt i (length bytes)) [
  | inl inside ↦ low (get_or bytes i 0) (All-get_or (λ b. is_printable b ≡ true) bytes i 0 inside (AllPass-from_list_all is_printable bytes all))
  | inr past ↦ omega (arith, get_or_past bytes i 0 past)
]

-- printable bytes are a text
pub printable_utf8 : (bytes : List ℕ) → list_all is_printable bytes ≡ true → IsUtf8 bytes
printable_utf8 bytes all = IsUtf8-from_ascii bytes (printable_ascii bytes all)

-- ---- bytes that are printable or past ASCII

shown : (b : ℕ) → is_printable b ≡ true → is_shown b ≡ true
shown b e = rw e refl

shown_wide : (b : ℕ) → 128 ≤ b → is_shown b ≡ true
shown_wide b e = grind (arith, nat_tests)

pub shown_all : (bytes : List ℕ) → list_all is_printable bytes ≡ true → list_all is_shown bytes ≡ true
shown_all [] all = refl
shown_all (b ∷ bytes) all = let both = and_parts _ _ all in rw (shown b both.0, shown_all bytes both.1) refl

pub shown_to : (page : List ℕ) (at mid n : ℕ) → at ≤ mid → list_all is_shown (chunk at (mid - at) page) ≡ true
    → list_all is_shown (chunk mid n page) ≡ true → list_all is_shown (chunk at (mid + n - at) page) ≡ true
shown_to page at mid n order before more =
    let size : mid - at + n ≡ mid + n - at = omega (arith, order) in
    let there : at + (mid - at) ≡ mid = omega (arith, order) in
    ap (λ k. list_all is_shown (chunk at k page)) (sym size)
    ∙ part_passes is_shown (drop at page) (mid - at) n before
    (ap (λ xs. list_all is_shown (take n xs)) (drop-drop (mid - at) at page ∙ ap (λ k. drop k page) there) ∙ more)

pub shown_past : (page : List ℕ) (at end : ℕ) → at ≤ end → end < length page → list_all is_shown (chunk at (end - at) page) ≡ true
    → 128 ≤ slice_index page end → list_all is_shown (chunk at (end + 1 - at) page) ≡ true
shown_past page at end order inside before wide =
    shown_to page at end 1 order before (ap (λ xs. list_all is_shown (take 1 xs)) (drop-cons page end 0 inside) ∙ rw (shown_wide _ wide) refl)
