-- Lemmas on lines of the usual form.
use Rattle.dsr_records.proofs.Common.{arith, ◌≡◌, ◌<◌, ◌≤◌, ◌+◌, ◌-◌, ◌*◌, ◌^◌, ◌∙◌, ℕ, Bool, List, [], ◌∷◌, length, take, drop, get_or, true, false, sym, ap, refl, subst, eqb, leb, ltb, not, cond, inl, inr, suc, zero, Option, Some, None, ◌++◌, slice_index, ℤ, pos, codes, Ok, is_ascii_digit, list_all, position_or_len, prefix_len, chunk, cases_Bool, and_parts, leb-true, ltb-true, eqb-true, eq-eqb, nat_tests, append_assoc, drop-drop, drop-take, take-take, take_more, All-from_get_or, All-get_or, list_all_more, slice_split_none, position_or_len_is, AllPass-from_list_all, get_or-chunk, length-chunk, run_in_chunk_stops, IsUtf8-append, IsUtf8-from_ascii, take-add, IsAscii, IsUtf8, cells, raw_parts, amount_of, decimal_of, digits_of, digits_sum, is_digits, number_of, signed_of, usages_of, part_passes, decimal_parts, is_digits_yes, standard_layout, share_count, is_share, record_of, shares_of, values_of, BeginsWithType, IsFilledUp, IsFront, IsLineOf, is_plain, is_printable, is_shown}
use Rattle.dsr_cells.specs.meaning.Texts.{is_identifier_text}
use Rattle.dsr_events.specs.declared.record.Record.TheVariants as of
use Rattle.dsr_records.proofs.FirstCells.{TabAt, first_tab}
use Rattle.dsr_records.proofs.LineChecks.{found}
use Rattle.dsr_records.proofs.UsualCells.{printable_utf8, shown_all}

abbrev is_tab : ℕ → Bool
is_tab b = eqb b 9

no_tab : (b : ℕ) → is_shown b ≡ true → is_tab b ≡ false
no_tab b e = grind (arith, nat_tests)

plain : (b : ℕ) → is_shown b ≡ true → is_plain b ≡ true
plain b e = rw e refl

shown_at : (bytes : List ℕ) (i : ℕ) → list_all is_shown bytes ≡ true → i < length bytes → is_shown (get_or bytes i 0) ≡ true
shown_at bytes i all inside = All-get_or (λ b. is_shown b ≡ true) bytes i 0 inside (AllPass-from_list_all is_shown bytes all)

tab_ascii : IsAscii (9 ∷ [])
tab_ascii zero = omega arith
tab_ascii (suc i) = omega arith

-- ---- the cells of a line

only : (text : List ℕ) → list_all is_shown text ≡ true → cells text ≡ text ∷ []
only text all =
    slice_split_none is_tab text (All-from_get_or (λ b. is_tab b ≡ false) text 0 (λ k inside. no_tab _ (shown_at text k all inside)))

plain_all : (bytes : List ℕ) → list_all is_shown bytes ≡ true → list_all is_plain bytes ≡ true
plain_all [] all = refl
plain_all (b ∷ bytes) all = let both = and_parts _ _ all in rw (plain b both.0, plain_all bytes both.1) refl

-- a cell of a page
module _ (page : List ℕ) (at size : ℕ) (inside : at + size < length page) (all_shown : list_all is_shown (chunk at size page) ≡ true)
    (utf8 : IsUtf8 (chunk at size page)) where
  size_is : length (chunk at size page) ≡ size
  size_is = length-chunk at size page (omega (arith, inside))

  -- it is the first cell of the bytes from its offset on, up to any that lie behind its TAB
  first_cell : slice_index page (at + size) ≡ 9 → (n : ℕ) → at + size + 1 ≤ n → n ≤ length page
      → cells (chunk at (n - at) page) ≡ chunk at size page ∷ cells (chunk (at + size + 1) (n - (at + size + 1)) page)
  first_cell tab n behind within =
      let text = chunk at (n - at) page in
      let long : length text ≡ n - at = length-chunk at (n - at) page (omega (arith, within, behind)) in
      let less : size < n - at = omega (arith, behind) in
      let place : position_or_len is_tab text ≡ size = position_or_len_is is_tab text size 0 (omega (arith, long, less))
      (λ k low. ap is_tab (get_or-chunk at (n - at) page k 0 (omega (arith, low, less)) ∙ sym (get_or-chunk at size page k 0 low))
      ∙ no_tab _ (shown_at (chunk at size page) k all_shown (omega (arith, low, size_is))))
      (λ _. ap is_tab (get_or-chunk at (n - at) page size 0 less) ∙ eq-eqb _ _ tab) in
      let there : TabAt text size = subst (TabAt text) place (first_tab text (omega (arith, place, long, less))) in
      let more : (size + 1) + (n - (at + size + 1)) ≡ n - at = omega (arith, behind) in
      let next : at + (size + 1) ≡ at + size + 1 = omega arith in
      let rest : drop (size + 1) text ≡ chunk (at + size + 1) (n - (at + size + 1)) page =
      ap (λ k. drop (size + 1) (take k (drop at page))) (sym more) ∙ drop-take (size + 1) (n - (at + size + 1)) (drop at page)
      ∙ ap (take (n - (at + size + 1))) (drop-drop (size + 1) at page ∙ ap (λ k. drop k page) next) in
      there.cut ∙ rw (take-take size (n - at) (drop at page) (omega (arith, less)), rest) refl

  plain_to : list_all is_plain (take at page) ≡ true → list_all is_plain (take (at + size) page) ≡ true
  plain_to before = part_passes is_plain page at size before (plain_all (chunk at size page) all_shown)

  utf8_to : IsUtf8 (take at page) → IsUtf8 (take (at + size) page)
  utf8_to before = subst IsUtf8 (sym (take-add at size page)) (IsUtf8-append (take at page) (chunk at size page) before utf8)

  utf8_past : IsUtf8 (take at page) → slice_index page (at + size) ≡ 9 → IsUtf8 (take (at + size + 1) page)
  utf8_past before tab =
      subst IsUtf8 (sym (take_more page (at + size) 0 inside ∙ ap (λ b. take (at + size) page ++ b ∷ []) tab))
      (IsUtf8-append (take (at + size) page) (9 ∷ []) (utf8_to before) (IsUtf8-from_ascii (9 ∷ []) tab_ascii))

  module _ (front : List (List ℕ)) (f : IsFront page page at front) where
    next_here : slice_index page (at + size) ≡ 9 → IsFront page page (at + size + 1) (front ++ chunk at size page ∷ [])
    next_here tab = record {
      same = refl;
      some = omega arith;
      begins = f.begins;
      plain =
          let is : is_plain (get_or page (at + size) 0) ≡ true = ap is_plain tab in
          list_all_more is_plain page (at + size) 0 inside ∙ rw (plain_to f.plain, is) refl;
      utf8 = utf8_past f.utf8 tab;
      cuts = λ n behind within.
          f.cuts n (omega (arith, behind)) within ∙ ap (λ cs. front ++ cs) (first_cell tab n behind within)
          ∙ sym (append_assoc front (chunk at size page ∷ []) (cells (chunk (at + size + 1) (n - (at + size + 1)) page)));
    }

    last_here : at + size < 128 → slice_index page (at + size) ≡ 10 → IsLineOf page (at + size) (front ++ chunk at size page ∷ [])
    last_here few feed = record {
      line = record { some = omega (arith, f.some); few = few; within = inside; plain = plain_to f.plain; utf8 = utf8_to f.utf8; begins = f.begins; ends = feed };
      are =
          let all : at + size - at ≡ size = omega arith in
          f.cuts (at + size) (omega arith) (omega (arith, inside)) ∙ ap (λ n. front ++ cells (chunk at n page)) all
          ∙ ap (λ cs. front ++ cs) (only (chunk at size page) all_shown);
    }

  module _ (whole : List ℕ) (front : List (List ℕ)) (f : IsFront whole page at front) where
    here : IsFront page page at front
    here = subst (λ p. IsFront p page at front) (sym f.same) f

    pub next_front : slice_index page (at + size) ≡ 9 → IsFront whole page (at + size + 1) (front ++ chunk at size page ∷ [])
    next_front tab = subst (λ p. IsFront p page (at + size + 1) (front ++ chunk at size page ∷ [])) f.same (next_here front here tab)

    pub last_of_line : at + size < 128 → slice_index page (at + size) ≡ 10 → IsLineOf whole (at + size) (front ++ chunk at size page ∷ [])
    last_of_line few feed = subst (λ p. IsLineOf p (at + size) (front ++ chunk at size page ∷ [])) f.same (last_here front here few feed)

pub type_front : (page name : List ℕ) → 5 ≤ length page → BeginsWithType page name → IsFront page page 5 (name ∷ [])
type_front page name long t =
    let printable : list_all is_printable (chunk 0 4 page) ≡ true = ap (list_all is_printable) t.is ∙ t.printable in
    let utf8 : IsUtf8 (chunk 0 4 page) = printable_utf8 (chunk 0 4 page) printable in
    let all_shown : list_all is_shown (chunk 0 4 page) ≡ true = shown_all (chunk 0 4 page) printable in
    record {
      same = refl;
      some = omega arith;
      begins = λ e. t.begins (ap (λ bytes. get_or bytes 0 0) (sym t.is) ∙ get_or-chunk 0 4 page 0 0 (omega arith) ∙ e);
      plain = list_all_more is_plain page 4 0 (omega (arith, long)) ∙ rw (plain_to page 0 4 (omega (arith, long)) all_shown utf8 refl, ap is_plain t.tab) refl;
      utf8 = utf8_past page 0 4 (omega (arith, long)) all_shown utf8 (IsUtf8-from_ascii [] (λ i. omega arith)) t.tab;
      cuts = λ n behind within. ap (λ k. cells (take k page)) (whole n) ∙ first_cell page 0 4 (omega (arith, long)) all_shown utf8 t.tab n behind within
          ∙ ap (λ c. c ∷ cells (chunk 5 (n - 5) page)) t.is;
    }
  where
    whole : (n : ℕ) → n ≡ n - 0
    whole n = omega arith

-- ---- the numbers of a line

of_digits : (most n : ℕ) (text : List ℕ) → digits_of most text ≡ Some n → (is_digits most text ≡ true) × (n ≡ digits_sum text)
of_digits most n text e = elim (cases_Bool (is_digits most text)) [
  | inl yes_ ↦ let there : Some (digits_sum text) ≡ Some n = sym (ap (λ b. cond b (Some (digits_sum text)) None) yes_) ∙ e in (yes_, cc)
  | inr no_ ↦ let nothing : None ≡ Some n = sym (ap (λ b. cond b (Some (digits_sum text)) None) no_) ∙ e in cc
]

no_minus : (b : ℕ) → is_ascii_digit b ≡ true → eqb b 45 ≡ false
no_minus b e = grind (arith, nat_tests)

-- no minus sign stands before a digit
signed : (spelled : List ℕ → Option ℕ) (text : List ℕ) (n : ℕ) → spelled text ≡ Some n → is_ascii_digit (get_or text 0 0) ≡ true
    → signed_of spelled text ≡ Some (pos n)
signed spelled [] n e first = rw e refl
signed spelled (b ∷ text) n e first = rw (no_minus b first, e) refl

digit_first : (text : List ℕ) → list_all is_ascii_digit text ≡ true → 0 < length text → is_ascii_digit (get_or text 0 0) ≡ true
digit_first text all some = All-get_or (λ b. is_ascii_digit b ≡ true) text 0 0 some (AllPass-from_list_all is_ascii_digit text all)

pub usages_are : (text : List ℕ) (n : ℕ) → digits_of 8 text ≡ Some n → usages_of text ≡ Some (pos n)
usages_are text n e =
    let is = of_digits 8 n text e in
    let tests = and_parts _ _ is.0 in
    let bounds = and_parts _ _ tests.1 in
    let some : 0 < length text = ltb-true _ _ bounds.0 in
    let few : length text ≤ 8 = leb-true _ _ bounds.1 in
    let number : number_of text ≡ Some n = rw (is_digits_yes 12 text tests.0 some (omega (arith, few)), is.1) refl in
    signed number_of text n number (digit_first text tests.0 some)

pub amount_is : (page : List ℕ) (at size point whole decimals : ℕ) → at + size + 32 ≤ length page → point < size
    → point ≡ prefix_len (λ b. not (eqb b 46)) (chunk at 16 page) → digits_of 8 (chunk at point page) ≡ Some whole
    → IsFilledUp 10 (chunk (at + point + 1) (size - point - 1) page) decimals
    → amount_of (chunk at size page) ≡ Some (pos (whole * 10 ^ 10 + decimals))
amount_is page at size point whole decimals long inside counted front back =
    let text = chunk at size page in
    let length_is : length text ≡ size = length-chunk at size page (omega (arith, long)) in
    let is = of_digits 8 whole (chunk at point page) front in
    let tests = and_parts (list_all is_ascii_digit (chunk at point page)) _ is.0 in
    let bounds = and_parts (ltb 0 (length (chunk at point page))) (leb (length (chunk at point page)) 8) tests.1 in
    let l : length (chunk at point page) ≡ point = length-chunk at point page (omega (arith, long, inside)) in
    let some : 0 < point = subst (λ n. 0 < n) l (ltb-true _ _ bounds.0) in
    let few : point ≤ 8 = subst (λ n. n ≤ 8) l (leb-true _ _ bounds.1) in
    let before : take point text ≡ chunk at point page = take-take point size (drop at page) (omega (arith, inside)) in
    let dot : get_or text point 0 ≡ 46 = get_or-chunk at size page point 0 inside
    ∙ eqb-true _ _ (run_in_chunk_stops (λ b. eqb b 46) page at 16 point 0 (omega (arith, long)) counted (omega (arith, few))) in
    let more : (point + 1) + (size - point - 1) ≡ size = omega (arith, inside) in
    let next : at + (point + 1) ≡ at + point + 1 = omega arith in
    let rest : drop (point + 1) text ≡ chunk (at + point + 1) (size - point - 1) page =
    ap (λ k. drop (point + 1) (take k (drop at page))) (sym more) ∙ drop-take (point + 1) (size - point - 1) (drop at page)
    ∙ ap (take (size - point - 1)) (drop-drop (point + 1) at page ∙ ap (λ k. drop k page) next) in
    let digits : list_all is_ascii_digit (take point text) ≡ true = ap (list_all is_ascii_digit) before ∙ tests.0 in
    let sum : whole ≡ digits_sum (take point text) = is.1 ∙ ap digits_sum (sym before) in
    let there : Some decimals
    ≡ cond (is_digits 10 (drop (point + 1) text)) (Some (digits_sum (drop (point + 1) text) * 10 ^ (10 - length (drop (point + 1) text)))) None =
    rw (rest, back.0, ← back.1) refl in
    let first : is_ascii_digit (get_or text 0 0) ≡ true =
    ap is_ascii_digit (get_or-chunk at size page 0 0 (omega (arith, inside)) ∙ sym (get_or-chunk at point page 0 0 some))
    ∙ digit_first (chunk at point page) tests.0 (omega (arith, l, some)) in
    signed (decimal_of 12 10) text (whole * 10 ^ 10 + decimals)
    (sym (decimal_parts 12 10 text point (omega (arith, length_is, inside)) digits some (omega (arith, few)) dot whole (Some decimals) sum there)) first

-- ---- the record of a line

pub usage_of_cells : (line a b n m : List ℕ) (k v : ℤ) → cells line ≡ codes "SU01" ∷ a ∷ b ∷ n ∷ m ∷ []
    → is_identifier_text 32 a ≡ true → is_identifier_text 32 b ≡ true → usages_of n ≡ Some k → amount_of m ≡ Some v
    → record_of standard_layout line ≡ Ok (of.Usage (record { block_id = a; summary_id = b; usages = k; amount = v }))
usage_of_cells line a b n m k v are x y u w =
    sym (found standard_layout line (codes "SU01") _ (a ∷ b ∷ n ∷ m ∷ []) _ (rw are refl) are refl (rw (are, x, y, u, w) refl))

pub resource_of_cells : (line a i t r : List ℕ) → cells line ≡ codes "AS01" ∷ a ∷ i ∷ t ∷ r ∷ [] → is_identifier_text 32 a ≡ true
    → record_of standard_layout line ≡ Ok (of.Resource (record { block_id = a; isrc = i; titles = values_of t; artists = values_of r }))
resource_of_cells line a i t r are x =
    sym (found standard_layout line (codes "AS01") _ (a ∷ i ∷ t ∷ r ∷ []) _ (rw are refl) are refl (rw (are, x) refl))

pub counted_shares : (cell : List ℕ) (n : ℕ) → Some n ≡ share_count cell → (list_all is_share (raw_parts cell) ≡ true) × (n ≡ length (raw_parts cell))
counted_shares cell n e = elim (cases_Bool (list_all is_share (raw_parts cell))) [
  | inl yes_ ↦ let there : Some n ≡ Some (length (raw_parts cell)) = e ∙ ap (λ b. cond b (Some (length (raw_parts cell))) None) yes_ in (yes_, cc)
  | inr no_ ↦ let nothing : Some n ≡ None = e ∙ ap (λ b. cond b (Some (length (raw_parts cell))) None) no_ in cc
]

pub work_of_cells : (line a i t p s : List ℕ) → cells line ≡ codes "MW01" ∷ a ∷ i ∷ t ∷ p ∷ s ∷ [] → is_identifier_text 32 a ≡ true
    → list_all is_share (raw_parts s) ≡ true → length (raw_parts p) ≡ length (raw_parts s)
    → record_of standard_layout line
    ≡ Ok (of.Work (record { block_id = a; work_id = i; title = t; parties = values_of p; shares = shares_of s }))
work_of_cells line a i t p s are x shares even =
    sym (found standard_layout line (codes "MW01") _ (a ∷ i ∷ t ∷ p ∷ s ∷ []) _ (rw are refl) are refl
    (rw (are, x, shares, eq-eqb (length (raw_parts p)) (length (raw_parts s)) even) refl))
