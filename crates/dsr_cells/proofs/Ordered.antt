-- Big-endian numbers of bytes have the order of the bytes.
use Rattle.dsr_cells.proofs.Common.{◌≡◌, ◌∙◌, refl, sym, ap, ℕ, zero, suc, ◌+◌, ◌*◌, ◌^◌, ◌<◌, List, [], ◌∷◌, length, take, drop, slice_index, nat_cmp, Ordering, Less, Equal, Greater, arith, MatchOrdering, ordering_then, is_eq, is_eq-slice_cmp, pow-suc}
use Rattle.std.specs.Cmp.{nat_cmp_is, ranks}
use Rattle.std.specs.Cmp.Lexicographic.{slice_cmp}
use Rattle.std.specs.Int.{w32, w64, from_be_bytes}
use Rattle.std.proofs.lemmas.Slice.Eq.{bytes_eq-Decides}
use Rattle.std.proofs.lemmas.Nat.{mul-add-lt}
use Rattle.dsr_texts.specs.inner.Bytes.{AreBytes}
use Rattle.dsr_texts.proofs.ByteLists.{small_front, small_back}
use Rattle.dsr_cells.specs.inner.Parts.{number_of_bytes}

below : (bytes : List ℕ) → AreBytes bytes → number_of_bytes bytes < 256 ^ length bytes
below [] small = omega arith
below (b ∷ bytes) small =
    rw (pow-suc 256 (length bytes)) (mul-add-lt b (256 ^ length bytes) (number_of_bytes bytes) 256 (small 0) (below bytes (λ i. small (suc i))))

abbrev Ranked : ℕ → ℕ → Ordering → Type 0
Ranked x y o = MatchOrdering o (x < y) (x ≡ y) (y < x)

less : (x y w r s : ℕ) → x < y → r < w → x * w + r < y * w + s
less x y w r s p q = omega (arith, mul-add-lt x w r y p q)

same_first : (o : Ordering) (x y w r s : ℕ) → x ≡ y → Ranked r s o → Ranked (x * w + r) (y * w + s) o
same_first Less x y w r s e k = rw e (omega arith)
same_first Equal x y w r s e k = rw e (rw k refl)
same_first Greater x y w r s e k = rw e (omega arith)

step : (o rest : Ordering) (x y w r s : ℕ) → r < w → s < w → Ranked x y o → Ranked r s rest → Ranked (x * w + r) (y * w + s) (ordering_then o rest)
step Less rest x y w r s p q h k = less x y w r s h p
step Equal rest x y w r s p q h k = same_first rest x y w r s h k
step Greater rest x y w r s p q h k = less y x w s r h q

ranked : (xs ys : List ℕ) → length xs ≡ length ys → AreBytes xs → AreBytes ys → Ranked (number_of_bytes xs) (number_of_bytes ys) (slice_cmp nat_cmp xs ys)
ranked [] [] l small small' = refl
ranked [] (y ∷ ys) l small small' = absurd (omega arith)
ranked (x ∷ xs) [] l small small' = absurd (omega arith)
ranked (x ∷ xs) (y ∷ ys) l small small' =
    let tail : length xs ≡ length ys = omega arith in
    let more = λ (i : ℕ). small (suc i) in
    let more' = λ (i : ℕ). small' (suc i) in
    let low : number_of_bytes ys < 256 ^ length xs = rw tail (below ys more') in
    let done =
    step (nat_cmp x y) (slice_cmp nat_cmp xs ys) x y (256 ^ length xs) (number_of_bytes xs) (number_of_bytes ys) (below xs more) low (ranks x y)
    (ranked xs ys tail more more') in
    rw (← tail) done

pub by_number : (xs ys : List ℕ) → length xs ≡ length ys → AreBytes xs → AreBytes ys
    → slice_cmp nat_cmp xs ys ≡ nat_cmp (number_of_bytes xs) (number_of_bytes ys)
by_number xs ys l small small' = nat_cmp_is _ _ _ (ranked xs ys l small small')

then_assoc : (a b c : Ordering) → ordering_then a (ordering_then b c) ≡ ordering_then (ordering_then a b) c
then_assoc Less b c = refl
then_assoc Equal b c = refl
then_assoc Greater b c = refl

cut : (n : ℕ) (xs ys : List ℕ) → length xs ≡ length ys → slice_cmp nat_cmp xs ys
    ≡ ordering_then (slice_cmp nat_cmp (take n xs) (take n ys)) (slice_cmp nat_cmp (drop n xs) (drop n ys))
cut zero xs ys l = refl
cut (suc n) [] [] l = refl
cut (suc n) [] (y ∷ ys) l = absurd (omega arith)
cut (suc n) (x ∷ xs) [] l = absurd (omega arith)
cut (suc n) (x ∷ xs) (y ∷ ys) l = ap (ordering_then (nat_cmp x y)) (cut n xs ys (omega arith)) ∙ then_assoc (nat_cmp x y) _ _

same_fronts : (n : ℕ) (xs ys : List ℕ) → length xs ≡ length ys → length (take n xs) ≡ length (take n ys)
same_fronts zero xs ys l = refl
same_fronts (suc n) [] [] l = refl
same_fronts (suc n) [] (y ∷ ys) l = absurd (omega arith)
same_fronts (suc n) (x ∷ xs) [] l = absurd (omega arith)
same_fronts (suc n) (x ∷ xs) (y ∷ ys) l = ap suc (same_fronts n xs ys (omega arith))

same_backs : (n : ℕ) (xs ys : List ℕ) → length xs ≡ length ys → length (drop n xs) ≡ length (drop n ys)
same_backs zero xs ys l = l
same_backs (suc n) [] [] l = refl
same_backs (suc n) [] (y ∷ ys) l = absurd (omega arith)
same_backs (suc n) (x ∷ xs) [] l = absurd (omega arith)
same_backs (suc n) (x ∷ xs) (y ∷ ys) l = same_backs n xs ys (omega arith)

-- the order of bytes is that of the numbers of their first n, and if these are equal, of the numbers of the others
pub by_numbers : (n : ℕ) (xs ys : List ℕ) → length xs ≡ length ys → AreBytes xs → AreBytes ys
    → ordering_then (nat_cmp (number_of_bytes (take n xs)) (number_of_bytes (take n ys))) (nat_cmp (number_of_bytes (drop n xs)) (number_of_bytes (drop n ys)))
    ≡ slice_cmp nat_cmp xs ys
by_numbers n xs ys l small small' =
    let fronts = by_number (take n xs) (take n ys) (same_fronts n xs ys l) (small_front n xs small) (small_front n ys small') in
    let backs = by_number (drop n xs) (drop n ys) (same_backs n xs ys l) (small_back n xs small) (small_back n ys small') in
    rw (← fronts, ← backs) (sym (cut n xs ys l))

equal_numbers : (x y : ℕ) → x ≡ y → nat_cmp x y ≡ Equal
equal_numbers x y same = sym (nat_cmp_is x y Equal same)

-- bytes whose two numbers are equal are the same
pub same_by_numbers : (n : ℕ) (xs ys : List ℕ) → length xs ≡ length ys → AreBytes xs → AreBytes ys
    → number_of_bytes (take n xs) ≡ number_of_bytes (take n ys) → number_of_bytes (drop n xs) ≡ number_of_bytes (drop n ys) → xs ≡ ys
same_by_numbers n xs ys l small small' front back =
    let fronts = equal_numbers (number_of_bytes (take n xs)) (number_of_bytes (take n ys)) front in
    let backs = equal_numbers (number_of_bytes (drop n xs)) (number_of_bytes (drop n ys)) back in
    let cmp : slice_cmp nat_cmp xs ys ≡ Equal = sym (by_numbers n xs ys l small small') ∙ rw (fronts, backs) refl in
    (bytes_eq-Decides xs ys).0 (sym (is_eq-slice_cmp xs ys) ∙ ap is_eq cmp)

pub front_number : (bs : List ℕ) → length bs ≡ 12
    → from_be_bytes w64 (slice_index bs 0 ∷ slice_index bs 1 ∷ slice_index bs 2 ∷ slice_index bs 3 ∷ slice_index bs 4 ∷ slice_index bs 5 ∷ slice_index bs 6
    ∷ slice_index bs 7 ∷ []) ≡ number_of_bytes (take 8 bs)
front_number (a ∷ b ∷ c ∷ d ∷ e ∷ f ∷ g ∷ h ∷ i ∷ j ∷ k ∷ l ∷ []) long = omega arith
front_number (a ∷ b ∷ c ∷ d ∷ e ∷ f ∷ g ∷ h ∷ i ∷ j ∷ k ∷ l ∷ m ∷ bs) long = absurd (omega arith)
front_number [] long = absurd (omega arith)
front_number (a ∷ []) long = absurd (omega arith)
front_number (a ∷ b ∷ []) long = absurd (omega arith)
front_number (a ∷ b ∷ c ∷ []) long = absurd (omega arith)
front_number (a ∷ b ∷ c ∷ d ∷ []) long = absurd (omega arith)
front_number (a ∷ b ∷ c ∷ d ∷ e ∷ []) long = absurd (omega arith)
front_number (a ∷ b ∷ c ∷ d ∷ e ∷ f ∷ []) long = absurd (omega arith)
front_number (a ∷ b ∷ c ∷ d ∷ e ∷ f ∷ g ∷ []) long = absurd (omega arith)
front_number (a ∷ b ∷ c ∷ d ∷ e ∷ f ∷ g ∷ h ∷ []) long = absurd (omega arith)
front_number (a ∷ b ∷ c ∷ d ∷ e ∷ f ∷ g ∷ h ∷ i ∷ []) long = absurd (omega arith)
front_number (a ∷ b ∷ c ∷ d ∷ e ∷ f ∷ g ∷ h ∷ i ∷ j ∷ []) long = absurd (omega arith)
front_number (a ∷ b ∷ c ∷ d ∷ e ∷ f ∷ g ∷ h ∷ i ∷ j ∷ k ∷ []) long = absurd (omega arith)

pub back_number : (bs : List ℕ) → length bs ≡ 12
    → from_be_bytes w32 (slice_index bs 8 ∷ slice_index bs 9 ∷ slice_index bs 10 ∷ slice_index bs 11 ∷ []) ≡ number_of_bytes (drop 8 bs)
back_number (a ∷ b ∷ c ∷ d ∷ e ∷ f ∷ g ∷ h ∷ i ∷ j ∷ k ∷ l ∷ []) long = omega arith
back_number (a ∷ b ∷ c ∷ d ∷ e ∷ f ∷ g ∷ h ∷ i ∷ j ∷ k ∷ l ∷ m ∷ bs) long = absurd (omega arith)
back_number [] long = absurd (omega arith)
back_number (a ∷ []) long = absurd (omega arith)
back_number (a ∷ b ∷ []) long = absurd (omega arith)
back_number (a ∷ b ∷ c ∷ []) long = absurd (omega arith)
back_number (a ∷ b ∷ c ∷ d ∷ []) long = absurd (omega arith)
back_number (a ∷ b ∷ c ∷ d ∷ e ∷ []) long = absurd (omega arith)
back_number (a ∷ b ∷ c ∷ d ∷ e ∷ f ∷ []) long = absurd (omega arith)
back_number (a ∷ b ∷ c ∷ d ∷ e ∷ f ∷ g ∷ []) long = absurd (omega arith)
back_number (a ∷ b ∷ c ∷ d ∷ e ∷ f ∷ g ∷ h ∷ []) long = absurd (omega arith)
back_number (a ∷ b ∷ c ∷ d ∷ e ∷ f ∷ g ∷ h ∷ i ∷ []) long = absurd (omega arith)
back_number (a ∷ b ∷ c ∷ d ∷ e ∷ f ∷ g ∷ h ∷ i ∷ j ∷ []) long = absurd (omega arith)
back_number (a ∷ b ∷ c ∷ d ∷ e ∷ f ∷ g ∷ h ∷ i ∷ j ∷ k ∷ []) long = absurd (omega arith)
