-- The front and the back of a list of bytes are bytes.
use Rattle.dsr_texts.proofs.Common.{arith, ℕ, zero, suc, List, [], ◌∷◌, take, drop, AreBytes}

pub small_front : (n : ℕ) (xs : List ℕ) → AreBytes xs → AreBytes (take n xs)
small_front zero xs small i = omega arith
small_front (suc n) [] small i = small i
small_front (suc n) (x ∷ xs) small zero = small 0
small_front (suc n) (x ∷ xs) small (suc i) = small_front n xs (λ j. small (suc j)) i

pub small_back : (n : ℕ) (xs : List ℕ) → AreBytes xs → AreBytes (drop n xs)
small_back zero xs small = small
small_back (suc n) [] small = small
small_back (suc n) (x ∷ xs) small = small_back n xs (λ j. small (suc j))
