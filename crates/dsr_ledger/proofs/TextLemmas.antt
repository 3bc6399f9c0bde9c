-- The equality of texts.
use Rattle.dsr_ledger.proofs.Common.{◌≡◌, ℕ, List, true, refl, bytes_eq, bytes_eq-Decides}

pub same_text : (a b : List ℕ) → bytes_eq a b ≡ true → a ≡ b
same_text a b h = (bytes_eq-Decides a b).0 h

pub text_itself : (a : List ℕ) → bytes_eq a a ≡ true
text_itself a = (bytes_eq-Decides a a).1 refl
