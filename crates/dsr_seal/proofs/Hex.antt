-- The text of a SHA-256.
use Rattle.std.proofs.Common.{◌≡◌, true, nat_lt, slice_index_or, List, ℕ, refl, sym, subst}
use Rattle.std.proofs.lemmas.Bool.{ltb-true}
use Rattle.std.proofs.lemmas.List.Sums.{AllPass-from_list_all}
use Rattle.std.specs.Str.{IsAscii}
use Rattle.std.proofs.lemmas.Str.Ascii.{IsAscii-from_all}
use Rattle.hex.specs.Hex.{encode_lower, lower_digits}
use Rattle.hex.proofs.HexLemmas.{IsAscii-encode_with}

ascii_digits : IsAscii lower_digits
ascii_digits = IsAscii-from_all lower_digits (λ k d less. let small : nat_lt (slice_index_or lower_digits k d) 128 ≡ true = AllPass-from_list_all (λ b. nat_lt b 128) lower_digits refl k d less in ltb-true (slice_index_or lower_digits k d) 128 small)

pub ascii_text : (bytes text : List ℕ) → text ≡ encode_lower bytes → IsAscii text
ascii_text bytes text is = subst (λ t. IsAscii t) (sym is) (IsAscii-encode_with lower_digits bytes ascii_digits)
