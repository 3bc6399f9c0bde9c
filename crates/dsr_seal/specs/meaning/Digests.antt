-- The digest of bytes.
use Rattle.std.specs.Prelude.{ℕ, List, length}
use Rattle.hex.specs.Hex.{encode_lower}
use Rattle.sha2.specs.Sha256.{sha256}
use Rattle.dsr_statement.specs.meaning.Digests.{Digest}

-- the SHA-256 (FIPS 180-4) of bytes, as 64 digits and small letters a to f
abbrev pub sha256_text : List ℕ → List ℕ
sha256_text bytes = encode_lower (sha256 bytes)

-- how many bytes there are, and their SHA-256
abbrev pub digest_of : List ℕ → Digest
digest_of bytes = record { bytes = length bytes; sha256 = sha256_text bytes }
