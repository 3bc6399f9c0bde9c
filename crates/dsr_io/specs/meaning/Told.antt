-- What a source tells: that a read failed, and the counts of its reads; and what it keeps of the bytes that it gave.
use Rattle.std.specs.Prelude.{ℕ, Bool, List, Option, Some, ◌≡◌, ◌+◌, ◌++◌, ◌<◌, ◌^◌}
use Rattle.dsr_io.specs.declared.read_count.ReadCount.{ReadCount}

-- the bytes that it has left, if they are known, whether a read failed, and the count of its reads
pub record Told : Type 0 where
  pub remaining : Option (List ℕ)
  pub failed : Bool
  pub reads : ReadCount

abbrev pub no_reads : ReadCount
no_reads = record { answered = 0; filled = 0; last = 0 }

-- a count grew by `more`, if it stays below 2^64; otherwise nothing is known
abbrev pub Grew : ℕ → ℕ → ℕ → Type 0
Grew old new more = old + more < 2 ^ 64 → new ≡ old + more

-- this many reads were answered, of which `filled` gave bytes
abbrev pub Answered : ReadCount → ReadCount → ℕ → ℕ → Type 0
Answered old new reads filled = Grew old.answered new.answered reads × Grew old.filled new.filled filled

-- the same of several reads, where the bytes that it has left are known
abbrev pub HoldsGiven : {S : Type 0} → (S → Told) → (S → List ℕ → Type 0) → S → S → Type 0
HoldsGiven told holds before after =
    (held given rest : List ℕ) → (told before).remaining ≡ Some (given ++ rest) → (told after).remaining ≡ Some rest
    → holds before held → holds after (held ++ given)
