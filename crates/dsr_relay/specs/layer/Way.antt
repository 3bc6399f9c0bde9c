-- The rule of the way by which memory comes back: what holds, between any two steps, of the batches on it and of what its
-- ends know.
use Rattle.std.specs.Prelude.{◌≡◌, ℕ, ◌+◌, List, [], ◌∷◌}
use Rattle.arrayvec.specs.ArrayVec.{ArrayVec, array_vec_len}
use mathlib.Core.Option.{some}
use lib.ListN.{get_elem?}
use Rattle.dsr_relay.specs.declared.way.Count.{Count}
use Rattle.dsr_relay.specs.declared.way.Count.TheVariants.{Fresh, Gave, Got}
use Rattle.dsr_relay.specs.layer.Rule.{Message}

-- the batches that are given back together
abbrev pub Batches : Type 0
Batches = ArrayVec Message

-- how many batches these are
abbrev pub batches_in : List Batches → ℕ
batches_in [] = 0
batches_in (group ∷ groups) = array_vec_len group + batches_in groups

-- a view of pass number `pass` is true: only the pass `giver` gives back, and only the pass `getter` gets
module _ (giver getter given got : ℕ) (pass : ℕ) where
  abbrev pub IsTrueCount : Count → Type 0
  IsTrueCount Fresh = (pass ≡ giver) × (pass ≡ getter) × (given ≡ 0)
  IsTrueCount (Gave n) = (pass ≡ giver) × (n ≡ given)
  IsTrueCount (Got n) = (pass ≡ getter) × (n ≡ got)

-- the batches that came back and those in the channel are those that were given back, and every view is true
pub record AreCounted (queue : List Batches) (views : List Count) : Type 0 where
  pub giver : ℕ
  pub getter : ℕ
  pub given : ℕ
  pub got : ℕ
  pub all : given ≡ got + batches_in queue
  pub knows : (pass : ℕ) (v : Count) → get_elem? views pass ≡ some v → IsTrueCount giver getter given got pass v

-- how many were given back, as the tap knows it
abbrev pub given_of : Count → ℕ
given_of (Gave n) = n
given_of _ = 0

-- how many came back, as the feed knows it
abbrev pub got_of : Count → ℕ
got_of (Got n) = n
got_of _ = 0

-- batches are given back
abbrev pub Gives : Count → Batches → Count → Type 0
Gives (Gave n) group w = w ≡ Gave (n + array_vec_len group)
Gives _ group w = ⊥

-- batches came back
abbrev pub Gets : Count → Batches → Count → Type 0
Gets (Got n) group w = w ≡ Got (n + array_vec_len group)
Gets _ group w = ⊥
