-- The memory of one relay: how many batches it has, where they are, the steps that move them, and the law that the feed
-- never lacks one for good.
use Rattle.std.specs.Prelude.{◌≡◌, ℕ, ◌+◌, ◌-◌, ◌<◌, ◌≤◌, nat_lt, if◌then◌else◌, List, [], ◌∷◌}

-- the number of batches for a channel with room for `capacity` messages
abbrev pub batches_of : ℕ → ℕ
batches_of capacity = if nat_lt capacity 16 then capacity + 2 else capacity

-- numbers of batches
pub record Pool : Type 0 where
  -- how many are given back together
  pub together : ℕ
  -- how many the feed has that were never filled, or came back
  pub unused : ℕ
  -- how many are being filled, are in the channel, are being emptied, are emptied and kept, and are given back
  pub filling : ℕ
  pub queued : ℕ
  pub held : ℕ
  pub kept : ℕ
  pub back : ℕ

-- the steps, the first three of the feed
pub data Turn : Type 0 where
  -- it takes batches that were given back, this many together, and begins to fill one
  reuse : ℕ → Turn
  -- it begins to fill one that it has
  begin : Turn
  -- it sends its batch
  send : Turn
  -- the tap takes a message
  take : Turn
  -- the tap has emptied a batch, and keeps it
  keep : Turn
  -- the tap has emptied a batch, and gives it back with all that it keeps
  give : Turn

-- what a step changes
abbrev pub Turns : Turn → Pool → Pool → Type 0
Turns (reuse n) p q = (p.filling ≡ 0) × (0 < n) × (n ≤ p.back) × (q ≡ record p { filling = 1; unused = p.unused + n - 1; back = p.back - n })
Turns begin p q = (p.filling ≡ 0) × (0 < p.unused) × (q ≡ record p { filling = 1; unused = p.unused - 1 })
Turns send p q = (0 < p.filling) × (q ≡ record p { filling = p.filling - 1; queued = p.queued + 1 })
Turns take p q = (0 < p.queued) × (p.held ≡ 0) × (q ≡ record p { queued = p.queued - 1; held = 1 })
Turns keep p q = (p.held ≡ 1) × (p.kept + 1 < p.together) × (q ≡ record p { held = 0; kept = p.kept + 1 })
Turns give p q = (p.held ≡ 1) × (p.together ≤ p.kept + 1) × (q ≡ record p { held = 0; kept = 0; back = p.back + p.kept + 1 })

-- steps, one after another
abbrev pub Passes : Pool → List Turn → Pool → Type 0
Passes before [] after = before ≡ after
Passes before (turn ∷ turns) after = (next : Pool) × Turns turn before next × Passes next turns after

-- at first no batch was filled, and there are more than are given back together
pub record IsUntouched (p : Pool) : Type 0 where
  pub some : 0 < p.together
  pub enough : p.together < p.unused
  pub nowhere : (p.filling ≡ 0) × (p.queued ≡ 0) × (p.held ≡ 0) × (p.kept ≡ 0) × (p.back ≡ 0)

-- after all steps: if the channel is empty, the feed has a batch to fill, or it can take one, also while the tap empties one
abbrev pub NeverLacksMemory : Type 0
NeverLacksMemory = (first p : Pool) (turns : List Turn) → IsUntouched first → Passes first turns p → p.queued ≡ 0 → p.filling ≡ 0
    → (turn : Turn) × (next : Pool) × Turns turn p next × (next.filling ≡ 1)
