-- What the steps of a relay's memory preserve.
use Rattle.dsr_relay.proofs.Common.{◌≡◌, ℕ, ◌+◌, ◌-◌, ◌<◌, ◌≤◌, List, [], ◌∷◌, refl, sym, subst, zero, suc, arith}
use Rattle.dsr_relay.specs.layer.Pool.{reuse, begin, send, take, keep, give}
use Rattle.dsr_relay.specs.layer.Pool.{Pool, Turn, Turns, Passes, IsUntouched, NeverLacksMemory}

-- what holds after each step: fewer are kept than are given back together, at most one is emptied, and there are more than
-- are given back together
record IsWell (p : Pool) : Type 0 where
  few : p.kept < p.together
  one : p.held ≤ 1
  enough : p.together < p.unused + p.filling + p.queued + p.held + p.kept + p.back

untouched_well : (p : Pool) → IsUntouched p → IsWell p
untouched_well p h = record { few = omega arith; one = omega arith; enough = omega arith }

turns_well : (turn : Turn) (p q : Pool) → Turns turn p q → IsWell p → IsWell q
turns_well (reuse n) p q t h = subst IsWell (sym t.3) record { few = h.few; one = h.one; enough = omega arith }
turns_well begin p q t h = subst IsWell (sym t.2) record { few = h.few; one = h.one; enough = omega arith }
turns_well send p q t h = subst IsWell (sym t.1) record { few = h.few; one = h.one; enough = omega arith }
turns_well take p q t h = subst IsWell (sym t.2) record { few = h.few; one = omega arith; enough = omega arith }
turns_well keep p q t h = subst IsWell (sym t.2) record { few = t.1; one = omega arith; enough = omega arith }
turns_well give p q t h = subst IsWell (sym t.2) record { few = omega arith; one = omega arith; enough = omega arith }

passes_well : (p q : Pool) (turns : List Turn) → Passes p turns q → IsWell p → IsWell q
passes_well p q [] h well = subst IsWell h well
passes_well p q (turn ∷ turns) h well = passes_well h.0 q turns h.2 (turns_well turn p h.0 h.1 well)

takes_one : (p : Pool) (unused : ℕ) → p.unused ≡ unused → IsWell p → p.queued ≡ 0 → p.filling ≡ 0
    → (turn : Turn) × (next : Pool) × Turns turn p next × (next.filling ≡ 1)
takes_one p zero none well queued filling = (
  reuse p.back,
  record p { filling = 1; unused = p.unused + p.back - 1; back = p.back - p.back },
  (filling, (let e = well.enough in let f = well.few in let o = well.one in omega arith), omega arith, refl),
  refl,
)
takes_one p (suc n) some well queued filling = (begin, record p { filling = 1; unused = p.unused - 1 }, (filling, omega arith, refl), refl)

pub never_lacks_memory : NeverLacksMemory
never_lacks_memory first p turns fresh passes queued filling = takes_one p p.unused refl (passes_well first p turns passes (untouched_well first fresh))
    queued filling
