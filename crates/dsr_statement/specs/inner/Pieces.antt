-- What was put into pieces, and how much of it was written.
use Rattle.std.specs.Prelude.{ℕ, List, [], ◌≡◌, ◌≤◌, ◌++◌, Bool, true, false, length, take}
use Rattle.std.proofs.Common.{refl, append_assoc, ◌∙◌}
use Rattle.std.proofs.lemmas.List.{append-nil}
use Rattle.dsr_io.specs.meaning.Written.{Written, IsCut}
use Rattle.dsr_io.specs.layer.Written.{IsTaken}
use Rattle.dsr_statement.specs.declared.pieces.Pieces.{Pieces}

-- the outlet took all that was sent
pub record IsOut (sent : List ℕ) (written : ℕ) (before after : Written) : Type 0 where
  pub taken : IsTaken sent before after
  pub count : written ≡ length sent

-- the outlet failed after the first bytes of what was sent
pub record IsBroken (sent : List ℕ) (written : ℕ) (before after : Written) : Type 0 where
  pub part : written ≤ length sent
  pub cut : IsCut (take written sent) before after

-- how much of what was sent was written: all of it if the outlet has not failed
abbrev pub IsSent : Bool → List ℕ → ℕ → Written → Written → Type 0
IsSent false sent written before after = IsOut sent written before after
IsSent true sent written before after = IsBroken sent written before after

-- these bytes were put
abbrev pub Holds : {W : Type 0} → (W → Written) → List ℕ → Written → Pieces W → Type 0
Holds told put before p =
    (sent : List ℕ) × IsSent p.sender.failed sent p.sender.written before (told p.sender.out.now) × (put ≡ sent ++ p.waiting)

-- from the old to the new these bytes were put, on the same outlet, after what was put before
pub record Puts {W : Type 0} (told : W → Written) (old new : Pieces W) (bytes : List ℕ) : Type 0 where
  pub same_outlet : new.sender.out.ghost_name ≡ old.sender.out.ghost_name
  pub holds : (put : List ℕ) (before : Written) → Holds told put before old → Holds told (put ++ bytes) before new

pub nothing : {W : Type 0} (told : W → Written) (p : Pieces W) → Puts told p p []
nothing told p = record { same_outlet = refl; holds = λ put before h. rw (append-nil put) h }

pub both_put : {W : Type 0} (told : W → Written) (p q r : Pieces W) (xs ys : List ℕ) → Puts told p q xs → Puts told q r ys → Puts told p r (xs ++ ys)
both_put told p q r xs ys first second =
    record {
      same_outlet = second.same_outlet ∙ first.same_outlet;
      holds = λ put before h. rw (← append_assoc put xs ys) (second.holds (put ++ xs) before (first.holds put before h));
    }
