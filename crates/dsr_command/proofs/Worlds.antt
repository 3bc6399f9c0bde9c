-- What holds where a world tells what it has.
use Rattle.dsr_command.proofs.Common.{◌≡◌, refl, subst, Some, None}
use Rattle.std.specs.Prelude.{Option}
use Rattle.dsr_command.specs.World.{Disk, WhereTold}

pub where_told : (o : Option Disk) (P : Disk → Type 0) → ((d : Disk) → o ≡ Some d → P d) → WhereTold o P
where_told None P h = tt
where_told (Some d) P h = h d refl

pub at_disk : (o : Option Disk) (P : Disk → Type 0) (d : Disk) → o ≡ Some d → WhereTold o P → P d
at_disk o P d is h = subst (λ o. WhereTold o P) is h
