-- Files that are not opened.
use Rattle.std.specs.Prelude.{◌≡◌, ℕ, List, Result, Err}
use Rattle.dsr_command.specs.declared.inputs.OpenError.{OpenError}
use Rattle.dsr_command.specs.declared.inputs.OpenError.TheVariants.{CannotOpen, InputTwice, Memory}
use Rattle.dsr_command.specs.declared.world.OpenFault.{OpenFault}
use Rattle.dsr_command.specs.declared.world.OpenFault.TheVariants as opening

-- the error says that this file cannot be opened, or that memory was refused
abbrev pub IsRefusalOf : List ℕ → OpenFault → OpenError → Type 0
IsRefusalOf name fault (CannotOpen refused) = (fault ≡ opening.Missing) × (refused ≡ name)
IsRefusalOf name fault InputTwice = ⊥
IsRefusalOf name fault Memory = Unit {0}

-- the error is that for which there are no texts, or says that memory was refused
abbrev pub IsRefusal : Result (List (List ℕ)) OpenError → OpenError → Type 0
IsRefusal texts (CannotOpen name) = texts ≡ Err (CannotOpen name)
IsRefusal texts InputTwice = texts ≡ Err InputTwice
IsRefusal texts Memory = Unit {0}
