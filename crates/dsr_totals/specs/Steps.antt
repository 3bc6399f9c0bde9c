-- The steps by which lists are read and statements opened.
use Rattle.std.specs.Prelude.{◌≡◌, ◌⊎◌, ◌==◌, ℕ, false, true, List, [], ◌∷◌, ◌++◌, All, map, Option, Result, Ok}
use Rattle.std.specs.Io.KnownBytes.{Consumes, IsAtEnd}
use Rattle.std.specs.List.{Contains}
use Rattle.dsr_command.specs.declared.inputs.OpenError.TheVariants.{CannotOpen, InputTwice, Memory}
use Rattle.dsr_command.specs.declared.identity.FileIdentity.{FileIdentity}
use Rattle.dsr_command.specs.declared.inputs.OpenError.{OpenError}
use Rattle.dsr_command.specs.Inputs.{IsRefusal}
use Rattle.dsr_command.specs.World.{AreSources, Disk, texts_of}
use Rattle.dsr_io.specs.meaning.Told.{Told}
use Rattle.dsr_totals.specs.declared.command.Asked.{Asked}
use Rattle.dsr_totals.specs.declared.lists.InputError.{InputError}
use Rattle.dsr_totals.specs.declared.lists.InputError.TheVariants.{Open, Read}
use Rattle.dsr_totals.specs.declared.lists.ListFault.{ListFault}
use Rattle.dsr_totals.specs.declared.opening.Opened.{Opened}
use Rattle.dsr_totals.specs.declared.lists.ListFault.TheVariants as faults
use Rattle.dsr_totals.specs.Lists.{HasBadName, IsUnreadable, names_in, names_listed}
use Rattle.dsr_totals.specs.Serving.{files_asked, lists_asked, texts_asked, with_listed}

-- a name without this end, and what follows the end, or nothing
pub record IsCutAt (end : ℕ) (bytes name rest : List ℕ) : Type 0 where
  pub plain : All (λ b. (b == end) ≡ false) name
  pub parts : (bytes ≡ name ++ end ∷ rest) ⊎ ((bytes ≡ name) × (rest ≡ []))

-- a source gave these bytes to its end
pub record GaveAll (before after : Told) (bytes : List ℕ) : Type 0 where
  pub consumed : Consumes before.remaining after.remaining bytes
  pub whole : IsAtEnd after.remaining

-- the names of a list that a source gave stand behind the others
abbrev pub IsListRead : Told → Told → List (List ℕ) → List (List ℕ) → Type 0
IsListRead before after old new = (bytes : List ℕ) × GaveAll before after bytes × (new ≡ old ++ names_in bytes)

-- a read of the list failed, or it has a name that is not UTF-8; or memory was refused
abbrev pub IsListFault : Told → Told → ListFault → Type 0
IsListFault before after faults.Read = (after.failed ≡ true) ⊎ ((bytes : List ℕ) × GaveAll before after bytes × HasBadName bytes)
IsListFault before after faults.Memory = Unit {0}

-- the names in these lists stand behind the others
abbrev pub AreListed : Disk → List (List ℕ) → List (List ℕ) → List (List ℕ) → Type 0
AreListed disk lists old new = (texts : List (List ℕ)) × (texts_of disk.files lists ≡ Ok texts) × (new ≡ old ++ names_listed texts)

-- the first list that cannot be opened, or one that cannot be read; or memory was refused
abbrev pub AreUnlisted : {R : Type 0} → (R → Told) → Disk → List (List ℕ) → InputError → Type 0
AreUnlisted told disk lists (Open error) = IsRefusal (texts_of disk.files lists) error
AreUnlisted told disk lists (Read list) = Contains lists list × IsUnreadable told disk list

-- the error says that this list cannot be read, or that memory was refused
abbrev pub IsUnread : List ℕ → ListFault → InputError → Type 0
IsUnread list fault (Read name) = (fault ≡ faults.Read) × (name ≡ list)
IsUnread list fault (Open (CannotOpen name)) = ⊥
IsUnread list fault (Open InputTwice) = ⊥
IsUnread list fault (Open Memory) = Unit {0}

-- the statements were opened: the names in the lists stand behind those of the paid ones, and the sources give the bytes behind
-- all names; and these files are the lists
pub record AreOpened {R : Type 0} (told : R → Told) (file : R → Option FileIdentity) (disk : Disk) (asked now : Asked) (opened : Opened R) : Type 0 where
  pub texts : List (List ℕ)
  pub lists_are : lists_asked disk asked ≡ Ok texts
  pub now_is : now ≡ with_listed asked texts
  pub sources_are : AreSources told file (texts_asked disk now) (files_asked disk now) opened.inputs.items
  pub files_are : opened.lists.items ≡ map disk.file now.lists

-- why files cannot be opened, or a list that cannot be read; or memory was refused
abbrev pub AreUnopened : {R : Type 0} → (R → Told) → Disk → Asked → InputError → Type 0
AreUnopened told disk asked (Open error) =
    IsRefusal (lists_asked disk asked) error
    ⊎ ((texts : List (List ℕ)) × (lists_asked disk asked ≡ Ok texts) × IsRefusal (texts_asked disk (with_listed asked texts)) error)
AreUnopened told disk asked (Read list) = Contains asked.lists list × IsUnreadable told disk list

-- why statements cannot be opened; or memory was refused
abbrev pub IsPaidRefusal : Result (List (List ℕ)) OpenError → InputError → Type 0
IsPaidRefusal texts (Open error) = IsRefusal texts error
IsPaidRefusal texts (Read list) = ⊥
