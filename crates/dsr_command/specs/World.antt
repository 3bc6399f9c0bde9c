-- What a world tells of its words and files, and what its calls do to them. A world that tells nothing may do anything.
use Rattle.std.specs.Prelude.{◌≡◌, ◌≢◌, ◌+◌, ◌-◌, ℕ, Bool, true, false, if◌then◌else◌, nat_lt, List, [], ◌∷◌, All, codes, count_by, Option, None, Some, option_map, unwrap_or, Result, Ok, Err, map, zero, suc}
use Rattle.std.specs.List.{Any}
use Rattle.std.specs.Path.{path_join, path_parent}
use Rattle.std.specs.Str.{bytes_eq}
use Rattle.dsr_io.specs.declared.source.Failed.{Failed}
use Rattle.dsr_io.specs.meaning.Told.{Told, no_reads}
use Rattle.dsr_io.specs.meaning.Written.{Written}
use Rattle.dsr_command.specs.CommandLine.{IsAskedFor}
use Rattle.dsr_command.specs.declared.command.Asked.{Asked}
use Rattle.dsr_command.specs.declared.identity.FileIdentity.{FileIdentity}
use Rattle.dsr_command.specs.declared.identity.Place.{Place}
use Rattle.dsr_command.specs.declared.identity.Place.TheVariants.{Free, Ordinary, Other}
use Rattle.dsr_command.specs.declared.inputs.OpenError.{OpenError}
use Rattle.dsr_command.specs.declared.inputs.OpenError.TheVariants.{CannotOpen, InputTwice}
use Rattle.dsr_command.specs.declared.link.Link.{Link}
use Rattle.dsr_command.specs.declared.link.Link.TheVariants.{Plain, To, Barred}
use Rattle.dsr_command.specs.declared.world.OpenFault.{OpenFault}
use Rattle.dsr_command.specs.declared.world.OpenFault.TheVariants as opening
use Rattle.dsr_command.specs.declared.world.WordsFault.{WordsFault}
use Rattle.dsr_command.specs.declared.world.WordsFault.TheVariants as unread

-- the words, if each is UTF-8; what each name is as a link; the bytes behind each name, if it can be opened, and which file it is
-- then; those of standard input; what a name is as a place for an output; how many new files wait beside others; whether a call for
-- one has failed
pub record Disk : Type 0 where
  pub words : Option (List (List ℕ))
  pub link : List ℕ → Link
  pub files : List ℕ → Option (List ℕ)
  pub file : List ℕ → Option FileIdentity
  pub input : List ℕ
  pub input_file : Option FileIdentity
  pub place : List ℕ → Place
  pub parts : ℕ
  pub failed : Bool

-- what the sources and the new files of a world tell
pub record Ghosts (R N : Type 0) : Type 0 where
  pub told : R → Told
  pub written : N → Written

abbrev pub ghosts : {R N : Type 0} → (R → Told) → (N → Written) → Ghosts R N
ghosts told written = record { told = told; written = written }

-- this holds of what is told
abbrev pub WhereTold : Option Disk → (Disk → Type 0) → Type 0
WhereTold None P = Unit {0}
WhereTold (Some disk) P = P disk

-- what a link of this name names by its text, which is seen from the link's folder
abbrev pub seen_from : List ℕ → List ℕ → List ℕ
seen_from name text = path_join (unwrap_or (path_parent name) name) text

-- the end of the links of this name, which is this as a link
abbrev pub end_after : (List ℕ → Option (List ℕ)) → List ℕ → Link → Option (List ℕ)
end_after end name Plain = Some name
end_after end name (To text) = end (seen_from name text)
end_after end name Barred = None

-- the name at which the links of a name end, if it is among this many
abbrev pub end_of_links : (List ℕ → Link) → ℕ → List ℕ → Option (List ℕ)
end_of_links link zero name = None
end_of_links link (suc more) name = end_after (end_of_links link more) name (link name)

-- the name that a name stands for: itself, or where its links lead
abbrev pub stands_for : Disk → List ℕ → Option (List ℕ)
stands_for disk = end_of_links disk.link 40

-- a call for a new file has failed
abbrev pub failing : Disk → Disk
failing disk = record disk { failed = true }

-- one more new file waits, or one less
abbrev pub made : Disk → Disk
made disk = record disk { parts = disk.parts + 1 }

abbrev pub removed : Disk → Disk
removed disk = record disk { parts = disk.parts - 1 }

-- there are no words since one is not UTF-8, or memory was refused
abbrev pub LacksWords : Disk → WordsFault → Type 0
LacksWords disk unread.NotUtf8 = disk.words ≡ None
LacksWords disk unread.Memory = Unit {0}

-- a source has these bytes left, and was not read
pub record IsFresh (told : Told) (bytes : List ℕ) : Type 0 where
  pub remaining : told.remaining ≡ Some bytes
  pub failed : told.failed ≡ false
  pub reads : told.reads ≡ no_reads

-- the sources have these bytes left, each those at its place, and were not read
abbrev pub AreFresh : {R : Type 0} → (R → Told) → List R → List (List ℕ) → Type 0
AreFresh told [] [] = Unit {0}
AreFresh told (source ∷ sources) (bytes ∷ texts) = IsFresh (told source) bytes × AreFresh told sources texts
AreFresh told _ _ = ⊥

-- the source is that of these bytes, and this file
pub record IsSourceOf {R : Type 0} (told : R → Told) (file : R → Option FileIdentity) (bytes : List ℕ) (is : Option FileIdentity)
    (source : R) : Type 0 where
  pub fresh : IsFresh (told source) bytes
  pub file_is : file source ≡ is

-- the source gives the bytes behind the name; it is refused only if there are none
abbrev pub Opens : {R : Type 0} → (R → Told) → (R → Option FileIdentity) → Disk → List ℕ → Result R OpenFault → Type 0
Opens told file disk name (Ok source) =
    (bytes : List ℕ) × (disk.files name ≡ Some bytes) × IsSourceOf told file bytes (disk.file name) source
Opens told file disk name (Err opening.Missing) = disk.files name ≡ None
Opens told file disk name (Err opening.Memory) = Unit {0}

-- a new file holds nothing; one that cannot be created is none
abbrev pub Creates : {N : Type 0} → (N → Written) → Option Disk → Option Disk → Result N Failed → Type 0
Creates written before after (Ok new) = (after ≡ option_map made before) × WhereTold before (λ disk. (written new).contents ≡ Some [])
Creates written before after (Err failed) = after ≡ option_map failing before

-- the name stands for a place: these are the bytes behind each name that stands for it; those behind each other name are as they
-- were, each link is as it was, and this many new files wait
pub record IsReplaced (contents : Option (List ℕ)) (name : List ℕ) (parts : ℕ) (before after : Disk) : Type 0 where
  pub place : List ℕ
  pub leads : stands_for before name ≡ Some place
  pub there : (same : List ℕ) → stands_for before same ≡ Some place → after.files same ≡ contents
  pub others : (other : List ℕ) → stands_for before other ≢ Some place → after.files other ≡ before.files other
  pub links : (any : List ℕ) → after.link any ≡ before.link any
  pub parts_are : after.parts ≡ parts

abbrev pub IsReplacedIn : Option (List ℕ) → List ℕ → ℕ → Disk → Option Disk → Type 0
IsReplacedIn contents name parts before after = (left : Disk) × (after ≡ Some left) × IsReplaced contents name parts before left

-- a new file of these bytes is in this place, so that they stand behind each name that stands for it
abbrev pub Puts : Option (List ℕ) → Option Disk → Option Disk → List ℕ → Result (Unit {0}) Failed → Type 0
Puts contents before after place (Ok done) = WhereTold before (λ disk.
    (name : List ℕ) → stands_for disk name ≡ Some place → IsReplacedIn contents name (disk.parts - 1) disk after)
Puts contents before after place (Err failed) = after ≡ option_map failing before

-- the words ask for this run
abbrev pub Asks : Option Disk → Asked → Type 0
Asks told asked = WhereTold told (λ disk. (words : List (List ℕ)) × (disk.words ≡ Some words) × IsAskedFor words asked)

-- a text before others; or, if there is none, the name that cannot be opened
abbrev pub before_texts : Option (List ℕ) → List ℕ → Result (List (List ℕ)) OpenError → Result (List (List ℕ)) OpenError
before_texts None name more = Err (CannotOpen name)
before_texts (Some text) name (Ok texts) = Ok (text ∷ texts)
before_texts (Some text) name (Err error) = Err error

-- the bytes behind the names, in order; or the first name that cannot be opened
abbrev pub texts_of : (List ℕ → Option (List ℕ)) → List (List ℕ) → Result (List (List ℕ)) OpenError
texts_of files [] = Ok []
texts_of files (name ∷ names) = before_texts (files name) name (texts_of files names)

-- the name is that of standard input
abbrev pub is_input : List ℕ → Bool
is_input name = bytes_eq name (codes "-")

-- the same disk, but for the name of standard input: it is no file's
abbrev pub with_input : Disk → Disk
with_input disk = record disk {
  files = λ name. if is_input name then Some disk.input else disk.files name;
  file = λ name. if is_input name then disk.input_file else disk.file name;
}

-- the names of what is read: standard input if none is given
abbrev pub names_read : List (List ℕ) → List (List ℕ)
names_read [] = codes "-" ∷ []
names_read (name ∷ names) = name ∷ names

-- these texts; or, since it can be read only once, that standard input is named twice
abbrev pub unless_twice : List (List ℕ) → Result (List (List ℕ)) OpenError → Result (List (List ℕ)) OpenError
unless_twice names texts = if nat_lt 1 (count_by is_input names) then Err InputTwice else texts

-- the bytes that are read for these names, in order, or those of standard input if there is none; or why they cannot be opened
abbrev pub texts_for : Disk → List (List ℕ) → Result (List (List ℕ)) OpenError
texts_for disk names = unless_twice names (texts_of (with_input disk).files (names_read names))

-- the files that are read for these names
abbrev pub files_for : Disk → List (List ℕ) → List (Option FileIdentity)
files_for disk names = map (with_input disk).file (names_read names)

-- the sources give the bytes that are read for these names
pub record AreSources {R : Type 0} (told : R → Told) (file : R → Option FileIdentity) (texts : Result (List (List ℕ)) OpenError)
    (files : List (Option FileIdentity)) (sources : List R) : Type 0 where
  pub bytes : List (List ℕ)
  pub texts_are : texts ≡ Ok bytes
  pub fresh : AreFresh told sources bytes
  pub files_are : map file sources ≡ files

-- the place of an output is none of the files that are read
abbrev pub IsApart : Place → List (Option FileIdentity) → Type 0
IsApart Free read = Unit {0}
IsApart (Ordinary file) read = All (λ f. f ≢ Some file) read
IsApart Other read = ⊥

-- the place of an output is one of the files that are read
abbrev pub IsOneRead : Place → List (Option FileIdentity) → Type 0
IsOneRead Free read = ⊥
IsOneRead (Ordinary file) read = Any (λ f. f ≡ Some file) read
IsOneRead Other read = ⊥
