-- Reading the layout's file, for the options of a run.
use Rattle.std.specs.Prelude.{◌≡◌, ℕ, ◌≤◌, ◌⊎◌, Bool, true, false, List, length, Option, None, Some, option_map, Result, Ok, Err}
use Rattle.std.specs.Io.KnownBytes.{Consumes, IsAtEnd}
use Rattle.dsr_records.specs.meaning.Records.{LayoutTable}
use Rattle.dsr_records.specs.meaning.Layouts.{layout_of, standard_layout}
use Rattle.dsr_command.specs.declared.command.Asked.{Asked}
use Rattle.dsr_command.specs.declared.identity.FileIdentity.{FileIdentity}
use Rattle.dsr_command.specs.declared.layout_file.LayoutReadError.{LayoutReadError}
use Rattle.dsr_command.specs.declared.layout_file.LayoutReadError.TheVariants.{CannotOpen, Read, Bad, Memory}
use Rattle.dsr_command.specs.declared.layout_file.RunOptions.{RunOptions}
use Rattle.dsr_command.specs.declared.sealing.Sealing.{Sealing}
use Rattle.dsr_command.specs.World.{Disk}
use Rattle.dsr_intake.specs.declared.options.Options.{Options}
use Rattle.dsr_io.specs.meaning.Told.{Told}
use Rattle.dsr_seal.specs.meaning.Digests.{digest_of}

-- these bytes were read: all bytes of the reader, or the first 65,537 of them
pub record IsTaken (before after : Option (List ℕ)) (bytes : List ℕ) : Type 0 where
  pub consumed : Consumes before after bytes
  pub most : length bytes ≤ 65537
  pub whole : IsAtEnd after ⊎ (length bytes ≡ 65537)

-- the error of reading the bytes: a read has failed, or memory was refused
abbrev pub IsReadError : Told → LayoutReadError → Type 0
IsReadError after CannotOpen = ⊥
IsReadError after Read = after.failed ≡ true
IsReadError after (Bad error) = ⊥
IsReadError after Memory = Unit {0}

-- the seal, if one is asked for, over the bytes of the layout, if one is named
abbrev pub sealing_of : Bool → Option (List ℕ) → Option Sealing
sealing_of false bytes = None
sealing_of true bytes = Some (record { layout = option_map digest_of bytes })

-- the result is that of the bytes that were read, unless a read failed or memory was refused; all bytes of a layout were
-- read, and the seal that is asked for is over them
abbrev pub IsLayoutAnswer : Bool → Told → Told → Result (LayoutTable × Option Sealing) LayoutReadError → Type 0
IsLayoutAnswer seal before after (Ok had) =
    (bytes : List ℕ) × IsTaken before.remaining after.remaining bytes × (layout_of bytes ≡ Ok had.0) × IsAtEnd after.remaining
    × (had.1 ≡ sealing_of seal (Some bytes))
IsLayoutAnswer seal before after (Err (Bad error)) =
    (bytes : List ℕ) × IsTaken before.remaining after.remaining bytes × (layout_of bytes ≡ Err error)
IsLayoutAnswer seal before after (Err Read) = IsReadError after Read
IsLayoutAnswer seal before after (Err Memory) = Unit {0}
IsLayoutAnswer seal before after (Err CannotOpen) = ⊥

-- the layout that is asked for: that of the bytes behind its name, or the standard one if none is named
abbrev pub IsLayoutAsked : Disk → Option (List ℕ) → LayoutTable → Type 0
IsLayoutAsked disk None layout = layout ≡ standard_layout
IsLayoutAsked disk (Some name) layout = (bytes : List ℕ) × (disk.files name ≡ Some bytes) × (layout_of bytes ≡ Ok layout)

-- the options are those that are asked for
pub record AreAsked (disk : Disk) (asked : Asked) (options : Options) : Type 0 where
  pub capacity : options.capacity ≡ asked.capacity
  pub reads : options.max_reads ≡ asked.max_reads
  pub layout : IsLayoutAsked disk asked.layout options.layout

-- which file the layout is read from, if one is named
abbrev pub layout_file : Disk → Option (List ℕ) → Option FileIdentity
layout_file disk None = None
layout_file disk (Some name) = disk.file name

-- its bytes
abbrev pub layout_bytes : Disk → Option (List ℕ) → Option (List ℕ)
layout_bytes disk None = None
layout_bytes disk (Some name) = disk.files name

-- the seal that is asked for, if one is: over the bytes behind the layout's name, if one is named
abbrev pub sealing_for : Disk → Asked → Option Sealing
sealing_for disk asked = sealing_of asked.seal (layout_bytes disk asked.layout)

-- the options are those that are asked for, with the file that the layout was read from, and the seal
pub record AreHad {P : Type 0} (disk : Disk) (asked : Asked) (had : RunOptions P) : Type 0 where
  pub options : AreAsked disk asked had.options.value
  pub file : had.layout ≡ layout_file disk asked.layout
  pub seal : had.seal ≡ sealing_for disk asked

-- there is no layout for this reason, which the bytes behind its name or a read that failed show
abbrev pub IsLayoutRefused : {R : Type 0} → (R → Told) → Disk → Option (List ℕ) → LayoutReadError → Type 0
IsLayoutRefused told disk named CannotOpen = (name : List ℕ) × (named ≡ Some name) × (disk.files name ≡ None)
IsLayoutRefused {R} told disk named Read = (name : List ℕ) × (named ≡ Some name) × (reader : R) × ((told reader).failed ≡ true)
IsLayoutRefused told disk named (Bad error) =
    (name : List ℕ) × (named ≡ Some name) × (bytes : List ℕ) × (disk.files name ≡ Some bytes) × (layout_of bytes ≡ Err error)
IsLayoutRefused told disk named Memory = Unit {0}
