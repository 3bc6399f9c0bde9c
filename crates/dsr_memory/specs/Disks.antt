-- What a world in memory has, by its files.
use Rattle.std.specs.Prelude.{ℕ, List, Option, None, Some, if◌then◌else◌}
use Rattle.std.specs.List.{find}
use Rattle.std.specs.Str.{bytes_eq}
use Rattle.dsr_command.specs.declared.identity.FileIdentity.{FileIdentity}
use Rattle.dsr_command.specs.declared.identity.Place.{Place}
use Rattle.dsr_command.specs.declared.identity.Place.TheVariants.{Free, Ordinary, Other}
use Rattle.dsr_command.specs.declared.link.Link.TheVariants.{Plain}
use Rattle.dsr_command.specs.World.{Disk}
use Rattle.dsr_memory.specs.declared.file.MemoryFile.{MemoryFile}
use Rattle.dsr_memory.specs.declared.world.MemoryWorld.{MemoryWorld}

-- the file of a name: the first one that has it
abbrev pub file_of : List MemoryFile → List ℕ → Option MemoryFile
file_of files name = find (λ f. bytes_eq f.name name) files

-- its bytes, if there is one that can be opened
abbrev pub bytes_of : Option MemoryFile → Option (List ℕ)
bytes_of None = None
bytes_of (Some file) = if file.opens then Some file.bytes.items else None

-- which file it is
abbrev pub identity_of : Option MemoryFile → Option FileIdentity
identity_of None = None
identity_of (Some file) = Some file.identity

-- what it is as a place for an output
abbrev pub place_of : Option MemoryFile → Place
place_of None = Free
place_of (Some file) = if file.is_ordinary then Ordinary file.identity else Other

-- what the world has. There are no links
abbrev pub disk_of : MemoryWorld → Disk
disk_of w = record {
  words = if w.is_utf8 then Some w.words else None;
  link = λ name. Plain;
  files = λ name. bytes_of (file_of w.files.items name);
  file = λ name. identity_of (file_of w.files.items name);
  input = w.input.items;
  input_file = w.input_file;
  place = λ name. place_of (file_of w.files.items name);
  parts = w.parts;
  failed = w.failed;
}
