use Rattle.dsr_command.proofs.Common.{◌≡◌, false, All, map, take}
use Rattle.dsr_command.specs.World.{AreSources, WhereTold, texts_of, with_input}
use Rattle.dsr_command.proofs.inputs.open_files.Given as goal

abbrev pub invariant-loop-name : goal.invariant-loop-name
invariant-loop-name g l =
    record {
      opened : WhereTold (g.W.World.disk l.world) (λ d. AreSources g.W.Reader.Source.told g.W.Reader.FileSource.file
          (texts_of (with_input d).files (take l.name-index l.names)) (map (with_input d).file (take l.name-index l.names)) l.sources.items);
      unfailed : All (λ r. (g.W.Reader.Source.told r).failed ≡ false) l.sources.items;
    }
