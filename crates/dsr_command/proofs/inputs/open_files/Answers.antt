use Rattle.dsr_command.proofs.Common.{◌≡◌, ◌∙◌, ◌<◌, ◌++◌, [], ◌∷◌, ap, subst, length, slice_index_or, false, rules, All-push}
use Rattle.std.specs.Prelude.{Ok, Err}
use Rattle.dsr_command.specs.Inputs.{IsRefusalOf}
use Rattle.dsr_command.specs.World.{Opens, with_input}
use Rattle.dsr_command.proofs.Opening.{sources_more, unopened_at}
use Rattle.dsr_command.proofs.Worlds.{at_disk, where_told}
use Rattle.dsr_command.proofs.inputs.open_files.Goals as goal

pub returns-in-Err-clause-opened : goal.returns-in-Err-clause-opened
returns-in-Err-clause-opened g c =
    let told = g.W.Reader.Source.told in
    let file = g.W.Reader.FileSource.file in
    let names = c.args.names.now in
    let k = c.loop-name.name-index in
    let under : k < length names = search rules in
    let name : c.name-item.result ≡ slice_index_or names k c.name-item.result =
    c.name-item.is ∙ ap (λ xs. slice_index_or xs k c.name-item.result) c.as_slice-name-items.ensures in
    where_told (g.W.World.disk c.args.world.now) _ (λ d is.
    unopened_at told file (with_input d) names k c.name-item.result c.loop-name.sources.items c.in-Err.fault c.unopened.result under
    (at_disk _ _ d is c.loop-name.invariant.opened)
    (subst (λ n. Opens told file (with_input d) n (Err c.in-Err.fault)) (c.as_str.ensures ∙ name) (at_disk _ _ d is c.in-Err.ensures.opened))
    (subst (λ n. IsRefusalOf n c.in-Err.fault c.unopened.result) name c.unopened.ensures))

pub loop-name-preserved : goal.loop-name-preserved
loop-name-preserved g c =
    let told = g.W.Reader.Source.told in
    let file = g.W.Reader.FileSource.file in
    let names = c.args.names.now in
    let k = c.loop-name.name-index in
    let was = c.loop-name.invariant in
    let items : c.push.new.self.items ≡ c.loop-name.sources.items ++ c.in-Ok.source ∷ [] = search rules in
    let under : k < length names = search rules in
    let name : c.name-item.result ≡ slice_index_or names k c.name-item.result =
    c.name-item.is ∙ ap (λ xs. slice_index_or xs k c.name-item.result) c.as_slice-name-items.ensures in
    record {
      opened = where_told (g.W.World.disk c.args.world.now) _ (λ d is.
          rw items (sources_more told file (with_input d) names k c.name-item.result c.loop-name.sources.items c.in-Ok.source under
          (at_disk _ _ d is was.opened)
          (subst (λ n. Opens told file (with_input d) n (Ok c.in-Ok.source)) (c.as_str.ensures ∙ name) (at_disk _ _ d is c.in-Ok.ensures.opened))));
      unfailed = rw items (All-push (λ r. (told r).failed ≡ false) c.loop-name.sources.items c.in-Ok.source was.unfailed c.in-Ok.ensures.unfailed);
    }
