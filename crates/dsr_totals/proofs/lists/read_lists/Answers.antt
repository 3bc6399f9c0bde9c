use Rattle.std.proofs.Common.{◌≡◌, ◌∙◌, ◌<◌, ◌≤◌, [], ◌∷◌, ◌++◌, ap, subst, length, slice_index_or, take, take_all, rules}
use Rattle.dsr_command.proofs.Worlds.{at_disk, where_told}
use Rattle.dsr_totals.specs.Steps.{AreListed, AreUnlisted}
use Rattle.dsr_totals.proofs.Listing.{files_more, listed_more, unlisted_at}
use Rattle.dsr_totals.proofs.lists.read_lists.Goals as goal

pub returns-in-Err-clause-listed : goal.returns-in-Err-clause-listed
returns-in-Err-clause-listed g c =
    let told = g.W.Reader.Source.told in let lists = c.args.lists.now in let k = c.loop-list.list-index in
    let under : k < length lists = search rules in
    let list : c.list-item.result ≡ slice_index_or lists k c.list-item.result =
    c.list-item.is ∙ ap (λ xs. slice_index_or xs k c.list-item.result) c.as_slice-list-items.ensures in
    where_told (g.W.World.disk c.args.world.now) _ (λ d is.
    unlisted_at told d lists k c.list-item.result c.args.names.now c.loop-list.names c.in-Err.error under (at_disk _ _ d is c.loop-list.invariant.listed)
    (subst (λ n. AreUnlisted told d (n ∷ []) c.in-Err.error) list (at_disk _ _ d is c.in-Err.ensures.listed)))

pub returns-clause-listed : goal.returns-clause-listed
returns-clause-listed g c =
    let lists = c.args.lists.now in let k = c.loop-list.list-index in
    let end : length c.as_slice-list-items.result.now ≤ k = search rules in
    let whole : take k lists ≡ lists = take_all k lists (subst (λ xs. length xs ≤ k) c.as_slice-list-items.ensures end) in
    where_told (g.W.World.disk c.args.world.now) _ (λ d is.
    subst (λ ls. AreListed d ls c.args.names.now c.loop-list.names) whole (at_disk _ _ d is c.loop-list.invariant.listed))

pub loop-list-preserved : goal.loop-list-preserved
loop-list-preserved g c =
    let lists = c.args.lists.now in let k = c.loop-list.list-index in
    let under : k < length lists = search rules in
    let list : c.list-item.result ≡ slice_index_or lists k c.list-item.result =
    c.list-item.is ∙ ap (λ xs. slice_index_or xs k c.list-item.result) c.as_slice-list-items.ensures in
    let pushed : c.push.new.self.items ≡ c.loop-list.files.items ++ c.in-Ok.file ∷ [] = search rules in
    record {
      listed = where_told (g.W.World.disk c.args.world.now) _ (λ d is.
          listed_more d lists k c.list-item.result c.args.names.now c.loop-list.names c.open_list.new.names under
          (at_disk _ _ d is c.loop-list.invariant.listed)
          (subst (λ n. AreListed d (n ∷ []) c.loop-list.names c.open_list.new.names) list (at_disk _ _ d is c.in-Ok.ensures.listed)));
      files = where_told (g.W.World.disk c.args.world.now) _ (λ d is.
          pushed ∙ files_more d.file lists k c.list-item.result c.loop-list.files.items c.in-Ok.file under (at_disk _ _ d is c.loop-list.invariant.files)
          (at_disk _ _ d is c.in-Ok.ensures.file ∙ ap d.file list));
    }
