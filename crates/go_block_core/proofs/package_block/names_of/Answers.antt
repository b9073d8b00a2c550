use Rattle.std.proofs.Common.{[], ◌∷◌, ◌++◌, map, ap, ◌∙◌}
use Rattle.std.proofs.lemmas.List.{drop_all}
use Rattle.go_block_core.specs.Exports.{name_and_decl}
use Rattle.go_block_core.proofs.TableLemmas.{all_listed, entry_of, left_at, listed_more}
use Rattle.go_block_core.proofs.package_block.names_of.Goals as goal

pub loop-name-init : goal.loop-name-init
loop-name-init c = ap (λ ns. map name_and_decl ns ++ map entry_of c.entries-name-items.result.now) c.new-names.ensures.items ∙ c.entries-name-items.ensures

pub loop-name-preserved : goal.loop-name-preserved
loop-name-preserved c =
    let e = c.loop-name-item.result in
    let old = map name_and_decl c.loop-name.names.items in
    let step = left_at c.entries-name-items.result.now c.loop-name.name-index e c.loop-name-test.true c.loop-name-item.is in
    listed_more old _ (entry_of e) _ _ _ (c.in_ok-add_entry.ensures ∙ ap (λ name. old ++ (name, e.1) ∷ []) c.as_str.ensures.value) (ap (map entry_of) step) c.loop-name.invariant

pub returns : goal.returns
returns c = all_listed (map name_and_decl c.loop-name.names.items) _ _ (ap (map entry_of) (drop_all c.loop-name.name-index c.entries-name-items.result.now c.loop-name-test.false)) c.loop-name.invariant
