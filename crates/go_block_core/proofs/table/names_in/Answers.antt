use Rattle.std.proofs.Common.{◌++◌, map, ap, ◌∙◌}
use Rattle.std.specs.Prelude.{string_bytes}
use Rattle.std.proofs.lemmas.List.{drop_all}
use Rattle.go_block_core.specs.Tables.{names_in}
use Rattle.go_block_core.proofs.TableLemmas.{all_listed, entry_of, left_at, name_shown}
use Rattle.go_block_core.proofs.table.names_in.Goals as goal

pub loop-name-init : goal.loop-name-init
loop-name-init g c = ap (λ ns. map (λ n. n.now) ns ++ names_in (map entry_of c.entries-name-items.result.now)) c.in_ok-names.ensures.items ∙ ap names_in c.entries-name-items.ensures

pub loop-name-preserved : goal.loop-name-preserved
loop-name-preserved g c =
    let step = left_at c.entries-name-items.result.now c.loop-name.name-index c.loop-name-item.result c.loop-name-test.true c.loop-name-item.is in
    name_shown c.loop-name.names.items c.add.new.all.items c.as_str.result (string_bytes c.loop-name-item.result.0) _ _ _ c.in_ok-add.ensures c.as_str.ensures.value (ap (λ es. names_in (map entry_of es)) step) c.loop-name.invariant

pub returns : goal.returns
returns g c = all_listed (map (λ n. n.now) c.loop-name.names.items) _ _ (ap (λ es. names_in (map entry_of es)) (drop_all c.loop-name.name-index c.entries-name-items.result.now c.loop-name-test.false)) c.loop-name.invariant
