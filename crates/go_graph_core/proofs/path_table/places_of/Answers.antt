use Rattle.std.proofs.Common.{◌∙◌, ap}
use Rattle.go_graph_core.proofs.PathTables.{path_absent, path_more, all_paths}
use Rattle.go_graph_core.proofs.path_table.places_of.Goals as goal

pub loop-place-init : goal.loop-place-init
loop-place-init c = c.new-places.ensures

pub add-requires : goal.add-requires
add-requires c =
    path_absent c.args.packages.now c.loop-place.place c.index-packages-place.result c.loop-place.places.names c.as_str.result.now
    c.loop-place-test.true (c.as_str.ensures.text ∙ (c.path.ensures ∙ ap (λ p. p.0) c.index-packages-place.is)) c.loop-place.invariant c.requires

pub loop-place-preserved : goal.loop-place-preserved
loop-place-preserved c =
    path_more c.args.packages.now c.loop-place.place c.index-packages-place.result c.loop-place.places.names c.as_str.result.now
    c.loop-place-test.true (c.as_str.ensures.text ∙ (c.path.ensures ∙ ap (λ p. p.0) c.index-packages-place.is)) c.loop-place.invariant c.add.new.self.names c.in_ok-add.ensures.ok

pub returns : goal.returns
returns c = all_paths c.args.packages.now c.loop-place.place c.loop-place.places.names c.loop-place-test.false c.loop-place.invariant
