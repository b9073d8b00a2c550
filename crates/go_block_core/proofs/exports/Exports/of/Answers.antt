use Rattle.std.proofs.Common.{map, sym, ap, ◌∙◌, subst}
use Rattle.std.specs.Arc.{arc_value}
use Rattle.go_graph_core.specs.Packages.{trees_of}
use Rattle.go_block_core.specs.declared.exports.ExportsContent.{ExportsContent}
use Rattle.go_block_core.specs.Exports.{exports_model, name_and_decl}
use Rattle.go_block_core.specs.mirrors.Orders.{IsNameOrder}
use Rattle.go_block_core.proofs.BlockLemmas.{clause_of_name}
use Rattle.go_block_core.proofs.exports.Exports.of.Goals as goal

pub returns : goal.returns
returns c =
    let path = c.in_ok-path.ensures ∙ c.path.ensures in
    let name = c.in_ok-name.ensures.spelled ∙ clause_of_name (trees_of c.args.«package».now.1) c.name.result.now c.name.ensures in
    let names = c.in_ok-names.ensures in
    ap (λ (x : ExportsContent). exports_model x.path x.name (map name_and_decl x.names.items)) c.in_ok-new.ensures.ok
    ∙ (λ i. exports_model (path i) (name i) (names i))
