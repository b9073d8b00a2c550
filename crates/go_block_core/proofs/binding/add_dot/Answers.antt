use Rattle.std.proofs.Common.{◌++◌, map, sym, ap, ◌∙◌}
use Rattle.std.specs.List.{flat_map}
use Rattle.std.proofs.lemmas.List.{take_all}
use Rattle.go_block_core.specs.Exports.{name_and_decl}
use Rattle.go_block_core.specs.Bindings.{exported_bound, dot_bound}
use Rattle.go_block_core.specs.mirrors.Shown.{bound_shown}
use Rattle.go_block_core.proofs.BindingLemmas.{named_bound_at, exported_list}
use Rattle.go_block_core.proofs.Pieces.{no_pieces, piece_more}
use Rattle.go_block_core.proofs.binding.add_dot.Goals as goal

pub loop-named-init : goal.loop-named-init
loop-named-init c = no_pieces (map bound_shown c.args.bound.now.items)

pub loop-named-preserved : goal.loop-named-preserved
loop-named-preserved c = piece_more (named_bound_at c.args.import.now.at c.in-Package.exports.path) (map bound_shown c.args.bound.now.items) _ _ c.names-named-items.result.now c.loop-named.named-index c.named-item.result c.loop-named-test.true c.named-item.is c.loop-named.invariant (c.in_ok-add_exported.ensures ∙ ap (λ path. map bound_shown c.loop-named.bound.items ++ named_bound_at c.args.import.now.at path c.named-item.result) c.path.ensures)

pub returns-after-loop-named : goal.returns-after-loop-named
returns-after-loop-named c =
    let at = c.args.import.now.at in
    let e = c.in-Package.exports in
    let items = c.names-named-items.result.now in
    let whole = ap (dot_bound at) c.in-Package.is ∙ (ap (map (exported_bound at e.path)) (sym c.names-named-items.ensures) ∙ exported_list at e.path items) in
    c.loop-named.invariant
    ∙ ap (λ bs. map bound_shown c.args.bound.now.items ++ bs)
    (ap (flat_map (named_bound_at at e.path)) (take_all c.loop-named.named-index items c.loop-named-test.false) ∙ sym whole)
