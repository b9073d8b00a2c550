use Rattle.std.proofs.Common.{[], map, ap, sym, ◌∙◌}
use Rattle.go_block_core.specs.Bindings.{import_bound}
use Rattle.go_block_core.specs.mirrors.Shown.{bound_shown}
use Rattle.go_block_core.proofs.BindingLemmas.{imports_list}
use Rattle.go_block_core.proofs.Pieces.{piece_more, all_pieces}
use Rattle.go_block_core.proofs.binding.bindings.Goals as goal

pub loop-import-init : goal.loop-import-init
loop-import-init c = ap (map bound_shown) c.new-bound.ensures.items

pub loop-import-preserved : goal.loop-import-preserved
loop-import-preserved c = piece_more import_bound [] _ _ c.deref-import-items.result.now c.loop-import.import-index c.import-item.result c.loop-import-test.true c.import-item.is c.loop-import.invariant c.in_ok-add_import.ensures

pub returns : goal.returns
returns c =
    all_pieces import_bound [] _ c.deref-import-items.result.now c.args.imports.now.items c.loop-import.import-index c.loop-import-test.false c.deref-import-items.ensures.value c.loop-import.invariant
    ∙ sym (imports_list c.args.imports.now.items)
