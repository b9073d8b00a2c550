use Rattle.std.proofs.Common.{take}
use Rattle.std.specs.List.{flat_map}
use Rattle.go_decl_core.specs.mirrors.Listing.{Adds}
use Rattle.go_decl_core.proofs.ListLemmas.{item_outers}
use Rattle.go_decl_core.proofs.expr_places.+list.Given as goal

abbrev pub invariant-list_items-loop-item : goal.invariant-list_items-loop-item
invariant-list_items-loop-item l = Adds l.fn.lister (flat_map item_outers (take l.item-index l.item-items)) l.lister
