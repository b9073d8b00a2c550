use Rattle.std.proofs.Common.{take}
use Rattle.std.specs.List.{flat_map}
use Rattle.go_inline_core.specs.mirrors.Listing.{Lists}
use Rattle.go_inline_core.proofs.WalkLemmas.{item_types}
use Rattle.go_inline_core.proofs.listing.+exprs.Given as goal

abbrev pub invariant-list_items-loop-item : goal.invariant-list_items-loop-item
invariant-list_items-loop-item l = Lists l.fn.list (flat_map item_types (take l.item-index l.item-items)) l.list
