use Rattle.std.proofs.Common.{take}
use Rattle.std.specs.List.{flat_map}
use Rattle.go_inline_core.specs.mirrors.Listing.{Lists}
use Rattle.go_inline_core.proofs.Outlines.{decl_lists}
use Rattle.go_inline_core.proofs.function.list_decls.Given as goal

abbrev pub invariant-loop-decl : goal.invariant-loop-decl
invariant-loop-decl l = Lists l.fn.list (flat_map decl_lists (take l.decl-index l.decls)) l.list
