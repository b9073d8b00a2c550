use Rattle.std.proofs.Common.{◌++◌, ◌∷◌, [], take}
use Rattle.std.specs.List.{flat_map}
use Rattle.go_decl_core.specs.Outer.{Part, outer}
use Rattle.go_decl_core.specs.mirrors.Listing.{Adds}
use Rattle.go_decl_core.proofs.ListLemmas.{next_outers}
use Rattle.go_decl_core.proofs.lister.Lister.add_idents.Given as goal

abbrev pub invariant-loop-next : goal.invariant-loop-next
invariant-loop-next l = Adds l.fn.self (outer l.kind Part l.idents.first ∷ [] ++ flat_map (next_outers l.kind Part) (take l.next-index l.next-items)) l.self
