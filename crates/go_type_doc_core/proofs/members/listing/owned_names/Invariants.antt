use Rattle.std.proofs.Common.{◌≡◌, map, take}
use Rattle.go_type_doc_core.proofs.members.listing.owned_names.Given as goal

abbrev pub invariant-loop-text : goal.invariant-loop-text
invariant-loop-text l = l.names.items ≡ map (λ n. n.now) (take l.text-index l.all)
