use Rattle.std.proofs.Common.{◌≡◌, map, take}
use Rattle.go_type_core.proofs.own_keys.decls_of.Given as goal

abbrev pub invariant-loop-entry : goal.invariant-loop-entry
invariant-loop-entry l = l.decls.items ≡ map (λ x. x.key.decl) (take l.entry-index l.entries)
