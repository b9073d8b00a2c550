use Rattle.std.proofs.Common.{◌≡◌, ◌++◌, drop, map}
use Rattle.go_table_core.proofs.indexed.method_names.Given as goal

abbrev pub invariant-loop-method : goal.invariant-loop-method
invariant-loop-method l = map (λ n. n.now) l.names.items ++ map (λ m. m.name) (drop l.method-index l.methods) ≡ map (λ m. m.name) l.methods
