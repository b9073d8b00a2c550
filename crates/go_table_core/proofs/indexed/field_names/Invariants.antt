use Rattle.std.proofs.Common.{◌≡◌, ◌++◌, drop, map}
use Rattle.go_table_core.proofs.indexed.field_names.Given as goal

abbrev pub invariant-loop-field : goal.invariant-loop-field
invariant-loop-field l = map (λ n. n.now) l.names.items ++ map (λ f. f.name) (drop l.field-index l.fields) ≡ map (λ f. f.name) l.fields
