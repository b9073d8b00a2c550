use Rattle.std.proofs.Common.{◌≡◌, ◌++◌, List, drop, map}
use Rattle.go_term_core.specs.Shapes.{Line, fields_in}
use Rattle.go_embed_core.specs.Faults.{named_faults}
use Rattle.go_embed_core.proofs.hidden.named_faults.Given as goal

abbrev pub invariant-loop-field : goal.invariant-loop-field
invariant-loop-field l = (ls : List Line) → l.faults.items ++ named_faults (map (λ y. y.now) l.names.keys) (fields_in ls (drop l.field-index l.fields)) ≡ named_faults (map (λ y. y.now) l.names.keys) (fields_in ls l.fields)
