use Rattle.std.proofs.Common.{drop}
use Rattle.go_term_core.specs.settling.mirrors.Kept.{keeps_field, kept_fields}
use Rattle.go_term_core.proofs.SettlingLoops.{Keeps}
use Rattle.go_term_core.proofs.settling.kept.kept_fields.Given as goal

abbrev pub invariant-loop-field : goal.invariant-loop-field
invariant-loop-field l = Keeps keeps_field (λ x. x.name) l.seen l.kept.items (drop l.field-index l.fields) (kept_fields l.fields)
