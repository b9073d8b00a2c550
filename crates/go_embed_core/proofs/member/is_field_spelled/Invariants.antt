use Rattle.std.proofs.Common.{◌≡◌, drop}
use Rattle.std.specs.List.{list_any}
use Rattle.std.specs.Str.{bytes_eq}
use Rattle.go_embed_core.proofs.member.is_field_spelled.Given as goal

abbrev pub invariant-loop-field : goal.invariant-loop-field
invariant-loop-field l = list_any (λ m. bytes_eq m.name l.name) (drop l.field-index l.fields) ≡ list_any (λ m. bytes_eq m.name l.name) l.fields
