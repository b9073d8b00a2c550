use Rattle.std.proofs.Common.{◌≡◌, drop}
use Rattle.std.specs.List.{list_any}
use Rattle.std.specs.Str.{bytes_eq}
use Rattle.go_embed_core.proofs.member.is_interface_spelled.Given as goal

abbrev pub invariant-loop-method : goal.invariant-loop-method
invariant-loop-method l = list_any (λ m. bytes_eq m.name l.name) (drop l.method-index l.methods) ≡ list_any (λ m. bytes_eq m.name l.name) l.methods
