use Rattle.std.proofs.Common.{◌≡◌, drop}
use Rattle.std.specs.List.{list_any}
use Rattle.std.specs.Str.{bytes_eq}
use Rattle.go_cursor_core.specs.Shown.{idents_shown}
use Rattle.go_cursor_core.proofs.names.has_name.Given as goal

abbrev pub invariant-loop-ident : goal.invariant-loop-ident
invariant-loop-ident l = list_any (λ y. bytes_eq l.name y.name) (idents_shown l.idents) ≡ list_any (λ y. bytes_eq l.name y.name) (idents_shown (drop l.ident-index l.idents))
