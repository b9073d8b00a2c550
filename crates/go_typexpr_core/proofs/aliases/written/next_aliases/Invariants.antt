use Rattle.std.proofs.Common.{◌≡◌, map, take}
use Rattle.go_term_core.specs.Shapes.{shape}
use Rattle.go_typexpr_core.specs.aliases.mirrors.Numbered.{named_number}
use Rattle.go_typexpr_core.proofs.AliasesMaking.{refs}
use Rattle.go_typexpr_core.proofs.aliases.written.next_aliases.Given as goal

abbrev pub invariant-loop-alias : goal.invariant-loop-alias
invariant-loop-alias l = l.next.items ≡ map (λ a. named_number l.path (refs l.aliases) (shape a.term)) (take l.alias-index l.aliases)
