use Rattle.std.proofs.Common.{◌≡◌, map, take}
use Rattle.go_inline_core.specs.declared.scoped.Scoped.TheVariants as scoped
use Rattle.go_inline_core.proofs.checker.locals.Given as goal

abbrev pub invariant-loop : goal.invariant-loop
invariant-loop l = l.locals.items ≡ map (λ i. scoped.Local) (take l.index l.idents)
