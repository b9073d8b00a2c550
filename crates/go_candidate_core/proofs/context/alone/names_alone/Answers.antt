use Rattle.std.proofs.Common.{map, Bor, ℕ, List}
use Rattle.go_candidate_core.specs.context.Alone.{stands_alone}
use Rattle.go_candidate_core.proofs.ContextListed.{names_all, each_stands}
use Rattle.go_candidate_core.proofs.context.alone.names_alone.Goals as goal

pub returns-clause-each : goal.returns-clause-each
returns-clause-each c =
    each_stands c.args.scopes.now c.args.stand (map (λ (n : Bor (List ℕ)). n.now) c.in_ok-all.all.items) (map (λ (n : Bor (List ℕ)). n.now) c.loop-name.names.items)
    (names_all (stands_alone c.args.scopes.now c.args.stand) c.loop-name.names.items c.deref-name-items.result.now c.in_ok-all.all.items c.loop-name.name-index c.deref-name-items.ensures.value c.loop-name-test.false c.loop-name.invariant) (λ name h. (c.in_ok-all.ensures.found name).1 h)
