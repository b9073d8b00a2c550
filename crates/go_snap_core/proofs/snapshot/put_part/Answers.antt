use Rattle.std.proofs.Common.{Some, length, sym, ap, subst, ◌∙◌, arith}
use Rattle.std.specs.Prelude.{List, ℕ, slice_set}
use Rattle.std.proofs.lemmas.List.{length-set}
use Rattle.std.proofs.lemmas.Option.{slice_get_within}
use Rattle.go_graph_core.specs.Imports.{IsNumbered}
use Rattle.go_graph_core.specs.Workspaces.{PackageModel}
use Rattle.go_snap_core.proofs.MakeSearching.{one_key}
use Rattle.go_snap_core.proofs.snapshot.put_part.Goals as goal

pub put-requires : goal.put-requires
put-requires c = omega (arith, slice_get_within c.args.packages.now c.in-Some.number (c.as_str.result.now, c.in-Some.ensures.0) c.in-Some.ensures.1, c.requires.many)

pub returns-in-None-clause-put : goal.returns-in-None-clause-put
returns-in-None-clause-put c = λ number files numbered.
    absurd (c.in-None.ensures number files (subst (λ (path : List ℕ). IsNumbered c.args.packages.now path number files) (sym (c.as_str.ensures.text ∙ c.path.ensures)) numbered))

pub returns-in-Some-clause-many : goal.returns-in-Some-clause-many
returns-in-Some-clause-many c = ap length c.put.ensures ∙ length-set c.args.slots.now c.in-Some.number (Some c.args.part)

pub returns-in-Some-clause-put : goal.returns-in-Some-clause-put
returns-in-Some-clause-put c = λ number files numbered.
    c.put.ensures
    ∙ ap (λ k. slice_set c.args.slots.now k (Some c.args.part))
    (one_key (λ (p : PackageModel). p.0) c.args.packages.now c.in-Some.number number (c.as_str.result.now, c.in-Some.ensures.0) (c.args.part.input.source.0, files) c.requires.well.order c.in-Some.ensures.1 numbered (c.as_str.ensures.text ∙ c.path.ensures))
