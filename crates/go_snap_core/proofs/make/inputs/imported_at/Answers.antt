use Rattle.std.proofs.Common.{◌≡◌, Some, None, sym, subst, ◌∙◌}
use Rattle.std.proofs.lemmas.Result.{IfOk-weaker}
use Rattle.go_graph_core.specs.declared.imports.ImportOutcome.{ImportOutcome}
use Rattle.go_graph_core.specs.Plans.{outcome_at}
use Rattle.go_snap_core.specs.whole_workspace.mirrors.Steps.{exports_in}
use Rattle.go_names_core.specs.block_core.mirrors.Steps.{HasExports}
use Rattle.go_snap_core.proofs.make.inputs.imported_at.Goals as goal

pub unreachable-requires : goal.unreachable-requires
unreachable-requires c = (let e : None ≡ Some c.requires.outcome = sym c.in_default.is ∙ (c.outcome.ensures ∙ c.requires.is) in cc)

pub given-requires : goal.given-requires
given-requires c =
    let same : c.requires.outcome ≡ c.in-Some.outcome = (let e : Some c.requires.outcome ≡ Some c.in-Some.outcome = sym c.requires.is ∙ (sym c.outcome.ensures ∙ c.in-Some.is) in cc) in
    subst (HasExports (exports_in c.args.parts.now)) same c.requires.there

pub returns : goal.returns
returns c = IfOk-weaker c.given.result _ _ (λ i h. record { outcome = c.in-Some.outcome; is = sym c.outcome.ensures ∙ c.in-Some.is; given = h }) c.given.ensures
