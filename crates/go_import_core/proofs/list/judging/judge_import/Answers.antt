use Rattle.std.proofs.Common.{◌≡◌, List, get_or, subst, ap, ◌∙◌}
use Rattle.std.proofs.lemmas.Result.{IfOk-weaker}
use Rattle.go_graph_core.specs.Imports.{IsTarget}
use Rattle.go_graph_core.specs.Workspaces.{PackageModel}
use Rattle.go_import_core.proofs.ListJudged.{judged_at}
use Rattle.go_import_core.proofs.list.judging.judge_import.Goals as goal

pub returns : goal.returns
returns c =
    let ps = c.args.workspace.now in
    let q = c.index-packages-own.result in
    let target = subst (λ (l : List PackageModel). IsTarget l c.path.result.now c.args.text.now c.in_ok-target.target) c.packages-packages.ensures.packages c.in_ok-target.ensures in
    let is : q ≡ get_or ps c.args.own q = c.index-packages-own.is ∙ ap (λ (l : List PackageModel). get_or l c.args.own q) c.packages-packages.ensures.packages in
    IfOk-weaker c.settled.result _ _ (λ outcome k. judged_at ps c.args.own q c.path.result.now c.args.text.now c.in_ok-target.target outcome c.requires is c.path.ensures target k) c.settled.ensures
