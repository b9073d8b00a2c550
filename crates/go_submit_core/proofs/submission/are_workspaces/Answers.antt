use Rattle.std.proofs.Common.{subst}
use Rattle.std.proofs.lemmas.List.{take_all}
use Rattle.std.proofs.lemmas.List.Elements.{All-more}
use Rattle.go_graph_core.specs.Workspaces.{IsWorkspace}
use Rattle.go_submit_core.specs.declared.submission.Submission.{Submission}
use Rattle.go_submit_core.specs.Submitted.{AreWorkspaces}
use Rattle.go_submit_core.proofs.submission.are_workspaces.Goals as goal

pub loop-submission-preserved : goal.loop-submission-preserved
loop-submission-preserved c =
    let s : Submission = c.submission-item.result in
    let well : IsWorkspace s.tree.packages = subst IsWorkspace c.packages.ensures.packages c.packages-packages.ensures.well in
    All-more (λ (t : Submission). IsWorkspace t.tree.packages) c.args.submissions.now c.loop-submission.submission-index s c.loop-submission-test.true c.loop-submission.invariant (subst (λ (t : Submission). IsWorkspace t.tree.packages) c.submission-item.is well)

pub returns : goal.returns
returns c = subst AreWorkspaces (take_all c.loop-submission.submission-index c.args.submissions.now c.loop-submission-test.false) c.loop-submission.invariant
