-- The headline, from the laws that it joins.
use Rattle.std.proofs.Common.{◌+◌, List}
use Rattle.go_import_core.specs.list.Added.{AddedImportsAreJudged}
use Rattle.go_graph_core.specs.Workspaces.{IsReadWorkspace, PackageModel}
use Rattle.go_submit_core.specs.Laws.{BatchesReplace, LastTrees, OneWorker}
use Rattle.go_submit_core.specs.Published.{IsOneWorker}
use Rattle.go_session_core.specs.overlay.Laws.{EditsChangeOneFile}
use Rattle.go_workspace_laws.specs.AnswerLaws.{OutcomesAreOfOccurrences}
use Rattle.go_completion_laws.specs.Completing.{CompletionsAreExact}
use Rattle.go_documentation_laws.specs.Types.{TypesAreExact}
use Rattle.go_headline_laws.specs.separation.Laws.{OwnPaths, PublishedTrees, RunsAreSound, SourcesAreWell, SubmissionsAreOwn, TreesAreWell}
use Rattle.go_headline_laws.specs.Headline.{Headline, sources_at}
use Rattle.go_headline_laws.proofs.Answering.{has_answers}
use Rattle.go_headline_laws.proofs.Changing.{changes_own_alone}
use Rattle.go_headline_laws.proofs.Ordering.{order_does_not_count}
use Rattle.go_headline_laws.proofs.Showing.{shows}

pub headline : RunsAreSound → TreesAreWell → SourcesAreWell → OwnPaths → PublishedTrees → SubmissionsAreOwn → EditsChangeOneFile → BatchesReplace → LastTrees → OneWorker → OutcomesAreOfOccurrences → AddedImportsAreJudged → CompletionsAreExact → TypesAreExact → Headline
headline sound trees_well sources_well own_paths published own_trees edit replace trees one outcomes judged exact types = record {
  snapshots = λ es rs t fit x k b at.
      let as_read : IsReadWorkspace (sources_at t (k + 1)) = sources_well es rs t fit x (k + 1) in
      let is : IsOneWorker (sources_at t (k + 1)) b.snapshot = (sound es rs t x).each k b at in
      let ps : List PackageModel = sources_at t (k + 1) in (
        has_answers outcomes one ps as_read b.snapshot is,
        shows judged ps b.snapshot as_read.well is.sources (exact ps b.snapshot as_read is) (types.told ps b.snapshot as_read.well is) (types.own ps b.snapshot as_read.well is) (types.refused ps b.snapshot as_read.well is),
      );
  alone = changes_own_alone own_paths published own_trees edit replace trees trees_well;
  one_worker = order_does_not_count sound sources_well one;
}
