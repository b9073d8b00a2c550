-- What sessions are told, from the laws that it joins.
use Rattle.std.specs.Prelude.{List}
use Rattle.go_graph_core.specs.Workspaces.{PackageModel}
use Rattle.go_import_core.specs.list.Added.{AddedImportsAreJudged}
use Rattle.go_cursor_core.specs.Laws.{NamesAreOccurrences}
use Rattle.go_workspace_laws.specs.AnswerLaws.{OutcomesAreOfOccurrences}
use Rattle.go_submit_core.specs.Laws.{OneWorker}
use Rattle.go_submit_core.specs.Published.{IsOneWorker, sources_of}
use Rattle.go_submit_core.proofs.Sounds.{last_sound}
use Rattle.go_completion_laws.specs.Completing.{BlanksNeverComplete, CompletionsAreExact}
use Rattle.go_documentation_laws.specs.Types.{TypesAreExact}
use Rattle.go_headline_laws.specs.SessionHeadline.{PublishedAreBoards, SessionHeadline, SessionRunsAsMeant}
use Rattle.go_headline_laws.proofs.Answering.{has_answers}
use Rattle.go_headline_laws.proofs.Showing.{shows}
use Rattle.go_headline_laws.proofs.SessionsIdentifiers.{told_complete, told_define}
use Rattle.go_headline_laws.proofs.SessionsImports.{told_doc, told_list, told_type}

pub session_headline : PublishedAreBoards → OneWorker → OutcomesAreOfOccurrences → AddedImportsAreJudged → NamesAreOccurrences → CompletionsAreExact → BlanksNeverComplete → TypesAreExact → SessionRunsAsMeant → SessionHeadline
session_headline boards one outcomes judged names exact never types runs = record {
  boards = boards;
  last = λ board b kept at.
      let is : IsOneWorker (sources_of board) b.snapshot = last_sound board b kept.sound at in
      let ps : List PackageModel = sources_of board in (
        has_answers outcomes one ps kept.read b.snapshot is,
        shows judged ps b.snapshot kept.read.well is.sources (exact ps b.snapshot kept.read is) (types.told ps b.snapshot kept.read.well is) (types.own ps b.snapshot kept.read.well is) (types.refused ps b.snapshot kept.read.well is),
      );
  list = λ own from board r kept h. told_list judged own from board kept.read r h;
  doc = λ own from path board r kept h. told_doc judged own from board kept.read path r h;
  doc_of_type = λ own from path type_name board r kept h. told_type judged own from board kept.read path type_name r h;
  define = λ own path name offset board r kept h. told_define own path name offset board kept.read r h;
  complete = λ own path name offset board r kept h. told_complete own path name offset board kept.read names exact never r h;
  run = runs;
}
