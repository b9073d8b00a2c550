-- What sessions are told: of each question that a session asks of its module, what the answer says of the packages that are published. Read it from the
-- end.
--
-- docs/DAEMON.md, "Lines". docs/RULES.md, "Queries", "The service", "Programs". The Go specification, "Declarations and scope", "Import declarations",
-- "Exported identifiers", "Qualified identifiers", "Selectors", "Program initialization and execution".
use Rattle.std.specs.Prelude.{◌≡◌, ◌≢◌, ◌⊎◌, ◌↔◌, ◌≤◌, ℕ, true, false, List, Result, Ok, Err, Some, All, Contains, length, map, slice_get, string_bytes, take}
use Rattle.std.specs.List.Sorted.{IsStrictlySortedBy}
use Rattle.std.specs.Ordering.{nat_cmp}
use Rattle.std.specs.declared.alloc.Global.{Global}
use Rattle.std.specs.declared.string.String.{String}
use Rattle.std.specs.declared.vec.Vec.{Vec}
use Rattle.go_path_core.specs.text_core.declared.rule.Rule.{Rule}
use Rattle.go_path_core.specs.text_core.declared.rule.Rule.TheVariants.{J1, J2, M0, Q1, Q2, Q4, Z1}
use Rattle.go_tree_nodes.specs.Trees.{FileTree}
use Rattle.go_tree_core.specs.declared.occurrence.Occ.{Occ}
use Rattle.go_tree_core.specs.Occurrences.{Covers, NoneCovers, file_occs}
use Rattle.go_import_core.specs.list.Added.{AddsImport, added_at}
use Rattle.go_graph_core.specs.declared.imports.ImportAt.{ImportAt}
use Rattle.go_graph_core.specs.declared.imports.ImportOutcome.{ImportOutcome}
use Rattle.go_graph_core.specs.declared.imports.ImportOutcome.TheVariants as come
use Rattle.go_graph_core.specs.Imports.{IsNumbered, IsOutcome}
use Rattle.go_graph_core.specs.Packages.{IsAssembled}
use Rattle.go_graph_core.specs.Sources.{SourceModel}
use Rattle.go_graph_core.specs.Workspaces.{PackageModel, IsReadWorkspace, by_bytes, is_path_inside}
use Rattle.go_site_core.specs.handle_core.Declarations.{Declaration}
use Rattle.go_site_core.specs.text_core.Text.{is_blank}
use Rattle.go_site_core.specs.Sites.{site_text}
use Rattle.go_expr_core.specs.denote_core.declared.things.Outcome.TheVariants as outcomes
use Rattle.go_workspace_laws.specs.AnswerLaws.{IsOccurrenceAt}
use Rattle.go_workspace_laws.specs.report_core.UsageUsed.{FileUse}
use Rattle.go_submit_core.specs.package_core.PackagePartParts.{PartModel}
use Rattle.go_submit_core.specs.snap_core.Snapshots.{IsPartAt, SnapshotModel}
use Rattle.go_submit_core.specs.Published.{AreSound, IsOneWorker, last_of, sources_of}
use Rattle.go_submit_core.specs.declared.published.PublishedBatch.{PublishedBatch}
use Rattle.go_query_core.specs.package_core.PackagePartSlots.{somes}
use Rattle.go_query_core.specs.Defining.{Declares, IsUnused}
use Rattle.go_query_core.specs.Documenting.{DocOf, IsExportedDoc, IsOwnDoc, doc_shown}
use Rattle.go_query_core.specs.Entries.{EntryOf}
use Rattle.go_query_core.specs.declared.documenting.PackageDoc.{PackageDoc}
use Rattle.go_query_core.specs.declared.listing.Listing.{Listing}
use Rattle.go_query_core.specs.complete_core.PlaceCompletions.{texts_of}
use Rattle.go_completion_laws.specs.Completing.{HasDeclaration, PutsName}
use Rattle.go_type_doc_core.specs.declared.telling.TypeDoc.{TypeDoc}
use Rattle.go_type_doc_core.specs.TypeDocs.{IsOtherTypeRefused, IsOwnTypeRefused, IsTypeDoc, type_doc_shown}
use Rattle.go_machine_core.specs.link.Linked.{HasNoMain, IsBeyond, IsRunnable, RunnableOf}
use Rattle.go_machine_core.specs.declared.runs.outcome.Run.{Run}
use Rattle.go_machine_core.specs.declared.runs.outcome.Run.TheVariants as runs
use Rattle.go_meaning_laws.specs.source_meaning.Meaning.{Done, Panicked, SourceOf}
use Rattle.go_meaning_laws.specs.source_meaning.Whole.{meaning}
use Rattle.go_meaning_laws.specs.source_meaning.Laws.{Begins, Prints}
use Rattle.go_meaning_laws.specs.program_meaning.Laws.{RunsAsMeant}
use Rattle.go_meaning_laws.specs.object_sources.Sources.{sources_of as functions_of}
use Rattle.go_session_core.specs.launches.Located.{place_declared}
use Rattle.go_session_core.specs.queries.Asked.{IsAnswer}
use Rattle.go_session_core.specs.queries.Queries.{IsCompleteAnswer, IsDefineAnswer, IsDocAnswer, IsListAnswer, IsRunAnswer, IsTypeDocAnswer, program_in}
use Rattle.go_sched_core.specs.Service.{Service, empty}
use Rattle.go_sched_core.specs.Steps.{Run as RunOfService}
use Rattle.go_sched_core.specs.declared.event.Event.{Event}
use Rattle.go_sched_core.specs.declared.event.Reply.{Reply}
use Rattle.go_headline_laws.specs.separation.Laws.{AreHandedIn}
use Rattle.go_headline_laws.specs.Headline.{HasAnswers, RulesGive, ShowsWhatResolves}

-- ---- 1. what is said of every question

-- batches as they are on a board: they come to a workspace of which each file is read from its text, and each snapshot is the one that one worker gives of
-- the batches up to it
pub record IsBoard (board : List PublishedBatch) : Type 0 where
  pub read : IsReadWorkspace (sources_of board)
  pub sound : AreSound board

-- so is what the service has published at any time, up to any batch
abbrev pub PublishedAreBoards : Type 0
PublishedAreBoards = (es : List Event) (rs : List Reply) (t : Service) → AreHandedIn es → RunOfService empty es rs t → (k : ℕ) → IsBoard (take k t.published)

-- there is a package of a path, and its files are assembled: each has a tree, and they are of one name
pub record HasPackage (ps : List PackageModel) (path : List ℕ) : Type 0 where
  pub number : ℕ
  pub files : List SourceModel
  pub numbered : IsNumbered ps path number files
  pub assembled : IsAssembled files

-- a session of the module `own` that asks of the package of a path is told so, where these batches are on the board that it has entered. An answer says how
-- many they are, and something of the packages to which they come. A refusal is want of memory; or Q4, and the path lies outside the module; or Q1, and no
-- assembled package has it; or what these packages refuse
abbrev pub IsTold : {X : Type 0} → List ℕ → List ℕ → List PublishedBatch → (List PackageModel → X → Type 0) → (List PackageModel → Rule → Type 0) → Result (ℕ × X) Rule → Type 0
IsTold own path board Says Refuses (Ok a) = (is_path_inside own path ≡ true) × HasPackage (sources_of board) path × (a.0 ≡ length board) × Says (sources_of board) a.1
IsTold own path board Says Refuses (Err rule) =
    (rule ≡ M0)
    ⊎ (((rule ≡ Q4) × (is_path_inside own path ≡ false))
    ⊎ (((rule ≡ Q1) × (is_path_inside own path ≡ true) × (HasPackage (sources_of board) path → ⊥))
    ⊎ ((is_path_inside own path ≡ true) × HasPackage (sources_of board) path × Refuses (sources_of board) rule)))

-- this holds of the snapshot that one worker gives of these packages. There is no other
abbrev pub ByRules : List PackageModel → (SnapshotModel → Type 0) → Type 0
ByRules ps P = (s : SnapshotModel) × IsOneWorker ps s × P s

-- what the rules make of the package of a path
abbrev pub RulesMake : List PackageModel → List ℕ → PartModel → Type 0
RulesMake ps path p = ByRules ps (λ s. IsPartAt s.sources s.parts path p)

-- wherever a file that imports a path is added to the package `from`, this holds of the packages then and of the place of the import
abbrev pub WhereAdded : List PackageModel → List ℕ → List ℕ → (List PackageModel → ImportAt → Type 0) → Type 0
WhereAdded ps from path P = (number : ℕ) (files : List SourceModel) → IsNumbered ps from number files → (more : List PackageModel) (h : AddsImport ps number path more) → P more (added_at number h.files)

-- there the import comes to this
abbrev pub ImportComesTo : List PackageModel → List ℕ → List ℕ → ImportOutcome → Type 0
ImportComesTo ps from path outcome = WhereAdded ps from path (λ more at. IsOutcome more at outcome)

-- ---- 2. list

-- an entry shows what the rules make of the package of its number, as the package `from` sees it
pub record IsEntryBy (ps : List PackageModel) (from : List ℕ) (e : EntryOf) : Type 0 where
  pub one_worker : IsOneWorker ps e.of_snapshot
  pub there : slice_get e.of_snapshot.parts e.number ≡ Some (Some e.of_part)
  pub as_seen : e.from ≡ from

-- the package itself, and exactly the packages that an import of their path would come to, were it added: once each, in order of path
pub record ListsImportable (ps : List PackageModel) (from : List ℕ) (l : Listing) : Type 0 where
  pub files : List SourceModel
  pub own : IsNumbered ps from l.own.number files
  pub of_own : IsEntryBy ps from l.own
  pub of_others : All (IsEntryBy ps from) l.importable.items
  -- packages are numbered in order of path
  pub order : IsStrictlySortedBy nat_cmp (map (λ e. e.number) l.importable.items)
  pub exactly : (n : ℕ) (path : List ℕ) (others : List SourceModel) → IsNumbered ps path n others
      → WhereAdded ps from path (λ more at. ((e : EntryOf) × Contains l.importable.items e × (e.number ≡ n)) ↔ IsOutcome more at (come.«Package» n))

-- a list is refused by no rule but those of all questions
abbrev pub RefusesNone : List PackageModel → Rule → Type 0
RefusesNone ps rule = ⊥

-- ---- 3. doc

-- of the package itself all names of its package block, each with what it is and its doc comment; of another one those that are exported, of the package to
-- which an import of the path would come, were it added
abbrev pub Documents : List PackageModel → List ℕ → List ℕ → DocOf → Type 0
Documents ps from path d =
    ((path ≡ from) × ((p : PartModel) × RulesMake ps from p × IsOwnDoc p d))
    ⊎ ((path ≢ from) × ((to : ℕ) × ImportComesTo ps from path (come.«Package» to) × ((p : PartModel) × RulesMake ps path p × IsExportedDoc p d)))

-- the doc of another package is refused by the rule that an import of it would break, were it added
pub record RefusesImport (ps : List PackageModel) (from path : List ℕ) (rule : Rule) : Type 0 where
  pub other : path ≢ from
  pub breaks : ImportComesTo ps from path (come.Refused rule)

-- of a type it is what a variable of it has, and what refuses it is the rule of the import, or of the type's name
abbrev pub DocumentsType : List PackageModel → List ℕ → List ℕ → List ℕ → TypeDoc → Type 0
DocumentsType ps from path type_name d = ByRules ps (λ s. IsTypeDoc s from path type_name (type_doc_shown d))

abbrev pub RefusesType : List PackageModel → List ℕ → List ℕ → List ℕ → Rule → Type 0
RefusesType ps from path type_name rule = RefusesImport ps from path rule ⊎ ByRules ps (λ s. IsOwnTypeRefused s from path type_name rule ⊎ IsOtherTypeRefused s from path type_name rule)

-- ---- 4. define, complete

-- the identifier at an offset of the file of a name, in the package of a path, has this by the rules
pub record IsUsedAt (ps : List PackageModel) (path name : List ℕ) (offset : ℕ) (u : FileUse) : Type 0 where
  pub number : ℕ
  pub occurrence : Occ
  pub occurs : IsOccurrenceAt ps path name number occurrence
  pub covers : Covers offset occurrence
  pub given : RulesGive ps path name number u

-- the file of a name in the package of a path has this text and this tree
pub record IsFileOf (ps : List PackageModel) (path name text : List ℕ) (tree : FileTree) : Type 0 where
  pub number : ℕ
  pub files : List SourceModel
  pub numbered : IsNumbered ps path number files
  pub assembled : IsAssembled files
  pub source : SourceModel
  pub there : Contains files source
  pub named : source.name ≡ name
  pub of_text : source.text ≡ text
  pub content : source.content ≡ Ok tree

-- the package of a path has files, and none of this name
pub record LacksFileOf (ps : List PackageModel) (path name : List ℕ) : Type 0 where
  pub number : ℕ
  pub files : List SourceModel
  pub numbered : IsNumbered ps path number files
  pub none : All (λ f. f.name ≢ name) files

-- nothing is used there: Q2, and there is no such file; or there is one and no identifier that is used stands at the offset: Q3 where another identifier
-- does, such as one that is declared, else Q2
abbrev pub RefusesUnused : List PackageModel → List ℕ → List ℕ → ℕ → Rule → Type 0
RefusesUnused ps path name offset rule =
    ((rule ≡ Q2) × LacksFileOf ps path name)
    ⊎ ((text : List ℕ) × (tree : FileTree) × IsFileOf ps path name text tree × NoneCovers offset (file_occs tree) × IsUnused text offset rule)

-- the declaration that the rules give the identifier, as it is written of the packages that are published
abbrev pub Defines : List PackageModel → List ℕ → List ℕ → ℕ → List ℕ → Type 0
Defines ps path name offset text = (u : FileUse) × IsUsedAt ps path name offset u × ((d : Declaration) × Declares u.outcome d × (text ≡ site_text ps d))

-- the rule that the identifier breaks; or nothing is used there
abbrev pub RefusesUse : List PackageModel → List ℕ → List ℕ → ℕ → Rule → Type 0
RefusesUse ps path name offset rule = ((u : FileUse) × IsUsedAt ps path name offset u × (u.outcome ≡ outcomes.Refused rule)) ⊎ RefusesUnused ps path name offset rule

-- exactly the names with which one worker gives, once the name stands in place of that identifier, a snapshot in which it has a declaration there; in byte
-- order, each once. `_` is none of them
pub record Completes (ps : List PackageModel) (path name : List ℕ) (offset : ℕ) (names : List (List ℕ)) : Type 0 where
  pub number : ℕ
  pub occurrence : Occ
  pub occurs : IsOccurrenceAt ps path name number occurrence
  pub covers : Covers offset occurrence
  pub order : IsStrictlySortedBy by_bytes names
  pub exactly : (m : List ℕ) (more : List PackageModel) → PutsName ps path name number occurrence m more → Contains names m ↔ ((w : SnapshotModel) × IsOneWorker more w × HasDeclaration w path name number)
  pub plain : (m : List ℕ) → is_blank m ≡ true → Contains names m → ⊥

-- ---- 5. run

-- all functions of the packages of a snapshot, as they are written
abbrev pub sources_in : SnapshotModel → List SourceOf
sources_in s = functions_of place_declared (somes s.parts)

-- a run is what these functions mean that begins with those of these numbers, one after another: it ended, or panicked, as they do; or it did so many
-- steps, they do as many, and what was printed begins what they print
abbrev pub Means : List SourceOf → List ℕ → ℕ → Run → Type 0
Means sources starts steps (runs.Ended output) = (n : ℕ) × (meaning sources starts n ≡ Done tt (string_bytes output))
Means sources starts steps (runs.Panicked value output) = (n : ℕ) × (meaning sources starts n ≡ Panicked value (string_bytes output))
Means sources starts steps (runs.Spent output) = (n : ℕ) × (steps ≤ n) × ((text : List ℕ) × Prints (meaning sources starts n) text × Begins (string_bytes output) text)

-- the program of the package of a path begins with the functions of these numbers, its `init` functions and `main`; the run is what they mean; and whatever
-- they mean, a run of enough steps comes to it
pub record RunsSo (ps : List PackageModel) (path : List ℕ) (steps : ℕ) (run : Run) : Type 0 where
  pub snapshot : SnapshotModel
  pub one_worker : IsOneWorker ps snapshot
  pub begun : RunnableOf
  pub runnable : IsRunnable (program_in snapshot path) begun
  pub means : Means (sources_in snapshot) begun.starts steps run
  pub as_meant : RunsAsMeant (program_in snapshot path) (sources_in snapshot) begun.starts

-- there is no `main` to run; or what it reaches cannot be run
abbrev pub RefusesRun : List PackageModel → List ℕ → Rule → Type 0
RefusesRun ps path rule = ByRules ps (λ s. ((rule ≡ J1) × HasNoMain (program_in s path)) ⊎ ((rule ≡ J2) × IsBeyond (program_in s path)))

-- so is each run of a session, and Z1, that code lacks what an instruction asks for, is never told
abbrev pub SessionRunsAsMeant : Type 0
SessionRunsAsMeant =
    (own path : List ℕ) (steps : ℕ) (board : List PublishedBatch) (r : Result (ℕ × Run) Rule) → IsBoard board → IsAnswer own path board (IsRunAnswer path steps) r
    → IsTold own path board (λ ps (run : Run). RunsSo ps path steps run) (λ ps rule. RefusesRun ps path rule) r × (r ≢ Err Z1)

-- ---- what sessions are told

-- Each answer of a session is that of the last batch on the board that it has entered, and names the number of batches there. In it each import, name,
-- selector, key and call has exactly the declaration that the rules give it, or the number of the rule it breaks. `list` shows exactly the packages that an
-- import could name; `doc` the names of a package, of another one those that it exports and an import could name, or the rule that this import would break;
-- `define` the declaration that the rules give the identifier, or the rule that it breaks; `complete` exactly the names that have a declaration in its place;
-- `run` what the functions of the program mean.
--
-- The premises are the clauses of the calls of `go_session_core::queries::Look`, which `go_hall::Session::look` hands out, and `IsBoard`. That holds of what
-- the service publishes (`boards`), and of every board that a caller can have: `are_boards` of `go_headline_laws::sessions`.
pub record SessionHeadline : Type 0 where
  pub boards : PublishedAreBoards
  pub last : (board : List PublishedBatch) (b : PublishedBatch) → IsBoard board → last_of board ≡ Some b → HasAnswers (sources_of board) b.snapshot × ShowsWhatResolves (sources_of board) b.snapshot
  pub list : (own from : List ℕ) (board : List PublishedBatch) (r : Result (ℕ × Listing) Rule) → IsBoard board → IsAnswer own from board (IsListAnswer from) r
      → IsTold own from board (λ ps (l : Listing). ListsImportable ps from l) RefusesNone r
  pub doc : (own from path : List ℕ) (board : List PublishedBatch) (r : Result (ℕ × PackageDoc) Rule) → IsBoard board → IsAnswer own from board (IsDocAnswer from path) r
      → IsTold own from board (λ ps (d : PackageDoc). Documents ps from path (doc_shown d)) (λ ps rule. RefusesImport ps from path rule) r
  pub doc_of_type : (own from path type_name : List ℕ) (board : List PublishedBatch) (r : Result (ℕ × TypeDoc) Rule) → IsBoard board
      → IsAnswer own from board (IsTypeDocAnswer from path type_name) r → IsTold own from board (λ ps (d : TypeDoc). DocumentsType ps from path type_name d) (λ ps rule. RefusesType ps from path type_name rule) r
  pub define : (own path name : List ℕ) (offset : ℕ) (board : List PublishedBatch) (r : Result (ℕ × String Global) Rule) → IsBoard board
      → IsAnswer own path board (IsDefineAnswer path name offset) r → IsTold own path board (λ ps (text : String Global). Defines ps path name offset (string_bytes text)) (λ ps rule. RefusesUse ps path name offset rule) r
  pub complete : (own path name : List ℕ) (offset : ℕ) (board : List PublishedBatch) (r : Result (ℕ × Vec (String Global) Global) Rule) → IsBoard board
      → IsAnswer own path board (IsCompleteAnswer path name offset) r
      → IsTold own path board (λ ps (names : Vec (String Global) Global). Completes ps path name offset (texts_of names)) (λ ps rule. RefusesUnused ps path name offset rule) r
  pub run : SessionRunsAsMeant
