-- The headline: what is promised of everything that sessions and workers do. Read it from the end.
--
-- docs/RULES.md, "Whole workspaces", "The service", "Queries". The Go specification, "Declarations and scope", "Import declarations", "Qualified
-- identifiers", "Selectors", "Calls", "Composite literals".
use Rattle.std.specs.Prelude.{◌≡◌, ◌≢◌, ◌↔◌, ◌+◌, ℕ, true, false, List, Option, Some, All, Contains, map, slice_get, take}
use Rattle.go_path_core.specs.text_core.declared.rule.Rule.{Rule}
use Rattle.go_tree_core.specs.declared.occurrence.Occ.{Occ}
use Rattle.go_import_core.specs.list.Added.{AddsImport, added_at}
use Rattle.go_graph_core.specs.declared.imports.ImportOutcome.TheVariants as come
use Rattle.go_graph_core.specs.Imports.{IsNumbered, IsOutcome}
use Rattle.go_graph_core.specs.Sources.{SourceModel}
use Rattle.go_graph_core.specs.Workspaces.{PackageModel, files_at, is_path_inside}
use Rattle.go_submit_core.specs.package_core.PackagePartParts.{PartModel}
use Rattle.go_workspace_laws.specs.report_core.UsageUsed.{FileUse}
use Rattle.go_submit_core.specs.snap_core.Snapshots.{IsAnswerAt, SnapshotModel}
use Rattle.go_query_core.specs.Documenting.{IsImportRefused}
use Rattle.go_query_core.specs.Entries.{EntryOf}
use Rattle.go_query_core.specs.Listing.{IsListing}
use Rattle.go_query_core.specs.Parts.{IsPartOf}
use Rattle.go_submit_core.specs.Laws.{last_tree, submissions_of, tree_files}
use Rattle.go_submit_core.specs.Published.{IsOneWorker, sources_of}
use Rattle.go_submit_core.specs.Trees.{TreeModel}
use Rattle.go_submit_core.specs.declared.published.PublishedBatch.{PublishedBatch}
use Rattle.go_submit_core.specs.declared.submission.Submission.{Submission}
use Rattle.go_submit_core.specs.declared.submission.Ticket.{Ticket}
use Rattle.go_session_core.specs.overlay.Edits.{IsEditOf}
use Rattle.go_session_core.specs.overlay.Laws.{ChangesOneFile}
use Rattle.go_sched_core.specs.Service.{Service, empty, module_held, taken_modules}
use Rattle.go_sched_core.specs.Steps.{Run, Step}
use Rattle.go_sched_core.specs.declared.event.Event.{Event}
use Rattle.go_sched_core.specs.declared.event.Event.TheVariants.{Submit}
use Rattle.go_sched_core.specs.declared.event.Held.{Held}
use Rattle.go_sched_core.specs.declared.event.Reply.{Reply}
use Rattle.go_sched_core.specs.declared.event.Reply.TheVariants.{Submitted}
use Rattle.go_sched_core.specs.declared.event.SessionId.{SessionId}
use Rattle.go_workspace_laws.specs.AnswerLaws.{IsOccurrenceAt, IsUseOfOccurrence}
use Rattle.go_completion_laws.specs.Completing.{CompletesExactly}
use Rattle.go_documentation_laws.specs.Types.{OwnTypesExactly, TypeRefusalsExactly, TypesExactly}
use Rattle.go_headline_laws.specs.separation.Laws.{AreHandedIn}

-- ---- 1. each import, name, selector, key and call has one answer

-- what the rules give the occurrence of a number, in the file of a name, in the package of a path: what it has by the trees of all packages
abbrev pub RulesGive : List PackageModel → List ℕ → List ℕ → ℕ → FileUse → Type 0
RulesGive ps path name n u = (s : SnapshotModel) × IsOneWorker ps s × IsAnswerAt ps s.parts path name n u

-- in a snapshot of these packages each occurrence has an answer, at its place and in its role, and nothing else has one; it is the one that the rules
-- give: a declaration, or the number of the rule that it breaks; and the faults are those that the rules give
pub record HasAnswers (ps : List PackageModel) (s : SnapshotModel) : Type 0 where
  pub one_worker : IsOneWorker ps s
  pub each : (path name : List ℕ) (n : ℕ) (o : Occ) → IsOccurrenceAt ps path name n o → (u : FileUse) × IsAnswerAt ps s.parts path name n u × IsUseOfOccurrence u o
  pub only : (path name : List ℕ) (n : ℕ) (u : FileUse) → IsAnswerAt ps s.parts path name n u → (o : Occ) × IsOccurrenceAt ps path name n o × IsUseOfOccurrence u o
  pub exactly : (path name : List ℕ) (n : ℕ) (u : FileUse) → IsAnswerAt ps s.parts path name n u ↔ RulesGive ps path name n u
  pub once : (path name : List ℕ) (n : ℕ) (u v : FileUse) → RulesGive ps path name n u → RulesGive ps path name n v → u ≡ v

-- ---- 2. what is listed, documented and completed is what would resolve

-- the packages that are listed are those to which an import of their path would come, were it added
abbrev pub ListsExactly : List PackageModel → SnapshotModel → Type 0
ListsExactly ps s =
    (from : List ℕ) (own : EntryOf) (importable : List EntryOf) (l : IsListing s from own importable) (n : ℕ) (path : List ℕ) (files : List SourceModel) → IsNumbered ps path n files
    → (more : List PackageModel) (h : AddsImport ps l.number path more) → ((e : EntryOf) × Contains importable e × (e.number ≡ n)) ↔ IsOutcome more (added_at l.number h.files) (come.«Package» n)

-- documentation of another package is refused by exactly the rule that an import of its path would break, were it added
abbrev pub RefusesExactly : List PackageModel → SnapshotModel → Type 0
RefusesExactly ps s =
    (from path : List ℕ) (rule : Rule) (number : ℕ) (importer : PartModel) → IsPartOf s from number importer → path ≢ from
    → (more : List PackageModel) (h : AddsImport ps number path more) → IsImportRefused s from path rule ↔ IsOutcome more (added_at number h.files) (come.Refused rule)

-- all of it. Of completion: the names that complete an identifier are exactly those that have a declaration once they stand in its place. Of documentation of a
-- type: its members are exactly those that selectors behind a variable of it have in a file that is added to the package that asks and imports that of the type,
-- and in each file of the package that declares it; and it is refused by exactly the rule that its name breaks in that file
pub record ShowsWhatResolves (ps : List PackageModel) (s : SnapshotModel) : Type 0 where
  pub completes : CompletesExactly ps s
  pub lists : ListsExactly ps s
  pub refuses : RefusesExactly ps s
  pub types : TypesExactly ps s
  pub own_types : OwnTypesExactly s
  pub refuses_types : TypeRefusalsExactly ps s

-- ---- 3. an edit changes its session's module alone

-- the packages that the first batches come to
abbrev pub sources_at : Service → ℕ → List PackageModel
sources_at t k = sources_of (take k t.published)

-- the batch of a number leaves the files of a path as they were
abbrev pub Leaves : Service → ℕ → List ℕ → Type 0
Leaves t k path = files_at (sources_at t (k + 1)) path ≡ files_at (sources_at t k) path

-- an edit changes one file of its draft, inside its module; a submission is of the module that its session holds; what is published inside a module that
-- is taken is the last tree that was built of it; a batch leaves the files of each path that lies in none of its modules; and it leaves each module that is
-- taken and of which it has no tree, whatever else it builds
pub record ChangesOwnAlone (t : Service) : Type 0 where
  pub edits : (old new : TreeModel) (path name : List ℕ) (text : Option (List ℕ)) → IsEditOf old path name text new
      → (new.own ≡ old.own) × (is_path_inside old.own path ≡ true) × ChangesOneFile old.packages path name text new.packages
  pub submits : (id : SessionId) (tree : TreeModel) (ticket : Ticket) (u : Service) → Step t (Submit id tree) (Submitted ticket) u → (h : Held) × (module_held t.held id ≡ Some h) × (h.own ≡ tree.own)
  pub last : (own path : List ℕ) → Contains (taken_modules t) own → is_path_inside own path ≡ true → files_at (sources_of t.published) path ≡ tree_files (last_tree own (submissions_of t.published)) path
  pub leaves : (k : ℕ) (b : PublishedBatch) → slice_get t.published k ≡ Some b → (path : List ℕ) → All (λ (x : Submission). is_path_inside x.tree.own path ≡ false) b.submissions → Leaves t k path
  pub others : (k : ℕ) (b : PublishedBatch) → slice_get t.published k ≡ Some b
      → (own path : List ℕ) → Contains (taken_modules t) own → is_path_inside own path ≡ true → All (λ (x : Submission). x.tree.own ≢ own) b.submissions → Leaves t k path

-- ---- 4. every answer is that of one worker

-- the trees that were built of these batches, in order
abbrev pub built : List PublishedBatch → List TreeModel
built bs = map (λ (x : Submission). x.tree) (submissions_of bs)

-- whatever else happened, in whatever order workers took and finished actions, and however trees were put together to batches: where the same trees were
-- built up to a batch of the one run and up to a batch of the other, the snapshots are the same
abbrev pub OrderDoesNotCount : Type 0
OrderDoesNotCount =
    (es fs : List Event) (rs qs : List Reply) (t u : Service) → AreHandedIn es → Run empty es rs t → Run empty fs qs u
    → (j k : ℕ) (b c : PublishedBatch) → slice_get t.published j ≡ Some b → slice_get u.published k ≡ Some c
    → built (take (j + 1) t.published) ≡ built (take (k + 1) u.published) → b.snapshot ≡ c.snapshot

-- ---- the headline

-- after any list of what sessions send and workers do, in every published snapshot each import, name, selector, key and call has exactly the declaration
-- that the written rules give it, or the number of the rule it breaks; `list` shows exactly the packages that an import could name, `complete` exactly
-- the names that have a declaration once they are put there, and `doc` of another package is refused by exactly the rule that an import of it would break,
-- and of a type tells exactly what selectors behind a variable of it have;
-- an edit changes its session's module alone; every answer is the one that one worker gives
--
-- That each submitted tree is a workspace (`AreHandedIn`) every list of events fulfils that a caller can have: `are_handed_in` of `go_headline_laws::separation`.
pub record Headline : Type 0 where
  pub snapshots : (es : List Event) (rs : List Reply) (t : Service) → AreHandedIn es → Run empty es rs t → (k : ℕ) (b : PublishedBatch) → slice_get t.published k ≡ Some b
      → HasAnswers (sources_at t (k + 1)) b.snapshot × ShowsWhatResolves (sources_at t (k + 1)) b.snapshot
  pub alone : (es : List Event) (rs : List Reply) (t : Service) → AreHandedIn es → Run empty es rs t → ChangesOwnAlone t
  pub one_worker : OrderDoesNotCount
