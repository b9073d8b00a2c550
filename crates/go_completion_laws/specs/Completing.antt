-- Which names complete an identifier, by the workspace in which the name stands in its place.
--
-- docs/RULES.md, "Occurrences", "Whole workspaces", "What may be asked of a snapshot". The Go specification, "Declarations and scope", "Selectors",
-- "Qualified identifiers", "Composite literals".
use Rattle.std.specs.Prelude.{◌≡◌, ◌↔◌, ℕ, true, false, List, Ok, Contains, slice_set}
use Rattle.go_path_core.specs.text_core.Text.{is_blank}
use Rattle.go_tree_core.specs.declared.occurrence.Occ.{Occ}
use Rattle.go_tree_core.specs.Occurrences.{is_identifier}
use Rattle.go_graph_core.specs.Sources.{source}
use Rattle.go_graph_core.specs.Workspaces.{IsReadWorkspace, PackageModel}
use Rattle.go_workspace_laws.specs.report_core.UsageUsed.{FileUse}
use Rattle.go_snap_core.specs.Snapshots.{IsAnswerAt, SnapshotModel}
use Rattle.go_submit_core.specs.Published.{IsOneWorker}
use Rattle.go_query_core.specs.candidate_core.ContextLaws.{is_declared}
use Rattle.go_query_core.specs.Completing.{IsCompletion}
use Rattle.go_workspace_laws.specs.AnswerLaws.{IsOccurrenceAt}
use Rattle.go_answer_laws.specs.completions.Respelled.{put_in_place}

-- the same packages, but that in the file of a name, in the package of a path, a name other than `_` stands in place of the identifier that the occurrence of
-- a number is
pub record PutsName (ps : List PackageModel) (path name : List ℕ) (n : ℕ) (o : Occ) (m : List ℕ) (more : List PackageModel) : Type 0 where
  pub at : IsOccurrenceAt ps path name n o
  pub identifier : is_identifier o.role ≡ true
  pub plain : is_blank m ≡ false
  pub is : more ≡ slice_set ps at.number (path, slice_set at.files at.file (source name at.source.text (Ok (put_in_place m o at.tree))))

-- the occurrence of a number, of the file of a name in the package of a path, has a declaration
abbrev pub HasDeclaration : SnapshotModel → List ℕ → List ℕ → ℕ → Type 0
HasDeclaration s path name n = (u : FileUse) × IsAnswerAt s.sources s.parts path name n u × (is_declared u.outcome ≡ true)

-- the names that complete an identifier are those with which one worker gives, once the name is put in the identifier's place, a snapshot in which it has a
-- declaration
abbrev pub CompletesExactly : List PackageModel → SnapshotModel → Type 0
CompletesExactly ps s =
    (path name : List ℕ) (offset : ℕ) (names : List (List ℕ)) (c : IsCompletion s path name offset names) (n : ℕ) (o : Occ) (m : List ℕ) (more : List PackageModel)
    → PutsName ps path name n o m more → c.2.0.used.ident.span.start ≡ o.span.start → Contains names m ↔ ((w : SnapshotModel) × IsOneWorker more w × HasDeclaration w path name n)

-- so it is in the snapshot of each workspace of which each file is read
abbrev pub CompletionsAreExact : Type 0
CompletionsAreExact = (ps : List PackageModel) (s : SnapshotModel) → IsReadWorkspace ps → IsOneWorker ps s → CompletesExactly ps s

-- `_` completes no identifier: in its place it would be none that is used, or have no declaration
abbrev pub BlanksNeverComplete : Type 0
BlanksNeverComplete = (s : SnapshotModel) (path name : List ℕ) (offset : ℕ) (names : List (List ℕ)) (m : List ℕ) → IsCompletion s path name offset names → is_blank m ≡ true → Contains names m → ⊥
