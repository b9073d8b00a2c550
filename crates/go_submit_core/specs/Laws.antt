-- What published batches come to, in the words of modules and files.
use Rattle.std.specs.Prelude.{◌≡◌, ℕ, true, if◌then◌else◌, List, [], ◌∷◌, ◌++◌, Option, Some, None, All}
use Rattle.std.specs.List.{flat_map, fold}
use Rattle.std.specs.Str.{bytes_eq}
use Rattle.go_graph_core.specs.Sources.{SourceModel}
use Rattle.go_graph_core.specs.Workspaces.{PackageModel, IsWorkspace, files_at, is_path_inside, replaced}
use Rattle.go_snap_core.specs.Snapshots.{SnapshotModel}
use Rattle.go_submit_core.specs.Published.{IsOneWorker, sources_of}
pub use Rattle.go_submit_core.specs.Submitted.{AreWorkspaces}
use Rattle.go_submit_core.specs.Submitted.{submitted}
use Rattle.go_submit_core.specs.Trees.{TreeModel}
use Rattle.go_submit_core.specs.declared.submission.Submission.{Submission}
use Rattle.go_submit_core.specs.declared.published.PublishedBatch.{PublishedBatch}

-- a batch replaces the packages of its modules, in order, and leaves what other batches published
abbrev pub BatchesReplace : Type 0
BatchesReplace = (bs : List PublishedBatch) (b : PublishedBatch) → sources_of (bs ++ b ∷ []) ≡ submitted (sources_of bs) b.submissions

-- a submission puts its tree in the place of its module's packages
abbrev pub SubmissionsReplace : Type 0
SubmissionsReplace = (ps : List PackageModel) (ss : List Submission) (s : Submission) → submitted ps (ss ++ s ∷ []) ≡ replaced s.tree.own (submitted ps ss) s.tree.packages

-- the files of a path that the last tree has in whose module the path lies, and these where there is none
abbrev pub last_files : Option (List SourceModel) → List Submission → List ℕ → Option (List SourceModel)
last_files before ss path = fold (λ found s. if is_path_inside s.tree.own path then files_at s.tree.packages path else found) before ss

-- the files of each path are those of the last tree in whose module it lies; where there is none they stay
abbrev pub LastTrees : Type 0
LastTrees = (ps : List PackageModel) (ss : List Submission) (path : List ℕ) → AreWorkspaces ss → files_at (submitted ps ss) path ≡ last_files (files_at ps path) ss path

-- all that was submitted of these batches, in order
abbrev pub submissions_of : List PublishedBatch → List Submission
submissions_of bs = flat_map (λ b. b.submissions) bs

-- the last tree of a module, if there is one
abbrev pub last_tree : List ℕ → List Submission → Option TreeModel
last_tree own ss = fold (λ found s. if bytes_eq s.tree.own own then Some s.tree else found) None ss

-- the files that it has of a path
abbrev pub tree_files : Option TreeModel → List ℕ → Option (List SourceModel)
tree_files None path = None
tree_files (Some t) path = files_at t.packages path

-- the path lies in no other module of which there is a tree
abbrev pub LiesInNoOther : List ℕ → List ℕ → List Submission → Type 0
LiesInNoOther own path ss = All (λ s. is_path_inside s.tree.own path ≡ true → s.tree.own ≡ own) ss

-- the files of each path that are published are those of the last tree, of all batches in order, in whose module the path lies; there are none where there
-- is no such tree
abbrev pub PublishedPaths : Type 0
PublishedPaths = (bs : List PublishedBatch) (path : List ℕ) → AreWorkspaces (submissions_of bs) → files_at (sources_of bs) path ≡ last_files None (submissions_of bs) path

-- what is published inside a module is its last tree, of all batches in order, and nothing where it has none
abbrev pub HaveLastTrees : List PublishedBatch → Type 0
HaveLastTrees bs = (own path : List ℕ) → is_path_inside own path ≡ true → LiesInNoOther own path (submissions_of bs) → files_at (sources_of bs) path ≡ tree_files (last_tree own (submissions_of bs)) path

abbrev pub PublishedModules : Type 0
PublishedModules = (bs : List PublishedBatch) → AreWorkspaces (submissions_of bs) → HaveLastTrees bs

-- there is one snapshot that one worker gives
abbrev pub OneWorker : Type 0
OneWorker = (ps : List PackageModel) (one other : SnapshotModel) → IsWorkspace ps → IsOneWorker ps one → IsOneWorker ps other → one ≡ other
