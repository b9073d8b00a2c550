-- The content of each text, and the workspace of texts that are put as files into packages.
--
-- docs/RULES.md, "Texts and places", "Packages".
use Rattle.std.specs.Prelude.{◌≡◌, ◌<◌, ◌^◌, ℕ, List, Result, All, length, map}
use Rattle.std.specs.List.Sorted.{IsStrictlySortedBy}
use Rattle.std.specs.Map.{keys_of}
use Rattle.std.specs.Str.{IsUtf8}
use Rattle.go_tree_nodes.specs.Trees.{FileTree}
use Rattle.go_parse_core.specs.declared.error.SynFault.{SynFault}
use Rattle.go_path_core.specs.Path.{IsPath}
use Rattle.go_graph_core.specs.Sources.{IsContent}
use Rattle.go_graph_core.specs.Workspaces.{IsReadWorkspace, PackageModel, by_bytes, texts_of_files}

-- characters in UTF-8 that fit into memory
pub record IsText (text : List ℕ) : Type 0 where
  pub utf8 : IsUtf8 text
  pub short : length text < 2 ^ 64

-- each text has a content: its tree, or why it has none
abbrev pub EachTextHasAContent : Type 0
EachTextHasAContent = (text : List ℕ) → IsText text → (c : Result FileTree SynFault) × IsContent text c

-- what is written of a package: its path, and of each file its name and its text
abbrev pub Written : Type 0
Written = List ℕ × List (List ℕ × List ℕ)

-- a path, and at least one file, in order of name, no two of one name, each of a text
pub record IsWritten (w : Written) : Type 0 where
  pub path : IsPath w.0
  pub some : 0 < length w.1
  pub order : IsStrictlySortedBy by_bytes (keys_of w.1)
  pub texts : All (λ f. IsText f.1) w.1

-- packages in order of path, no two of one path
pub record AreWritten (ws : List Written) : Type 0 where
  pub order : IsStrictlySortedBy by_bytes (keys_of ws)
  pub packages : All IsWritten ws

-- what is written of the packages of a workspace
abbrev pub written_of : List PackageModel → List Written
written_of ps = map (λ p. (p.0, texts_of_files p.1)) ps

-- whatever is so written of packages is what is written of a workspace of which each file is read
abbrev pub TextsMakeAWorkspace : Type 0
TextsMakeAWorkspace = (ws : List Written) → AreWritten ws → (ps : List PackageModel) × IsReadWorkspace ps × (written_of ps ≡ ws)
