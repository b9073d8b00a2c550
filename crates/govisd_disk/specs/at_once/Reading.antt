-- Files that are read by their names and texts.
use Rattle.std.specs.Prelude.{◌≡◌, ℕ, List, All}
use Rattle.go_graph_core.specs.Sources.{SourceModel, IsRead}
use Rattle.go_graph_core.specs.Workspaces.{texts_of_files}

-- files of these names and texts, in order, each with the content that its text has
abbrev pub AreReadOf : List (List ℕ × List ℕ) → List SourceModel → Type 0
AreReadOf given fs = (texts_of_files fs ≡ given) × All IsRead fs
