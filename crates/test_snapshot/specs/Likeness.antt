-- Files of one name with as many imports.
use Rattle.std.specs.Prelude.{◌≡◌, ℕ, length, Result, Ok, Err, Option, Some, None}
use Rattle.go_declared_core.specs.block_core.Naming.{file_specs}
use Rattle.go_site_core.specs.graph_core.Sources.{SourceModel}
use Rattle.go_parse_core.specs.declared.error.SynFault.{SynFault}
use Rattle.go_tree_nodes.specs.Trees.{FileTree}

-- how many imports a content has, where it is a tree
abbrev pub imports_of : Result FileTree SynFault → Option ℕ
imports_of (Ok f) = Some (length (file_specs f))
imports_of (Err fault) = None

-- the second file has the name of the first, and as many imports
abbrev pub AreAlike : SourceModel → SourceModel → Type 0
AreAlike a b = (b.name ≡ a.name) × (imports_of b.content ≡ imports_of a.content)
