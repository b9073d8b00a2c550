-- A package, as its check sees it.
--
-- The Go specification, "Packages", "Declarations and scope", "Alias declarations".
use Rattle.std.specs.Prelude.{ℕ, List, Option, map}
use Rattle.go_tree_nodes.specs.Trees.{FileTree}
use Rattle.go_term_core.specs.decl_core.declared.keys.DeclRef.{DeclRef}
use Rattle.go_term_core.specs.Terms.{Term}
use Rattle.go_block_core.specs.graph_core.Packages.{trees_of, tree_shown}
use Rattle.go_block_core.specs.graph_core.Workspaces.{PackageModel}
use Rattle.go_block_core.specs.declared.imports.Imported.{Imported}
use Rattle.go_block_core.specs.Blocks.{BlocksModel}
use Rattle.go_type_core.specs.table_core.Entries.{Entry}
use Rattle.go_body_core.specs.typexpr_core.EntryMeanings.{Shown, Shows, file_meaning}
use Rattle.go_body_core.specs.typexpr_core.EntryOutlines.{FileOutline, outline_of}
use Rattle.go_body_core.specs.typexpr_core.EntryEntries.{all_entries, declared_entries, file_at}
use Rattle.go_body_core.specs.typexpr_core.AliasesAliases.{alias_ends}
use Rattle.go_body_core.specs.typexpr_core.AliasesOutlined.{written_aliases}
use Rattle.go_report_core.specs.declared_core.Faces.{TheFace}
use Rattle.go_report_core.specs.declared_core.Here.{names_here}
use Rattle.go_report_core.specs.declared_core.Packages.{PackageFacesModel}
use Rattle.go_report_core.specs.declared_core.Written.{package_written}
use Rattle.go_body_core.specs.env_core.Scenes.{SceneModel}
use Rattle.go_body_core.specs.function.Stands.{FileStand}
use Rattle.go_package_core.specs.declared.prepare.package_at.PackageAt.{PackageAt}

pub record PackageIn : Type 0 where
  pub path : List ℕ
  -- the trees of its files, in order of name
  pub trees : List FileTree
  -- what its package block and its file blocks bind
  pub blocks : BlocksModel
  -- of each file what its imports come to, in order of place
  pub imports : List (List Imported)
  -- the names that other packages show, and what they are
  pub shows : Shown
  pub others : List PackageFacesModel

abbrev pub trees_in : PackageModel → List FileTree
trees_in p = map tree_shown (trees_of p.1)

abbrev pub package_in_shown : {P : Type 0} → (P → Shows) → PackageAt P → PackageIn
package_in_shown shows p = record {
  path = p.package.now.0;
  trees = trees_in p.package.now;
  blocks = p.blocks.now;
  imports = map (λ i. i.items) p.imports.now;
  shows = (shows p.shown.now).shown;
  others = p.faces.now;
}

abbrev pub outlines_in : PackageIn → List FileOutline
outlines_in p = map outline_of p.trees

-- its aliases, each with what the name behind its `=` denotes, where the name of an alias means the alias
abbrev pub aliases_in : PackageIn → List (DeclRef × Term)
aliases_in p = written_aliases p.shows p.path p.blocks (outlines_in p)

-- the same with their targets
abbrev pub targets_in : PackageIn → List (DeclRef × Term)
targets_in p = alias_ends (aliases_in p) p.path

-- what the names of types lead to in it: what other packages show, and the targets of aliases
abbrev pub shows_in : PackageIn → Shows
shows_in p = names_here p.shows p.others p.path p.blocks (outlines_in p)

-- the types that it declares, as they are written with the targets of all names
abbrev pub entries_in : PackageIn → List Entry
entries_in p = declared_entries (shows_in p) p.path p.blocks (outlines_in p)

-- all types and aliases that it declares, where each name means the declaration that it denotes
abbrev pub written_in : PackageIn → List Entry
written_in p = all_entries p.shows p.path p.blocks (outlines_in p)

-- what is known of it, where these are its types and those of the packages that it reaches
abbrev pub scene_in : PackageIn → List Entry → SceneModel
scene_in p types = record { path = p.path; blocks = p.blocks; types = types; others = p.others; written = package_written (shows_in p) p.path p.blocks types (outlines_in p) }

-- where the file of a number, from 0, is checked, and its outline, where this is known of the package's declarations
abbrev pub stand_in : PackageIn → List Entry → List (Option TheFace) → ℕ → FileOutline → FileStand
stand_in p types known n o = record { scene = scene_in p types; known = known; file = file_at p.path n o; top = file_meaning (shows_in p) p.path p.blocks n }
