-- The check of a package is local: it looks at what the package reaches.
--
-- The Go specification, "Packages", "Import declarations", "Exported identifiers".
use Rattle.std.specs.Prelude.{◌≡◌, ℕ, List, All, Contains}
use Rattle.go_graph_core.specs.Packages.{Trees}
use Rattle.go_names_core.specs.block_core.declared.imports.Imported.{Imported}
use Rattle.go_names_core.specs.block_core.Blocks.{BlocksModel, AreBlocks}
use Rattle.go_names_core.specs.block_core.Naming.{package_named}
use Rattle.go_emit_core.specs.package_core.PreparePackages.{PackageIn}
use Rattle.go_emit_core.specs.package_core.Checked.{CheckedOf}
use Rattle.go_snap_core.specs.whole_workspace.Known.{CheckGives, KnownAlike, BindsInside, MentionsInside, GivesInside, IsImportedPath}
use Rattle.go_tree_nodes.specs.Spelling.{IsPlaced}
use Rattle.go_emit_core.specs.package_core.PackagePartParts.{SeenOf}

-- among some packages

-- a package stands among some packages that lead to none beside themselves: it is one of them, its imports bind what is theirs, and what is known of
-- their types and faces mentions types of theirs
pub record StandsAmong (paths : List (List ℕ)) (p : PackageIn) (k : SeenOf) : Type 0 where
  pub placed : All IsPlaced p.trees
  pub own : Contains paths p.path
  pub binds : BindsInside (Contains paths) p.blocks
  pub mentions : MentionsInside (Contains paths) (λ from to. Contains paths to) k

-- where the same is known of these, whatever is known of others, the check of the package gives the same: its types, their faults, what its
-- declarations are, which are defined through themselves, what it shows, what its occurrences have, and the faults of its files. And what it gives
-- mentions types of these packages alone
pub record CheckIsLocal : Type 0 where
  pub same : (paths : List (List ℕ)) (p : PackageIn) (one other : SeenOf) (c : CheckedOf) → StandsAmong paths p one → KnownAlike (Contains paths) one other → CheckGives p one c → CheckGives p other c
  pub answer : (paths : List (List ℕ)) (p : PackageIn) (one other : SeenOf) (c d : CheckedOf) → StandsAmong paths p one → KnownAlike (Contains paths) one other → CheckGives p one c → CheckGives p other d → c ≡ d
  pub inside : (paths : List (List ℕ)) (p : PackageIn) (k : SeenOf) (c : CheckedOf) → StandsAmong paths p k → CheckGives p k c → GivesInside (Contains paths) c

-- what is bound

-- the imports of a package bind what is of the packages that they come to
abbrev pub ImportsBindTheirs : Type 0
ImportsBindTheirs = (trees : Trees) (imports : List (List Imported)) (b : BlocksModel) → AreBlocks trees (package_named trees imports) b → BindsInside (IsImportedPath imports) b
