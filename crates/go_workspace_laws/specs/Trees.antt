-- What code is made of, by the trees of all packages.
--
-- docs/RULES.md, "Stack code", "Whole workspaces". The Go specification, "Packages", "Declarations and scope".
use Rattle.std.specs.Prelude.{List, [], ◌∷◌, Option}
use Rattle.std.specs.List.{flat_map}
use Rattle.go_emit_core.specs.package_core.PreparePackages.{trees_in}
use Rattle.go_emit_core.specs.declared_core.Packages.{PackageFacesModel}
use Rattle.go_snap_core.specs.whole_workspace.Whole.{WholeOf, if_some}
use Rattle.go_body_core.specs.table_core.Entries.{Entry}
use Rattle.go_emit_core.specs.meaning.Scenes.{CodeScene, package_decl_refs, scene_by}

-- the types that all packages declare, and what all of them show, by the check of each among all others

abbrev pub all_types : List (Option WholeOf) → List Entry
all_types ws = flat_map (if_some (λ (w : WholeOf). w.checked.types)) ws

abbrev pub all_faces : List (Option WholeOf) → List PackageFacesModel
all_faces ws = flat_map (if_some (λ (w : WholeOf). w.checked.faces ∷ [])) ws

-- a package among all others: its own declarations are what its check gives
abbrev pub scene_of_trees : List (Option WholeOf) → WholeOf → CodeScene
scene_of_trees ws w = scene_by w.source.0 (package_decl_refs 0 (trees_in w.source)) w.checked.declared (all_types ws) (all_faces ws)
