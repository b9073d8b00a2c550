-- A package over tables of types that agree on what is near.
use Rattle.std.specs.Prelude.{◌≡◌, ℕ, List, Option}
use Rattle.go_term_core.specs.decl_core.TopDecls.{TopDeclTree, TypeForm}
use Rattle.go_tree_nodes.specs.declared.types.TypeName.{TypeName}
use Rattle.go_tree_nodes.specs.Trees.{TypeSpecTree}
use Rattle.go_names_core.specs.block_core.Blocks.{BlocksModel}
use Rattle.go_body_core.specs.table_core.Entries.{Entry}
use Rattle.go_body_core.specs.typexpr_core.EntryEntries.{file_at, type_key}
use Rattle.go_body_core.specs.typexpr_core.EntryLaws.{IsDeclaredInFile}
use Rattle.go_body_core.specs.typexpr_core.EntryMeanings.{Shows, file_meaning}
use Rattle.go_body_core.specs.typexpr_core.EntryOutlines.{FileOutline}
use Rattle.go_names_core.specs.declared.meaning.Outside.{Outside}
use Rattle.go_report_core.specs.handle_core.Declarations.{Declaration}
use Rattle.go_emit_core.specs.declared_core.Faces.{TheFace}
use Rattle.go_emit_core.specs.declared_core.Packages.{PackageFacesModel}
use Rattle.go_emit_core.specs.declared_core.Written.{package_written}
use Rattle.go_body_core.specs.env_core.Scenes.{SceneModel}
use Rattle.go_body_core.specs.env_core.Found.{found_outside, found_exported}
use Rattle.go_body_core.specs.function.Stands.{FileStand}
use Rattle.go_snap_core.specs.near.Near.{NearFound, NearExported}
use Rattle.go_snap_core.specs.near.Tables.{Nearby, IsNear, IsNearPackage, near_rest}

-- a package: what its names of types lead to, its path, what its blocks bind, what the others' names are, and the outlines of its files in order of
-- name
pub record PackageOf : Type 0 where
  pub shows : Shows
  pub path : List ℕ
  pub blocks : BlocksModel
  pub others : List PackageFacesModel
  pub outlines : List FileOutline

-- what is known of it over a table of types
abbrev pub scene_over : PackageOf → List Entry → SceneModel
scene_over p es = record { path = p.path; blocks = p.blocks; types = es; others = p.others; written = package_written p.shows p.path p.blocks es p.outlines }

-- where the file of a number, from 0, and an outline is checked, where this is known of the package's declarations
abbrev pub stand_over : PackageOf → List Entry → List (Option TheFace) → ℕ → FileOutline → FileStand
stand_over p es known n o = record { scene = scene_over p es; known = known; file = file_at p.path n o; top = file_meaning p.shows p.path p.blocks n }

-- its own types are near, what names of types mean in its files, what its declarations are, and what near packages show
pub record IsPackageNear (near : Nearby) (p : PackageOf) (es : List Entry) (known : List (Option TheFace)) : Type 0 where
  pub own : (n : ℕ) (o : FileOutline) (d : TopDeclTree) (t : TypeSpecTree) → IsDeclaredInFile p.outlines n o d → d.form ≡ TypeForm t → near.types (type_key (file_at p.path n o) d.number)
  pub meanings : (n : ℕ) (x : TypeName) → IsNear near (file_meaning p.shows p.path p.blocks n x)
  pub exported : (d : Declaration) (name : List ℕ) → IsNearPackage near d → NearExported (IsNear near) (near_rest near) (found_exported (scene_over p es) d name)
  pub outside : (n : ℕ) (name : List ℕ) (x : Outside) → NearFound (IsNear near) (near_rest near) (found_outside (scene_over p es) n known name x)
