-- What the code holds of a package, as contracts see it.
use Rattle.std.specs.Prelude.{ℕ, List, Option}
use Rattle.go_term_core.specs.decl_core.declared.keys.DeclRef.{DeclRef}
use Rattle.go_table_core.specs.Entries.{Entry}
use Rattle.go_declared_core.specs.Faces.{TheFace}
use Rattle.go_declared_core.specs.Packages.{PackageFacesModel}
use Rattle.go_package_core.specs.prepare.Packages.{trees_in}
use Rattle.go_package_core.specs.package_part.Inputs.{InputModel, path_in}
use Rattle.go_package_core.specs.package_part.Parts.{ContentOf}
use Rattle.go_emit_core.specs.lookup.Places.{Spotted}
use Rattle.go_emit_core.specs.declared.meaning.scene.PackageNames.{PackageNames}
use Rattle.go_emit_core.specs.declared.meaning.tables.Tables.{Tables}
use Rattle.go_emit_core.specs.meaning.Scenes.{CodeScene, own_spotted, package_decl_refs}

-- a scene with these types, what these methods come to, and what these packages show
abbrev pub scene_from : List Entry → Spotted → List PackageFacesModel → List ℕ → List DeclRef → List (Option TheFace) → CodeScene
scene_from types methods others path decls known = record { path = path; own = own_spotted types path decls known; methods = methods; types = types; others = others }

-- the package of a path with these declarations, where this is known of each, by tables
abbrev pub code_scene_in : Tables → List ℕ → List DeclRef → List (Option TheFace) → CodeScene
code_scene_in t path decls known = scene_from t.types.now t.methods t.faces.now path decls known

-- a package by tables
abbrev pub scene_with : Tables → InputModel → ContentOf → CodeScene
scene_with t i c = code_scene_in t (path_in i) (package_decl_refs 0 (trees_in i.source)) c.declared

abbrev pub code_scene_shown : PackageNames → CodeScene
code_scene_shown p = record { path = p.path.now; own = p.own; methods = p.tables.now.methods; types = p.tables.now.types.now; others = p.tables.now.faces.now }
