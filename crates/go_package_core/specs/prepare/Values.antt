-- What the declarations of a package are, by what is written of them, each type by what its names mean where they stand.
--
-- docs/RULES.md, "Constants and variables of a package". The Go specification, "Constant declarations", "Variable declarations", "Package
-- initialization".
use Rattle.std.specs.Prelude.{◌≡◌, ◌↔◌, ℕ, Bool, true, false, List, Option, Some, None, length, map, slice_get, slice_index_or}
use Rattle.go_type_core.specs.table_core.Entries.{Entry}
use Rattle.go_digraph_core.specs.needs.Needs.{AreValues}
use Rattle.go_report_core.specs.declared_core.Faces.{TheFace}
use Rattle.go_report_core.specs.declared_core.Written.{written_at}
use Rattle.go_report_core.specs.declared_core.Laws.{FileDecl, package_decls}
use Rattle.go_body_core.specs.env_core.Scenes.{SceneModel}
use Rattle.go_value_core.specs.Around.{LeadsBack}
use Rattle.go_value_core.specs.Package.{first_values, form_face, form_idents, idents_need, declares_constant, written_face}
use Rattle.go_body_core.specs.function.Stands.{outer_looks}
use Rattle.go_package_core.specs.prepare.Packages.{PackageIn, outlines_in, scene_in, stand_in}

-- its declarations outside functions, in order of file and number
abbrev pub decls_in : PackageIn → List FileDecl
decls_in p = package_decls (outlines_in p)

-- the positions of the declarations that a declaration needs
abbrev pub file_decl_needs : SceneModel → FileDecl → List ℕ
file_decl_needs s d = idents_need s d.file (form_idents d.decl.form)

abbrev pub needs_in : PackageIn → List Entry → List (List ℕ)
needs_in p types = map (file_decl_needs (scene_in p types)) (decls_in p)

-- what a declaration is at its place in its file, where this is known of the package's declarations by their positions
abbrev pub face_there : PackageIn → List Entry → (ℕ → Option TheFace) → ℕ → FileDecl → TheFace
face_there p types known n d =
    let s = scene_in p types in
    form_face (outer_looks (stand_in p types (first_values (length s.written) known) d.file d.outline)) (written_at s.written n) d.decl.form

abbrev pub some_decl_face : PackageIn → List Entry → (ℕ → Option TheFace) → ℕ → Option FileDecl → TheFace
some_decl_face p types known n None = written_face (written_at (scene_in p types).written n)
some_decl_face p types known n (Some d) = face_there p types known n d

-- what the declaration of a position is, by what those are that it needs
abbrev pub declared_in : PackageIn → List Entry → (ℕ → Option TheFace) → ℕ → TheFace
declared_in p types known n = some_decl_face p types known n (slice_get (decls_in p) n)

-- what the declarations are, by their positions: none where what one needs leads back to itself
abbrev pub AreDeclared : PackageIn → List Entry → List (Option TheFace) → Type 0
AreDeclared p types known = AreValues TheFace (needs_in p types) (declared_in p types) known

-- constants that are defined through themselves

abbrev pub some_decl_constant : Option FileDecl → Bool
some_decl_constant None = false
some_decl_constant (Some d) = declares_constant d.decl.form

-- the declaration of a position is a constant whose needs lead back to it
pub record IsLoopedConstant (p : PackageIn) (types : List Entry) (n : ℕ) : Type 0 where
  pub constant : some_decl_constant (slice_get (decls_in p) n) ≡ true
  pub leads : LeadsBack (needs_in p types) n

-- for each declaration whether it is a constant that is defined through itself
pub record AreLooped (p : PackageIn) (types : List Entry) (flags : List Bool) : Type 0 where
  pub as_many : length flags ≡ length (decls_in p)
  pub each : (n : ℕ) → (slice_index_or flags n false ≡ true) ↔ IsLoopedConstant p types n
