-- Which names fit at a place of a file: alone, by what is in scope there, and behind the name of a package, by what the package shows.
--
-- docs/RULES.md, "Names, selectors and calls in expressions", "Faces of declarations". The Go specification, "Declarations and scope", "Operands",
-- "Qualified identifiers", "Exported identifiers".
use Rattle.std.specs.Prelude.{◌≡◌, ℕ, Bool, true, false, ◌&&◌, not, List, Option, Some, None, Contains}
use Rattle.go_tree_nodes.specs.text_core.Text.{is_blank}
use Rattle.go_tree_nodes.specs.declared.usage.Usage.{Usage}
use Rattle.go_term_core.specs.decl_core.declared.keys.DeclRef.{DeclRef}
use Rattle.go_term_core.specs.decl_core.declared.keys.DeclKey.{DeclKey}
use Rattle.go_inline_core.specs.block_core.declared.binding.Target.{Target}
use Rattle.go_inline_core.specs.block_core.declared.binding.Target.TheVariants as targets
use Rattle.go_cursor_core.specs.scope_stack.Blocks.{found_in, names_in}
use Rattle.go_inline_core.specs.scope_core.Models.{ScopesModel}
use Rattle.go_inline_core.specs.scope_core.Scopes.{Denoted, Universe, Package, File, Local, scope_blocks}
use Rattle.go_expr_core.specs.denote_core.declared.things.Stand.{Stand}
use Rattle.go_expr_core.specs.denote_core.Selectors.{usage_place}
use Rattle.go_candidate_core.specs.declared.context.things.Thing.{Thing}
use Rattle.go_candidate_core.specs.declared.context.things.Thing.TheVariants as things
use Rattle.go_candidate_core.specs.context.Alone.{fits, fits_some, thing_of_decl, thing_of_predeclared}
use Rattle.go_summary_core.specs.declared_core.declared.face.Face.TheVariants as faces
use Rattle.go_summary_core.specs.declared_core.declared.shown.ShownFace.{ShownFace}
use Rattle.go_summary_core.specs.declared_core.declared.shown.ShownFace.TheVariants as shows
use Rattle.go_summary_core.specs.declared_core.Faces.{TheFace}
use Rattle.go_summary_core.specs.declared_core.Packages.{PackageFacesModel, exported_in, face_in, shown_by}
use Rattle.go_summary_core.specs.Summaries.{SummaryModel}

-- what a declaration is that is this; one of which nothing is known is a constant or a variable
abbrev pub thing_of_face : Option TheFace → Thing
thing_of_face None = things.«Value»
thing_of_face (Some (faces.«Type» t)) = things.«Type»
thing_of_face (Some (faces.Func g)) = things.Func
thing_of_face (Some (faces.«Value» o)) = things.«Value»

-- what an import binds, where packages show this: what a dot import binds is what its declaration is
abbrev pub thing_of_target : List PackageFacesModel → Target → Option Thing
thing_of_target others (targets.«Package» path) = Some things.«Package»
thing_of_target others (targets.Refused rule) = None
thing_of_target others (targets.Exported k) = Some (thing_of_face (face_in others k.path k.decl))

abbrev pub thing_at : List PackageFacesModel → Option Denoted → Option Thing
thing_at others None = None
thing_at others (Some (Universe p)) = thing_of_predeclared p
thing_at others (Some (Package d)) = thing_of_decl d.kind
thing_at others (Some (File b)) = thing_of_target others b.target
thing_at others (Some (Local id)) = Some things.«Value»

-- a name has a declaration where it stands alone so
abbrev pub fits_alone : ScopesModel → List PackageFacesModel → Stand → List ℕ → Bool
fits_alone s others p name = not (is_blank name) && fits_some p (thing_at others (found_in (scope_blocks s) name))

-- the path of the package that a name stands for
abbrev pub path_of_target : Target → Option (List ℕ)
path_of_target (targets.«Package» path) = Some path
path_of_target (targets.Refused rule) = None
path_of_target (targets.Exported k) = None

abbrev pub package_at : Option Denoted → Option (List ℕ)
package_at None = None
package_at (Some (Universe p)) = None
package_at (Some (Package d)) = None
package_at (Some (File b)) = path_of_target b.target
package_at (Some (Local id)) = None

-- what a package shows under a name may stand where the selector is used so
abbrev pub fits_shown : Usage → ShownFace → Bool
fits_shown u shows.Absent = false
fits_shown u shows.Hidden = false
fits_shown u (shows.Shown d face) = fits (usage_place u) (thing_of_face face)

-- a name has a declaration behind the name of the package of a path
abbrev pub fits_behind : List PackageFacesModel → List ℕ → Usage → List ℕ → Bool
fits_behind others path u name = not (is_blank name) && fits_shown u (exported_in others path name)

-- what a package shows is among the exported names that it tells
abbrev pub ShowsItsExports : SummaryModel → Type 0
ShowsItsExports s = (name : List ℕ) (d : DeclRef) (face : Option TheFace) → shown_by s.faces name ≡ shows.Shown d face → Contains (names_in s.exports.names) name
