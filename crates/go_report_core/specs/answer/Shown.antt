-- What a package shows of its declarations to those that import it.
--
-- docs/RULES.md, "Faces of declarations". The Go specification, "Exported identifiers".
use Rattle.std.specs.Prelude.{ℕ, Bool, false, List, [], ◌∷◌, ◌++◌, ◌||◌, Option, Some, None, map, if◌then◌else◌}
use Rattle.go_term_core.specs.decl_core.declared.keys.DeclRef.{DeclRef}
use Rattle.go_block_core.specs.Blocks.{BlocksModel}
use Rattle.go_block_core.specs.Exports.{exported_names}
use Rattle.go_summary_core.specs.declared_core.Faces.{TheFace}
use Rattle.go_summary_core.specs.declared_core.Packages.{DeclaredOf, PackageFacesModel, names_seen, package_faces}
use Rattle.go_summary_core.specs.declared_core.Written.{same_decl_place}

-- the declarations that a package block has under exported names
abbrev pub exported_decls : List (List ℕ × DeclRef) → List DeclRef
exported_decls block = map (λ e. e.1) (exported_names block)

-- whether one of these has the file and the number of a declaration
abbrev pub is_decl_listed : List DeclRef → DeclRef → Bool
is_decl_listed [] d = false
is_decl_listed (e ∷ es) d = same_decl_place e d || is_decl_listed es d

abbrev pub decl_with_face : DeclRef → TheFace → DeclaredOf
decl_with_face d face = record { decl = d; face = face }

-- the face of a declaration, if it is shown and something is known of it
abbrev pub shown_if : Bool → DeclRef → Option TheFace → List DeclaredOf
shown_if is_shown d None = []
shown_if is_shown d (Some face) = if is_shown then decl_with_face d face ∷ [] else []

-- the faces of those declarations that are among these, where the n-th is known to be the n-th
abbrev pub shown_among : List DeclRef → List DeclRef → List (Option TheFace) → List DeclaredOf
shown_among these [] known = []
shown_among these (d ∷ ds) [] = []
shown_among these (d ∷ ds) (face ∷ known) = shown_if (is_decl_listed these d) d face ++ shown_among these ds known

-- the faces of those declarations that a package block has under exported names
abbrev pub shown_of : List (List ℕ × DeclRef) → List DeclRef → List (Option TheFace) → List DeclaredOf
shown_of block ds known = shown_among (exported_decls block) ds known

-- what the package of a path shows that has these blocks and declarations
abbrev pub package_shown : List ℕ → BlocksModel → List DeclRef → List (Option TheFace) → PackageFacesModel
package_shown path b ds known = package_faces path (names_seen b.names) (shown_of b.names ds known)
