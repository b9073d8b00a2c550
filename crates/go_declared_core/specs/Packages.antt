-- What packages show to those that import them, with faces.
--
-- docs/RULES.md, "Faces of declarations". The Go specification, "Exported identifiers", "Qualified identifiers".
use Rattle.std.specs.Prelude.{ℕ, List, [], ◌∷◌, Option, Some, None, if◌then◌else◌, map}
use Rattle.std.specs.Str.{bytes_eq, chars}
use Rattle.go_collections_core.specs.text_core.Text.{exported}
use Rattle.go_term_core.specs.decl_core.declared.keys.DeclRef.{DeclRef}
use Rattle.go_block_core.specs.Tables.{in_block, with_first}
use Rattle.go_declared_core.specs.declared.shown.ShownFace.{ShownFace}
use Rattle.go_declared_core.specs.declared.shown.ShownFace.TheVariants as shows
use Rattle.go_declared_core.specs.Faces.{TheFace}
use Rattle.go_declared_core.specs.Written.{same_decl_place}

-- a declaration, and what it is
pub record DeclaredOf : Type 0 where
  pub decl : DeclRef
  pub face : TheFace

-- the declarations of faces
abbrev pub decls_declared : List DeclaredOf → List DeclRef
decls_declared es = map (λ e. e.decl) es

-- the path of a package, the names of its package block, each with its declaration where the name is exported, and the faces of
-- declarations
pub record PackageFacesModel : Type 0 where
  pub path : List ℕ
  pub names : List (List ℕ × Option DeclRef)
  pub faces : List DeclaredOf

abbrev pub package_faces : List ℕ → List (List ℕ × Option DeclRef) → List DeclaredOf → PackageFacesModel
package_faces path names faces = record { path = path; names = names; faces = faces }

-- the face of a declaration, by file and number
abbrev pub face_among : List DeclaredOf → DeclRef → Option TheFace
face_among [] d = None
face_among (e ∷ es) d = if same_decl_place e.decl d then Some e.face else face_among es d

abbrev pub face_by : PackageFacesModel → DeclRef → Option TheFace
face_by p d = face_among p.faces d

-- what a name is behind the name of the package and a dot: that the package block has it with a declaration, without, or not
abbrev pub shown_name : PackageFacesModel → Option (Option DeclRef) → ShownFace
shown_name p None = shows.Absent
shown_name p (Some None) = shows.Hidden
shown_name p (Some (Some d)) = shows.Shown d (face_by p d)

abbrev pub shown_by : PackageFacesModel → List ℕ → ShownFace
shown_by p name = shown_name p (in_block p.names name)

-- the names of a block as other packages see them: with the declaration where the name is exported. Of several of one name the first
abbrev pub as_seen : List ℕ → DeclRef → Option DeclRef
as_seen name d = if exported (chars name) then Some d else None

abbrev pub seen_after : List (List ℕ × Option DeclRef) → List (List ℕ × DeclRef) → List (List ℕ × Option DeclRef)
seen_after seen [] = seen
seen_after seen (e ∷ es) = seen_after (with_first seen e.0 (as_seen e.0 e.1)) es

abbrev pub names_seen : List (List ℕ × DeclRef) → List (List ℕ × Option DeclRef)
names_seen block = seen_after [] block

-- packages

-- the package of a path: the first
abbrev pub package_in : List PackageFacesModel → List ℕ → Option PackageFacesModel
package_in [] path = None
package_in (p ∷ ps) path = if bytes_eq path p.path then Some p else package_in ps path

abbrev pub face_in_some : Option PackageFacesModel → DeclRef → Option TheFace
face_in_some None d = None
face_in_some (Some p) d = face_by p d

-- the face of a declaration of the package of a path
abbrev pub face_in : List PackageFacesModel → List ℕ → DeclRef → Option TheFace
face_in ps path d = face_in_some (package_in ps path) d

abbrev pub shown_in_some : Option PackageFacesModel → List ℕ → ShownFace
shown_in_some None name = shows.Absent
shown_in_some (Some p) name = shown_by p name

-- what a name is behind the name of the package of a path and a dot
abbrev pub exported_in : List PackageFacesModel → List ℕ → List ℕ → ShownFace
exported_in ps path name = shown_in_some (package_in ps path) name

-- packages with one more behind them, or with another in place of that of its path
abbrev pub with_faces : List PackageFacesModel → PackageFacesModel → List PackageFacesModel
with_faces [] q = q ∷ []
with_faces (p ∷ ps) q = if bytes_eq q.path p.path then q ∷ ps else p ∷ with_faces ps q
