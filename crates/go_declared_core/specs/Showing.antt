-- Laws of what packages show to those that import them, with faces.
use Rattle.std.specs.Prelude.{◌≡◌, ℕ, true, false, List, Some, None, Contains}
use Rattle.std.specs.Str.{chars}
use Rattle.go_collections_core.specs.text_core.Text.{exported}
use Rattle.go_term_core.specs.decl_core.declared.keys.DeclRef.{DeclRef}
use Rattle.go_block_core.specs.Tables.{in_block}
use Rattle.go_declared_core.specs.declared.shown.ShownFace.TheVariants as shows
use Rattle.go_declared_core.specs.Packages.{DeclaredOf, PackageFacesModel, decls_declared, exported_in, face_among, face_by, face_in, names_seen, package_faces, shown_by, with_faces}
use Rattle.go_declared_core.specs.Written.{DeclsRise}

-- what a package shows behind a dot is what its package block has: an exported name its declaration with the face, another name that it is
-- not exported, and of what the block has not that it is not there
pub record FacesShowTheirBlock : Type 0 where
  pub absent : (path : List ℕ) (block : List (List ℕ × DeclRef)) (faces : List DeclaredOf) (name : List ℕ)
      → in_block block name ≡ None → shown_by (package_faces path (names_seen block) faces) name ≡ shows.Absent
  pub hidden : (path : List ℕ) (block : List (List ℕ × DeclRef)) (faces : List DeclaredOf) (name : List ℕ) (d : DeclRef)
      → in_block block name ≡ Some d → exported (chars name) ≡ false → shown_by (package_faces path (names_seen block) faces) name ≡ shows.Hidden
  pub shown : (path : List ℕ) (block : List (List ℕ × DeclRef)) (faces : List DeclaredOf) (name : List ℕ) (d : DeclRef)
      → in_block block name ≡ Some d → exported (chars name) ≡ true → shown_by (package_faces path (names_seen block) faces) name ≡ shows.Shown d (face_among faces d)

-- the face of a declaration is the one that it was given
abbrev pub FacesAreFound : Type 0
FacesAreFound = (faces : List DeclaredOf) (e : DeclaredOf) → DeclsRise (decls_declared faces) → Contains faces e → face_among faces e.decl ≡ Some e.face

-- a package that was added is seen, and what the others show is as it was
pub record TablesShowTheirPackages : Type 0 where
  pub own : (ps : List PackageFacesModel) (p : PackageFacesModel) (name : List ℕ) → exported_in (with_faces ps p) p.path name ≡ shown_by p name
  pub own_face : (ps : List PackageFacesModel) (p : PackageFacesModel) (d : DeclRef) → face_in (with_faces ps p) p.path d ≡ face_by p d
  pub others : (ps : List PackageFacesModel) (p : PackageFacesModel) (path name : List ℕ) → (path ≡ p.path → ⊥) → exported_in (with_faces ps p) path name ≡ exported_in ps path name
  pub other_faces : (ps : List PackageFacesModel) (p : PackageFacesModel) (path : List ℕ) (d : DeclRef) → (path ≡ p.path → ⊥) → face_in (with_faces ps p) path d ≡ face_in ps path d
