-- What the names of types mean in a package that has aliases and imports others that have some.
--
-- docs/RULES.md, "Faces of declarations". The Go specification, "Alias declarations".
use Rattle.std.specs.Prelude.{ℕ, List, Option, Some, None}
use Rattle.go_term_core.specs.decl_core.declared.keys.DeclKey.{DeclKey}
use Rattle.go_block_core.specs.Blocks.{BlocksModel}
use Rattle.go_term_core.specs.Terms.{Term, NoType}
use Rattle.go_typexpr_core.specs.entry.Meanings.{Shown, Shows}
use Rattle.go_typexpr_core.specs.entry.Outlines.{FileOutline}
use Rattle.go_typexpr_core.specs.aliases.Outlined.{names_in}
use Rattle.go_declared_core.specs.declared.face.Face.TheVariants as faces
use Rattle.go_declared_core.specs.Faces.{TheFace}
use Rattle.go_declared_core.specs.Packages.{PackageFacesModel, face_in}

-- the type of what is declared: none where it is no type
abbrev pub type_or_none : Option Term → Term
type_or_none None = NoType
type_or_none (Some t) = t

abbrev pub type_of_face : TheFace → Term
type_of_face (faces.«Type» t) = type_or_none t
type_of_face (faces.Func g) = NoType
type_of_face (faces.«Value» o) = NoType

abbrev pub face_type : Option TheFace → Term
face_type None = NoType
face_type (Some f) = type_of_face f

-- what the declaration of a type means in its package, by what that shows: an alias its target, and what is no alias itself
abbrev pub far_type : List PackageFacesModel → DeclKey → Term
far_type others k = face_type (face_in others k.path k.decl)

-- what names of types lead to in the package of a path with these blocks and files, where other packages show this and have these faces
abbrev pub names_here : Shown → List PackageFacesModel → List ℕ → BlocksModel → List FileOutline → Shows
names_here shown others path b os = names_in shown (far_type others) path b os
