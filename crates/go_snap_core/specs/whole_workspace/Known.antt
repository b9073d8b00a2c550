-- What is known of other packages where one is checked, and which packages it leads to.
--
-- The Go specification, "Packages", "Import declarations", "Exported identifiers".
use Rattle.std.specs.Prelude.{◌≡◌, ℕ, List, [], Option, Some, None, Contains, ⊤}
use Rattle.go_term_core.specs.decl_core.declared.keys.DeclKey.{DeclKey}
use Rattle.go_term_core.specs.decl_core.declared.keys.DeclRef.{DeclRef}
use Rattle.go_names_core.specs.block_core.declared.binding.Binding.{Binding}
use Rattle.go_names_core.specs.block_core.declared.binding.Target.{Target}
use Rattle.go_names_core.specs.block_core.declared.binding.Target.TheVariants as targets
use Rattle.go_names_core.specs.block_core.declared.imports.Imported.{Imported}
use Rattle.go_names_core.specs.block_core.declared.imports.Imported.TheVariants as given
use Rattle.go_names_core.specs.block_core.Exports.{ExportsModel}
use Rattle.go_names_core.specs.block_core.Blocks.{BlocksModel, file_binding}
use Rattle.go_report_core.specs.operand_core.declared.types.ValueType.{ValueType}
use Rattle.go_report_core.specs.operand_core.declared.types.ValueType.TheVariants as value_types
use Rattle.go_report_core.specs.operand_core.declared.types.Operand.{Operand}
use Rattle.go_term_core.specs.Terms.{Term, term_keys, sign_keys}
use Rattle.go_body_core.specs.table_core.Entries.{Entry, find_entry, entry_keys}
use Rattle.go_emit_core.specs.declared_core.declared.face.Face.TheVariants as faces
use Rattle.go_emit_core.specs.declared_core.Faces.{TheFace}
use Rattle.go_emit_core.specs.declared_core.Packages.{exported_in, face_by, face_in}
use Rattle.go_emit_core.specs.package_core.PreparePackages.{PackageIn}
use Rattle.go_emit_core.specs.package_core.Checked.{CheckedOf, IsChecked}
use Rattle.go_emit_core.specs.package_core.PackagePartParts.{SeenOf}

-- a package, where this is known of others
abbrev pub package_with : PackageIn → SeenOf → PackageIn
package_with p k = record { path = p.path; trees = p.trees; blocks = p.blocks; imports = p.imports; shows = k.shows; others = k.faces }

-- where this is known of others, the check of a package gives this
abbrev pub CheckGives : PackageIn → SeenOf → CheckedOf → Type 0
CheckGives p k c = IsChecked (package_with p k) k.types c

-- the same is known of some packages, by their paths: each type by its key, which declaration a name shows, and what a name and a declaration are
pub record KnownAlike (Inside : List ℕ → Type 0) (one other : SeenOf) : Type 0 where
  pub types : (k : DeclKey) → Inside k.path → find_entry one.types k ≡ find_entry other.types k
  pub shows : (path name : List ℕ) → Inside path → one.shows path name ≡ other.shows path name
  pub faces : (path name : List ℕ) → Inside path → exported_in one.faces path name ≡ exported_in other.faces path name
  pub declared : (path : List ℕ) (d : DeclRef) → Inside path → face_in one.faces path d ≡ face_in other.faces path d

-- the declared types that a face mentions

abbrev pub type_keys : Option Term → List DeclKey
type_keys None = []
type_keys (Some t) = term_keys t

abbrev pub value_type_keys : ValueType Term → List DeclKey
value_type_keys (value_types.Typed t) = term_keys t
value_type_keys value_types.UntypedInt = []
value_type_keys value_types.UntypedText = []
value_type_keys value_types.UntypedBool = []
value_type_keys value_types.Nil = []

abbrev pub operand_keys : Option (Operand Term) → List DeclKey
operand_keys None = []
operand_keys (Some o) = value_type_keys o.value_type

abbrev pub face_keys : TheFace → List DeclKey
face_keys (faces.«Type» t) = type_keys t
face_keys (faces.Func g) = sign_keys g
face_keys (faces.«Value» o) = operand_keys o

-- which packages are led to

-- what an import binds is a package of these, or a declaration of one
abbrev pub IsTargetIn : (List ℕ → Type 0) → Target → Type 0
IsTargetIn Inside (targets.«Package» path) = Inside path
IsTargetIn Inside (targets.Refused rule) = ⊤
IsTargetIn Inside (targets.Exported k) = Inside k.path

-- what the imports of a package with these blocks bind in its files leads to these packages
abbrev pub BindsInside : (List ℕ → Type 0) → BlocksModel → Type 0
BindsInside Inside b = (file : ℕ) (name : List ℕ) (x : Binding) → file_binding b file name ≡ Some x → IsTargetIn Inside x.target

-- the types and the faces that are known of some packages mention types of packages that may be led to from there
pub record MentionsInside (Inside : List ℕ → Type 0) (May : List ℕ → List ℕ → Type 0) (k : SeenOf) : Type 0 where
  pub types : (key : DeclKey) (e : Entry) (j : DeclKey) → Inside key.path → find_entry k.types key ≡ Some e → Contains (entry_keys e) j → May key.path j.path
  pub faces : (path : List ℕ) (d : DeclRef) (f : TheFace) (j : DeclKey) → Inside path → face_in k.faces path d ≡ Some f → Contains (face_keys f) j → May path j.path

-- the types and the faces that a check gives mention types of these packages
pub record GivesInside (Inside : List ℕ → Type 0) (c : CheckedOf) : Type 0 where
  pub types : (e : Entry) (j : DeclKey) → Contains c.types e → Contains (entry_keys e) j → Inside j.path
  pub faces : (d : DeclRef) (f : TheFace) (j : DeclKey) → face_by c.faces d ≡ Some f → Contains (face_keys f) j → Inside j.path

-- an import of a package, of whose files the imports come to this, comes to the package of a path
pub record IsImportedPath (imports : List (List Imported)) (path : List ℕ) : Type 0 where
  pub of_file : List Imported
  pub file : Contains imports of_file
  pub shown : ExportsModel
  pub there : Contains of_file (given.«Package» shown)
  pub is : path ≡ shown.path
