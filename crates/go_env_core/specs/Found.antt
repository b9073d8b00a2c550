-- What a name stands for, by what it means where it stands.
--
-- docs/RULES.md, "Names, selectors and calls in expressions", "Faces of declarations". The Go specification, "Declarations and scope", "Predeclared identifiers",
-- "Qualified identifiers".
use Rattle.std.specs.Prelude.{ℕ, Bool, true, false, List, Option, Some, None, slice_index_or}
use Rattle.go_universe_core.specs.declared.Predeclared.{Predeclared}
use Rattle.go_universe_core.specs.declared.Predeclared.TheVariants as universe
use Rattle.go_term_core.specs.decl_core.declared.keys.DeclRef.{DeclRef}
use Rattle.go_declared_core.specs.block_core.declared.binding.Binding.{Binding}
use Rattle.go_declared_core.specs.block_core.declared.binding.Target.{Target}
use Rattle.go_declared_core.specs.block_core.declared.binding.Target.TheVariants as targets
use Rattle.go_declared_core.specs.block_core.Blocks.{file_binding}
use Rattle.go_term_core.specs.declared.term.MemberPlace.TheVariants as places
use Rattle.go_term_core.specs.declared.term.Basic.TheVariants as basics
use Rattle.go_term_core.specs.Terms.{Term, Predeclared as Basic, ErrorType, InterfaceOf, NoMethod, Sign}
use Rattle.go_constant_core.specs.declared.values.Constant.{Constant}
use Rattle.go_constant_core.specs.declared.values.Constant.TheVariants as constants
use Rattle.go_expr_core.specs.operand_core.declared.types.ValueType.{ValueType}
use Rattle.go_expr_core.specs.operand_core.declared.types.ValueType.TheVariants as value_types
use Rattle.go_expr_core.specs.operand_core.declared.types.Operand.{Operand}
use Rattle.go_expr_core.specs.denote_core.declared.things.Found.{Found}
use Rattle.go_expr_core.specs.denote_core.declared.things.Found.TheVariants as founds
use Rattle.go_expr_core.specs.denote_core.declared.things.Builtin.{Builtin}
use Rattle.go_expr_core.specs.denote_core.declared.things.Builtin.TheVariants as builtins
use Rattle.go_expr_core.specs.denote_core.declared.things.Exported.{Exported}
use Rattle.go_expr_core.specs.denote_core.declared.things.Exported.TheVariants as exporteds
use Rattle.go_declared_core.specs.handle_core.Declarations.{Declaration, Universe, OfError, Package, InFile}
use Rattle.go_inline_core.specs.names_core.declared.meaning.Outside.{Outside}
use Rattle.go_inline_core.specs.names_core.declared.meaning.Outside.TheVariants as outsides
use Rattle.go_declared_core.specs.declared.face.Face.TheVariants as faces
use Rattle.go_declared_core.specs.declared.shown.ShownFace.{ShownFace}
use Rattle.go_declared_core.specs.declared.shown.ShownFace.TheVariants as shown_faces
use Rattle.go_declared_core.specs.Faces.{TheFace}
use Rattle.go_declared_core.specs.Written.{position_of}
use Rattle.go_declared_core.specs.Packages.{face_in, exported_in}
use Rattle.go_env_core.specs.declared.meaning.Meaning.{Meaning}
use Rattle.go_env_core.specs.declared.meaning.Meaning.TheVariants as meanings
use Rattle.go_env_core.specs.Scenes.{SceneModel}

abbrev pub TheFound : Type 0
TheFound = Found Term Sign Declaration

abbrev pub TheExported : Type 0
TheExported = Exported Term Sign Declaration

-- what a declaration stands for that is this: a constant or a variable has no type where nothing is known of it
abbrev pub found_face : Declaration → Option TheFace → TheFound
found_face d None = founds.«Value» d None
found_face d (Some (faces.«Type» t)) = founds.«Type» d t
found_face d (Some (faces.Func g)) = founds.Func d g
found_face d (Some (faces.«Value» o)) = founds.«Value» d o

-- what one of the package's own declarations is
abbrev pub face_at : List (Option TheFace) → Option ℕ → Option TheFace
face_at known None = None
face_at known (Some n) = slice_index_or known n None

abbrev pub own_face : SceneModel → List (Option TheFace) → DeclRef → Option TheFace
own_face s known d = face_at known (position_of s.written d)

abbrev pub found_own : SceneModel → List (Option TheFace) → DeclRef → TheFound
found_own s known d = found_face (InFile s.path (places.Declared d)) (own_face s known d)

-- a binding of a file block
abbrev pub found_target : SceneModel → Target → TheFound
found_target s (targets.«Package» path) = founds.«Package» (Package path)
found_target s (targets.Refused rule) = founds.BadImport
found_target s (targets.Exported k) = found_face (InFile k.path (places.Declared k.decl)) (face_in s.others k.path k.decl)

abbrev pub found_binding : SceneModel → Option Binding → TheFound
found_binding s None = founds.Missing
found_binding s (Some b) = found_target s b.target

-- predeclared names

abbrev pub found_type : Predeclared → Term → TheFound
found_type p t = founds.«Type» (Universe p) (Some t)

abbrev pub found_value : Predeclared → ValueType Term → Option Constant → TheFound
found_value p t c = founds.«Value» (Universe p) (Some (record { value_type = t; constant = c; addressable = false }))

abbrev pub found_bool : Predeclared → Bool → TheFound
found_bool p b = found_value p value_types.UntypedBool (Some (constants.Bool b))

abbrev pub found_builtin : Predeclared → Builtin → TheFound
found_builtin p b = founds.Builtin (Universe p) b

abbrev pub found_universe : List ℕ → Predeclared → TheFound
found_universe path universe.Any = found_type universe.Any (InterfaceOf path NoMethod)
found_universe path universe.Bool = found_type universe.Bool (Basic basics.Bool)
found_universe path universe.Error = found_type universe.Error ErrorType
found_universe path universe.Int = found_type universe.Int (Basic basics.Int)
found_universe path universe.String = found_type universe.String (Basic basics.Text)
found_universe path universe.True = found_bool universe.True true
found_universe path universe.False = found_bool universe.False false
found_universe path universe.Nil = found_value universe.Nil value_types.Nil None
found_universe path universe.Len = found_builtin universe.Len builtins.Len
found_universe path universe.Panic = found_builtin universe.Panic builtins.Panic
found_universe path universe.Print = found_builtin universe.Print builtins.Print
found_universe path universe.Println = found_builtin universe.Println builtins.Print
found_universe path _ = founds.Outside

-- names

abbrev pub found_outside : SceneModel → ℕ → List (Option TheFace) → List ℕ → Outside → TheFound
found_outside s file known name (outsides.«Package» d) = found_own s known d
found_outside s file known name (outsides.File at) = found_binding s (file_binding s.blocks file name)
found_outside s file known name (outsides.Universe p) = found_universe s.path p

-- a local, by the place of its declared identifier
abbrev pub found_local : SceneModel → ℕ → ℕ → Option (Operand Term) → TheFound
found_local s file at value = founds.«Value» (InFile s.path (places.Local (record { file = file; offset = at }))) value

abbrev pub found_of : SceneModel → ℕ → List (Option TheFace) → List ℕ → Option Meaning → TheFound
found_of s file known name None = founds.Missing
found_of s file known name (Some (meanings.Outside o)) = found_outside s file known name o
found_of s file known name (Some (meanings.Local at value)) = found_local s file at value

-- the names that packages show

abbrev pub exported_face : Declaration → Option TheFace → TheExported
exported_face d None = exporteds.«Value» d None
exported_face d (Some (faces.«Type» t)) = exporteds.«Type» d t
exported_face d (Some (faces.Func g)) = exporteds.Func d g
exported_face d (Some (faces.«Value» o)) = exporteds.«Value» d o

-- what a package shows under a name
abbrev pub exported_shown : List ℕ → ShownFace → TheExported
exported_shown path shown_faces.Absent = exporteds.Absent
exported_shown path shown_faces.Hidden = exporteds.Hidden
exported_shown path (shown_faces.Shown d face) = exported_face (InFile path (places.Declared d)) face

-- a name behind a dot, after the name of the package that an import declares; what is no package shows nothing
abbrev pub found_exported : SceneModel → Declaration → List ℕ → TheExported
found_exported s (Universe p) name = exporteds.Absent
found_exported s OfError name = exporteds.Absent
found_exported s (Package path) name = exported_shown path (exported_in s.others path name)
found_exported s (InFile path place) name = exporteds.Absent
