-- Laws of what a place sees.
--
-- docs/RULES.md, "Scopes", "Names, selectors and calls in expressions", "Composite literals". The Go specification, "Declarations and scope",
-- "Predeclared identifiers", "Qualified identifiers", "Struct types".
use Rattle.std.specs.Prelude.{◌≡◌, ◌↔◌, ◌⊎◌, ℕ, true, false, List, [], ◌∷◌, Option, Some, None, slice_get, codes}
use Rattle.std.specs.List.{flat_map}
use Rattle.std.specs.Str.{bytes_eq}
use Rattle.go_universe_core.specs.declared.Predeclared.{Predeclared}
use Rattle.go_universe_core.specs.declared.PredeclaredKind.{PredeclaredKind}
use Rattle.go_universe_core.specs.declared.PredeclaredKind.TheVariants as kinds
use Rattle.go_universe_core.specs.Universe.{kind_of, spelling_of, usable}
use Rattle.go_declared_core.specs.block_core.declared.binding.Binding.{Binding}
use Rattle.go_declared_core.specs.block_core.declared.binding.Target.{Target}
use Rattle.go_declared_core.specs.block_core.declared.binding.Target.TheVariants as targets
use Rattle.go_declared_core.specs.block_core.Blocks.{file_binding}
use Rattle.go_expr_core.specs.scope_stack.Blocks.{NoneHas, IsInnermost}
use Rattle.go_inline_core.specs.scope_core.Models.{ScopesModel}
use Rattle.go_inline_core.specs.scope_core.Scopes as scopes
use Rattle.go_inline_core.specs.scope_core.Scopes.{Denoted, scope_blocks}
use Rattle.go_term_core.specs.Terms.{Term}
use Rattle.go_table_core.specs.Entries.{find_entry}
use Rattle.go_select_core.specs.embed_core.Owners as owners
use Rattle.go_select_core.specs.embed_core.Owners.{AFieldOf, AMethodOf, AnInterfaces, TheErrorMethod, members_of, owner_in}
use Rattle.go_declared_core.specs.typexpr_core.EntryMeanings.{type_of_predeclared}
use Rattle.go_expr_core.specs.denote_core.declared.things.Builtin.{Builtin}
use Rattle.go_expr_core.specs.denote_core.declared.things.Builtin.TheVariants as builtins
use Rattle.go_expr_core.specs.denote_core.declared.things.Found.TheVariants as founds
use Rattle.go_expr_core.specs.operand_core.declared.types.ValueType.TheVariants as value_types
use Rattle.go_declared_core.specs.handle_core.Declarations.{Package}
use Rattle.go_inline_core.specs.names_core.declared.meaning.Outside.{Outside}
use Rattle.go_inline_core.specs.names_core.declared.meaning.Outside.TheVariants as outsides
use Rattle.go_inline_core.specs.names_core.Scope.{look_in_scope}
use Rattle.go_declared_core.specs.Faces.{TheFace}
use Rattle.go_declared_core.specs.Packages.{face_in, exported_in}
use Rattle.go_env_core.specs.declared.meaning.Meaning.{Meaning}
use Rattle.go_env_core.specs.declared.meaning.Meaning.TheVariants as meanings
use Rattle.go_env_core.specs.Scenes.{SceneModel}
use Rattle.go_env_core.specs.Fields.{TheField, field_seen, literals_in}
use Rattle.go_env_core.specs.Found.{TheFound, found_of, found_own, found_target, found_universe, found_type, found_bool, found_value, found_builtin, found_exported, own_face}

-- names

-- what a name stands for that denotes this in scope, where the locals of the function mean these by their numbers
abbrev pub stands_for : SceneModel → List (Option TheFace) → ScopesModel → List Meaning → List ℕ → Denoted → TheFound
stands_for s known o locals name (scopes.Local id) = found_of s o.file known name (slice_get locals id.0)
stands_for s known o locals name (scopes.Package d) = found_own s known d
stands_for s known o locals name (scopes.File b) = found_target s b.target
stands_for s known o locals name (scopes.Universe p) = found_universe s.path p

-- what a name stands for is what its declaration in the innermost block does that has one: those of the function, the file's, the package's, the
-- universe's; where none has one it stands for nothing
abbrev pub StandsFor : SceneModel → List (Option TheFace) → ScopesModel → List Meaning → List ℕ → TheFound → Type 0
StandsFor s known o locals name f =
    ((d : Denoted) × IsInnermost (scope_blocks o) name d × (f ≡ stands_for s known o locals name d)) ⊎ (NoneHas (scope_blocks o) name × (f ≡ founds.Missing))

abbrev pub NamesStandForDeclarations : Type 0
NamesStandForDeclarations =
    (s : SceneModel) (known : List (Option TheFace)) (o : ScopesModel) (locals : List Meaning) (name : List ℕ) (place : ℕ) (f : TheFound) → o.blocks ≡ s.blocks
    → (found_of s o.file known name (look_in_scope meanings.Outside o locals name place) ≡ f) ↔ StandsFor s known o locals name f

-- what is asked of a scene for a name that means this: the face of its declaration; of a name of the file block its binding, and the face of the
-- declaration that it binds

abbrev pub target_face : SceneModel → Target → Option TheFace
target_face s (targets.«Package» path) = None
target_face s (targets.Refused rule) = None
target_face s (targets.Exported k) = face_in s.others k.path k.decl

abbrev pub binding_face : SceneModel → Option Binding → Option TheFace
binding_face s None = None
binding_face s (Some b) = target_face s b.target

pub record SameBinding (s t : SceneModel) (file : ℕ) (name : List ℕ) : Type 0 where
  pub binding : file_binding s.blocks file name ≡ file_binding t.blocks file name
  pub face : binding_face s (file_binding s.blocks file name) ≡ binding_face t (file_binding s.blocks file name)

abbrev pub SameOutside : SceneModel → List (Option TheFace) → SceneModel → List (Option TheFace) → ℕ → List ℕ → Outside → Type 0
SameOutside s known t others file name (outsides.«Package» d) = own_face s known d ≡ own_face t others d
SameOutside s known t others file name (outsides.File at) = SameBinding s t file name
SameOutside s known t others file name (outsides.Universe p) = Unit {0}

abbrev pub SameMeaning : SceneModel → List (Option TheFace) → SceneModel → List (Option TheFace) → ℕ → List ℕ → Option Meaning → Type 0
SameMeaning s known t others file name None = Unit {0}
SameMeaning s known t others file name (Some (meanings.Outside o)) = SameOutside s known t others file name o
SameMeaning s known t others file name (Some (meanings.Local at value)) = Unit {0}

-- in two scenes of one package a name stands for the same where this is the same
abbrev pub NamesAreLocalInScenes : Type 0
NamesAreLocalInScenes =
    (s : SceneModel) (known : List (Option TheFace)) (t : SceneModel) (others : List (Option TheFace)) (file : ℕ) (name : List ℕ) (m : Option Meaning)
    → s.path ≡ t.path → SameMeaning s known t others file name m → found_of s file known name m ≡ found_of t file others name m

-- and behind the name of a package where that package shows the same under it
abbrev pub ShownNamesAreLocal : Type 0
ShownNamesAreLocal =
    (s t : SceneModel) (path name : List ℕ) → exported_in s.others path name ≡ exported_in t.others path name → found_exported s (Package path) name ≡ found_exported t (Package path) name

-- the universe

-- a predeclared function that may be used, by its spelling
abbrev pub builtin_spelled : List ℕ → Builtin → Type 0
builtin_spelled name builtins.Len = name ≡ codes "len"
builtin_spelled name builtins.Panic = name ≡ codes "panic"
builtin_spelled name builtins.Print = (name ≡ codes "print") ⊎ (name ≡ codes "println")

-- what a predeclared name of a kind stands for, where it may be used: a type for the type that it means where types are written; `true` and
-- `false` for untyped boolean constants; `nil` for the untyped `nil`; a function for that of its spelling
abbrev pub IsPredeclared : List ℕ → Predeclared → PredeclaredKind → TheFound → Type 0
IsPredeclared path p kinds.«Type» f = f ≡ found_type p (type_of_predeclared path p)
IsPredeclared path p kinds.Constant f = f ≡ found_bool p (bytes_eq (spelling_of p) (codes "true"))
IsPredeclared path p kinds.Nil f = f ≡ found_value p value_types.Nil None
IsPredeclared path p kinds.Function f = (b : Builtin) × builtin_spelled (spelling_of p) b × (f ≡ found_builtin p b)

pub record UniverseIsThis : Type 0 where
  -- a predeclared name that may be used stands for what its kind says
  pub inside : (path : List ℕ) (p : Predeclared) → usable p ≡ true → IsPredeclared path p (kind_of p) (found_universe path p)
  -- and the others are outside the profile
  pub outside : (path : List ℕ) (p : Predeclared) → (found_universe path p ≡ founds.Outside) ↔ (usable p ≡ false)

-- fields

-- a member of a type, where it is a field
abbrev pub member_field : SceneModel → List ℕ → owners.Found → List TheField
member_field s name (AFieldOf home place t) = field_seen s home name place t ∷ []
member_field s name (AMethodOf home place pointer g) = []
member_field s name (AnInterfaces home place g) = []
member_field s name TheErrorMethod = []

-- the fields that literals of a type may name are those that selectors find as its members, in their order
abbrev pub FieldsAreMembers : Type 0
FieldsAreMembers = (s : SceneModel) (t : Term) → (literals_in s).fields t ≡ flat_map (λ n. member_field s n.0 n.1.1) (members_of (owner_in (find_entry s.types) t))
