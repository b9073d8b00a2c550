-- What names that denote something name where a type is written.
use Rattle.std.specs.Prelude.{◌≡◌, ℕ, Bool, true, false, List, Option, Some, None}
use Rattle.go_path_core.specs.text_core.declared.rule.Rule.{Rule}
use Rattle.go_path_core.specs.text_core.declared.rule.Rule.TheVariants.{N1, N6}
use Rattle.go_tree_nodes.specs.declared.usage.Usage.TheVariants as usages
use Rattle.go_universe_core.specs.declared.Predeclared.{Predeclared}
use Rattle.go_term_core.specs.decl_core.declared.keys.DeclRef.{DeclRef}
use Rattle.go_term_core.specs.decl_core.declared.places.DeclKind.{DeclKind}
use Rattle.go_term_core.specs.decl_core.declared.places.DeclKind.TheVariants as kinds
use Rattle.go_names_core.specs.scope_core.Scopes.{Denoted, Universe, Package, File, Local}
use Rattle.go_term_core.specs.Terms.{Term}
use Rattle.go_expr_core.specs.denote_core.declared.things.Denoted.TheVariants as denotes
use Rattle.go_expr_core.specs.denote_core.declared.things.Stand.TheVariants as stands
use Rattle.go_expr_core.specs.denote_core.Answers.{found_answer}
use Rattle.go_expr_core.specs.denote_core.Selectors.{exported_answer}
use Rattle.go_summary_core.specs.declared_core.declared.face.Face.TheVariants as faces
use Rattle.go_summary_core.specs.declared_core.declared.shown.ShownFace.{ShownFace}
use Rattle.go_summary_core.specs.declared_core.Faces.{TheFace}
use Rattle.go_summary_core.specs.handle_core.Declarations.{Declaration}
use Rattle.go_summary_core.specs.declared_core.Written.{WrittenOf, position_of}
use Rattle.go_package_core.specs.env_core.Found.{exported_face, exported_shown, face_at, found_type, found_universe, own_face}
use Rattle.go_package_core.specs.package_part.Inputs.{path_in}
use Rattle.go_package_core.specs.package_part.Parts.{PartModel, seen_by}
use Rattle.go_type_doc_core.specs.Naming.{fresh_stand, types_seen}
use Rattle.go_type_doc_core.specs.Names.{BreaksRule, NamesType, TheAnswer}

abbrev pub IsPredeclaredType : List ℕ → Predeclared → Term → Type 0
IsPredeclaredType path name t = found_universe path name ≡ found_type name t

abbrev pub universe_answer : List ℕ → Predeclared → TheAnswer
universe_answer path name = found_answer stands.«Type» (found_universe path name)

abbrev pub IsPredeclaredRule : List ℕ → Predeclared → Rule → Type 0
IsPredeclaredRule path name rule = BreaksRule (universe_answer path name) rule

abbrev pub is_type : DeclKind → Bool
is_type kinds.«Type» = true
is_type _ = false

-- a function or a value
abbrev pub IsNoTypeFace : TheFace → Type 0
IsNoTypeFace (faces.«Type» t) = ⊥
IsNoTypeFace (faces.Func g) = Unit {0}
IsNoTypeFace (faces.«Value» o) = Unit {0}

-- one of these, or nothing that is known
abbrev pub IsNoType : Option TheFace → Type 0
IsNoType None = Unit {0}
IsNoType (Some f) = IsNoTypeFace f

-- what is known of the package's own declarations, by their places among them
abbrev pub known_of : List WrittenOf → List (Option TheFace) → DeclRef → Option TheFace
known_of ws known d = face_at known (position_of ws d)

-- the type that a name names which denotes this, where this is known of the package's own declarations
abbrev pub IsTypeOf : List ℕ → (DeclRef → Option TheFace) → Denoted → Option Term → Type 0
IsTypeOf path own (Universe p) t = (u : Term) × (t ≡ Some u) × IsPredeclaredType path p u
IsTypeOf path own (Package d) t = own d ≡ Some (faces.«Type» t)
IsTypeOf path own (File b) t = ⊥
IsTypeOf path own (Local id) t = ⊥

-- the rule that it breaks
abbrev pub IsRuleOf : List ℕ → (DeclRef → Option TheFace) → Denoted → Rule → Type 0
IsRuleOf path own (Universe p) rule = IsPredeclaredRule path p rule
IsRuleOf path own (Package d) rule = (rule ≡ N6) × IsNoType (own d)
IsRuleOf path own (File b) rule = rule ≡ N1
IsRuleOf path own (Local id) rule = rule ≡ N1

-- the same where that is known which a part keeps, and these are the places of its declarations
abbrev pub own_known : PartModel → DeclRef → Option TheFace
own_known p d = own_face (fresh_stand p (seen_by p.input) (types_seen p)).scene p.content.declared d

abbrev pub IsTypeIn : PartModel → Denoted → Option Term → Type 0
IsTypeIn p den t = IsTypeOf (path_in p.input) (own_known p) den t

abbrev pub IsRuleIn : PartModel → Denoted → Rule → Type 0
IsRuleIn p den rule = IsRuleOf (path_in p.input) (own_known p) den rule

-- each declaration stands in a list where it stands among those of the package of a part
abbrev pub HasOwnPlaces : PartModel → List WrittenOf → Type 0
HasOwnPlaces p ws = (d : DeclRef) → position_of ws d ≡ position_of (fresh_stand p (seen_by p.input) (types_seen p)).scene.written d

abbrev pub face_answer : Declaration → Option TheFace → TheAnswer
face_answer d face = exported_answer usages.«Type» (exported_face d face)

-- what a declaration shows of which this is known, whatever declaration it is
abbrev pub ShowsType : Option TheFace → Option Term → Type 0
ShowsType face t = (d : Declaration) → (face_answer d face).denoted ≡ denotes.«Type» d t

abbrev pub ShowsNone : Option TheFace → Rule → Type 0
ShowsNone face rule = (d : Declaration) → BreaksRule (face_answer d face) rule

-- what a name shows which is this behind the name of a package and a dot, whatever the package's path
abbrev pub IsTypeShown : ShownFace → Option Term → Type 0
IsTypeShown shown t = (path : List ℕ) → NamesType (exported_answer usages.«Type» (exported_shown path shown)) t

abbrev pub IsNoneShown : ShownFace → Rule → Type 0
IsNoneShown shown rule = (path : List ℕ) → BreaksRule (exported_answer usages.«Type» (exported_shown path shown)) rule
