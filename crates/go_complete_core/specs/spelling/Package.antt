-- What the constants and variables of a package are, for whatever rules of the types that its files write; and a package in which one identifier of one
-- initialiser is spelled anew.
--
-- docs/RULES.md, "Constants and variables of a package". The Go specification, "Constant declarations", "Variable declarations", "Package
-- initialization".
use Rattle.std.specs.Prelude.{◌≡◌, ◌⊎◌, ⊤, ℕ, List, [], ◌∷◌, map, length, slice_get, Option, Some, None}
use Rattle.go_tree_nodes.specs.declared.decls.ValueKind.{ValueKind}
use Rattle.go_tree_nodes.specs.declared.types.TypeName.{TypeName}
use Rattle.go_tree_nodes.specs.Trees.{TypeTree, ValueSpecTree}
use Rattle.go_term_core.specs.decl_core.TopDecls.{FormTree, ValueForm}
use Rattle.go_term_core.specs.Terms.{Term}
use Rattle.go_stmt_core.specs.expr_core.Looks.{WrittenRules}
use Rattle.go_candidate_core.specs.declared_core.Faces.{TheFace}
use Rattle.go_candidate_core.specs.declared_core.Written.{written_at}
use Rattle.go_package_core.specs.env_core.Scenes.{SceneModel}
use Rattle.go_package_core.specs.env_core.Looks.{TheLooks, looks_in, inline_rules}
use Rattle.go_digraph_core.specs.needs.Needs.{AreValues}
use Rattle.go_snap_core.specs.value_core.Package.{PlacedOf, top_look, first_values, form_idents, idents_need, form_face, written_face}
use Rattle.go_snap_core.specs.value_core.Laws.{FormsAlike}

-- a declaration of a package: the number of its file in order of name, from 0, what the types are that this file writes in initialisers, and its tree
pub record FileForm : Type 0 where
  pub file : ℕ
  pub written : WrittenRules Term
  pub form : FormTree

-- these rest on no look-ups of expressions
abbrev pub AreFixed : WrittenRules Term → Type 0
AreFixed rules = (named other : TypeName → Option Term) (t : TypeTree) → (rules.type_of named t ≡ rules.type_of other t) × (rules.faults_of named t ≡ rules.faults_of other t)

abbrev pub AllFixed : List FileForm → Type 0
AllFixed [] = ⊤
AllFixed (d ∷ ds) = AreFixed d.written × AllFixed ds

-- all that the initialisers of a file are judged by, where this is known of the package's declarations by their positions
abbrev pub file_looks : SceneModel → ℕ → WrittenRules Term → List (Option TheFace) → TheLooks
file_looks s file written known = looks_in s file known written (top_look s.blocks file)

-- the positions of the declarations that a declaration needs
abbrev pub form_needs : SceneModel → FileForm → List ℕ
form_needs s d = idents_need s d.file (form_idents d.form)

abbrev pub all_needs : SceneModel → List FileForm → List (List ℕ)
all_needs s ds = map (form_needs s) ds

-- what the declaration of a position is, by what those are that it needs
abbrev pub face_of : SceneModel → (ℕ → Option TheFace) → ℕ → Option FileForm → TheFace
face_of s known n None = written_face (written_at s.written n)
face_of s known n (Some d) = form_face (file_looks s d.file d.written (first_values (length s.written) known)) (written_at s.written n) d.form

abbrev pub face_at_position : SceneModel → List FileForm → (ℕ → Option TheFace) → ℕ → TheFace
face_at_position s ds known n = face_of s known n (slice_get ds n)

-- what the declarations of a package are, by their positions
abbrev pub AreFacesOf : SceneModel → List FileForm → List (Option TheFace) → Type 0
AreFacesOf s ds table = AreValues TheFace (all_needs s ds) (face_at_position s ds) table

-- declarations whose types are made of the initialisers of their files
abbrev pub placed_form : SceneModel → PlacedOf → FileForm
placed_form s p = record { file = p.file; written = inline_rules s p.types; form = p.decl.form }

-- a specification of a file that is written anew, in one of its declarations

pub record IsWrittenAnew (file : ℕ) (v w : ValueSpecTree) (d e : FileForm) : Type 0 where
  pub here : d.file ≡ file
  pub files : d.file ≡ e.file
  pub written : d.written ≡ e.written
  pub kind : ValueKind
  pub number : ℕ
  pub before : d.form ≡ ValueForm kind v number
  pub after : e.form ≡ ValueForm kind w number

-- any other declaration is as it was, but for the trees of types and functions
pub record IsAsItWas (d e : FileForm) : Type 0 where
  pub files : d.file ≡ e.file
  pub written : d.written ≡ e.written
  pub forms : FormsAlike d.form e.form

-- the declarations of a package where one specification of a file is written anew
abbrev pub AreWrittenAnew : ℕ → ValueSpecTree → ValueSpecTree → List FileForm → List FileForm → Type 0
AreWrittenAnew file v w [] [] = ⊤
AreWrittenAnew file v w [] (e ∷ es) = ⊥
AreWrittenAnew file v w (d ∷ ds) [] = ⊥
AreWrittenAnew file v w (d ∷ ds) (e ∷ es) = (IsAsItWas d e ⊎ IsWrittenAnew file v w d e) × AreWrittenAnew file v w ds es
