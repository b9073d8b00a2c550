-- What the constants and variables of a package are that have no written type, and what they need for that.
--
-- docs/RULES.md, "Constants and variables of a package". The Go specification, "Declarations and scope", "Package initialization".
use Rattle.std.specs.Prelude.{ℕ, suc, Bool, true, false, List, [], ◌∷◌, ◌++◌, map, length, slice_get, slice_index_or, Option, Some, None, ◌≡◌, ◌↔◌}
use Rattle.std.specs.List.{flat_map, enumerate_from, range_with_len}
use Rattle.go_tree_nodes.specs.declared.names.Ident.{Ident}
use Rattle.go_tree_nodes.specs.declared.decls.ValueKind.{ValueKind}
use Rattle.go_tree_nodes.specs.declared.decls.ValueKind.TheVariants as kinds
use Rattle.go_tree_nodes.specs.Trees.{TypeTree, ValueSpecTree}
use Rattle.go_term_core.specs.decl_core.declared.keys.DeclRef.{DeclRef}
use Rattle.go_term_core.specs.decl_core.Shown.{decl_shown}
use Rattle.go_term_core.specs.decl_core.TopDecls.{TopDeclTree, FormTree, ValueForm, TypeForm, FuncForm}
use Rattle.go_names_core.specs.block_core.Blocks.{BlocksModel}
use Rattle.go_names_core.specs.scope_core.Models.{scopes_model}
use Rattle.go_names_core.specs.scope_core.Scopes as scopes
use Rattle.go_names_core.specs.scope_core.Scopes.{Denoted}
use Rattle.go_names_core.specs.scope_core.Laws.{denotes}
use Rattle.go_names_core.specs.local_core.Binding.{NameLook}
use Rattle.go_names_core.specs.Scope.{beyond_in}
use Rattle.go_typexpr_core.specs.entry.Outlines.{FileOutline}
use Rattle.go_stmt_core.specs.inline_core.Types.{InlineOf}
use Rattle.go_env_core.specs.declared_core.declared.face.Face.TheVariants as faces
use Rattle.go_env_core.specs.declared_core.Faces.{TheFace}
use Rattle.go_env_core.specs.declared_core.Written.{WrittenOf, position_of, written_at}
use Rattle.go_env_core.specs.declared.meaning.Meaning.{Meaning}
use Rattle.go_env_core.specs.declared.meaning.Meaning.TheVariants as meanings
use Rattle.go_env_core.specs.Scenes.{SceneModel}
use Rattle.go_env_core.specs.Looks.{TheLooks, looks_in, inline_rules}
use Rattle.go_value_core.specs.declared.placed.PlacedDecl.{PlacedDecl}
use Rattle.go_value_core.specs.Around.{LeadsBack}
use Rattle.go_value_core.specs.Initial.{initial, initial_idents}

-- a declaration of a package, with the number of its file in order of name, from 0, and the types that are written in the file's
-- initialisers, by their offsets
pub record PlacedOf : Type 0 where
  pub file : ℕ
  pub types : List (ℕ × InlineOf)
  pub decl : TopDeclTree

abbrev pub placed : ℕ → List (ℕ × InlineOf) → TopDeclTree → PlacedOf
placed file types d = record { file = file; types = types; decl = d }

abbrev pub placed_shown : PlacedDecl → PlacedOf
placed_shown p = placed p.file p.types.now (decl_shown p.decl)

-- the declarations of a file
abbrev pub placed_in : ℕ → List (ℕ × InlineOf) → FileOutline → List PlacedOf
placed_in file types o = map (placed file types) o.decls

-- those of the files of a package, in order of file and number, with the types of each file
abbrev pub placed_decls : List (List (ℕ × InlineOf)) → List FileOutline → List PlacedOf
placed_decls types os = flat_map (λ p. placed_in p.0 (slice_index_or types p.0 []) p.1) (enumerate_from 0 os)

-- needs

-- the package's own declaration that something in scope is, if it is one
abbrev pub own_decl : Option Denoted → Option DeclRef
own_decl (Some (scopes.Package d)) = Some d
own_decl _ = None

abbrev pub some_position : Option ℕ → List ℕ
some_position None = []
some_position (Some n) = n ∷ []

abbrev pub position_in : List WrittenOf → Option DeclRef → List ℕ
position_in ws None = []
position_in ws (Some d) = some_position (position_of ws d)

-- the position of what a name means at the top of a file, where that is a declaration of the package
abbrev pub name_needs : SceneModel → ℕ → List ℕ → List ℕ
name_needs s file name = position_in s.written (own_decl (denotes (scopes_model s.blocks file []) name))

abbrev pub idents_need : SceneModel → ℕ → List Ident → List ℕ
idents_need s file xs = flat_map (λ x. name_needs s file x.name) xs

-- the identifiers that a constant or a variable needs, by the type that is written: a variable with a written type needs none
abbrev pub value_idents : ValueKind → Option TypeTree → ValueSpecTree → ℕ → List Ident
value_idents kinds.Const t v i = initial_idents v i
value_idents kinds.Var None v i = initial_idents v i
value_idents kinds.Var (Some t) v i = []

-- the identifiers that a declaration needs
abbrev pub form_idents : FormTree → List Ident
form_idents (ValueForm k v i) = value_idents k v.type_expr v i
form_idents (TypeForm t) = []
form_idents (FuncForm f) = []

-- the positions of the declarations of the package that a declaration needs
abbrev pub decl_needs : SceneModel → PlacedOf → List ℕ
decl_needs s p = idents_need s p.file (form_idents p.decl.form)

abbrev pub package_needs : SceneModel → List PlacedOf → List (List ℕ)
package_needs s ds = map (decl_needs s) ds

-- values

-- what names mean at the top of a file, wherever they stand there
abbrev pub top_look : BlocksModel → ℕ → NameLook Meaning
top_look b file name place = beyond_in meanings.Outside b file name

-- the first values of a function of positions, as a list
abbrev pub first_values : {V : Type 0} → ℕ → (ℕ → V) → List V
first_values n f = map f (range_with_len 0 n)

-- all that an initialiser of a file is judged by, where this is known of the package's declarations by their positions
abbrev pub top_looks : SceneModel → ℕ → List (ℕ × InlineOf) → (ℕ → Option TheFace) → TheLooks
top_looks s file types known = looks_in s file (first_values (length s.written) known) (inline_rules s types) (top_look s.blocks file)

-- what is written of a declaration; a declaration of which nothing is written has no type
abbrev pub written_face : Option TheFace → TheFace
written_face None = faces.«Value» None
written_face (Some face) = face

-- a constant or a variable, by the type that is written: a variable with a written type is as it is written
abbrev pub value_face : TheLooks → Option TheFace → ValueKind → Option TypeTree → ValueSpecTree → ℕ → TheFace
value_face looks written kinds.Const t v i = faces.«Value» (initial looks kinds.Const v i)
value_face looks written kinds.Var None v i = faces.«Value» (initial looks kinds.Var v i)
value_face looks written kinds.Var (Some t) v i = written_face written

-- a declaration
abbrev pub form_face : TheLooks → Option TheFace → FormTree → TheFace
form_face looks written (ValueForm k v i) = value_face looks written k v.type_expr v i
form_face looks written (TypeForm t) = written_face written
form_face looks written (FuncForm f) = written_face written

-- the declaration at a position, if there is one
abbrev pub some_face : SceneModel → (ℕ → Option TheFace) → ℕ → Option PlacedOf → TheFace
some_face s known n None = written_face (written_at s.written n)
some_face s known n (Some p) = form_face (top_looks s p.file p.types known) (written_at s.written n) p.decl.form

-- what the declaration of a position is, by what those are that it needs
abbrev pub declared_face : SceneModel → List PlacedOf → (ℕ → Option TheFace) → ℕ → TheFace
declared_face s ds known n = some_face s known n (slice_get ds n)

-- constants that are defined through themselves

abbrev pub declares_constant : FormTree → Bool
declares_constant (ValueForm kinds.Const v i) = true
declares_constant (ValueForm kinds.Var v i) = false
declares_constant (TypeForm t) = false
declares_constant (FuncForm f) = false

abbrev pub some_constant : Option PlacedOf → Bool
some_constant None = false
some_constant (Some p) = declares_constant p.decl.form

-- the declaration of a position is a constant whose needs lead back to it
pub record IsThroughItself (s : SceneModel) (ds : List PlacedOf) (n : ℕ) : Type 0 where
  pub constant : some_constant (slice_get ds n) ≡ true
  pub leads : LeadsBack (package_needs s ds) n

-- for each declaration whether it is a constant that is defined through itself
pub record AreThroughThemselves (s : SceneModel) (ds : List PlacedOf) (flags : List Bool) : Type 0 where
  pub as_many : length flags ≡ length ds
  pub each : (n : ℕ) → (slice_index_or flags n false ≡ true) ↔ IsThroughItself s ds n
