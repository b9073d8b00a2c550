-- Which names may stand alone at a place, by what they denote there.
--
-- docs/RULES.md, "Names, selectors and calls in expressions". The Go specification, "Declarations and scope", "Operands", "Conversions",
-- "Predeclared identifiers".
use Rattle.std.specs.Prelude.{◌≡◌, ℕ, Bool, true, false, not, List, [], ◌∷◌, Option, Some, None, map, filter}
use Rattle.go_tree_nodes.specs.text_core.Text.{is_blank}
use Rattle.go_universe_core.specs.declared.Predeclared.{Predeclared}
use Rattle.go_universe_core.specs.declared.Predeclared.TheVariants as universe
use Rattle.go_tree_nodes.specs.declared.names.Ident.{Ident}
use Rattle.go_term_core.specs.decl_core.declared.places.DeclKind.{DeclKind}
use Rattle.go_term_core.specs.decl_core.declared.places.DeclKind.TheVariants as kinds
use Rattle.go_inline_core.specs.block_core.declared.binding.Target.{Target}
use Rattle.go_inline_core.specs.block_core.declared.binding.Target.TheVariants as targets
use Rattle.go_inline_core.specs.block_core.Blocks.{BlocksModel}
use Rattle.go_cursor_core.specs.scope_stack.Blocks.{found_in, names_in, list_names}
use Rattle.go_cursor_core.specs.scope_stack.declared.DeclId.{DeclId}
use Rattle.go_inline_core.specs.scope_core.Models.{ScopesModel, scopes_model}
use Rattle.go_inline_core.specs.scope_core.Scopes.{Denoted, Universe, Package, File, Local, scope_blocks}
use Rattle.go_expr_core.specs.denote_core.declared.things.Stand.{Stand}
use Rattle.go_expr_core.specs.denote_core.declared.things.Stand.TheVariants as stands
use Rattle.go_candidate_core.specs.declared.context.things.Thing.{Thing}
use Rattle.go_candidate_core.specs.declared.context.things.Thing.TheVariants as things

abbrev pub thing_of_decl : DeclKind → Option Thing
thing_of_decl kinds.Const = Some things.«Value»
thing_of_decl kinds.Var = Some things.«Value»
thing_of_decl kinds.«Type» = Some things.«Type»
thing_of_decl kinds.Func = Some things.Func
thing_of_decl kinds.Method = None
thing_of_decl kinds.Field = None
thing_of_decl kinds.Param = None

abbrev pub thing_of_target : Target → Option Thing
thing_of_target (targets.«Package» path) = Some things.«Package»
thing_of_target (targets.Refused rule) = None
thing_of_target (targets.Exported k) = thing_of_decl k.decl.kind

abbrev pub thing_of_predeclared : Predeclared → Option Thing
thing_of_predeclared universe.Any = Some things.«Type»
thing_of_predeclared universe.Bool = Some things.«Type»
thing_of_predeclared universe.Error = Some things.«Type»
thing_of_predeclared universe.Int = Some things.«Type»
thing_of_predeclared universe.String = Some things.«Type»
thing_of_predeclared universe.True = Some things.«Value»
thing_of_predeclared universe.False = Some things.«Value»
thing_of_predeclared universe.Nil = Some things.«Value»
thing_of_predeclared universe.Len = Some things.Func
thing_of_predeclared universe.Panic = Some things.Func
thing_of_predeclared universe.Print = Some things.Func
thing_of_predeclared universe.Println = Some things.Func
thing_of_predeclared _ = None

abbrev pub thing_of : Denoted → Option Thing
thing_of (Universe p) = thing_of_predeclared p
thing_of (Package d) = thing_of_decl d.kind
thing_of (File b) = thing_of_target b.target
thing_of (Local id) = Some things.«Value»

abbrev pub thing_found : Option Denoted → Option Thing
thing_found None = None
thing_found (Some d) = thing_of d

-- where each thing may stand

abbrev pub fits : Stand → Thing → Bool
fits stands.TypeDot things.«Package» = true
fits stands.BeforeDot things.«Package» = true
fits stands.«Type» things.«Package» = false
fits stands.«Value» things.«Package» = false
fits stands.Callee things.«Package» = false
fits stands.«Type» things.«Type» = true
fits stands.Callee things.«Type» = true
fits stands.TypeDot things.«Type» = false
fits stands.«Value» things.«Type» = false
fits stands.BeforeDot things.«Type» = false
fits stands.Callee things.Func = true
fits stands.«Type» things.Func = false
fits stands.TypeDot things.Func = false
fits stands.«Value» things.Func = false
fits stands.BeforeDot things.Func = false
fits stands.«Value» things.«Value» = true
fits stands.BeforeDot things.«Value» = true
fits stands.«Type» things.«Value» = false
fits stands.TypeDot things.«Value» = false
fits stands.Callee things.«Value» = false

abbrev pub fits_some : Stand → Option Thing → Bool
fits_some p None = false
fits_some p (Some t) = fits p t

-- a name has a declaration where it stands alone so
abbrev pub stands_alone : ScopesModel → Stand → List ℕ → Bool
stands_alone s p name = fits_some p (thing_found (found_in (scope_blocks s) name))

-- the names that locals declare: the blank identifier declares none
abbrev pub local_names : List Ident → List (List ℕ)
local_names xs = filter (λ n. not (is_blank n)) (map (λ x. x.name) xs)

-- the blocks of a file of a package, and one of a function that has the names of these locals, each once
pub record HasLocals (blocks : BlocksModel) (file : ℕ) (open_names : List Ident) (s : ScopesModel) : Type 0 where
  pub block : List (List ℕ × DeclId)
  pub scopes : s ≡ scopes_model blocks file (block ∷ [])
  pub names : names_in block ≡ list_names [] (local_names open_names)
