-- What the names of types mean at the top of a file.
use Rattle.std.specs.Prelude.{ℕ, List, Option, Some, None}
use Rattle.go_tree_nodes.specs.declared.types.TypeName.{TypeName}
use Rattle.go_tree_nodes.specs.declared.types.TypeName.TheVariants as type_names
use Rattle.go_universe_core.specs.declared.Predeclared.{Predeclared as PredeclaredName}
use Rattle.go_universe_core.specs.declared.Predeclared.TheVariants as universe
use Rattle.go_universe_core.specs.Universe.{found}
use Rattle.go_term_core.specs.decl_core.declared.places.DeclKind.{DeclKind}
use Rattle.go_term_core.specs.decl_core.declared.places.DeclKind.TheVariants as kinds
use Rattle.go_term_core.specs.decl_core.declared.keys.DeclKey.{DeclKey}
use Rattle.go_term_core.specs.decl_core.declared.keys.DeclRef.{DeclRef}
use Rattle.go_scope_core.specs.block_core.declared.binding.Binding.{Binding}
use Rattle.go_scope_core.specs.block_core.declared.binding.Target.{Target}
use Rattle.go_scope_core.specs.block_core.declared.binding.Target.TheVariants as targets
use Rattle.go_scope_core.specs.block_core.Blocks.{BlocksModel, file_binding}
use Rattle.go_scope_core.specs.block_core.Tables.{in_block}
use Rattle.go_term_core.specs.declared.term.Basic.TheVariants as basics
use Rattle.go_term_core.specs.Terms.{Term, NoType, Predeclared, ErrorType, Defined, PointerTo, StructOf, InterfaceOf, NoMethod}
use Rattle.go_scope_core.specs.block_core.Bindings.{key_of}

-- the type that a declaration of this kind declares
abbrev pub type_of_kind : DeclKey → DeclKind → Term
type_of_kind k kinds.Type = Defined k
type_of_kind k _ = NoType

abbrev pub type_of_key : DeclKey → Term
type_of_key k = type_of_kind k k.decl.kind

-- the predeclared types that may be used. `any` is an interface type without methods
abbrev pub type_of_predeclared : List ℕ → PredeclaredName → Term
type_of_predeclared path universe.Any = InterfaceOf path NoMethod
type_of_predeclared path universe.Bool = Predeclared basics.Bool
type_of_predeclared path universe.Error = ErrorType
type_of_predeclared path universe.Int = Predeclared basics.Int
type_of_predeclared path universe.String = Predeclared basics.Text
type_of_predeclared path _ = NoType

abbrev pub type_of_universe : List ℕ → Option PredeclaredName → Term
type_of_universe path None = NoType
type_of_universe path (Some p) = type_of_predeclared path p

abbrev pub type_of_target : Target → Term
type_of_target (targets.«Package» path) = NoType
type_of_target (targets.Refused rule) = NoType
type_of_target (targets.Exported k) = type_of_key k

-- what a name means that the package block has not
abbrev pub outside_meaning : List ℕ → List ℕ → Option Binding → Term
outside_meaning path name None = type_of_universe path (found name)
outside_meaning path name (Some b) = type_of_target b.target

abbrev pub plain_meaning : List ℕ → BlocksModel → ℕ → List ℕ → Option DeclRef → Term
plain_meaning path b file name None = outside_meaning path name (file_binding b file name)
plain_meaning path b file name (Some d) = type_of_key (key_of path d)

-- what other packages show: of a path and a name the declaration
abbrev pub Shown : Type 0
Shown = List ℕ → List ℕ → Option DeclRef

-- what names of types lead to: what other packages show, and what the declaration of a type means, which is the type itself but for aliases
pub record Shows : Type 0 where
  pub shown : Shown
  pub target : DeclKey → Term

-- each declaration of a type means itself, an alias too
abbrev pub declared_alone : Shown → Shows
declared_alone shown = record { shown = shown; target = Defined }

abbrev pub raw : Shows → Shows
raw shows = declared_alone shows.shown

-- a type that is a name alone is what the name means
abbrev pub through : (DeclKey → Term) → Term → Term
through mean NoType = NoType
through mean (Predeclared b) = Predeclared b
through mean ErrorType = ErrorType
through mean (Defined k) = mean k
through mean (PointerTo t) = PointerTo t
through mean (StructOf path fs) = StructOf path fs
through mean (InterfaceOf path ms) = InterfaceOf path ms

abbrev pub shown_type : List ℕ → Option DeclRef → Term
shown_type path None = NoType
shown_type path (Some d) = type_of_key (key_of path d)

abbrev pub type_in_target : Shown → List ℕ → Target → Term
type_in_target shown name (targets.«Package» path) = shown_type path (shown path name)
type_in_target shown name (targets.Refused rule) = NoType
type_in_target shown name (targets.Exported k) = NoType

abbrev pub type_in_binding : Shown → List ℕ → Option Binding → Term
type_in_binding shown name None = NoType
type_in_binding shown name (Some b) = type_in_target shown name b.target

-- a name behind a dot, whose qualifier the package block has or has not
abbrev pub qualified_meaning : Shown → BlocksModel → ℕ → List ℕ → List ℕ → Option DeclRef → Term
qualified_meaning shown b file qualifier name None = type_in_binding shown name (file_binding b file qualifier)
qualified_meaning shown b file qualifier name (Some d) = NoType

-- the declaration of a type, or the predeclared type, that a name denotes at the top of a file of the package of a path: the innermost declaration is that of the package block, then
-- that of the file block, then that of the universe
abbrev pub named_meaning : Shown → List ℕ → BlocksModel → ℕ → TypeName → Term
named_meaning shown path b file (type_names.Plain x) = plain_meaning path b file x.name (in_block b.names x.name)
named_meaning shown path b file (type_names.Qualified q dot x) = qualified_meaning shown b file q.name x.name (in_block b.names q.name)

-- what it means: the target of an alias, and what is no alias itself
abbrev pub file_meaning : Shows → List ℕ → BlocksModel → ℕ → TypeName → Term
file_meaning shows path b file n = through shows.target (named_meaning shows.shown path b file n)
