-- What names of types mean at the top of a file, by the blocks that are open there.
use Rattle.std.specs.Prelude.{◌≡◌, ℕ, List, [], Option, Some, None}
use Rattle.go_path_core.specs.text_core.declared.span.Span.{Span}
use Rattle.go_tree_nodes.specs.declared.names.Ident.{Ident}
use Rattle.go_tree_nodes.specs.declared.types.TypeName.TheVariants as type_names
use Rattle.go_scope_core.specs.block_core.Blocks.{BlocksModel}
use Rattle.go_scope_core.specs.Laws.{denotes}
use Rattle.go_scope_core.specs.Models.{scopes_model}
use Rattle.go_scope_core.specs.Scopes.{Denoted, Universe, Package, File, Local}
use Rattle.go_term_core.specs.Terms.{Term, NoType}
use Rattle.go_typexpr_core.specs.entry.Meanings.{Shown, Shows, file_meaning, through, type_in_target, type_of_key, type_of_predeclared, type_of_target}
use Rattle.go_scope_core.specs.block_core.Bindings.{key_of}

-- what a name denotes in a file outside functions: the declaration of it in the innermost of the universe block, the package block and the
-- file's that has one
abbrev pub denoted_at_top : BlocksModel → ℕ → List ℕ → Option Denoted
denoted_at_top b file name = denotes (scopes_model b file []) name

-- the type that a name of the package of a path is which denotes this
abbrev pub type_denoted : List ℕ → Option Denoted → Term
type_denoted path None = NoType
type_denoted path (Some (Universe p)) = type_of_predeclared path p
type_denoted path (Some (Package d)) = type_of_key (key_of path d)
type_denoted path (Some (File b)) = type_of_target b.target
type_denoted path (Some (Local id)) = NoType

-- the type that a name is behind a dot, where what stands before the dot denotes this: only a package shows names
abbrev pub type_behind : Shown → List ℕ → Option Denoted → Term
type_behind shown name None = NoType
type_behind shown name (Some (Universe p)) = NoType
type_behind shown name (Some (Package d)) = NoType
type_behind shown name (Some (File b)) = type_in_target shown name b.target
type_behind shown name (Some (Local id)) = NoType

-- a name of a type means what it denotes, and where that is an alias, its target
pub record NamesAreInScope : Type 0 where
  pub plain : (shows : Shows) (path : List ℕ) (b : BlocksModel) (file : ℕ) (x : Ident) → file_meaning shows path b file (type_names.Plain x) ≡ through shows.target (type_denoted path (denoted_at_top b file x.name))
  pub qualified : (shows : Shows) (path : List ℕ) (b : BlocksModel) (file : ℕ) (q : Ident) (dot : Span) (x : Ident) → file_meaning shows path b file (type_names.Qualified q dot x) ≡ through shows.target (type_behind shows.shown x.name (denoted_at_top b file q.name))
