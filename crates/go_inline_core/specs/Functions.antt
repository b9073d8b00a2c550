-- What the types of a function are, by what names mean where they stand.
--
-- docs/RULES.md, "Types inside functions". The Go specification, "Declarations and scope", "Types".
use Rattle.std.specs.Prelude.{◌≡◌, ℕ, Bool, true, false, List, Option, Some, None, if◌then◌else◌}
use Rattle.go_tree_nodes.specs.declared.names.Ident.{Ident}
use Rattle.go_tree_nodes.specs.declared.types.TypeName.{TypeName}
use Rattle.go_tree_nodes.specs.declared.types.TypeName.TheVariants as type_names
use Rattle.go_tree_nodes.specs.Trees.{TypeTree, FuncTree}
use Rattle.go_term_core.specs.decl_core.declared.keys.DeclKey.{DeclKey}
use Rattle.go_term_core.specs.Terms.{NoType}
use Rattle.go_term_core.specs.declared.settling.kind.Kind.{Kind}
use Rattle.go_term_core.specs.settling.Settled.{kind_of_term}
use Rattle.go_table_core.specs.Entries.{find_entry, term_in}
use Rattle.go_typexpr_core.specs.written.Written.{InFile, Meaning}
use Rattle.go_typexpr_core.specs.entry.Meanings.{Shows, file_meaning}
use Rattle.go_names_core.specs.local_core.Binding.{Local, NameLook, bound}
use Rattle.go_names_core.specs.local_core.Law.{Rules}
use Rattle.go_names_core.specs.local_core.Tables.{IsTable}
use Rattle.go_names_core.specs.declared.meaning.Outside.{Outside}
use Rattle.go_names_core.specs.Scope.{beyond_in}
use Rattle.go_inline_core.specs.declared.ground.Ground.{Ground}
use Rattle.go_inline_core.specs.declared.scoped.Scoped.{Scoped}
use Rattle.go_inline_core.specs.declared.scoped.Scoped.TheVariants as scoped
use Rattle.go_inline_core.specs.Types.{InlineOf}
use Rattle.go_inline_core.specs.Trees.{func_types}
use Rattle.go_names_core.specs.local_core.Pieces.{piece_types}
use Rattle.go_inline_core.specs.Inline.{inlines}

-- names

-- the identifier of a type's name that is looked up: the package's name where there is one
abbrev pub looked_up_ident : TypeName → Ident
looked_up_ident (type_names.Plain x) = x
looked_up_ident (type_names.Qualified q dot x) = q

abbrev pub is_local : Option Scoped → Bool
is_local None = false
is_local (Some scoped.Local) = true
is_local (Some (scoped.Outside o)) = false

-- no type is declared inside a function: a name that is a local there means no type, and any other what it means at the top of the file
abbrev pub meaning_in : NameLook Scoped → Meaning → Meaning
meaning_in look top n = if is_local (look (looked_up_ident n).name (looked_up_ident n).span.start) then NoType else top n

-- inside a function

-- types inside a function, by what names mean where they stand
abbrev pub inlines_in : (DeclKey → Kind) → InFile → Meaning → NameLook Scoped → List TypeTree → List (ℕ × InlineOf)
inlines_in kind f top look ts = inlines kind f (meaning_in look top) ts

-- the types of a piece are noted, and each name that it declares is a local
abbrev pub inline_note_rules : (DeclKey → Kind) → InFile → Meaning → Rules Scoped (ℕ × InlineOf)
inline_note_rules kind f top = record { notes = λ look firsts p. inlines_in kind f top look (piece_types p); means = λ look firsts p n. scoped.Local }

-- what is declared outside a function is known as what it is
abbrev pub scoped_outside : Outside → Scoped
scoped_outside o = scoped.Outside o

-- these are the types of a function, each by its first byte with what it is where the names are bound by the function's declarations
abbrev pub AreInlines : (DeclKey → Kind) → InFile → Meaning → (List ℕ → Option Scoped) → FuncTree → List (ℕ × InlineOf) → Type 0
AreInlines kind f top beyond func types =
    (all : List (Local Scoped)) → IsTable (inline_note_rules kind f top) beyond func all → types ≡ inlines_in kind f top (bound beyond all) (func_types func)

-- a file of a package

-- what is known of the types of the table
abbrev pub kinds_in_ground : {P : Type 0} → Ground P → DeclKey → Kind
kinds_in_ground g k = kind_of_term (term_in (find_entry g.types.now k))

abbrev pub file_in : {P : Type 0} → Ground P → InFile
file_in g = record { path = g.path.now; file = g.file; places = g.places.now }

-- what names of types mean at the top of the file
abbrev pub top_in : {P : Type 0} → (P → Shows) → Ground P → Meaning
top_in shows g = file_meaning (shows g.imported.now) g.path.now g.blocks.now g.file

-- what a name is that is declared outside functions
abbrev pub scoped_beyond : {P : Type 0} → Ground P → List ℕ → Option Scoped
scoped_beyond g = beyond_in scoped_outside g.blocks.now g.file
