-- Which names are hidden by the declarations of a function, whatever these mean.
--
-- docs/RULES.md, "Types inside functions". The Go specification, "Declarations and scope".
use Rattle.std.specs.Prelude.{◌≡◌, ℕ, Bool, List, Option, filter, is_some, if◌then◌else◌}
use Rattle.std.specs.Str.{bytes_eq}
use Rattle.go_tree_nodes.specs.Trees.{FuncTree}
use Rattle.go_term_core.specs.decl_core.declared.keys.DeclKey.{DeclKey}
use Rattle.go_names_core.specs.block_core.Blocks.{BlocksModel}
use Rattle.go_term_core.specs.Terms.{NoType}
use Rattle.go_term_core.specs.declared.settling.kind.Kind.{Kind}
use Rattle.go_typexpr_core.specs.written.Written.{InFile, Meaning}
use Rattle.go_names_core.specs.local_core.Binding.{Local, shown, innermost_of}
use Rattle.go_names_core.specs.local_core.Law.{Rules}
use Rattle.go_names_core.specs.local_core.Tables.{IsTable, IsFuncPlaced}
use Rattle.go_names_core.specs.Scope.{beyond_in}
use Rattle.go_inline_core.specs.Types.{InlineOf}
use Rattle.go_inline_core.specs.Trees.{func_types}
use Rattle.go_inline_core.specs.Inline.{inlines}
use Rattle.go_inline_core.specs.Functions.{looked_up_ident, scoped_outside, AreInlines}

-- whether a name is bound to a declaration of the function where it stands
abbrev pub hides : {X : Type 0} → List (Local X) → List ℕ → ℕ → Bool
hides all name place = is_some (innermost_of (filter (λ d. bytes_eq name d.name) (shown all place all)))

-- a name of a type that is hidden means no type, and any other what it means at the top of the file
abbrev pub meaning_beside : {X : Type 0} → List (Local X) → Meaning → Meaning
meaning_beside all top n = if hides all (looked_up_ident n).name (looked_up_ident n).span.start then NoType else top n

-- the declarations of a function with whatever its pieces give them to mean tell which names its types see
abbrev pub AnyTableTells : Type 0 → Type 0 → Type 0
AnyTableTells X N =
    (rules : Rules X N) (outer : List ℕ → Option X) (all : List (Local X)) (kind : DeclKey → Kind) (f : InFile) (top : Meaning) (blocks : BlocksModel) (number : ℕ) (func : FuncTree) (types : List (ℕ × InlineOf))
    → IsFuncPlaced func → IsTable rules outer func all → AreInlines kind f top (beyond_in scoped_outside blocks number) func types → types ≡ inlines kind f (meaning_beside all top) (func_types func)
