-- What is answered by the spot of an identifier, where locals are open.
use Rattle.std.specs.Prelude.{◌≡◌, ◌↔◌, ℕ, Bool, true, false, List, [], Option, Some, None, Contains}
use Rattle.std.specs.List.Sorted.{IsStrictlySortedBy}
use Rattle.go_graph_core.specs.Workspaces.{by_bytes}
use Rattle.go_tree_nodes.specs.declared.names.Ident.{Ident}
use Rattle.go_tree_nodes.specs.declared.usage.Usage.{Usage}
use Rattle.go_tree_nodes.specs.declared.usage.Usage.TheVariants as usages
use Rattle.go_tree_nodes.specs.Trees.{ExprTree, Named}
use Rattle.go_cursor_core.specs.scope_stack.Blocks.{found_in}
use Rattle.go_names_core.specs.scope_core.Models.{ScopesModel}
use Rattle.go_names_core.specs.scope_core.Scopes.{scope_blocks}
use Rattle.go_cursor_core.specs.denote_core.declared.things.Stand.{Stand}
use Rattle.go_cursor_core.specs.denote_core.declared.things.Stand.TheVariants as stands
use Rattle.go_candidate_core.specs.declared_core.Packages.{PackageFacesModel}
use Rattle.go_cursor_core.specs.Used.{SpotTree, NameSpot, BehindSpot, BehindNameSpot, KeySpot}
use Rattle.go_candidate_core.specs.fitting.Fitting.{fits_alone, fits_behind, package_at}

-- exactly the names that pass a test, in byte order
abbrev pub ArePassing : (List ℕ → Bool) → Option (List (List ℕ)) → Type 0
ArePassing test None = ⊥
ArePassing test (Some found) = IsStrictlySortedBy by_bytes found × ((m : List ℕ) → Contains found m ↔ (test m ≡ true))

-- the name that an expression is
abbrev pub name_of : ExprTree → Option Ident
name_of (Named x) = Some x
name_of _ = None

-- behind a name: nothing where the name has no declaration there, the names of a package, and no answer behind anything else
abbrev pub AreBehind : List PackageFacesModel → Usage → Bool → Option (List ℕ) → Option (List (List ℕ)) → Type 0
AreBehind others u false path r = r ≡ Some []
AreBehind others u true None r = r ≡ None
AreBehind others u true (Some path) r = ArePassing (fits_behind others path u) r

abbrev pub AreBehindName : ScopesModel → List PackageFacesModel → Usage → Stand → Ident → Option (List (List ℕ)) → Type 0
AreBehindName s others u p x r = AreBehind others u (fits_alone s others p x.name) (package_at (found_in (scope_blocks s) x.name)) r

abbrev pub AreBehindSome : ScopesModel → List PackageFacesModel → Usage → Stand → Option Ident → Option (List (List ℕ)) → Type 0
AreBehindSome s others u p None r = r ≡ None
AreBehindSome s others u p (Some x) r = AreBehindName s others u p x r

abbrev pub AreAnswered : ScopesModel → List PackageFacesModel → SpotTree → Option (List (List ℕ)) → Type 0
AreAnswered s others (NameSpot p) r = ArePassing (fits_alone s others p) r
AreAnswered s others (BehindSpot u p e) r = AreBehindSome s others u p (name_of e) r
AreAnswered s others (BehindNameSpot x) r = AreBehindName s others usages.«Type» stands.TypeDot x r
AreAnswered s others (KeySpot l items n) r = r ≡ None
