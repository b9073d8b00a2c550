-- The names that have a declaration at a place, in byte order.
--
-- docs/RULES.md, "Members and selectors", "Names, selectors and calls in expressions", "Composite literals".
use Rattle.std.specs.Prelude.{◌≡◌, ◌↔◌, ℕ, Bool, true, false, List, Contains}
use Rattle.std.specs.Cmp.Lexicographic.{slice_cmp}
use Rattle.std.specs.List.Sorted.{IsStrictlySortedBy}
use Rattle.std.specs.Ordering.{nat_cmp}
use Rattle.std.specs.declared.cmp.Ordering.{Ordering}
use Rattle.go_term_core.specs.Terms.{Term, Sign}
use Rattle.go_expr_core.specs.denote_core.declared.things.Outcome.{Outcome}
use Rattle.go_expr_core.specs.denote_core.declared.things.Outcome.TheVariants as outcomes
use Rattle.go_table_core.specs.Entries.{Entry}
use Rattle.go_summary_core.specs.handle_core.DecidingRules.{term_rules}
use Rattle.go_summary_core.specs.handle_core.Declarations.{Declaration}
use Rattle.go_summary_core.specs.handle_core.Names.{selection_in}
use Rattle.go_expr_core.specs.Looks.{Looks}

abbrev pub by_bytes : List ℕ → List ℕ → Ordering
by_bytes = slice_cmp nat_cmp

abbrev pub is_declared : {D P : Type 0} → Outcome D P → Bool
is_declared (outcomes.Declared d) = true
is_declared (outcomes.Selected d path) = true
is_declared (outcomes.Refused rule) = false

-- the names that pass, and no others, each once
pub record AreNames (passes : List ℕ → Bool) (names : List (List ℕ)) : Type 0 where
  pub rising : IsStrictlySortedBy by_bytes names
  pub each : (name : List ℕ) → Contains names name ↔ (passes name ≡ true)

abbrev pub TheLooks : Type 0
TheLooks = Looks Term Sign Declaration (List ℕ)

-- look-ups by which types are those of a table, as the package of a path sees them
pub record SeesTypes (looks : TheLooks) (es : List Entry) (path : List ℕ) : Type 0 where
  pub types : looks.types ≡ term_rules es path
  pub select : looks.select ≡ selection_in es path
