-- Types that are written inside functions and in initialisers, by the offsets of their first bytes.
--
-- docs/RULES.md, "Types inside functions". The Go specification, "Types", "Composite literals".
use Rattle.std.specs.Prelude.{ℕ, List, Option, nat_eq}
use Rattle.std.specs.Map.{lookup}
use Rattle.go_term_core.specs.Terms.{Term}
use Rattle.go_term_core.specs.Shapes.{shape}
use Rattle.go_names_core.specs.local_core.declared.Fault.{Fault}
use Rattle.go_inline_core.specs.declared.types.InlineType.{InlineType}

-- a type, settled, and the faults of its fields, its methods and their parameters
pub record InlineOf : Type 0 where
  pub term : Term
  pub faults : List Fault

abbrev pub inline_shown : InlineType → InlineOf
inline_shown t = record { term = shape t.term; faults = t.faults.items }

-- the one at an offset: of two the first
abbrev pub inline_at : List (ℕ × InlineOf) → ℕ → Option InlineOf
inline_at types offset = lookup (nat_eq offset) types
