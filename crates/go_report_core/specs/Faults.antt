-- The faults of a piece of a program beside what its occurrences have, as they are reported.
--
-- docs/RULES.md, "Expressions: roles, order, faults of parts". The Go specification states what a program must not do; where a fault is
-- reported, and which of two comes first, is this program's own.
use Rattle.std.specs.Prelude.{◌≡◌, ◌⊎◌, ◌<◌, List, [], ◌∷◌, AllPairs, Contains}
use Rattle.std.specs.Cmp.Lexicographic.{slice_cmp}
use Rattle.std.specs.Ordering.{nat_cmp, ordering_then}
use Rattle.std.specs.declared.cmp.Ordering.{Ordering}
use Rattle.std.specs.declared.cmp.Ordering.TheVariants.{Less}
use Rattle.go_path_core.specs.text_core.declared.rule.Rule.{Rule}
use Rattle.go_path_core.specs.text_core.Rules.{rule_number}
use Rattle.go_expr_core.specs.denote_core.declared.things.Outcome.TheVariants as outcomes
use Rattle.go_expr_core.specs.declared.things.Use.{Use}
use Rattle.go_expr_core.specs.local_core.declared.Fault.{Fault}

-- the numbers of two rules, by their bytes
abbrev pub number_order : Rule → Rule → Ordering
number_order r s = slice_cmp nat_cmp (rule_number r) (rule_number s)

-- by place, then by the rule's number
abbrev pub fault_order : Fault → Fault → Ordering
fault_order f g = ordering_then (nat_cmp f.offset g.offset) (number_order f.rule g.rule)

-- the one stands before the other: at an earlier place, or at the same by a rule whose number is before the other's by bytes
abbrev pub ComesBefore : Fault → Fault → Type 0
ComesBefore f g = (f.offset < g.offset) ⊎ ((f.offset ≡ g.offset) × (number_order f.rule g.rule ≡ Less))

-- the outcome of an occurrence at the fault's place is its rule
abbrev pub IsSaid : {D P : Type 0} → List (Use D P) → Fault → Type 0
IsSaid [] f = ⊥
IsSaid (u ∷ us) f = ((u.offset ≡ f.offset) × (u.outcome ≡ outcomes.Refused f.rule)) ⊎ IsSaid us f

-- what faults settle to beside what occurrences have: in order, those that no outcome says
pub record IsSettled (D P : Type 0) (uses : List (Use D P)) (faults settled : List Fault) : Type 0 where
  pub ordered : AllPairs ComesBefore settled
  pub kept : (f : Fault) → Contains faults f → ¬ IsSaid uses f → Contains settled f
  pub found : (f : Fault) → Contains settled f → Contains faults f
  pub unsaid : (f : Fault) → Contains settled f → ¬ IsSaid uses f
