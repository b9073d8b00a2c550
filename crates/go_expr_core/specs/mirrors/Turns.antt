-- What one element of a literal adds, by the mark of its key.
use Rattle.std.specs.Prelude.{ℕ, Bool, List, [], ◌∷◌, ◌++◌, Option, Some, None}
use Rattle.go_tree_nodes.specs.declared.exprs.Key.{Key}
use Rattle.go_tree_nodes.specs.Trees.{ExprTree}
use Rattle.go_tree_core.specs.declared.occurrence.Role.TheVariants as roles
use Rattle.go_denote_core.specs.declared.things.Stand.TheVariants as stands
use Rattle.go_denote_core.specs.declared.composite.things.Mode.{Mode}
use Rattle.go_denote_core.specs.composite.Literals.{element_target}
use Rattle.go_denote_core.specs.declared.composite.things.KeyMark.{KeyMark}
use Rattle.go_denote_core.specs.composite.Marks.{marked_answer}
use Rattle.go_expr_core.specs.declared.things.Use.{Use}
use Rattle.go_local_core.specs.declared.Fault.{Fault}
use Rattle.go_expr_core.specs.Looks.{Looks, literals_at}
use Rattle.go_expr_core.specs.Places.{start, item_start}
use Rattle.go_expr_core.specs.Denoting.{denoted}
use Rattle.go_expr_core.specs.Elements.{element_rule}
use Rattle.go_expr_core.specs.Uses.{made_use, uses}
use Rattle.go_expr_core.specs.Faults.{fault_at, operand_faults}

abbrev pub key_uses_marked : {T S D P : Type 0} → Looks T S D P → Option T → Bool → KeyMark → Option Key → List (Use D P)
key_uses_marked looks t mixed mark None = []
key_uses_marked looks t mixed mark (Some k) = made_use k.name.span.start roles.Key (marked_answer (literals_at looks k.name.span.start) t mixed mark k.name.name).outcome ∷ []

abbrev pub key_target_marked : {T S D P : Type 0} → Looks T S D P → Option T → Bool → KeyMark → Option Key → Option T
key_target_marked looks t mixed mark None = None
key_target_marked looks t mixed mark (Some k) = (marked_answer (literals_at looks k.name.span.start) t mixed mark k.name.name).target

abbrev pub turn_uses : {T S D P : Type 0} → Looks T S D P → Option T → Bool → KeyMark → Option Key → ExprTree → List (Use D P)
turn_uses looks t mixed mark key e = key_uses_marked looks t mixed mark key ++ uses looks stands.«Value» e

abbrev pub turn_faults : {T S D P : Type 0} → Looks T S D P → Option T → Mode → Bool → ℕ → KeyMark → Option Key → ExprTree → List Fault
turn_faults looks t mode mixed number mark key e =
    operand_faults looks stands.«Value» e
    ++ fault_at (item_start key e) (element_rule looks (start e) (element_target (literals_at looks (start e)) t mode number (key_target_marked looks t mixed mark key)) (denoted looks stands.«Value» e))
