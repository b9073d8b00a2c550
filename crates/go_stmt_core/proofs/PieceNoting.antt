-- Rules that are noted behind what was noted before.
use Rattle.std.proofs.Common.{◌≡◌, ℕ, Bool, List, ◌++◌, ap, ◌∙◌}
use Rattle.std.specs.Prelude.{Option}
use Rattle.go_constant_core.specs.text_core.declared.rule.Rule.{Rule}
use Rattle.go_expr_core.specs.operand_core.TypeRules.{TypeRules}
use Rattle.go_expr_core.specs.denote_core.declared.things.Argument.{Argument}
use Rattle.go_stmt_core.specs.declared.statement.targets.Target.{Target}
use Rattle.go_stmt_core.specs.statement.Assignments.{assignment_rule}
use Rattle.go_expr_core.specs.local_core.declared.Fault.{Fault}
use Rattle.go_expr_core.specs.Faults.{fault_at}
use Rattle.go_expr_core.proofs.Steps.{both}

pub noted_behind : (f0 f1 f2 a : List Fault) (offset offset' : ℕ) (rule rule' : Option Rule) → f1 ≡ f0 ++ a → f2 ≡ f1 ++ fault_at offset rule → offset ≡ offset' → rule ≡ rule' → f2 ≡ f0 ++ (a ++ fault_at offset' rule')
noted_behind f0 f1 f2 a offset offset' rule rule' first second p q =
    both f0 f1 f2 a (fault_at offset rule) (a ++ fault_at offset' rule') first second (ap (λ n. a ++ fault_at n rule) p ∙ ap (λ r. a ++ fault_at offset' r) q)

pub assignment_of : {T : Type 0} (rules : TypeRules T) (ts ts' : List (Target T)) (b b' : Bool) (gs gs' : List (Argument T)) → ts ≡ ts' → b ≡ b' → gs ≡ gs' → assignment_rule rules ts b gs ≡ assignment_rule rules ts' b' gs'
assignment_of rules ts ts' b b' gs gs' p q r =
    ap (λ l. assignment_rule rules l b gs) p ∙ (ap (λ x. assignment_rule rules ts' x gs) q ∙ ap (assignment_rule rules ts' b') r)
