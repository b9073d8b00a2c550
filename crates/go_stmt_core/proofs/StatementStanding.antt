-- Expression statements, conditions, and operators with `=`.
use Rattle.std.proofs.Common.{◌≡◌, Bool, true, false, refl, ap, ◌∙◌, ◌⊎◌, inl, inr}
use Rattle.std.specs.Prelude.{Option, Some, None, IfSome, if◌then◌else◌}
use Rattle.go_constant_core.specs.text_core.declared.rule.Rule.{Rule}
use Rattle.go_constant_core.specs.text_core.declared.rule.Rule.TheVariants.{Y3, Y8, X1}
use Rattle.go_tree_nodes.specs.token_core.declared.kind.Operator.{Operator}
use Rattle.go_tree_nodes.specs.token_core.declared.kind.Operator.TheVariants as operators
use Rattle.go_term_core.specs.declared.term.Basic.{Basic}
use Rattle.go_term_core.specs.declared.term.Basic.TheVariants as basics
use Rattle.go_expr_core.specs.operand_core.declared.types.Operand.{Operand}
use Rattle.go_expr_core.specs.operand_core.TypeRules.{TypeRules}
use Rattle.go_expr_core.specs.operand_core.Values.{is_over, basic_under}
use Rattle.go_expr_core.specs.operand_core.Updates.{update}
use Rattle.go_expr_core.specs.denote_core.declared.things.Builtin.TheVariants as builtins
use Rattle.go_expr_core.specs.denote_core.declared.things.Denoted.{Denoted}
use Rattle.go_expr_core.specs.denote_core.declared.things.Denoted.TheVariants as denotes
use Rattle.go_expr_core.specs.denote_core.declared.things.Argument.{Argument}
use Rattle.go_expr_core.specs.denote_core.declared.things.Argument.TheVariants as arguments
use Rattle.go_expr_core.specs.denote_core.Arguments.{is_refused, single_rule}
use Rattle.go_stmt_core.specs.statement.Statements.{is_statement, called_rule, condition_rule}
use Rattle.go_stmt_core.specs.statement.Updates.{bits_rule, update_rule}
use Rattle.go_stmt_core.specs.statement.Laws.{MayStand, IsCallOf, CallsStand, ConditionsAreBoolean, IsBitAssignment, IsSumAssignment, UpdatesStand}

-- expression statements

may_stand : {T S D : Type 0} (callee : Denoted T S D) → is_statement callee ≡ true → MayStand callee
may_stand (denotes.«Type» d t) h = absurd cc
may_stand (denotes.Builtin d builtins.Len) h = absurd cc
may_stand (denotes.Builtin d builtins.Panic) h = ((λ e t k. absurd cc), (λ e k. absurd cc))
may_stand (denotes.Builtin d builtins.Print) h = ((λ e t k. absurd cc), (λ e k. absurd cc))
may_stand denotes.Refused h = ((λ e t k. absurd cc), (λ e k. absurd cc))
may_stand denotes.Typeless h = ((λ e t k. absurd cc), (λ e k. absurd cc))
may_stand (denotes.«Package» d) h = ((λ e t k. absurd cc), (λ e k. absurd cc))
may_stand (denotes.«Value» o) h = ((λ e t k. absurd cc), (λ e k. absurd cc))
may_stand (denotes.Several s) h = ((λ e t k. absurd cc), (λ e k. absurd cc))
may_stand denotes.Nothing h = ((λ e t k. absurd cc), (λ e k. absurd cc))
may_stand (denotes.Func d s) h = ((λ e t k. absurd cc), (λ e k. absurd cc))

stands : {T S D : Type 0} (callee : Denoted T S D) → MayStand callee → is_statement callee ≡ true
stands (denotes.«Type» d t) h = absurd (h.0 d t refl)
stands (denotes.Builtin d builtins.Len) h = absurd (h.1 d refl)
stands (denotes.Builtin d builtins.Panic) h = refl
stands (denotes.Builtin d builtins.Print) h = refl
stands denotes.Refused h = refl
stands denotes.Typeless h = refl
stands (denotes.«Package» d) h = refl
stands (denotes.«Value» o) h = refl
stands (denotes.Several s) h = refl
stands denotes.Nothing h = refl
stands (denotes.Func d s) h = refl

abbrev eighth : Bool → Option Rule
eighth b = if b then None else Some Y8

eighth_only : (b : Bool) → eighth b ≡ None → b ≡ true
eighth_only true h = refl
eighth_only false h = absurd cc

call_of : {T S D : Type 0} (callee : Option (Denoted T S D)) → called_rule callee ≡ None → IsCallOf callee
call_of None h = absurd cc
call_of (Some c) h = record { called = c; callee_is = refl; may_stand = may_stand c (eighth_only (is_statement c) h) }

of_call : {T S D : Type 0} (callee : Option (Denoted T S D)) → IsCallOf callee → called_rule callee ≡ None
of_call callee h = ap called_rule h.callee_is ∙ ap eighth (stands h.called h.may_stand)

statement_stands : {T S D : Type 0} (refused : Bool) (callee : Option (Denoted T S D)) → (if refused then None else called_rule callee) ≡ None → (refused ≡ true) ⊎ IsCallOf callee
statement_stands true callee h = inl refl
statement_stands false callee h = inr (call_of callee h)

stands_statement : {T S D : Type 0} (refused : Bool) (callee : Option (Denoted T S D)) → ((refused ≡ true) ⊎ IsCallOf callee) → (if refused then None else called_rule callee) ≡ None
stands_statement true callee h = refl
stands_statement false callee (inl h) = absurd cc
stands_statement false callee (inr h) = of_call callee h

called_only : {T S D : Type 0} (callee : Option (Denoted T S D)) → IfSome (called_rule callee) (λ rule. rule ≡ Y8)
called_only None = refl
called_only (Some c) = eighth_alone (is_statement c) where
  eighth_alone : (b : Bool) → IfSome (eighth b) (λ rule. rule ≡ Y8)
  eighth_alone true = tt
  eighth_alone false = refl

statement_only : {T S D : Type 0} (refused : Bool) (callee : Option (Denoted T S D)) → IfSome (if refused then None else called_rule callee) (λ rule. rule ≡ Y8)
statement_only true callee = tt
statement_only false callee = called_only callee

pub calls : {T S D : Type 0} → CallsStand T S D
calls = record {
  stands = λ callee denoted. (statement_stands (is_refused denoted) callee, stands_statement (is_refused denoted) callee);
  only = λ callee denoted. statement_only (is_refused denoted) callee;
}

-- conditions

abbrev third : Bool → Option Rule
third b = if b then None else Some Y3

over_bool : (b : Option Basic) → third (is_over basics.Bool b) ≡ None → b ≡ Some basics.Bool
over_bool None h = absurd cc
over_bool (Some basics.Bool) h = refl
over_bool (Some basics.Int) h = absurd cc
over_bool (Some basics.Text) h = absurd cc

third_only : (b : Bool) → IfSome (third b) (λ rule. rule ≡ Y3)
third_only true = tt
third_only false = refl

condition_single : {T S D : Type 0} (rules : TypeRules T) (denoted : Denoted T S D) → single_rule denoted ≡ Some Y3 → condition_rule rules denoted ≡ Some Y3
condition_single rules (denotes.Several s) h = refl
condition_single rules denotes.Nothing h = refl
condition_single rules (denotes.«Value» o) h = absurd cc
condition_single rules denotes.Refused h = absurd cc
condition_single rules denotes.Typeless h = absurd cc
condition_single rules (denotes.«Package» d) h = absurd cc
condition_single rules (denotes.«Type» d t) h = absurd cc
condition_single rules (denotes.Func d s) h = absurd cc
condition_single rules (denotes.Builtin d b) h = absurd cc

condition_refused : {T S D : Type 0} (rules : TypeRules T) (denoted : Denoted T S D) → is_refused denoted ≡ true → condition_rule rules denoted ≡ None
condition_refused rules denotes.Refused h = refl
condition_refused rules denotes.Typeless h = refl
condition_refused rules (denotes.Several s) h = absurd cc
condition_refused rules denotes.Nothing h = absurd cc
condition_refused rules (denotes.«Value» o) h = absurd cc
condition_refused rules (denotes.«Package» d) h = absurd cc
condition_refused rules (denotes.«Type» d t) h = absurd cc
condition_refused rules (denotes.Func d s) h = absurd cc
condition_refused rules (denotes.Builtin d b) h = absurd cc

condition_only : {T S D : Type 0} (rules : TypeRules T) (denoted : Denoted T S D) → IfSome (condition_rule rules denoted) (λ rule. rule ≡ Y3)
condition_only rules (denotes.«Value» o) = third_only (is_over basics.Bool (basic_under rules o.value_type))
condition_only rules (denotes.Several s) = refl
condition_only rules denotes.Nothing = refl
condition_only rules denotes.Refused = tt
condition_only rules denotes.Typeless = tt
condition_only rules (denotes.«Package» d) = tt
condition_only rules (denotes.«Type» d t) = tt
condition_only rules (denotes.Func d s) = tt
condition_only rules (denotes.Builtin d b) = tt

not_single : {T S D : Type 0} (denoted : Denoted T S D) → single_rule denoted ≡ Some Y3 → (denoted ≡ denotes.Nothing) ⊎ ((s : S) × (denoted ≡ denotes.Several s))
not_single (denotes.Several s) h = inr (s, refl)
not_single denotes.Nothing h = inl refl
not_single (denotes.«Value» o) h = absurd cc
not_single denotes.Refused h = absurd cc
not_single denotes.Typeless h = absurd cc
not_single (denotes.«Package» d) h = absurd cc
not_single (denotes.«Type» d t) h = absurd cc
not_single (denotes.Func d s) h = absurd cc
not_single (denotes.Builtin d b) h = absurd cc

single_not : {T S D : Type 0} (denoted : Denoted T S D) → ((denoted ≡ denotes.Nothing) ⊎ ((s : S) × (denoted ≡ denotes.Several s))) → single_rule denoted ≡ Some Y3
single_not denoted (inl e) = ap single_rule e
single_not denoted (inr h) = ap single_rule h.1

single_only : {T S D : Type 0} (denoted : Denoted T S D) → IfSome (single_rule denoted) (λ rule. rule ≡ Y3)
single_only (denotes.Several s) = refl
single_only denotes.Nothing = refl
single_only (denotes.«Value» o) = tt
single_only denotes.Refused = tt
single_only denotes.Typeless = tt
single_only (denotes.«Package» d) = tt
single_only (denotes.«Type» d t) = tt
single_only (denotes.Func d s) = tt
single_only (denotes.Builtin d b) = tt

pub conditions : {T S D : Type 0} → ConditionsAreBoolean T S D
conditions = record {
  boolean = λ rules o. (over_bool (basic_under rules o.value_type), (λ h. ap (λ b. third (is_over basics.Bool b)) h));
  single = condition_single;
  refused = condition_refused;
  only = condition_only;
  not_single = λ denoted. (not_single denoted, single_not denoted);
  only_single = single_only;
}

-- operators with `=`

bits_of : {T : Type 0} (rules : TypeRules T) (op : Operator) (x y : Argument T) → (bits_rule op ≡ Some X1) → ((a b : Operand T) → update rules op a b ≡ Some X1) → update_rule rules op x y ≡ Some X1
bits_of rules op arguments.Refused y h k = h
bits_of rules op arguments.Void y h k = h
bits_of rules op (arguments.«Value» a) arguments.Refused h k = h
bits_of rules op (arguments.«Value» a) arguments.Void h k = h
bits_of rules op (arguments.«Value» a) (arguments.«Value» b) h k = k a b

by_bits : {T : Type 0} (rules : TypeRules T) (op token : Operator) (x y : Argument T) → op ≡ token → (bits_rule token ≡ Some X1) → ((a b : Operand T) → update rules token a b ≡ Some X1) → update_rule rules op x y ≡ Some X1
by_bits rules op token x y e h k = ap (λ o. update_rule rules o x y) e ∙ bits_of rules token x y h k

bits_outside : {T : Type 0} (rules : TypeRules T) (op : Operator) (x y : Argument T) → IsBitAssignment op → update_rule rules op x y ≡ Some X1
bits_outside rules op x y (inl e) = by_bits rules op operators.AndAssign x y e refl (λ a b. refl)
bits_outside rules op x y (inr (inl e)) = by_bits rules op operators.OrAssign x y e refl (λ a b. refl)
bits_outside rules op x y (inr (inr (inl e))) = by_bits rules op operators.CaretAssign x y e refl (λ a b. refl)
bits_outside rules op x y (inr (inr (inr (inl e)))) = by_bits rules op operators.AndNotAssign x y e refl (λ a b. refl)
bits_outside rules op x y (inr (inr (inr (inr (inl e))))) = by_bits rules op operators.ShiftLeftAssign x y e refl (λ a b. refl)
bits_outside rules op x y (inr (inr (inr (inr (inr e))))) = by_bits rules op operators.ShiftRightAssign x y e refl (λ a b. refl)

no_bits : (op : Operator) → IsSumAssignment op → bits_rule op ≡ None
no_bits op (inl e) = ap bits_rule e
no_bits op (inr (inl e)) = ap bits_rule e
no_bits op (inr (inr (inl e))) = ap bits_rule e
no_bits op (inr (inr (inr (inl e)))) = ap bits_rule e
no_bits op (inr (inr (inr (inr e)))) = ap bits_rule e

refused_right : {T : Type 0} (rules : TypeRules T) (op : Operator) (x : Argument T) → IsSumAssignment op → update_rule rules op x arguments.Refused ≡ None
refused_right rules op arguments.Refused h = no_bits op h
refused_right rules op arguments.Void h = no_bits op h
refused_right rules op (arguments.«Value» a) h = no_bits op h

pub updates : {T : Type 0} → UpdatesStand T
updates = record {
  of_values = λ rules op x y. refl;
  bits = bits_outside;
  refused_left = λ rules op y h. no_bits op h;
  refused_right = refused_right;
  of_value = λ rules x. refl;
  refused = λ rules. refl;
}
