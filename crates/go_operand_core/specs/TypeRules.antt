-- What operands are judged by: look-ups on types, over any handles of types.
use Rattle.std.specs.Prelude.{Bool}
use Rattle.go_operand_core.specs.declared.types.TypeForm.{TypeForm}

pub record TypeRules (T : Type 0) : Type 0 where
  -- what lies under a type
  pub form : T → TypeForm T
  pub pointer_to : T → T
  -- the predeclared types
  pub int : T
  pub string : T
  pub bool : T
  pub any : T
  pub identical : T → T → Bool
  -- a value of the first type is assignable to a variable of the second, interfaces that it implements included
  pub assignable : T → T → Bool
  -- a value of the first type is convertible to the second, beside what is assignable and integers that become strings: the underlying
  -- types are identical apart from tags, or both are pointer types that are not named, whose base types have such underlying types
  pub convertible : T → T → Bool
