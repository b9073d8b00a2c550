-- The fields of struct types at a place of a program, as look-ups beside those of names: T are types, S signatures, D declarations,
-- P paths of embedded fields.
use Rattle.std.specs.Prelude.{ℕ, List}
use Rattle.go_operand_core.specs.TypeRules.{TypeRules}
use Rattle.go_denote_core.specs.Look.{NameRules}
use Rattle.go_denote_core.specs.declared.composite.things.LiteralField.{LiteralField}

-- a field of a struct type: how it is spelled, and what is known of it at the place
pub record FieldOf (T D : Type 0) : Type 0 where
  pub name : List ℕ
  pub known : LiteralField T D

pub record LiteralRules (T D : Type 0) : Type 0 where
  -- the fields of a struct type in order, blank ones included, as the place sees them
  pub fields : T → List (FieldOf T D)

pub record LiteralLook (T S D P : Type 0) : Type 0 where
  pub types : TypeRules T
  pub names : NameRules T S D P
  pub literals : LiteralRules T D

abbrev pub literal_look_of : {T S D P : Type 0} → TypeRules T → NameRules T S D P → LiteralRules T D → LiteralLook T S D P
literal_look_of types names literals = record { types = types; names = names; literals = literals }
