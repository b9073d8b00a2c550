-- What names stand for at a place of a program, as look-ups: T are types, S signatures, D declarations, P paths of embedded fields.
use Rattle.std.specs.Prelude.{ℕ, List, Option}
use Rattle.go_operand_core.specs.TypeRules.{TypeRules}
use Rattle.go_denote_core.specs.declared.things.Found.{Found}
use Rattle.go_denote_core.specs.declared.things.Exported.{Exported}
use Rattle.go_denote_core.specs.declared.things.Selection.{Selection}

pub record NameRules (T S D P : Type 0) : Type 0 where
  -- what a name stands for at the place
  pub find : List ℕ → Found T S D
  -- what a name of the package of an import stands for, seen from the place
  pub exported : D → List ℕ → Exported T S D
  -- the member of a value of the type, asked for from the place
  pub select : T → List ℕ → Selection T S D P
  -- the types of the parameters and of the results of a signature: none where one has no type
  pub params : S → List (Option T)
  pub results : S → List (Option T)

pub record Look (T S D P : Type 0) : Type 0 where
  pub types : TypeRules T
  pub names : NameRules T S D P

abbrev pub look_of : {T S D P : Type 0} → TypeRules T → NameRules T S D P → Look T S D P
look_of types names = record { types = types; names = names }
