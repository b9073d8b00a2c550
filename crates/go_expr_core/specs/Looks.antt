-- What an expression is judged by: names each at its own place, and what does not depend on a place.
use Rattle.std.specs.Prelude.{ℕ, List, Option}
use Rattle.go_tree_nodes.specs.declared.types.TypeName.{TypeName}
use Rattle.go_tree_nodes.specs.Trees.{TypeTree}
use Rattle.go_denote_core.specs.operand_core.TypeRules.{TypeRules}
use Rattle.go_denote_core.specs.declared.things.Found.{Found}
use Rattle.go_denote_core.specs.declared.things.Exported.{Exported}
use Rattle.go_denote_core.specs.declared.things.Selection.{Selection}
use Rattle.go_denote_core.specs.Look.{NameRules, Look, look_of}
use Rattle.go_denote_core.specs.composite.Look.{LiteralRules, LiteralLook, literal_look_of}
use Rattle.go_local_core.specs.declared.Fault.{Fault}

-- struct types that are written out in expressions
pub record WrittenRules (T : Type 0) : Type 0 where
  -- the type, by the types that the names in it denote: none where it is no type
  pub type_of : (TypeName → Option T) → TypeTree → Option T
  -- the faults of its fields and methods, by the same
  pub faults_of : (TypeName → Option T) → TypeTree → List Fault

pub record Looks (T S D P : Type 0) : Type 0 where
  -- what a name stands for where its first byte is at an offset
  pub find : List ℕ → ℕ → Found T S D
  -- what a name of the package of an import stands for
  pub exported : D → List ℕ → Exported T S D
  -- the member of a value of the type
  pub select : T → List ℕ → Selection T S D P
  -- the types of the parameters and of the results of a signature
  pub params : S → List (Option T)
  pub results : S → List (Option T)
  pub types : TypeRules T
  pub literals : LiteralRules T D
  pub written : WrittenRules T

-- what names stand for at one place
abbrev pub names_at : {T S D P : Type 0} → Looks T S D P → ℕ → NameRules T S D P
names_at looks offset = record { find = λ name. looks.find name offset; exported = looks.exported; select = looks.select; params = looks.params; results = looks.results }

abbrev pub look_of_place : {T S D P : Type 0} → Looks T S D P → ℕ → Look T S D P
look_of_place looks offset = look_of looks.types (names_at looks offset)

abbrev pub literals_at : {T S D P : Type 0} → Looks T S D P → ℕ → LiteralLook T S D P
literals_at looks offset = literal_look_of looks.types (names_at looks offset) looks.literals

-- names stand for the same at each place
abbrev pub everywhere : {T S D P : Type 0} → TypeRules T → NameRules T S D P → LiteralRules T D → WrittenRules T → Looks T S D P
everywhere types names literals written = record {
  find = λ name offset. names.find name;
  exported = names.exported;
  select = names.select;
  params = names.params;
  results = names.results;
  types = types;
  literals = literals;
  written = written;
}
