-- What an object holds.
use Rattle.std.specs.Prelude.{ℕ, Bool, List, map}
use Rattle.go_object_core.specs.declared.instructions.instruction.Instruction.{Instruction}
use Rattle.go_object_core.specs.declared.object.FunctionCode.{FunctionCode}
use Rattle.go_object_core.specs.declared.object.Object.{Object}

-- a function: its declaration, its name, whether it has a receiver, how many slots it has, what the occurrences of its body come to, and its code
pub record FunctionOf (D : Type 0) : Type 0 where
  pub declaration : D
  pub name : List ℕ
  pub has_receiver : Bool
  pub slots : ℕ
  pub references : List D
  pub code : List Instruction

-- a package: its path, the name in its clauses, the packages that its imports come to, and its functions, in order of file and place
pub record ObjectOf (D : Type 0) : Type 0 where
  pub path : List ℕ
  pub name : List ℕ
  pub imports : List (List ℕ)
  pub functions : List (FunctionOf D)

abbrev pub function_shown : {D : Type 0} → FunctionCode D → FunctionOf D
function_shown f = record { declaration = f.declaration; name = f.name; has_receiver = f.has_receiver; slots = f.slots; references = f.references.items; code = f.code.items }

abbrev pub object_shown : {D : Type 0} → Object D → ObjectOf D
object_shown o = record { path = o.path; name = o.name; imports = o.imports.items; functions = map function_shown o.functions.items }
