-- Programs that were worked out by hand.
use Rattle.std.specs.Prelude.{◌≡◌, ℕ, Bool, true, false, List, [], ◌∷◌, codes, Option, Some, None, ℤ, pos, neg_ℤ}
use Rattle.go_object_core.specs.declared.instructions.instruction.Distance.TheVariants as distances
use Rattle.go_object_core.specs.declared.instructions.instruction.Instruction.{Instruction}
use Rattle.go_object_core.specs.declared.instructions.instruction.Instruction.TheVariants as instructions
use Rattle.go_object_core.specs.declared.instructions.letters.Word.TheVariants as words
use Rattle.go_object_core.specs.Objects.{FunctionOf, ObjectOf}
use Rattle.go_machine_core.specs.declared.state.PanicValue.TheVariants as panics
use Rattle.go_machine_core.specs.Machine.{Ended, Panicked, Spent, Run}
use Rattle.go_machine_core.specs.link.Functions.{PlaceModel}
use Rattle.go_machine_core.specs.link.Packages.{entry_in}
use Rattle.go_machine_core.specs.link.Order.{starts_of}
use Rattle.go_machine_core.specs.link.Linked.{HasNoMain, IsBeyond, ProgramOf, RunnableOf, program_of}
use Rattle.go_machine_core.specs.runs.Runs.{comes_to}

-- a function of the package of a path, by its number in the one file of the package
abbrev pub at : List ℕ → ℕ → PlaceModel
at path number = record { path = path; file = 0; number = number }

abbrev pub function : PlaceModel → List ℕ → ℕ → List PlaceModel → List Instruction → FunctionOf PlaceModel
function place name slots references code = record { declaration = place; name = name; has_receiver = false; slots = slots; references = references; code = code }

abbrev pub package_with : List ℕ → List ℕ → List (List ℕ) → List (FunctionOf PlaceModel) → ObjectOf PlaceModel
package_with path name imports functions = record { path = path; name = name; imports = imports; functions = functions }

abbrev pub m : List ℕ
m = codes "ex.com/m"

-- a package of one function `main`
abbrev pub alone : List ℕ → ℕ → List Instruction → List (ObjectOf PlaceModel)
alone name slots code = package_with m name [] (function (at m 0) (codes "main") slots [] code ∷ []) ∷ []

abbrev pub program : List (ObjectOf PlaceModel) → ProgramOf
program os = program_of (λ d. Some d) os m

-- what the one function of a program comes to
abbrev pub comes : ℕ → List Instruction → ℕ → Run
comes slots code steps = comes_to (record { functions = (program (alone (codes "main") slots code)).functions; starts = 0 ∷ [] }) steps

-- println(1 + 2, true)
abbrev pub sum_and_truth : List Instruction
sum_and_truth = instructions.Push (pos 3) ∷ instructions.Push (pos 1) ∷ instructions.Println (words.Int ∷ words.Bool ∷ []) ∷ instructions.Return false ∷ []

-- x := 0; println(7 / x)
abbrev pub by_zero : List Instruction
by_zero =
    instructions.Push (pos 0) ∷ instructions.Store 0 ∷ instructions.Push (pos 7) ∷ instructions.Load 0 ∷ instructions.Div ∷ instructions.Println (words.Int ∷ [])
    ∷ instructions.Return false ∷ []

-- if x := 1; x > 0 { println(x) }
abbrev pub tested : List Instruction
tested =
    instructions.Push (pos 1) ∷ instructions.Store 0 ∷ instructions.Load 0 ∷ instructions.Push (pos 0) ∷ instructions.Gt ∷ instructions.JumpFalse 2
    ∷ instructions.Load 0 ∷ instructions.Println (words.Int ∷ []) ∷ instructions.Return false ∷ []

-- each instruction but `Outside`, in a function that calls another one: 20 / 3 in it
abbrev pub every : List Instruction
every =
    instructions.Push (pos 6) ∷ instructions.Store 0 ∷ instructions.Load 0 ∷ instructions.Push (pos 4) ∷ instructions.Sub ∷
    instructions.Push (pos 3) ∷ instructions.Mul ∷ instructions.Push (pos 4) ∷ instructions.Rem ∷ instructions.Neg ∷
    instructions.Println (words.Int ∷ []) ∷ instructions.Push (pos 1) ∷ instructions.Not ∷ instructions.Push (pos 0) ∷ instructions.Eq ∷
    instructions.Push (pos 1) ∷ instructions.Ne ∷ instructions.Push (pos 5) ∷ instructions.Lt ∷ instructions.Push (pos 1) ∷
    instructions.Le ∷ instructions.Push (pos 2) ∷ instructions.Ge ∷ instructions.Push (pos 0) ∷ instructions.Gt ∷
    instructions.Println (words.Bool ∷ []) ∷ instructions.Jump (distances.Forward 1) ∷ instructions.Push (pos 9) ∷
    instructions.Push (pos 3) ∷ instructions.Push (pos 4) ∷ instructions.Add ∷ instructions.Drop ∷ instructions.Push (pos 20) ∷
    instructions.Push (pos 3) ∷ instructions.Call 0 2 ∷ instructions.Println (words.Int ∷ []) ∷ instructions.Load 0 ∷
    instructions.JumpFalse 2 ∷ instructions.Push (pos 1) ∷ instructions.Panic words.Int ∷ instructions.Return false ∷ []

-- panic(x) of a truth
abbrev pub with_truth : List Instruction
with_truth = instructions.Push (pos 1) ∷ instructions.Panic words.Bool ∷ instructions.Return false ∷ []

abbrev pub divides : List Instruction
divides =
    instructions.Load 0 ∷ instructions.Load 1 ∷ instructions.Div ∷ instructions.Return true ∷ []

abbrev pub both : List (ObjectOf PlaceModel)
both = package_with m (codes "main") [] (function (at m 0) (codes "main") 1 (at m 1 ∷ []) every ∷ function (at m 1) (codes "divides") 2 [] divides ∷ []) ∷ []

-- -7 / 2, -7 % 2, and the least word by -1
abbrev pub truncated : List Instruction
truncated =
    instructions.Push (neg_ℤ (pos 7)) ∷ instructions.Push (pos 2) ∷ instructions.Div ∷ instructions.Push (neg_ℤ (pos 7)) ∷ instructions.Push (pos 2) ∷ instructions.Rem ∷
    instructions.Push (neg_ℤ (pos 9223372036854775808)) ∷ instructions.Push (neg_ℤ (pos 1)) ∷ instructions.Div ∷
    instructions.Println (words.Int ∷ words.Int ∷ words.Int ∷ []) ∷ instructions.Return false ∷ []

-- a package that imports others and has a function `init`
abbrev pub initialising : List ℕ → List ℕ → List (List ℕ) → List (FunctionOf PlaceModel) → ObjectOf PlaceModel
initialising path name imports more = package_with path name imports (function (at path 0) (codes "init") 0 [] (instructions.Return false ∷ []) ∷ more)

-- a imports c, and m imports a and b
abbrev pub object_a : ObjectOf PlaceModel
object_a = initialising (codes "ex.com/a") (codes "a") (codes "ex.com/c" ∷ []) []

abbrev pub object_b : ObjectOf PlaceModel
object_b = initialising (codes "ex.com/b") (codes "b") [] []

abbrev pub object_c : ObjectOf PlaceModel
object_c = initialising (codes "ex.com/c") (codes "c") [] []

abbrev pub object_m : ObjectOf PlaceModel
object_m = initialising m (codes "main") (codes "ex.com/a" ∷ codes "ex.com/b" ∷ []) (function (at m 1) (codes "main") 0 [] (instructions.Return false ∷ []) ∷ [])

abbrev pub four : List (ObjectOf PlaceModel)
four = object_a ∷ object_b ∷ object_c ∷ object_m ∷ []

abbrev pub turned : List (ObjectOf PlaceModel)
turned = object_m ∷ object_c ∷ object_b ∷ object_a ∷ []

pub record SamplesRun : Type 0 where
  pub sum_ends : comes 0 sum_and_truth 4 ≡ Ended (codes "3 true\n")
  pub sum_spends : comes 0 sum_and_truth 3 ≡ Spent (codes "3 true\n")
  pub zero_spends : comes 1 by_zero 4 ≡ Spent []
  pub zero_panics : comes 1 by_zero 5 ≡ Panicked panics.DivideByZero []
  pub truth_panics : comes 0 with_truth 2 ≡ Panicked (panics.Bool true) []
  pub test_ends : comes 1 tested 9 ≡ Ended (codes "1\n")
  pub test_spends : comes 1 tested 8 ≡ Spent (codes "1\n")
  pub begins : entry_in (program (alone (codes "main") 0 [])).packages (program (alone (codes "main") 0 [])).main ≡ Some (record { root = 0; main = 0 })
  pub another_name : HasNoMain (program (alone (codes "a") 0 sum_and_truth))
  pub outside : IsBeyond (program (alone (codes "main") 0 (instructions.Outside ∷ [])))
  pub every_panics : comes_to (record { functions = (program both).functions; starts = 0 ∷ [] }) 43 ≡ Panicked (panics.Int (pos 1)) (codes "-2\nfalse\n6\n")
  pub every_spends : comes_to (record { functions = (program both).functions; starts = 0 ∷ [] }) 42 ≡ Spent (codes "-2\nfalse\n6\n")
  pub truncates : comes 0 truncated 11 ≡ Ended (codes "-3 -1 -9223372036854775808\n")
  -- b, c, a and m are initialised in this order, wherever their objects stand
  pub in_order : starts_of (program four).packages (program four).order (true ∷ true ∷ true ∷ true ∷ []) 4 ≡ 1 ∷ 2 ∷ 0 ∷ 3 ∷ 4 ∷ []
  pub in_any_order : starts_of (program turned).packages (program turned).order (true ∷ true ∷ true ∷ true ∷ []) 1 ≡ 3 ∷ 2 ∷ 4 ∷ 0 ∷ 1 ∷ []
