-- Laws of code.
use Rattle.std.specs.Prelude.{◌≡◌, ◌≤◌, ◌<◌, ℕ, suc, true, false, List, [], ◌∷◌, ◌++◌, length}
use Rattle.go_tree_nodes.specs.Trees.{FuncTree}
use Rattle.go_object_core.specs.declared.instructions.instruction.Distance.TheVariants as distances
use Rattle.go_object_core.specs.declared.instructions.instruction.Instruction.{Instruction}
use Rattle.go_object_core.specs.declared.instructions.instruction.Instruction.TheVariants as instructions
use Rattle.go_code_core.specs.fragments.Names.{CodeLooks}
use Rattle.go_code_core.specs.fragments.Slots.{slots_of}
use Rattle.go_code_core.specs.Code.{code_of, frame_in}
use Rattle.go_code_core.specs.fragments.Inside.{in_fragment}

-- with so many instructions up to this one, itself included, and so many behind it, an instruction leads to one of them or to the end
abbrev pub LeadsInside : ℕ → ℕ → Instruction → Type 0
LeadsInside before behind (instructions.Jump (distances.Forward n)) = n ≤ behind
LeadsInside before behind (instructions.Jump (distances.Back n)) = n ≤ before
LeadsInside before behind (instructions.JumpFalse n) = n ≤ behind
LeadsInside before behind _ = Unit {0}

-- each jump leads to an instruction of its code, or to its end
abbrev pub JumpsStayInside : Type 0
JumpsStayInside =
    (looks : CodeLooks) (func : FuncTree) (front rest : List Instruction) (i : Instruction)
    → code_of looks func ≡ front ++ i ∷ rest → LeadsInside (suc (length front)) (length rest) i

-- an instruction that looks at slots looks at one of so many, and one that calls calls by a number that some place of a call has
abbrev pub IsOfFunction : CodeLooks → ℕ → Instruction → Type 0
IsOfFunction looks slots (instructions.Load s) = s < slots
IsOfFunction looks slots (instructions.Store s) = s < slots
IsOfFunction looks slots (instructions.Call reference arguments) = (offset : ℕ) × (reference ≡ looks.reference offset)
IsOfFunction looks slots instructions.Outside = ⊥
IsOfFunction looks slots _ = Unit {0}

-- code of a function of which code is made looks at its slots alone, calls what the function calls, has no `Outside` and ends with `Return 0`
pub record IsClosedCode (looks : CodeLooks) (func : FuncTree) : Type 0 where
  pub each : (front rest : List Instruction) (i : Instruction) → code_of looks func ≡ front ++ i ∷ rest → IsOfFunction looks (length (slots_of looks func)) i
  pub last : (front : List Instruction) × (code_of looks func ≡ front ++ instructions.Return false ∷ [])

abbrev pub CodeIsWhole : Type 0
CodeIsWhole = (looks : CodeLooks) (func : FuncTree) → in_fragment (frame_in looks func) func ≡ true → IsClosedCode looks func

-- of another one the code is one instruction
abbrev pub OutsideIsAlone : Type 0
OutsideIsAlone = (looks : CodeLooks) (func : FuncTree) → in_fragment (frame_in looks func) func ≡ false → code_of looks func ≡ instructions.Outside ∷ []
