-- How the functions of a package are listed.
use Rattle.std.specs.Prelude.{ℕ, suc, List, [], ◌∷◌, ◌++◌, codes, decimal}
use Rattle.go_object_core.specs.instructions.Writing.{instruction_text}
use Rattle.go_object_core.specs.declared.instructions.instruction.Instruction.{Instruction}
use Rattle.go_object_core.specs.declared.object.FunctionCode.{FunctionCode}
use Rattle.go_object_core.specs.Objects.{FunctionOf, function_shown}

abbrev pub references_of : {D : Type 0} → FunctionCode D → List D
references_of f = (function_shown f).references

-- the references from the n-th on
abbrev pub reference_lines : {D : Type 0} → (D → List ℕ) → ℕ → List D → List ℕ
reference_lines spelled n [] = []
reference_lines spelled n (d ∷ ds) = (codes "ref " ++ (decimal n ++ (codes " " ++ (spelled d ++ codes "\n")))) ++ reference_lines spelled (suc n) ds

-- the instructions from the n-th on
abbrev pub code_lines : ℕ → List Instruction → List ℕ
code_lines n [] = []
code_lines n (i ∷ code) = (decimal n ++ (codes " " ++ (instruction_text i ++ codes "\n"))) ++ code_lines (suc n) code

abbrev pub function_lines : {D : Type 0} → (D → List ℕ) → FunctionOf D → List ℕ
function_lines spelled f =
    codes "func " ++ (spelled f.declaration ++ (codes " slots " ++ (decimal f.slots ++ (codes "\n" ++ (reference_lines spelled 0 f.references ++ code_lines 0 f.code)))))

abbrev pub listing_of : {D : Type 0} → (D → List ℕ) → List (FunctionOf D) → List ℕ
listing_of spelled [] = []
listing_of spelled (f ∷ fs) = function_lines spelled f ++ listing_of spelled fs
