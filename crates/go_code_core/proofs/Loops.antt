-- Loops over lists.
use Rattle.std.proofs.Common.{◌≡◌, ℕ, suc, ◌+◌, ◌-◌, List, [], ◌∷◌, ◌++◌, length, sym, ap, ◌∙◌, arith, length-append, add-one}
use Rattle.go_tree_nodes.specs.declared.exprs.«Item» as declared_item
use Rattle.go_tree_nodes.specs.Shapes.{items_of}
use Rattle.go_object_core.specs.declared.instructions.instruction.Instruction.{Instruction}
use Rattle.go_object_core.specs.declared.instructions.instruction.Instruction.TheVariants as instructions
use Rattle.go_code_core.specs.declared.fragments.names.Gives.{Gives}
use Rattle.go_code_core.specs.declared.fragments.names.Meaning.TheVariants as meanings
use Rattle.go_code_core.specs.fragments.Names.{Frame}
use Rattle.go_code_core.proofs.FragmentsLoops.{counted}
use Rattle.go_code_core.specs.declared.stmts.Marks.{Marks}
use Rattle.go_code_core.specs.Code.{before, call_end}
use Rattle.go_code_core.specs.mirrors.Written.{IsMarked, exits_at}

pub called_function : (f : Frame) (g : Gives) (r : ℕ) (is : List declared_item.Item) (n : ℕ) → n ≡ length is → instructions.Call r n ∷ [] ≡ call_end f (meanings.Function g) r (items_of is)
called_function f g r is n h = ap (λ m. instructions.Call r m ∷ []) (h ∙ sym (counted is))

pub called_method : (f : Frame) (g : Gives) (r : ℕ) (is : List declared_item.Item) (n : ℕ) → n ≡ length is → instructions.Call r (n + 1) ∷ [] ≡ call_end f (meanings.Method g) r (items_of is)
called_method f g r is n h = ap (λ m. instructions.Call r m ∷ []) (add-one n ∙ ap suc (h ∙ sym (counted is)))

-- marks that stand behind some code are as far again from in front of it
pub further : (behind old : List Instruction) (marks : Marks) → IsMarked (length old) marks → exits_at (length (behind ++ old)) marks ≡ before (length behind) (exits_at (length old) marks)
further behind old marks h =
    let many = length-append behind old in
    let p = h.0 in
    let q = h.1 in
    let e : length (behind ++ old) - marks.ends ≡ length behind + (length old - marks.ends) = omega (arith, many, p) in
    let g : length (behind ++ old) - marks.goes_on ≡ length behind + (length old - marks.goes_on) = omega (arith, many, q) in
    ap (λ n. record { ends = n; goes_on = length (behind ++ old) - marks.goes_on }) e ∙ ap (λ n. record { ends = length behind + (length old - marks.ends); goes_on = n }) g

pub still_marked : (behind old : List Instruction) (marks : Marks) → IsMarked (length old) marks → IsMarked (length (behind ++ old)) marks
still_marked behind old marks h = let many = length-append behind old in let p = h.0 in let q = h.1 in (omega (arith, many, p), omega (arith, many, q))
