-- Code that is written from its end.
use Rattle.std.specs.Prelude.{ℕ, ◌-◌, ◌≤◌, List, [], ◌++◌, length}
use Rattle.go_tree_nodes.specs.Trees.{ExprTree, Call, ElseTree, NoElse, ElseBlock, ElseIf}
use Rattle.go_object_core.specs.declared.instructions.instruction.Instruction.{Instruction}
use Rattle.go_code_core.specs.declared.stmts.Marks.{Marks}
use Rattle.go_code_core.specs.Code.{Exits, branch_code, call_end, items_code, jump, lines_code, receiver_code}
use Rattle.go_code_core.specs.fragments.Names.{Frame, callee_meaning}

-- how far it is from what is written next to where `break` and `continue` lead, where so many instructions are written and so many of them
-- stand behind these places
abbrev pub exits_at : ℕ → Marks → Exits
exits_at written marks = record { ends = written - marks.ends; goes_on = written - marks.goes_on }

abbrev pub IsMarked : ℕ → Marks → Type 0
IsMarked written marks = (marks.ends ≤ written) × (marks.goes_on ≤ written)

-- what stands behind `else`, and in front of it the jump over it, where there is an `else`
pub record ElseCode : Type 0 where
  pub over : List Instruction
  pub outside : List Instruction

abbrev pub jumped : List Instruction → ElseCode
jumped outside = record { over = jump (length outside); outside = outside }

abbrev pub else_code : Frame → Exits → ElseTree → ElseCode
else_code f x NoElse = record { over = []; outside = [] }
else_code f x (ElseBlock k first ls last) = jumped (lines_code f x ls)
else_code f x (ElseIf k b) = jumped (branch_code f x b)

-- the code of a call that is no constant
abbrev pub applied : Frame → ExprTree → List Instruction
applied f (Call e first items last) = receiver_code f e ++ (items_code f items ++ call_end f (callee_meaning f.looks e) (f.looks.reference first.start) items)
applied f _ = []
