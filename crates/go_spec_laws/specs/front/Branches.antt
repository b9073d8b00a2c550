-- A method with blocks inside blocks, and where each name that it declares is in scope, worked out by hand. The n-th token of the method stands at n.
--
-- The Go specification, "Blocks", "Declarations and scope".
use Rattle.std.specs.Prelude.{◌≡◌, ℕ, ◌&&◌, nat_le, nat_lt, List, [], ◌∷◌, Option, Some, None, codes}
use Rattle.go_tree_nodes.specs.token_core.declared.kind.Operator.TheVariants as operator
use Rattle.go_tree_nodes.specs.declared.types.TypeName.TheVariants as type_names
use Rattle.go_tree_nodes.specs.Samples.{at, called, name_at, int_at}
use Rattle.go_tree_nodes.specs.Trees.{One, Signed, Results, NoParams, Param, ExprTree, Integer, Binary, Assign, Define, Forever, StmtTree, Simple, If, For, BranchTree, Branch, ElseBlock, Lines, NoLines, Line, FuncTree}
use Rattle.go_local_core.specs.Binding.{Local, region_has, shown, bound}
use Rattle.go_local_core.specs.Tables.{IsTable, out_by_intervals}
use Rattle.go_local_core.specs.Worked.{none, places}

-- `x := VALUE`, its name at this place
abbrev pub x_defined : ℕ → ℕ → ExprTree → StmtTree
x_defined x sign value = Simple (Define (One (called (codes "x") x)) (at sign) (One value))

-- `_ = x`, its blank identifier at this place
abbrev pub x_used : ℕ → ℕ → ℕ → StmtTree
x_used blank sign x = Simple (Assign (One (name_at (codes "_") blank)) (at sign) (One (name_at (codes "x") x)))

-- { x := 2; _ = x }
abbrev pub then_lines : Lines
then_lines = Line (x_defined 28 29 (Integer 2 (at 30))) (Some (at 31)) (Line (x_used 32 33 34) None NoLines)

-- { x := 3; _ = x }
abbrev pub else_lines : Lines
else_lines = Line (x_defined 38 39 (Integer 3 (at 40))) (Some (at 41)) (Line (x_used 42 43 44) None NoLines)

-- { x := 4; _ = x }
abbrev pub loop_lines : Lines
loop_lines = Line (x_defined 49 50 (Integer 4 (at 51))) (Some (at 52)) (Line (x_used 53 54 55) None NoLines)

-- if x := x; x > 0 { .. } else { .. }
abbrev pub both_branches : BranchTree
both_branches =
    Branch (at 19) (record {
      init = Some (Some (Define (One (called (codes "x") 20)) (at 21) (One (name_at (codes "x") 22))), at 23);
      condition = Binary (name_at (codes "x") 24) operator.Greater (at 25) (Integer 0 (at 26));
    }) (at 27) then_lines (at 35) (ElseBlock (at 36) (at 37) else_lines (at 45))

-- x := 1; if .. { .. } else { .. }; for { .. }; _ = x
abbrev pub body_lines : Lines
body_lines =
    Line (x_defined 15 16 (Integer 1 (at 17))) (Some (at 18))
    (Line (If both_branches) (Some (at 46))
    (Line (For (at 47) Forever (at 48) loop_lines (at 56)) (Some (at 57))
    (Line (x_used 58 59 60) None NoLines)))

-- func (r T) f(p int) (q int) {
--   x := 1
--   if x := x; x > 0 { x := 2; _ = x } else { x := 3; _ = x }
--   for { x := 4; _ = x }
--   _ = x
-- }
abbrev pub branching : FuncTree
branching = record {
  func = at 0;
  receiver = Some (record { open_paren = at 1; name = Some (called (codes "r") 2); star = None; base = type_names.Plain (called (codes "T") 3); comma = None; close_paren = at 4 });
  name = called (codes "f") 5;
  signature = Signed (at 6) (Param (Some (One (called (codes "p") 7))) (int_at 8) None NoParams) (at 9) (Results (at 10) (Param (Some (One (called (codes "q") 11))) (int_at 12) None NoParams) (at 13));
  open_brace = at 14;
  body = body_lines;
  close_brace = at 61;
}

-- a declaration whose identifier stands here, with the block that owns it and where its region begins; it means where its identifier stands
abbrev pub local_between : List ℕ → ℕ → ℕ → ℕ → ℕ → Local ℕ
local_between name place opens closes from = record { name = name; at = place; from = from; opens = opens; closes = closes; means = place }

-- the receiver, the parameter and the result belong to the block of the method, and begin with its body

abbrev pub the_receiver : Local ℕ
the_receiver = local_between (codes "r") 2 0 61 14

abbrev pub the_parameter : Local ℕ
the_parameter = local_between (codes "p") 7 0 61 14

abbrev pub the_result : Local ℕ
the_result = local_between (codes "q") 11 0 61 14

-- the `x` of the body belongs to the block of the method too, and begins behind `x := 1`
abbrev pub x_of_body : Local ℕ
x_of_body = local_between (codes "x") 15 0 61 18

-- the `x` of the header belongs to the block of the whole `if`, and begins behind `x := x`
abbrev pub x_of_header : Local ℕ
x_of_header = local_between (codes "x") 20 19 46 23

-- the `x` of the first branch belongs to the block between its braces
abbrev pub x_of_then : Local ℕ
x_of_then = local_between (codes "x") 28 27 35 31

-- the `x` behind `else` belongs to the block between its braces
abbrev pub x_of_else : Local ℕ
x_of_else = local_between (codes "x") 38 37 45 41

-- the `x` of the loop belongs to the block between its braces
abbrev pub x_of_loop : Local ℕ
x_of_loop = local_between (codes "x") 49 48 56 52

-- all that the method declares
abbrev pub branching_table : List (Local ℕ)
branching_table = the_receiver ∷ the_parameter ∷ the_result ∷ x_of_body ∷ x_of_header ∷ x_of_then ∷ x_of_else ∷ x_of_loop ∷ []

-- a declaration is in scope at the places from the first one on that stand before the second, and at no others
abbrev pub IsInScopeBetween : Local ℕ → ℕ → ℕ → Type 0
IsInScopeBetween d from to = (place : ℕ) → region_has d place ≡ (nat_le from place && nat_lt place to)

-- these are the declarations that are in scope at a place, and no others
abbrev pub AreInScopeAt : ℕ → List (Local ℕ) → Type 0
AreInScopeAt place ds = shown branching_table place branching_table ≡ ds

-- a name at a place denotes what is declared at another, or nothing that the method declares
abbrev pub Means : List ℕ → ℕ → Option ℕ → Type 0
Means name place declared = bound none branching_table name place ≡ declared

-- each name that is looked at, with the place where what it denotes is declared
abbrev pub branching_names : List (ℕ × Option ℕ)
branching_names =
    (2, None) ∷ (3, None) ∷ (7, None) ∷ (8, None) ∷ (11, None) ∷ (12, None)
    ∷ (15, None)
    ∷ (20, Some 15) ∷ (22, Some 15) ∷ (24, Some 20)
    ∷ (28, Some 20) ∷ (32, None) ∷ (34, Some 28)
    ∷ (38, Some 20) ∷ (42, None) ∷ (44, Some 38)
    ∷ (49, Some 15) ∷ (53, None) ∷ (55, Some 49)
    ∷ (58, None) ∷ (60, Some 15) ∷ []

-- what the method declares, where each of it is in scope, and what each name denotes
pub record WorkedBranches : Type 0 where
  -- these are the declarations of the method, in this order, and there are no others
  pub declarations : IsTable places none branching branching_table
  -- the receiver is in scope from the opening brace of the body to its closing brace
  pub receiver_region : IsInScopeBetween the_receiver 14 61
  -- and so is the parameter
  pub parameter_region : IsInScopeBetween the_parameter 14 61
  -- and so is the result
  pub result_region : IsInScopeBetween the_result 14 61
  -- the x of the body is in scope from behind its declaration to the closing brace of the body
  pub body_region : IsInScopeBetween x_of_body 18 61
  -- the x of the header is in scope from behind its declaration, in the condition and in both branches, to the end of the last one
  pub header_region : IsInScopeBetween x_of_header 23 46
  -- the x of the first branch is in scope from behind its declaration to the closing brace of this branch
  pub then_region : IsInScopeBetween x_of_then 31 35
  -- the x behind else is in scope from behind its declaration to the closing brace of this branch
  pub else_region : IsInScopeBetween x_of_else 41 45
  -- the x of the loop is in scope from behind its declaration to the closing brace of the loop
  pub loop_region : IsInScopeBetween x_of_loop 52 56
  -- before the body nothing is in scope
  pub before_body : AreInScopeAt 13 []
  -- at the closing brace of the first branch its own x is not in scope any more, and that of the header is
  pub behind_then : AreInScopeAt 35 (the_receiver ∷ the_parameter ∷ the_result ∷ x_of_body ∷ x_of_header ∷ [])
  -- nor is it in the other branch
  pub in_else : AreInScopeAt 44 (the_receiver ∷ the_parameter ∷ the_result ∷ x_of_body ∷ x_of_header ∷ x_of_else ∷ [])
  -- behind the if only what the block of the method declares is in scope
  pub behind_if : AreInScopeAt 46 (the_receiver ∷ the_parameter ∷ the_result ∷ x_of_body ∷ [])
  -- and so it is behind the loop
  pub behind_loop : AreInScopeAt 60 (the_receiver ∷ the_parameter ∷ the_result ∷ x_of_body ∷ [])
  -- in the first branch the name of the receiver denotes the receiver
  pub r_in_then : Means (codes "r") 34 (Some 2)
  -- behind else that of the parameter denotes the parameter
  pub p_in_else : Means (codes "p") 44 (Some 7)
  -- in the loop that of the result denotes the result
  pub q_in_loop : Means (codes "q") 55 (Some 11)
  -- each name denotes what is written beside it
  pub denoted : (out_by_intervals places none branching branching_table).notes ≡ branching_names
  -- no rule of declarations is broken
  pub faultless : (out_by_intervals places none branching branching_table).faults ≡ []
