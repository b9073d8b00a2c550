-- The statements and functions of which code is made.
use Rattle.std.specs.Prelude.{Bool, true, false, ◌&&◌, not, List, [], ◌∷◌, Option, Some, None, is_some, is_none}
use Rattle.go_constant_core.specs.text_core.declared.span.Span.{Span}
use Rattle.go_tree_nodes.specs.declared.names.Ident.{Ident}
use Rattle.go_tree_nodes.specs.declared.decls.ValueKind.{ValueKind}
use Rattle.go_tree_nodes.specs.declared.decls.ValueKind.TheVariants as value_kinds
use Rattle.go_tree_nodes.specs.declared.files.Receiver.{Receiver}
use Rattle.go_tree_nodes.specs.Trees.{Separated, One, Then, ParamTrees, NoParams, Param, ResultTree, NoResult, OneResult, Results, SignatureTree, Signed, ExprTree, ValueSpecTree, Specs, Single, Group, SimpleTree, Alone, Step, Assign, Update, Define, ForTree, Forever, While, Clauses, StmtTree, Empty, Declare, Simple, Return, Break, Continue, Block, If, For, BranchTree, Branch, ElseTree, NoElse, ElseBlock, ElseIf, Lines, NoLines, Line, FuncTree}
use Rattle.go_code_core.specs.fragments.Names.{CodeLooks, Frame, slot_assigned, declared_slot, is_slot, is_target}
use Rattle.go_code_core.specs.fragments.Fragment.{is_one, is_other, expr_gives, type_word, type_name_word, some_type_inside}
use Rattle.go_code_core.specs.fragments.Operators.{step_operator, update_operator}

-- one expression that gives one value over `int` or `bool`
abbrev pub one_value : Frame → Separated ExprTree → Bool
one_value f (One e) = is_one (expr_gives f e)
one_value f (Then e comma more) = false

abbrev pub one_target : Frame → Separated ExprTree → Bool
one_target f (One e) = is_target (slot_assigned f e)
one_target f (Then e comma more) = false

abbrev pub one_declared : Frame → Separated Ident → Bool
one_declared f (One x) = is_target (declared_slot f x)
one_declared f (Then x comma more) = false

abbrev pub is_one_name : Separated Ident → Bool
is_one_name (One x) = true
is_one_name (Then x comma more) = false

abbrev pub simple_inside : Frame → SimpleTree → Bool
simple_inside f (Alone e) = not (is_other (expr_gives f e))
simple_inside f (Step e op s) = is_slot (slot_assigned f e) && is_some (step_operator op)
simple_inside f (Assign ts s es) = one_target f ts && one_value f es
simple_inside f (Update t op s e) = is_slot (slot_assigned f t) && is_one (expr_gives f e) && is_some (update_operator op)
simple_inside f (Define xs s es) = one_declared f xs && one_value f es

abbrev pub values_inside : Frame → Option (Span × Separated ExprTree) → Bool
values_inside f None = true
values_inside f (Some v) = one_value f v.1

-- one constant, or one variable
abbrev pub names_inside : Frame → ValueKind → Separated Ident → Bool
names_inside f value_kinds.Const xs = is_one_name xs
names_inside f value_kinds.Var xs = one_declared f xs

abbrev pub value_spec_inside : Frame → ValueKind → ValueSpecTree → Bool
value_spec_inside f kind v = names_inside f kind v.names && some_type_inside f.looks v.type_expr && values_inside f v.values

abbrev pub value_lines_inside : Frame → ValueKind → List (ValueSpecTree × Option Span) → Bool
value_lines_inside f kind [] = true
value_lines_inside f kind (l ∷ ls) = value_spec_inside f kind l.0 && value_lines_inside f kind ls

abbrev pub value_specs_inside : Frame → ValueKind → Specs ValueSpecTree → Bool
value_specs_inside f kind (Single v) = value_spec_inside f kind v
value_specs_inside f kind (Group first ls last) = value_lines_inside f kind ls

abbrev pub some_simple_inside : Frame → Option SimpleTree → Bool
some_simple_inside f None = true
some_simple_inside f (Some s) = simple_inside f s

abbrev pub init_inside : Frame → Option (Option SimpleTree × Span) → Bool
init_inside f None = true
init_inside f (Some init) = some_simple_inside f init.0

abbrev pub test_inside : Frame → Option ExprTree → Bool
test_inside f None = true
test_inside f (Some e) = is_one (expr_gives f e)

abbrev pub results_given : Frame → Option (Separated ExprTree) → Bool
results_given f None = true
results_given f (Some es) = one_value f es

abbrev pub head_inside : Frame → ForTree → Bool
head_inside f Forever = true
head_inside f (While e) = is_one (expr_gives f e)
head_inside f (Clauses init a test b post) = some_simple_inside f init && test_inside f test && some_simple_inside f post

abbrev mutual
  pub stmt_inside : Frame → StmtTree → Bool
  stmt_inside f Empty = true
  stmt_inside f (Declare v) = value_specs_inside f v.kind v.specs
  stmt_inside f (Simple s) = simple_inside f s
  stmt_inside f (Return s es) = results_given f es
  stmt_inside f (Break s) = true
  stmt_inside f (Continue s) = true
  stmt_inside f (Block first ls last) = lines_inside f ls
  stmt_inside f (If b) = branch_inside f b
  stmt_inside f (For k head first ls last) = head_inside f head && lines_inside f ls

  pub branch_inside : Frame → BranchTree → Bool
  branch_inside f (Branch k head first ls last other) = init_inside f head.init && is_one (expr_gives f head.condition) && (lines_inside f ls && else_inside f other)

  pub else_inside : Frame → ElseTree → Bool
  else_inside f NoElse = true
  else_inside f (ElseBlock k first ls last) = lines_inside f ls
  else_inside f (ElseIf k b) = branch_inside f b

  pub lines_inside : Frame → Lines → Bool
  lines_inside f NoLines = true
  lines_inside f (Line s semicolon rest) = stmt_inside f s && lines_inside f rest

-- a value receiver over `int` or `bool`
abbrev pub receiver_inside : CodeLooks → Option Receiver → Bool
receiver_inside looks None = true
receiver_inside looks (Some r) = is_none r.star && is_some (type_name_word looks r.base)

abbrev pub params_inside : CodeLooks → ParamTrees → Bool
params_inside looks NoParams = true
params_inside looks (Param xs t comma rest) = is_some (type_word looks t) && params_inside looks rest

-- no result, or one without a name
abbrev pub listed_result_inside : CodeLooks → ParamTrees → Bool
listed_result_inside looks NoParams = true
listed_result_inside looks (Param None t comma NoParams) = is_some (type_word looks t)
listed_result_inside looks (Param None t comma (Param xs u comma' rest)) = false
listed_result_inside looks (Param (Some xs) t comma rest) = false

abbrev pub results_inside : CodeLooks → ResultTree → Bool
results_inside looks NoResult = true
results_inside looks (OneResult t) = is_some (type_word looks t)
results_inside looks (Results first params last) = listed_result_inside looks params

abbrev pub signature_inside : CodeLooks → SignatureTree → Bool
signature_inside looks (Signed first params last results) = params_inside looks params && results_inside looks results

-- code is made of a function
abbrev pub in_fragment : Frame → FuncTree → Bool
in_fragment f func = receiver_inside f.looks func.receiver && signature_inside f.looks func.signature && lines_inside f func.body
