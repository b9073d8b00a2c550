-- The names that a step declares are those of its piece.
use Rattle.std.proofs.Common.{◌≡◌, List, [], ◌∷◌, Option, Some, None, refl}
use Rattle.go_text_core.specs.declared.span.Span.{Span}
use Rattle.go_tree_nodes.specs.declared.decls.ValueKind.{ValueKind}
use Rattle.go_tree_nodes.specs.Trees as tree
use Rattle.go_tree_nodes.specs.Trees.{Separated, ExprTree, ValueSpecTree, Specs, Single, Group, SimpleTree, Alone, Step, Assign, Update, Define, IfTree, ForTree, Forever, While, Clauses, StmtTree, BranchTree, ElseTree, Lines, Empty, Simple, Return, Break, Continue, Block, If, For, Branch, NoElse, ElseBlock, ElseIf, NoLines, Line, FuncTree}
use Rattle.go_local_core.specs.Steps.{Steps, Done, Check, Declare, Inner}
use Rattle.go_local_core.specs.Outline.{group_steps, specs_steps, simple_steps, some_simple_steps, init_steps, some_condition_steps, if_steps, for_steps, stmt_steps, branch_steps, else_steps, lines_steps, func_steps}
use Rattle.go_local_core.specs.Pieces.{piece_declares}

abbrev pub AreNamed : Steps → Type 0
AreNamed Done = Unit {0}
AreNamed (Check p rest) = AreNamed rest
AreNamed (Declare m from p xs rest) = (xs ≡ piece_declares p) × AreNamed rest
AreNamed (Inner o c steps rest) = AreNamed steps × AreNamed rest

group_of : (k : ValueKind) (vs : List (ValueSpecTree × Option Span)) (rest : Steps) → AreNamed rest → AreNamed (group_steps k vs rest)
group_of k [] rest r = r
group_of k (v ∷ vs) rest r = (refl, group_of k vs rest r)

specs_of : (k : ValueKind) (s : Specs ValueSpecTree) (rest : Steps) → AreNamed rest → AreNamed (specs_steps k s rest)
specs_of k (Single v) rest r = (refl, r)
specs_of k (Group first vs last) rest r = group_of k vs rest r

simple_of : (s : SimpleTree) (rest : Steps) → AreNamed rest → AreNamed (simple_steps s rest)
simple_of (Alone t) rest r = r
simple_of (Step t op span) rest r = r
simple_of (Assign ts span es) rest r = r
simple_of (Update t op span e) rest r = r
simple_of (Define xs span es) rest r = (refl, r)

some_simple_of : (s : Option SimpleTree) (rest : Steps) → AreNamed rest → AreNamed (some_simple_steps s rest)
some_simple_of None rest r = r
some_simple_of (Some s) rest r = simple_of s rest r

init_of : (i : Option (Option SimpleTree × Span)) (rest : Steps) → AreNamed rest → AreNamed (init_steps i rest)
init_of None rest r = r
init_of (Some i) rest r = some_simple_of i.0 rest r

some_condition_of : (t : Option ExprTree) (rest : Steps) → AreNamed rest → AreNamed (some_condition_steps t rest)
some_condition_of None rest r = r
some_condition_of (Some t) rest r = r

for_of : (h : ForTree) (rest : Steps) → AreNamed rest → AreNamed (for_steps h rest)
for_of Forever rest r = r
for_of (While t) rest r = r
for_of (Clauses init a test b post) rest r = some_simple_of init _ (some_condition_of test _ (some_simple_of post rest r))

mutual
  stmt_of : (s : StmtTree) (rest : Steps) → AreNamed rest → AreNamed (stmt_steps s rest)
  stmt_of Empty rest r = r
  stmt_of (tree.Declare v) rest r = specs_of v.kind v.specs rest r
  stmt_of (Simple s) rest r = simple_of s rest r
  stmt_of (Return s es) rest r = r
  stmt_of (Break s) rest r = r
  stmt_of (Continue s) rest r = r
  stmt_of (Block first ls last) rest r = (lines_of ls Done tt, r)
  stmt_of (If b) rest r = branch_of b rest r
  stmt_of (For k head first ls last) rest r = (for_of head _ (lines_of ls Done tt, tt), r)

  branch_of : (b : BranchTree) (rest : Steps) → AreNamed rest → AreNamed (branch_steps b rest)
  branch_of (Branch k head first ls last otherwise) rest r = (init_of head.init _ (lines_of ls Done tt, else_of otherwise Done tt), r)

  else_of : (e : ElseTree) (rest : Steps) → AreNamed rest → AreNamed (else_steps e rest)
  else_of NoElse rest r = r
  else_of (ElseBlock k first ls last) rest r = (lines_of ls Done tt, r)
  else_of (ElseIf k b) rest r = branch_of b rest r

  lines_of : (ls : Lines) (rest : Steps) → AreNamed rest → AreNamed (lines_steps ls rest)
  lines_of NoLines rest r = r
  lines_of (Line s semicolon more) rest r = stmt_of s _ (lines_of more rest r)

pub steps_are_named : (f : FuncTree) → AreNamed (func_steps f)
steps_are_named f = (refl, lines_of f.body Done tt)
