-- A step declares the names of its piece, and what is checked alone declares none.
use Rattle.std.proofs.Common.{◌≡◌, List, [], ◌∷◌, Option, Some, None, refl}
use Rattle.go_constant_core.specs.text_core.declared.span.Span.{Span}
use Rattle.go_tree_nodes.specs.declared.decls.ValueKind.{ValueKind}
use Rattle.go_tree_nodes.specs.Trees as tree
use Rattle.go_tree_nodes.specs.Trees.{Separated, ExprTree, ValueSpecTree, Specs, Single, Group, SimpleTree, Alone, Step, Assign, Update, Define, ForTree, Forever, While, Clauses, StmtTree, BranchTree, ElseTree, Lines, Empty, Simple, Return, Break, Continue, Block, If, For, Branch, NoElse, ElseBlock, ElseIf, NoLines, Line, FuncTree}
use Rattle.go_names_core.specs.local_core.Steps.{Steps, Done, Check, Declare, Inner}
use Rattle.go_names_core.specs.local_core.Outline.{group_steps, specs_steps, simple_steps, some_simple_steps, init_steps, some_condition_steps, for_steps, stmt_steps, branch_steps, else_steps, lines_steps, func_steps}
use Rattle.go_names_core.specs.local_core.Pieces.{piece_declares}

abbrev pub AreDeclaring : Steps → Type 0
AreDeclaring Done = Unit {0}
AreDeclaring (Check p rest) = (piece_declares p ≡ []) × AreDeclaring rest
AreDeclaring (Declare m from p xs rest) = (xs ≡ piece_declares p) × AreDeclaring rest
AreDeclaring (Inner o c steps rest) = AreDeclaring steps × AreDeclaring rest

group_of : (k : ValueKind) (vs : List (ValueSpecTree × Option Span)) (rest : Steps) → AreDeclaring rest → AreDeclaring (group_steps k vs rest)
group_of k [] rest r = r
group_of k (v ∷ vs) rest r = (refl, group_of k vs rest r)

specs_of : (k : ValueKind) (s : Specs ValueSpecTree) (rest : Steps) → AreDeclaring rest → AreDeclaring (specs_steps k s rest)
specs_of k (Single v) rest r = (refl, r)
specs_of k (Group first vs last) rest r = group_of k vs rest r

simple_of : (s : SimpleTree) (rest : Steps) → AreDeclaring rest → AreDeclaring (simple_steps s rest)
simple_of (Alone t) rest r = (refl, r)
simple_of (Step t op span) rest r = (refl, r)
simple_of (Assign ts span es) rest r = (refl, r)
simple_of (Update t op span e) rest r = (refl, r)
simple_of (Define xs span es) rest r = (refl, r)

some_simple_of : (s : Option SimpleTree) (rest : Steps) → AreDeclaring rest → AreDeclaring (some_simple_steps s rest)
some_simple_of None rest r = r
some_simple_of (Some s) rest r = simple_of s rest r

init_of : (i : Option (Option SimpleTree × Span)) (rest : Steps) → AreDeclaring rest → AreDeclaring (init_steps i rest)
init_of None rest r = r
init_of (Some i) rest r = some_simple_of i.0 rest r

some_condition_of : (t : Option ExprTree) (rest : Steps) → AreDeclaring rest → AreDeclaring (some_condition_steps t rest)
some_condition_of None rest r = r
some_condition_of (Some t) rest r = (refl, r)

for_of : (h : ForTree) (rest : Steps) → AreDeclaring rest → AreDeclaring (for_steps h rest)
for_of Forever rest r = r
for_of (While t) rest r = (refl, r)
for_of (Clauses init a test b post) rest r = some_simple_of init _ (some_condition_of test _ (some_simple_of post rest r))

mutual
  stmt_of : (s : StmtTree) (rest : Steps) → AreDeclaring rest → AreDeclaring (stmt_steps s rest)
  stmt_of Empty rest r = r
  stmt_of (tree.Declare v) rest r = specs_of v.kind v.specs rest r
  stmt_of (Simple s) rest r = simple_of s rest r
  stmt_of (Return s es) rest r = (refl, r)
  stmt_of (Break s) rest r = r
  stmt_of (Continue s) rest r = r
  stmt_of (Block first ls last) rest r = (lines_of ls Done tt, r)
  stmt_of (If b) rest r = branch_of b rest r
  stmt_of (For k head first ls last) rest r = (for_of head _ (lines_of ls Done tt, tt), r)

  branch_of : (b : BranchTree) (rest : Steps) → AreDeclaring rest → AreDeclaring (branch_steps b rest)
  branch_of (Branch k head first ls last otherwise) rest r = (init_of head.init _ (refl, (lines_of ls Done tt, else_of otherwise Done tt)), r)

  else_of : (e : ElseTree) (rest : Steps) → AreDeclaring rest → AreDeclaring (else_steps e rest)
  else_of NoElse rest r = r
  else_of (ElseBlock k first ls last) rest r = (lines_of ls Done tt, r)
  else_of (ElseIf k b) rest r = branch_of b rest r

  pub lines_of : (ls : Lines) (rest : Steps) → AreDeclaring rest → AreDeclaring (lines_steps ls rest)
  lines_of NoLines rest r = r
  lines_of (Line s semicolon more) rest r = stmt_of s _ (lines_of more rest r)

pub steps_are_declaring : (f : FuncTree) → AreDeclaring (func_steps f)
steps_are_declaring f = (refl, lines_of f.body Done tt)
