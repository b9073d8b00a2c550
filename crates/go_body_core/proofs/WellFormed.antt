-- The pieces of a function of the grammar are of the grammar.
use Rattle.std.proofs.Common.{Bool, true, false, List, [], ◌∷◌, Option, Some, None}
use Rattle.go_text_core.specs.declared.span.Span.{Span}
use Rattle.go_tree_nodes.specs.declared.decls.ValueKind.{ValueKind}
use Rattle.go_tree_nodes.specs.Trees as tree
use Rattle.go_tree_nodes.specs.Trees.{Separated, ExprTree, ValueSpecTree, Specs, Single, Group, SimpleTree, Alone, Step, Assign, Update, Define, IfTree, ForTree, Forever, While, Clauses, StmtTree, BranchTree, ElseTree, Lines, Empty, Simple, Return, Break, Continue, Block, If, For, Branch, NoElse, ElseBlock, ElseIf, NoLines, Line, FuncTree}
use Rattle.go_tree_nodes.specs.Rules.{Wf_value_spec, Wf_group, Wf_specs, Wf_simple, Wf_some_simple, Wf_some_expr, Wf_init, Wf_if, Wf_for, Wf_stmt, Wf_branch, Wf_else, Wf_lines}
use Rattle.go_local_core.specs.Steps.{Steps, Done}
use Rattle.go_local_core.specs.Outline.{group_steps, specs_steps, simple_steps, some_simple_steps, init_steps, some_condition_steps, if_steps, for_steps, stmt_steps, branch_steps, else_steps, lines_steps}
use Rattle.go_body_core.specs.Pieces.{AllPieces}
use Rattle.go_body_core.specs.WellFormed.{IsOfGrammar, PiecesAreOfGrammar}

abbrev Are : Steps → Type 0
Are steps = AllPieces IsOfGrammar steps

group_of : (k : ValueKind) (vs : List (ValueSpecTree × Option Span)) (rest : Steps) → Wf_group (Wf_value_spec k) vs → Are rest → Are (group_steps k vs rest)
group_of k [] rest h r = r
group_of k (v ∷ vs) rest h r = (h.0, group_of k vs rest h.2 r)

specs_of : (k : ValueKind) (s : Specs ValueSpecTree) (rest : Steps) → Wf_specs (Wf_value_spec k) s → Are rest → Are (specs_steps k s rest)
specs_of k (Single v) rest h r = (h, r)
specs_of k (Group first vs last) rest h r = group_of k vs rest h r

simple_of : (header : Bool) (s : SimpleTree) (rest : Steps) → Wf_simple header s → Are rest → Are (simple_steps s rest)
simple_of header (Alone t) rest h r = ((header, h), r)
simple_of header (Step t op span) rest h r = ((header, h), r)
simple_of header (Assign ts span es) rest h r = ((header, h), r)
simple_of header (Update t op span e) rest h r = ((header, h), r)
simple_of header (Define xs span es) rest h r = ((header, h), r)

some_simple_of : (s : Option SimpleTree) (rest : Steps) → Wf_some_simple s → Are rest → Are (some_simple_steps s rest)
some_simple_of None rest h r = r
some_simple_of (Some s) rest h r = simple_of true s rest h r

init_of : (i : Option (Option SimpleTree × Span)) (rest : Steps) → Wf_init i → Are rest → Are (init_steps i rest)
init_of None rest h r = r
init_of (Some i) rest h r = some_simple_of i.0 rest h r

some_condition_of : (t : Option ExprTree) (rest : Steps) → Wf_some_expr t → Are rest → Are (some_condition_steps t rest)
some_condition_of None rest h r = r
some_condition_of (Some t) rest h r = (h, r)

if_of : (h : IfTree) (rest : Steps) → Wf_if h → Are rest → Are (if_steps h rest)
if_of head rest h r = init_of head.init _ h.0 (h.1, r)

for_of : (h : ForTree) (rest : Steps) → Wf_for h → Are rest → Are (for_steps h rest)
for_of Forever rest h r = r
for_of (While t) rest h r = (h, r)
for_of (Clauses init a test b post) rest h r = some_simple_of init _ h.0 (some_condition_of test _ h.1 (some_simple_of post rest h.2 r))

mutual
  stmt_of : (s : StmtTree) (rest : Steps) → Wf_stmt s → Are rest → Are (stmt_steps s rest)
  stmt_of Empty rest h r = r
  stmt_of (tree.Declare v) rest h r = specs_of v.kind v.specs rest h r
  stmt_of (Simple s) rest h r = simple_of false s rest h r
  stmt_of (Return s es) rest h r = (h, r)
  stmt_of (Break s) rest h r = r
  stmt_of (Continue s) rest h r = r
  stmt_of (Block first ls last) rest h r = (lines_of ls Done h tt, r)
  stmt_of (If b) rest h r = branch_of b rest h r
  stmt_of (For k head first ls last) rest h r = (for_of head _ h.0 (lines_of ls Done h.1 tt, tt), r)

  branch_of : (b : BranchTree) (rest : Steps) → Wf_branch b → Are rest → Are (branch_steps b rest)
  branch_of (Branch k head first ls last otherwise) rest h r = (if_of head _ h.0 (lines_of ls Done h.1 tt, else_of otherwise Done h.2 tt), r)

  else_of : (e : ElseTree) (rest : Steps) → Wf_else e → Are rest → Are (else_steps e rest)
  else_of NoElse rest h r = r
  else_of (ElseBlock k first ls last) rest h r = (lines_of ls Done h tt, r)
  else_of (ElseIf k b) rest h r = branch_of b rest h r

  lines_of : (ls : Lines) (rest : Steps) → Wf_lines ls → Are rest → Are (lines_steps ls rest)
  lines_of NoLines rest h r = r
  lines_of (Line s semicolon more) rest h r = stmt_of s _ h.0 (lines_of more rest h.2 r)

pub pieces_are_of_grammar : PiecesAreOfGrammar
pieces_are_of_grammar f h = (h.0, lines_of f.body Done h.1 tt)
