-- The steps of lists of lines, and of trees that values of the program hold.
use Rattle.std.proofs.Common.{◌≡◌, List, [], ◌∷◌, map, Vec, refl, ap, ◌∙◌}
use Rattle.std.specs.Global.{Global}
use Rattle.go_tree_nodes.specs.text_core.declared.span.Span.{Span}
use Rattle.go_tree_nodes.specs.declared.decls.ValueKind.{ValueKind}
use Rattle.go_tree_nodes.specs.declared.decls.ValueLine.{ValueLine}
use Rattle.go_tree_nodes.specs.declared.stmts.«Line» as declared_line
use Rattle.go_tree_nodes.specs.declared.stmts.«Branch» as declared_branch
use Rattle.go_tree_nodes.specs.declared.stmts.Loop.{Loop, out-Loop}
use Rattle.go_tree_nodes.specs.declared.stmts.Stmt.{Stmt}
use Rattle.go_tree_nodes.specs.declared.stmts.Stmt.TheVariants as stmt
use Rattle.go_tree_nodes.specs.declared.stmts.Otherwise.{Otherwise}
use Rattle.go_tree_nodes.specs.declared.stmts.Otherwise.TheVariants as otherwise
use Rattle.go_tree_nodes.specs.Trees.{Branch}
use Rattle.go_tree_nodes.specs.Spelling.{spell_branch}
use Rattle.go_tree_nodes.specs.Shapes.{shape_value_line, shape_value_spec, shape_stmt, shape_branch, shape_else, shape_if, shape_for, shape_loop, lines_of}
use Rattle.go_tree_nodes.proofs.ShapeLemmas.{shape_block, loop_parts, shape_else_block, branch_parts}
use Rattle.go_local_core.specs.Steps.{Steps, Done, Inner}
use Rattle.go_local_core.specs.Outline.{end_of, spec_steps, group_steps, if_steps, for_steps, stmt_steps, branch_steps, else_steps, lines_steps}

abbrev pub group : ValueKind → List ValueLine → Steps → Steps
group k ls rest = group_steps k (map shape_value_line ls) rest

abbrev pub one_spec : ValueKind → ValueLine → Steps → Steps
one_spec k l rest = spec_steps k (shape_value_spec l.spec) rest

abbrev pub listed : List declared_line.Line → Steps → Steps
listed ls rest = lines_steps (lines_of ls) rest

abbrev pub one_line : declared_line.Line → Steps → Steps
one_line l rest = stmt_steps (shape_stmt l.stmt) rest

pub block_has : (s : Stmt) (first : Span) (ls : Vec declared_line.Line Global) (last : Span) → s ≡ stmt.Block first ls last
    → ◌≡◌ {A = Steps → Steps} (stmt_steps (shape_stmt s)) (λ rest. Inner first.start last.start (lines_steps (lines_of ls.items) Done) rest)
block_has s first ls last is = ap stmt_steps (ap shape_stmt is ∙ shape_block first ls last)

pub loop_has : (b : Loop)
    → ◌≡◌ {A = Steps → Steps} (stmt_steps (shape_loop b)) (λ rest. Inner (out-Loop b).keyword.start (out-Loop b).close.end (for_steps (shape_for (out-Loop b).head) (Inner (out-Loop b).«open».start (out-Loop b).close.start (lines_steps (lines_of (out-Loop b).body.items) Done) Done)) rest)
loop_has b = ap stmt_steps (loop_parts b)

pub else_has : (o : Otherwise) (k first : Span) (ls : Vec declared_line.Line Global) (last : Span) → o ≡ otherwise.Block k first ls last
    → ◌≡◌ {A = Steps → Steps} (else_steps (shape_else o)) (λ rest. Inner first.start last.start (lines_steps (lines_of ls.items) Done) rest)
else_has o k first ls last is = ap else_steps (ap shape_else is ∙ shape_else_block k first ls last)

pub branch_has : (b : declared_branch.Branch)
    → ◌≡◌ {A = Steps → Steps} (branch_steps (shape_branch b)) (λ rest. Inner (declared_branch.out-Branch b).keyword.start (end_of (spell_branch (Branch (declared_branch.out-Branch b).keyword (shape_if (declared_branch.out-Branch b).head) (declared_branch.out-Branch b).«open» (lines_of (declared_branch.out-Branch b).«then».items) (declared_branch.out-Branch b).close (shape_else (declared_branch.out-Branch b).otherwise))))
    (if_steps (shape_if (declared_branch.out-Branch b).head) (Inner (declared_branch.out-Branch b).«open».start (declared_branch.out-Branch b).close.start (lines_steps (lines_of (declared_branch.out-Branch b).«then».items) Done) (else_steps (shape_else (declared_branch.out-Branch b).otherwise) Done))) rest)
branch_has b = ap branch_steps (branch_parts b)
