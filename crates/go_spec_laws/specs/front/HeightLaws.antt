-- How high a tree is: the largest number of nodes on one path down.
--
-- The Go specification, "Types", "Expressions", "Statements", "Blocks", "Declarations and scope".
use Rattle.std.specs.Prelude.{◌≡◌, ◌≢◌, ℕ, suc, ◌≤◌, [], ◌∷◌, Contains}
use Rattle.go_tree_nodes.specs.token_core.declared.kind.Operator.TheVariants as operators
use Rattle.go_tree_nodes.specs.declared.decls.ValueKind.TheVariants as value_kinds
use Rattle.go_tree_nodes.specs.Heights.{decl_height, file_height, height, simple_height, stmt_height, type_height}
use Rattle.go_tree_nodes.specs.Samples.{at, int_at}
use Rattle.go_tree_nodes.specs.Trees.{TypeTree, ExprTree, SimpleTree, StmtTree, Break, Declare, Empty, If, Simple, Alone, NoElse, ElseBlock, ElseIf, DeclTree, FileTree}
use Rattle.go_spec_laws.specs.front.HeightNodes.{Node, ExprNode, SimpleNode, TypeNode, nodes_below, decl_node, file_nodes, stmt_node}
use Rattle.go_spec_laws.specs.front.HeightSamples.{alias_decl, block_of, branch_after, branch_of, call_of, call_with, const_of, counted_of, defined_as, embedded_pointer, f_name, file_of_decls, forever_of, func_of, func_of_pointer, in_parens, joined_by, lines_of, literal_of, method_of_pointer, number_one, one_field, one_method, pointer_to, return_of, selected_of, struct_literal_of, struct_of, two_types, value_of, var_of, while_of, x_name, y_name}

-- ---- paths

-- a path of so many nodes, from a node down
pub data IsTreePath : Node → ℕ → Type 0 where
  -- it may end at each node
  Ends : {n : Node} → IsTreePath n 1
  -- or go on to a node right below
  GoesOn : {n m : Node} {k : ℕ} → Contains (nodes_below n) m → IsTreePath m k → IsTreePath n (suc k)

-- a path of so many nodes, from a declaration of the package block down
abbrev pub IsFilePath : FileTree → ℕ → Type 0
IsFilePath f k = (n : Node) × Contains (file_nodes f) n × IsTreePath n k

-- it is so of this number, and of none that is larger
abbrev pub IsLargest : (ℕ → Type 0) → ℕ → Type 0
IsLargest P n = P n × ((m : ℕ) → P m → m ≤ n)

-- the height of a tree is the largest number of nodes on one path down
pub record HeightsAreOfPaths : Type 0 where
  -- from a type
  pub types : (t : TypeTree) → IsLargest (IsTreePath (TypeNode t)) (type_height t)
  -- from an expression
  pub exprs : (t : ExprTree) → IsLargest (IsTreePath (ExprNode t)) (height t)
  -- from a simple statement
  pub simples : (s : SimpleTree) → IsLargest (IsTreePath (SimpleNode s)) (simple_height s)
  -- from a statement
  pub stmts : (s : StmtTree) → IsLargest (IsTreePath (stmt_node s)) (stmt_height s)
  -- from a declaration of the package block
  pub decls : (d : DeclTree) → IsLargest (IsTreePath (decl_node d)) (decl_height d)
  -- in a file that declares something
  pub files : (f : FileTree) → f.decls ≢ [] → IsLargest (IsFilePath f) (file_height f)
  -- a file that declares nothing has height 0
  pub nothing : (f : FileTree) → f.decls ≡ [] → file_height f ≡ 0

-- ---- heights that are counted by hand

pub record HeightsAreWorked : Type 0 where
  -- const x = 1: the declaration, the number
  pub constant : decl_height (const_of number_one) ≡ 2
  -- var x = ((1)): the declaration, two pairs of parentheses, the number
  pub variable : decl_height (var_of (in_parens (in_parens number_one))) ≡ 4
  -- func f() { { return x } }: the function, its body, the block, the statement, the name
  pub function : decl_height (func_of (block_of (return_of x_name ∷ []) ∷ [])) ≡ 5
  -- the three in one file: the highest of them
  pub file : file_height (file_of_decls (const_of number_one ∷ (func_of (block_of (return_of x_name ∷ []) ∷ []) ∷ (var_of (in_parens (in_parens number_one)) ∷ [])))) ≡ 5
  -- (x): the parentheses, the name
  pub parentheses : height (in_parens x_name) ≡ 2
  -- x.x.x: two selectors, the name
  pub selectors : height (selected_of (selected_of x_name)) ≡ 3
  -- x + y * 1: the sum, the product, the number
  pub operators : height (joined_by operators.Plus x_name (joined_by operators.Star y_name number_one)) ≡ 3
  -- f(f(1)): two calls, the number
  pub calls : height (call_with f_name (call_with f_name number_one)) ≡ 3
  -- f(f(1), 1): the same, with a second argument that is lower
  pub call_of_two : height (call_of f_name (call_with f_name number_one ∷ (number_one ∷ []))) ≡ 3
  -- f(1)(1): two calls, the name or the number of the inner one
  pub call_of_call : height (call_with (call_with f_name number_one) number_one) ≡ 3
  -- T{}: the literal, its type
  pub literal : height (literal_of []) ≡ 2
  -- T{T{}}: two literals, the type of the inner one
  pub literals : height (literal_of (literal_of [] ∷ [])) ≡ 3
  -- T{1, T{(1)}}: two literals, the parentheses, the number
  pub literal_in_literal : height (literal_of (number_one ∷ (literal_of (in_parens number_one ∷ []) ∷ []))) ≡ 4
  -- struct { x *int }{1}: the literal, its type, the pointer, the name
  pub struct_literal : height (struct_literal_of (one_field (pointer_to (int_at 0))) (number_one ∷ [])) ≡ 4
  -- struct { *T }: the type, the name; the star is no node
  pub embedded : type_height (struct_of embedded_pointer) ≡ 2
  -- interface { m(x *int) T }: the type, the pointer, the name
  pub interface_type : type_height one_method ≡ 3
  -- type ( T int; T **int ): the declaration, two pointers, the name; the specifications are no nodes
  pub types : decl_height (two_types (int_at 0) (pointer_to (pointer_to (int_at 0)))) ≡ 4
  -- type A = T: the declaration, the name
  pub alias : decl_height alias_decl ≡ 2
  -- func (x *T) m() { }: the function, its body or the receiver's type, whose star is no node
  pub method : decl_height method_of_pointer ≡ 2
  -- func f(x *int) T { }: the function, the pointer, the name
  pub signature : decl_height func_of_pointer ≡ 3
  -- a statement of no parts
  pub lone : stmt_height (Break (at 0)) ≡ 1
  -- { ; }: the block, the empty statement
  pub empty_in_block : stmt_height (block_of (Empty ∷ [])) ≡ 2
  -- var x = 1 inside a function: the declaration is the statement
  pub declared_inside : stmt_height (Declare (value_of value_kinds.Var number_one)) ≡ 2
  -- f(1), as a statement: the statement, the call, the name or the number
  pub call_alone : stmt_height (Simple (Alone (call_with f_name number_one))) ≡ 3
  -- for x { if y { { f(1) } } }: the `for`, its block, the `if`, its block, the block, the statement, the call, the name or the number
  pub nested : stmt_height (while_of x_name (If (branch_of y_name (block_of (Simple (Alone (call_with f_name number_one)) ∷ []) ∷ []) NoElse) ∷ [])) ≡ 8
  -- for { }: the `for`, its block
  pub forever : stmt_height (forever_of []) ≡ 2
  -- for x := ((1)); ; { }: the `for`, the statement of its header, two pairs of parentheses, the number
  pub header_of_for : stmt_height (counted_of (in_parens (in_parens number_one))) ≡ 5
  -- if x := (1); y { }: the `if`, the statement of its header, the parentheses, the number
  pub header_of_if : stmt_height (If (branch_after (defined_as (in_parens number_one)) y_name [])) ≡ 4
  -- if x { } else { break }: the `if`, the block behind `else`, the statement
  pub otherwise : stmt_height (If (branch_of x_name [] (ElseBlock (at 0) (at 0) (lines_of (Break (at 0) ∷ [])) (at 0)))) ≡ 3
  -- if x { } else if y { } else if x { }: three `if`, each inside the one before, and the block of the last
  pub chain : stmt_height (If (branch_of x_name [] (ElseIf (at 0) (branch_of y_name [] (ElseIf (at 0) (branch_of x_name [] NoElse)))))) ≡ 4
