-- The types that are written inside functions and in initialisers, each once. A type that is written inside another is not listed apart.
--
-- docs/RULES.md, "Types inside functions". The Go specification, "Types", "Composite literals".
use Rattle.std.specs.Prelude.{zero, suc, List, [], ◌++◌, Option, Some, None}
use Rattle.std.specs.List.{flat_map}
use Rattle.go_tree_nodes.specs.text_core.declared.span.Span.{Span}
use Rattle.go_tree_nodes.specs.Trees as tree
use Rattle.go_tree_nodes.specs.Trees.{TypeTree, SimpleTree, IfTree, ForTree, Forever, While, Clauses, StmtTree, BranchTree, ElseTree, Lines, Empty, Simple, Return, Break, Continue, Block, If, For, Branch, NoElse, ElseBlock, ElseIf, NoLines, Line, FuncTree, DeclTree, Value, Types, Func, FileTree}
use Rattle.go_term_core.specs.decl_core.TopDecls.{FormTree, ValueForm, TypeForm, FuncForm, TopDeclTree}
use Rattle.go_tree_nodes.specs.WrittenTypes.{expr_types, some_expr_types, some_exprs_types, signature_types, spec_types, specs_types, simple_types}

-- statements

abbrev pub some_simple_types : Option SimpleTree → List TypeTree
some_simple_types None = []
some_simple_types (Some s) = simple_types s

abbrev pub init_types : Option (Option SimpleTree × Span) → List TypeTree
init_types None = []
init_types (Some i) = some_simple_types i.0

abbrev pub if_types : IfTree → List TypeTree
if_types h = init_types h.init ++ expr_types h.condition

abbrev pub for_types : ForTree → List TypeTree
for_types Forever = []
for_types (While t) = expr_types t
for_types (Clauses init a test b post) = some_simple_types init ++ (some_expr_types test ++ some_simple_types post)

abbrev mutual
  pub stmt_types : StmtTree → List TypeTree
  stmt_types Empty = []
  stmt_types (tree.Declare v) = specs_types v.specs
  stmt_types (Simple s) = simple_types s
  stmt_types (Return s es) = some_exprs_types es
  stmt_types (Break s) = []
  stmt_types (Continue s) = []
  stmt_types (Block first ls last) = lines_types ls
  stmt_types (If b) = branch_types b
  stmt_types (For k head first ls last) = for_types head ++ lines_types ls

  pub branch_types : BranchTree → List TypeTree
  branch_types (Branch k head first ls last otherwise) = if_types head ++ (lines_types ls ++ else_types otherwise)

  pub else_types : ElseTree → List TypeTree
  else_types NoElse = []
  else_types (ElseBlock k first ls last) = lines_types ls
  else_types (ElseIf k b) = branch_types b

  pub lines_types : Lines → List TypeTree
  lines_types NoLines = []
  lines_types (Line s semicolon more) = stmt_types s ++ lines_types more

-- a function: the types of its parameters and results, and those in its body
abbrev pub func_types : FuncTree → List TypeTree
func_types f = signature_types f.signature ++ lines_types f.body

-- outside functions: the specifications of constants and variables

abbrev pub decl_types : DeclTree → List TypeTree
decl_types (Value v) = specs_types v.specs
decl_types (Types t) = []
decl_types (Func f) = []

abbrev pub file_types : FileTree → List TypeTree
file_types f = flat_map (λ t. decl_types t.decl) f.decls

-- the same of the declarations that a file's outline lists: a specification stands there once for each of its names, and counts at the first
abbrev pub form_types : FormTree → List TypeTree
form_types (ValueForm k v zero) = spec_types v
form_types (ValueForm k v (suc n)) = []
form_types (TypeForm t) = []
form_types (FuncForm f) = []

abbrev pub outline_types : List TopDeclTree → List TypeTree
outline_types ds = flat_map (λ d. form_types d.form) ds
