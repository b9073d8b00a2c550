-- Which names a function declares, and in which blocks: by lists that know nothing of the order in which they are checked.
--
-- The Go specification, "Blocks", "Declarations and scope", "Blank identifier".
use Rattle.std.specs.Prelude.{◌≡◌, ◌⊎◌, ℕ, ◌≤◌, ◌<◌, Bool, not, List, [], ◌∷◌, ◌++◌, Option, filter, map}
use Rattle.go_denote_core.specs.text_core.Text.{is_blank}
use Rattle.go_tree_nodes.specs.declared.names.Ident.{Ident}
use Rattle.go_tree_nodes.specs.Trees.{ParamTrees, NoParams, Param, ResultTree, NoResult, OneResult, Results, SignatureTree, Signed, StmtTree, Block, If, For, BranchTree, Branch, ElseTree, NoElse, ElseBlock, ElseIf, Lines, NoLines, Line, FuncTree}
use Rattle.go_tree_core.specs.Names.{Taking, nothing, one_name, take_each, take_lines, take_receiver, take_some}
use Rattle.go_local_core.specs.Binding.{Local}
use Rattle.go_local_core.specs.Denoted.{IsAmong}
use Rattle.go_local_core.specs.Law.{Rules}
use Rattle.go_local_core.specs.Tables.{IsFuncPlaced, IsTable}

-- names that are written

-- the names that stand before the types of parameters, or of results
abbrev pub parameter_names : ParamTrees → List Ident
parameter_names NoParams = []
parameter_names (Param xs type_expr comma rest) = take_some (take_each one_name) xs ++ parameter_names rest

-- results in parentheses may have names, a result that is a type alone has none
abbrev pub named_results : ResultTree → List Ident
named_results NoResult = []
named_results (OneResult type_expr) = []
named_results (Results first entries last) = parameter_names entries

-- the names of parameters and those of results
abbrev pub named_values : SignatureTree → List Ident
named_values (Signed first entries last result) = parameter_names entries ++ named_results result

-- the names that declarations write, and nothing of types and expressions
abbrev pub declarations_alone : Taking Ident
declarations_alone = record { of_name = one_name; of_type = nothing; of_signature = named_values; of_expr = nothing; of_target = nothing }

-- what a function writes: the names of its receiver, of its parameters and results, and those of the declarations in its body
abbrev pub written_names : FuncTree → List Ident
written_names f = take_receiver declarations_alone f.receiver ++ (named_values f.signature ++ take_lines declarations_alone f.body)

-- a blank identifier declares nothing
abbrev pub is_no_blank : Ident → Bool
is_no_blank x = not (is_blank x.name)

-- a name, and the offset where it is written
abbrev pub name_written_at : Ident → List ℕ × ℕ
name_written_at x = (x.name, x.span.start)

-- the name of a declaration, and the offset of its identifier
abbrev pub name_declared_at : {X : Type 0} → Local X → List ℕ × ℕ
name_declared_at d = (d.name, d.at)

-- the declarations of a function are the names that it writes, in order, but for blank ones
abbrev pub NamesAreWritten : (X N : Type 0) → Type 0
NamesAreWritten X N =
    (rules : Rules X N) (beyond : List ℕ → Option X) (f : FuncTree) (all : List (Local X)) → IsTable rules beyond f all
    → map name_declared_at all ≡ map name_written_at (filter is_no_blank (written_names f))

-- blocks

-- where a block begins, and where it ends
pub record BlockPlace : Type 0 where
  pub opens : ℕ
  pub closes : ℕ

abbrev pub block_between : ℕ → ℕ → BlockPlace
block_between opens closes = record { opens = opens; closes = closes }

-- an `if` ends where the last of its blocks does
abbrev mutual
  pub branch_end : BranchTree → ℕ
  branch_end (Branch keyword head first ls last otherwise) = else_end last.end otherwise

  pub else_end : ℕ → ElseTree → ℕ
  else_end before NoElse = before
  else_end before (ElseBlock keyword first ls last) = last.end
  else_end before (ElseIf keyword b) = branch_end b

-- the blocks of statements: one between each pair of braces, one around each `if` to its end, and one around each `for`
abbrev mutual
  pub stmt_blocks : StmtTree → List BlockPlace
  stmt_blocks (Block first ls last) = block_between first.start last.start ∷ lines_blocks ls
  stmt_blocks (If b) = branch_blocks b
  stmt_blocks (For keyword head first ls last) = block_between keyword.start last.end ∷ (block_between first.start last.start ∷ lines_blocks ls)
  stmt_blocks _ = []

  pub branch_blocks : BranchTree → List BlockPlace
  branch_blocks (Branch keyword head first ls last otherwise) =
      block_between keyword.start (branch_end (Branch keyword head first ls last otherwise))
      ∷ (block_between first.start last.start ∷ (lines_blocks ls ++ else_blocks otherwise))

  pub else_blocks : ElseTree → List BlockPlace
  else_blocks NoElse = []
  else_blocks (ElseBlock keyword first ls last) = block_between first.start last.start ∷ lines_blocks ls
  else_blocks (ElseIf keyword b) = branch_blocks b

  pub lines_blocks : Lines → List BlockPlace
  lines_blocks NoLines = []
  lines_blocks (Line s semicolon rest) = stmt_blocks s ++ lines_blocks rest

-- the blocks of a function: its own, to the closing brace of its body, and those in its body
abbrev pub func_blocks : FuncTree → List BlockPlace
func_blocks f = block_between f.func.start f.close_brace.start ∷ lines_blocks f.body

-- the block is one of the list
abbrev pub IsBlockOf : List BlockPlace → BlockPlace → Type 0
IsBlockOf [] b = ⊥
IsBlockOf (c ∷ cs) b = (b ≡ c) ⊎ IsBlockOf cs b

-- a block contains a place
abbrev pub ContainsPlace : BlockPlace → ℕ → Type 0
ContainsPlace b place = (b.opens ≤ place) × (place < b.closes)

-- a block lies within another, or is that
abbrev pub LiesWithin : BlockPlace → BlockPlace → Type 0
LiesWithin b c = (c.opens ≤ b.opens) × (b.closes ≤ c.closes)

-- a block is the innermost of the list that contains a place
pub record IsInnermostBlock (blocks : List BlockPlace) (place : ℕ) (b : BlockPlace) : Type 0 where
  -- it is one of the list
  pub one : IsBlockOf blocks b
  -- it contains the place
  pub has : ContainsPlace b place
  -- it lies within each other one that does
  pub inner : (c : BlockPlace) → IsBlockOf blocks c → ContainsPlace c place → LiesWithin b c

-- the block that owns a declaration
abbrev pub owner : {X : Type 0} → Local X → BlockPlace
owner d = block_between d.opens d.closes

-- each declaration of a function belongs to the innermost of its blocks that contains the identifier
abbrev pub BlocksAreInnermost : (X N : Type 0) → Type 0
BlocksAreInnermost X N =
    (rules : Rules X N) (beyond : List ℕ → Option X) (f : FuncTree) → IsFuncPlaced f → (all : List (Local X)) → IsTable rules beyond f all
    → (d : Local X) → IsAmong d all → IsInnermostBlock (func_blocks f) d.at (owner d)
