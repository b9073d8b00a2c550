-- The calls of a function's body, each with what is called and its arguments.
--
-- The Go specification, "Calls".
use Rattle.std.specs.Prelude.{◌≡◌, ℕ, suc, List, [], ◌∷◌, ◌++◌}
use Rattle.go_path_core.specs.text_core.declared.span.Span.{Span}
use Rattle.go_tree_nodes.specs.Trees.{ExprTree, ItemTrees, Integer, Text, Named, Paren, Unary, Binary, Select, Call, Literal, StructLiteral, NoItems, Item, FuncTree}
use Rattle.go_tree_nodes.specs.Counts.{item_count}
use Rattle.go_tree_core.specs.Names.{Taking, nothing, take_lines}
use Rattle.go_code_core.specs.declared.fragments.names.Meaning.{Meaning}
use Rattle.go_code_core.specs.declared.fragments.names.Meaning.TheVariants as meanings
use Rattle.go_code_core.specs.fragments.Names.{CodeLooks, callee_meaning}

-- a call: what is called, the opening parenthesis, and the arguments
pub record CallSite : Type 0 where
  pub callee : ExprTree
  pub first : Span
  pub items : ItemTrees

abbrev pub site : ExprTree → Span → ItemTrees → CallSite
site e first items = record { callee = e; first = first; items = items }

abbrev mutual
  pub expr_sites : ExprTree → List CallSite
  expr_sites (Integer n span) = []
  expr_sites (Text t) = []
  expr_sites (Named x) = []
  expr_sites (Paren first e last) = expr_sites e
  expr_sites (Unary op span e) = expr_sites e
  expr_sites (Binary a op span b) = expr_sites a ++ expr_sites b
  expr_sites (Select e dot x) = expr_sites e
  expr_sites (Call e first items last) = expr_sites e ++ (site e first items ∷ items_sites items)
  expr_sites (Literal n first items last) = items_sites items
  expr_sites (StructLiteral t first items last) = items_sites items

  pub items_sites : ItemTrees → List CallSite
  items_sites NoItems = []
  items_sites (Item key e comma rest) = expr_sites e ++ items_sites rest

abbrev pub sites : Taking CallSite
sites = record { of_name = nothing; of_type = nothing; of_signature = nothing; of_expr = expr_sites; of_target = expr_sites }

-- the calls of a body, in order of place
abbrev pub body_calls : FuncTree → List CallSite
body_calls f = take_lines sites f.body

-- a word for each argument, and one for the receiver of a method
abbrev pub HasWords : Meaning → ℕ → ℕ → Type 0
HasWords (meanings.Function g) items words = words ≡ items
HasWords (meanings.Method g) items words = words ≡ suc items
HasWords _ items words = ⊥

-- code that calls what stands there: by the reference of the place, a function or a method, with so many words
pub record IsCallOfSite (looks : CodeLooks) (c : CallSite) (reference words : ℕ) : Type 0 where
  pub place : reference ≡ looks.reference c.first.start
  pub handed : HasWords (callee_meaning looks c.callee) (item_count c.items) words
