-- Look-ups that differ in names and in struct types that are written out, and agree on those of an expression.
--
-- docs/RULES.md, "Expressions: roles, order, faults of parts". The Go specification, "Struct types", "Composite literals".
use Rattle.std.specs.Prelude.{◌≡◌, ℕ, ⊤, List, [], ◌∷◌, ◌++◌}
use Rattle.go_tree_nodes.specs.Trees.{TypeTree, ExprTree, ItemTrees, Integer, Text, Named, Paren, Unary, Binary, Select, Call, Literal, StructLiteral, NoItems, Item}
use Rattle.go_tree_nodes.specs.WrittenTypes.{expr_types}
use Rattle.go_denote_core.specs.declared.things.Stand.{Stand}
use Rattle.go_denote_core.specs.declared.things.Found.{Found}
use Rattle.go_expr_core.specs.Looks.{Looks, WrittenRules}
use Rattle.go_expr_core.specs.Denoting.{named_type, written_type, denoted}
use Rattle.go_expr_core.specs.Laws.{AgreeOnIdents, Same}
use Rattle.go_expr_core.specs.Needed.{needed_idents}
use Rattle.go_tree_nodes.specs.Idents.{expr_idents}

abbrev mutual
  -- the struct types before literals that what an expression denotes needs: none in the elements of a literal
  pub needed_types : ExprTree → List TypeTree
  needed_types (Integer n span) = []
  needed_types (Text t) = []
  needed_types (Named x) = []
  needed_types (Paren first e last) = needed_types e
  needed_types (Unary op span e) = needed_types e
  needed_types (Binary a op span b) = needed_types a ++ needed_types b
  needed_types (Select e dot x) = needed_types e
  needed_types (Call e first items last) = needed_types e ++ needed_types_in items
  needed_types (Literal n first items last) = []
  needed_types (StructLiteral t first items last) = t ∷ []

  -- those of arguments
  pub needed_types_in : ItemTrees → List TypeTree
  needed_types_in NoItems = []
  needed_types_in (Item key e comma rest) = needed_types e ++ needed_types_in rest

-- two look-ups make the same of a struct type, each by the types that the names in it denote to it
pub record SameType (T S D P : Type 0) (looks other : Looks T S D P) (t : TypeTree) : Type 0 where
  pub type_of : written_type looks t ≡ written_type other t
  pub faults_of : looks.written.faults_of (named_type looks) t ≡ other.written.faults_of (named_type other) t

-- they make the same of each of these
abbrev pub SameWritten : {T S D P : Type 0} → Looks T S D P → Looks T S D P → List TypeTree → Type 0
SameWritten looks other [] = ⊤
SameWritten {T} {S} {D} {P} looks other (t ∷ ts) = SameType T S D P looks other t × SameWritten looks other ts

-- the look-ups with another look-up of names and other rules of struct types
abbrev pub seeing : {T S D P : Type 0} → (List ℕ → ℕ → Found T S D) → WrittenRules T → Looks T S D P → Looks T S D P
seeing find written looks = record { find = find; exported = looks.exported; select = looks.select; params = looks.params; results = looks.results; types = looks.types; literals = looks.literals; written = written }

pub record ExpressionsAreSeenAlike (T S D P : Type 0) : Type 0 where
  -- look-ups that agree on each name of an expression, where it stands, and on each struct type before a literal in it, make the same of it
  pub whole : (looks : Looks T S D P) (find : List ℕ → ℕ → Found T S D) (written : WrittenRules T) (p : Stand) (e : ExprTree)
      → AgreeOnIdents looks.find find (expr_idents e) → SameWritten looks (seeing find written looks) (expr_types e) → Same T S D P looks (seeing find written looks) p e
  -- and it denotes the same where they agree on those outside the elements of literals
  pub needed : (looks : Looks T S D P) (find : List ℕ → ℕ → Found T S D) (written : WrittenRules T) (p : Stand) (e : ExprTree)
      → AgreeOnIdents looks.find find (needed_idents e) → SameWritten looks (seeing find written looks) (needed_types e) → denoted looks p e ≡ denoted (seeing find written looks) p e
