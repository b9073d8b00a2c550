-- The expressions in a few expressions, each with the place at which it is judged, worked out by hand: of every form of expression, with any identifiers
-- and places of tokens.
use Rattle.std.specs.Prelude.{◌≡◌, [], ◌∷◌, Some, None}
use Rattle.go_path_core.specs.text_core.declared.span.Span.{Span}
use Rattle.go_tree_nodes.specs.token_core.declared.kind.Operator.TheVariants as operators
use Rattle.go_tree_nodes.specs.declared.names.Ident.{Ident}
use Rattle.go_tree_nodes.specs.declared.names.TextLiteral.{TextLiteral}
use Rattle.go_tree_nodes.specs.declared.exprs.Key.{Key}
use Rattle.go_tree_nodes.specs.declared.types.TypeName.{TypeName}
use Rattle.go_tree_nodes.specs.Trees.{TypeTree, Integer, Text, Named, Paren, Unary, Binary, Select, Call, Literal, StructLiteral, NoItems, Item}
use Rattle.go_report_core.specs.denote_core.declared.things.Stand.TheVariants as stands
use Rattle.go_workspace_laws.specs.folding.Parts.{parts}

pub record SampleParts : Type 0 where
  -- -(a) + 1
  pub sums : (s : Span) (a : Ident) → parts stands.«Value» (Binary (Unary operators.Minus s (Paren s (Named a) s)) operators.Plus s (Integer 1 s)) ≡
      (stands.«Value», Binary (Unary operators.Minus s (Paren s (Named a) s)) operators.Plus s (Integer 1 s))
      ∷ (stands.«Value», Unary operators.Minus s (Paren s (Named a) s))
      ∷ (stands.«Value», Paren s (Named a) s)
      ∷ (stands.«Value», Named a)
      ∷ (stands.«Value», Integer 1 s) ∷ []
  -- a.f("", b)
  pub calls : (s : Span) (a f b : Ident) (t : TextLiteral) → parts stands.«Value» (Call (Select (Named a) s f) s (Item None (Text t) (Some s) (Item None (Named b) None NoItems)) s) ≡
      (stands.«Value», Call (Select (Named a) s f) s (Item None (Text t) (Some s) (Item None (Named b) None NoItems)) s)
      ∷ (stands.Callee, Select (Named a) s f)
      ∷ (stands.BeforeDot, Named a)
      ∷ (stands.«Value», Text t)
      ∷ (stands.«Value», Named b) ∷ []
  -- (*t)(f().x): behind the star of what is called stands a type, and what stands left of a dot and is no name is an operand
  pub conversions : (s : Span) (t f x : Ident) → parts stands.«Value» (Call (Paren s (Unary operators.Star s (Named t)) s) s (Item None (Select (Call (Named f) s NoItems s) s x) None NoItems) s) ≡
      (stands.«Value», Call (Paren s (Unary operators.Star s (Named t)) s) s (Item None (Select (Call (Named f) s NoItems s) s x) None NoItems) s)
      ∷ (stands.Callee, Paren s (Unary operators.Star s (Named t)) s)
      ∷ (stands.Callee, Unary operators.Star s (Named t))
      ∷ (stands.«Type», Named t)
      ∷ (stands.«Value», Select (Call (Named f) s NoItems s) s x)
      ∷ (stands.«Value», Call (Named f) s NoItems s)
      ∷ (stands.Callee, Named f) ∷ []
  -- t{k: a} and struct{ .. }{b, c}: elements, and neither types nor keys
  pub literals : (s : Span) (t : TypeName) (k : Key) (a : Ident) → parts stands.«Value» (Literal t s (Item (Some k) (Named a) None NoItems) s) ≡
      (stands.«Value», Literal t s (Item (Some k) (Named a) None NoItems) s) ∷ (stands.«Value», Named a) ∷ []
  pub written : (s : Span) (t : TypeTree) (b c : Ident) → parts stands.«Value» (StructLiteral t s (Item None (Named b) (Some s) (Item None (Named c) None NoItems)) s) ≡
      (stands.«Value», StructLiteral t s (Item None (Named b) (Some s) (Item None (Named c) None NoItems)) s)
      ∷ (stands.«Value», Named b)
      ∷ (stands.«Value», Named c) ∷ []
