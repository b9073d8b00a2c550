-- Arguments and elements as a list, each with the comma behind it where one stands.
use Rattle.std.proofs.Common.{◌≡◌, ℕ, max, Bool, false, List, [], ◌∷◌, ◌++◌, Option, Some, None, refl, ap, ◌∙◌, append_assoc}
use Rattle.go_tree_nodes.specs.text_core.declared.span.Span.{Span}
use Rattle.go_tree_nodes.specs.token_core.declared.kind.Operator.{Operator}
use Rattle.go_tree_nodes.specs.token_core.declared.kind.Operator.TheVariants as operator
use Rattle.go_tree_nodes.specs.Terminals.{Terminal}
use Rattle.go_tree_nodes.specs.Trees.{ExprTree, ItemTrees, NoItems, Item}
use Rattle.go_tree_nodes.specs.Spelling.{mark, spell_some, spell_key, spell, spell_items}
use Rattle.go_tree_nodes.specs.Rules.{is_unary, IsNothing, IsKept, IsLastItem, MayHaveKey, Wf, Wf_items, Wf_group}
use Rattle.go_tree_nodes.specs.Heights.{height, items_height, group_height}
use Rattle.go_parse_reader.specs.types.mirrors.Marks.{same_operator}
use Rattle.go_parse_reader.specs.exprs.mirrors.ExprReading.{ItemTree, as_items}
use Rattle.go_parse_reader.proofs.TypesLists.{spell_list}
use Rattle.go_parse_reader.proofs.ExprsBehind.{Stops}

abbrev pub list_of : ItemTrees → List (ItemTree × Option Span)
list_of NoItems = []
list_of (Item key t comma rest) = ((key, t), comma) ∷ list_of rest

abbrev pub spell_item : ItemTree → List Terminal
spell_item x = spell_key x.0 ++ spell x.1

abbrev pub item_height : ItemTree → ℕ
item_height x = height x.1

-- the list is the items again
pub list_as_items : (is : ItemTrees) → as_items (list_of is) ≡ is
list_as_items NoItems = refl
list_as_items (Item key t comma rest) = ap (Item key t comma) (list_as_items rest)

pub list_spelled_items : (xs : List (ItemTree × Option Span)) → spell_list spell_item operator.Comma xs ≡ spell_items (as_items xs)
list_spelled_items [] = refl
list_spelled_items (x ∷ xs) =
    append_assoc (spell_key x.0.0) (spell x.0.1) (spell_some operator.Comma x.1 ++ spell_list spell_item operator.Comma xs)
    ∙ ap (λ l. spell_key x.0.0 ++ (spell x.0.1 ++ (spell_some operator.Comma x.1 ++ l))) (list_spelled_items xs)

pub list_items_height : (xs : List (ItemTree × Option Span)) → group_height item_height xs ≡ items_height (as_items xs)
list_items_height [] = refl
list_items_height (x ∷ xs) = ap (max (height x.0.1)) (list_items_height xs)

-- the rules of an item
abbrev pub Wf_item : Bool → ItemTree → Type 0
Wf_item keyed x = MayHaveKey keyed x.0 × Wf false x.1

kept_items : (comma : Option Span) (xs : List (ItemTree × Option Span)) → IsKept comma (IsNothing xs) → IsKept comma (IsLastItem (as_items xs))
kept_items (Some s) xs h = tt
kept_items None [] h = tt
kept_items None (x ∷ xs) h = absurd h

pub list_wf_items : (keyed : Bool) (xs : List (ItemTree × Option Span)) → Wf_group (Wf_item keyed) xs → Wf_items keyed (as_items xs)
list_wf_items keyed [] h = tt
list_wf_items keyed (x ∷ xs) h = (h.0.0, h.0.1, kept_items x.1 xs h.1, list_wf_items keyed xs h.2)

-- each expression among the items has a property
abbrev pub Each : (ExprTree → Type 0) → ItemTrees → Type 0
Each P NoItems = Unit {0}
Each P (Item key t comma rest) = P t × Each P rest

kept_list : (comma : Option Span) (is : ItemTrees) → IsKept comma (IsLastItem is) → IsKept comma (IsNothing (list_of is))
kept_list (Some s) is h = tt
kept_list None NoItems h = tt
kept_list None (Item key t comma rest) h = absurd h

pub items_wf_list : (P : ExprTree → Type 0) (keyed : Bool) (is : ItemTrees) → Wf_items keyed is → Each P is → Wf_group (λ x. Wf_item keyed x × P x.1) (list_of is)
items_wf_list P keyed NoItems wf each = tt
items_wf_list P keyed (Item key t comma rest) wf each = (((wf.0, wf.1), each.0), kept_list comma rest wf.2, items_wf_list P keyed rest wf.3 each.1)

-- a mark that closes a list: it is no operator, it begins no expression and goes on with none
pub record Closes (close : Operator) : Type 0 where
  pub comma : same_operator close operator.Comma ≡ false
  pub colon : same_operator close operator.Colon ≡ false
  pub paren : same_operator operator.OpenParen close ≡ false
  pub unary : is_unary close ≡ false
  pub stops : (s : Span) (ts : List Terminal) → Stops false 1 (mark close s ∷ ts)

pub paren_closes : Closes operator.CloseParen
paren_closes = record { comma = refl; colon = refl; paren = refl; unary = refl; stops = λ s ts. (refl, refl) }

pub brace_closes : Closes operator.CloseBrace
brace_closes = record { comma = refl; colon = refl; paren = refl; unary = refl; stops = λ s ts. (refl, refl) }
