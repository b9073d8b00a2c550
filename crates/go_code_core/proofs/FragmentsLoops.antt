-- Loops over lists.
use Rattle.std.proofs.Common.{◌≡◌, ◌≤◌, suc, false, List, [], ◌∷◌, length, refl, sym, ap, ◌∙◌, arith}
use Rattle.std.specs.Prelude.{Option, Some, None}
use Rattle.go_tree_nodes.specs.declared.exprs.«Item» as declared_item
use Rattle.go_tree_nodes.specs.Shapes.{items_of}
use Rattle.go_constant_core.specs.text_core.declared.span.Span.{Span}
use Rattle.go_tree_nodes.specs.declared.names.Idents.{Idents}
use Rattle.go_tree_nodes.specs.declared.types.«Param» as declared_param
use Rattle.go_tree_nodes.specs.Trees.{TypeTree, Param}
use Rattle.go_tree_nodes.specs.TypeShapes.{params_of, shape_names, shape_type}
use Rattle.go_tree_nodes.specs.Counts.{item_count}
use Rattle.go_code_core.specs.fragments.Constants.{folded_one}
use Rattle.go_code_core.specs.fragments.Inside.{listed_result_inside}
use Rattle.go_code_core.specs.fragments.Names.{CodeLooks}

-- how many arguments there are
pub counted : (is : List declared_item.Item) → item_count (items_of is) ≡ length is
counted [] = refl
counted (i ∷ is) = ap suc (counted is)

-- several arguments are not folded
pub several : (looks : CodeLooks) (is others : List declared_item.Item) → is ≡ others → 2 ≤ length is → None ≡ folded_one looks (items_of others)
several looks [] others e h = absurd (omega (arith, h))
several looks (i ∷ []) others e h = absurd (omega (arith, h))
several looks (i ∷ (j ∷ is)) others e h = ap (λ l. folded_one looks (items_of l)) e

-- a list that is not empty
pub record IsMore (A : Type 0) (xs : List A) : Type 0 where
  pub first : A
  pub behind : List A
  pub is : xs ≡ first ∷ behind

pub is_more : {A : Type 0} (seen xs : List A) → seen ≡ xs → 1 ≤ length seen → IsMore A xs
is_more [] xs e h = absurd (omega (arith, h))
is_more (x ∷ seen) xs e h = record { first = x; behind = seen; is = sym e }

two_results : (looks : CodeLooks) (names : Option Idents) (t : TypeTree) (comma : Option Span) (q : declared_param.Param) (seen : List declared_param.Param) → false ≡ listed_result_inside looks (Param (shape_names names) t comma (params_of (q ∷ seen)))
two_results looks None t comma q seen = refl
two_results looks (Some xs) t comma q seen = refl

-- several results are not one without a name
pub several_results : (looks : CodeLooks) (seen ps : List declared_param.Param) → seen ≡ ps → 2 ≤ length seen → false ≡ listed_result_inside looks (params_of ps)
several_results looks [] ps e h = absurd (omega (arith, h))
several_results looks (p ∷ []) ps e h = absurd (omega (arith, h))
several_results looks (p ∷ (q ∷ seen)) ps e h = two_results looks p.names (shape_type p.type_expr) p.comma q seen ∙ ap (λ l. listed_result_inside looks (params_of l)) e
