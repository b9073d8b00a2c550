-- The innermost block that has a declaration of a name.
use Rattle.std.proofs.Common.{◌≡◌, ℕ, List, [], ◌∷◌, ◌++◌, Option, Some, None, refl, ap, ◌∙◌, sym}
use Rattle.std.specs.Prelude.{IfSome, IsNone}
use Rattle.std.proofs.lemmas.List.Elements.{All-nil, All-cons, All-head, All-tail}
use Rattle.go_scope_stack.specs.Blocks.{found_in, in_block, or_else, NoneHas, IsInnermost}

module _ {X : Type 0} where
  pub found_none : (blocks : List (List (List ℕ × X))) (name : List ℕ) → found_in blocks name ≡ None → NoneHas blocks name
  found_none [] name e = All-nil _
  found_none (block ∷ blocks) name e = by (found_in blocks name) refl e (found_none blocks name)
    where
      by : (o : Option X) → found_in blocks name ≡ o → or_else o (in_block block name) ≡ None → (found_in blocks name ≡ None → NoneHas blocks name) → NoneHas (block ∷ blocks) name
      by None is e rest = All-cons (λ b. in_block b name ≡ None) block blocks e (rest is)
      by (Some d) is e rest = cc

  pub none_found : (blocks : List (List (List ℕ × X))) (name : List ℕ) → NoneHas blocks name → found_in blocks name ≡ None
  none_found [] name h = refl
  none_found (block ∷ blocks) name h =
      ap (λ o. or_else o (in_block block name)) (none_found blocks name (All-tail (λ b. in_block b name ≡ None) block blocks h))
      ∙ All-head (λ b. in_block b name ≡ None) block blocks h

  pub found_innermost : (blocks : List (List (List ℕ × X))) (name : List ℕ) (d : X) → found_in blocks name ≡ Some d → IsInnermost blocks name d
  found_innermost [] name d e = cc
  found_innermost (block ∷ blocks) name d e = by (found_in blocks name) refl e (found_innermost blocks name)
    where
      by : (o : Option X) → found_in blocks name ≡ o → or_else o (in_block block name) ≡ Some d → ((x : X) → found_in blocks name ≡ Some x → IsInnermost blocks name x) → IsInnermost (block ∷ blocks) name d
      by None is e rest = ([], block, blocks, refl, e, found_none blocks name is)
      by (Some x) is e rest =
          let r = rest d (is ∙ e) in
          (block ∷ r.0, r.1, r.2, ap (λ l. block ∷ l) r.3, r.4, r.5)

  innermost_split : (outer : List (List (List ℕ × X))) (block : List (List ℕ × X)) (inner : List (List (List ℕ × X))) (name : List ℕ) (d : X) → in_block block name ≡ Some d → NoneHas inner name → found_in (outer ++ block ∷ inner) name ≡ Some d
  innermost_split [] block inner name d has none = ap (λ o. or_else o (in_block block name)) (none_found inner name none) ∙ has
  innermost_split (b ∷ outer) block inner name d has none = ap (λ o. or_else o (in_block b name)) (innermost_split outer block inner name d has none)

  pub innermost_found : (blocks : List (List (List ℕ × X))) (name : List ℕ) (d : X) → IsInnermost blocks name d → found_in blocks name ≡ Some d
  innermost_found blocks name d h = ap (λ bs. found_in bs name) h.3 ∙ innermost_split h.0 h.1 h.2 name d h.4 h.5

  pub answer_innermost : (r : Option X) (blocks : List (List (List ℕ × X))) (name : List ℕ) → r ≡ found_in blocks name → IfSome r (λ d. IsInnermost blocks name d)
  answer_innermost None blocks name e = tt
  answer_innermost (Some d) blocks name e = found_innermost blocks name d (sym e)

  pub answer_none : (r : Option X) (blocks : List (List (List ℕ × X))) (name : List ℕ) → r ≡ found_in blocks name → IsNone r → NoneHas blocks name
  answer_none None blocks name e h = found_none blocks name (sym e)
  answer_none (Some d) blocks name e h = cc

  -- the meanings of an answer
  pub meanings : (r : Option X) (blocks : List (List (List ℕ × X))) (name : List ℕ) → r ≡ found_in blocks name → IfSome r (λ d. IsInnermost blocks name d) × ((d : X) → IsInnermost blocks name d → r ≡ Some d) × (IsNone r → NoneHas blocks name)
  meanings r blocks name e = (answer_innermost r blocks name e, λ d h. e ∙ innermost_found blocks name d h, answer_none r blocks name e)
