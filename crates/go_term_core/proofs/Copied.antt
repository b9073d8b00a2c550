-- Lists whose elements have the same terms have the same terms.
use Rattle.std.proofs.Common.{◌≡◌, ℕ, ◌+◌, ◌<◌, ◌≤◌, List, [], ◌∷◌, ◌++◌, length, get_or, take, map, Ok, refl, ap, sym, ◌∙◌, subst}
use Rattle.std.specs.Prelude.{IfOk}
use Rattle.std.specs.declared.result.Result.{Result}
use Rattle.std.proofs.lemmas.List.{take_all, map_more, map-append}
use Rattle.go_term_core.specs.declared.term.Method.{Method}
use Rattle.go_term_core.specs.Terms.{Methods, NoMethod, AMethod}
use Rattle.go_term_core.specs.Shapes.{sign_of, method_shapes}

-- a loop that adds an element with an equal part
module _ {X T : Type 0} (part : X → T) where
  pub one_copied : (copies more xs : List X) (i : ℕ) (x y : X) → i < length xs → x ≡ get_or xs i x → more ≡ copies ++ y ∷ [] → part y ≡ part x → map part copies ≡ map part (take i xs) → map part more ≡ map part (take (i + 1) xs)
  one_copied copies more xs i x y lt is pushed same before =
      ap (map part) pushed ∙ map-append part copies (y ∷ []) ∙ ap (λ l. l ++ part y ∷ []) before ∙ ap (λ t. map part (take i xs) ++ t ∷ []) (same ∙ ap part is) ∙ sym (map_more part xs i x lt)

  pub all_copied : (copies items xs : List X) (i : ℕ) → items ≡ xs → length items ≤ i → map part copies ≡ map part (take i items) → map part copies ≡ map part xs
  all_copied copies items xs i is h before = before ∙ ap (map part) (take_all i items h ∙ is)

-- what holds of a copy where one was made
pub of_made : {X E : Type 0} (P : X → Type 0) (r : Result X E) (x : X) → r ≡ Ok x → IfOk r P → P x
of_made P r x e h = subst (λ r. IfOk r P) e h

-- the whole of a list from the parts of its elements
module _ {X T : Type 0} (whole : List X → T) (before : T → T → T) (step : (x : X) (xs : List X) → whole (x ∷ xs) ≡ before (whole (x ∷ [])) (whole xs)) where
  abbrev joined : List T → T
  joined [] = whole []
  joined (t ∷ ts) = before t (joined ts)

  joined_is : (xs : List X) → whole xs ≡ joined (map (λ x. whole (x ∷ [])) xs)
  joined_is [] = refl
  joined_is (x ∷ xs) = step x xs ∙ ap (before (whole (x ∷ []))) (joined_is xs)

  same_whole : (xs ys : List X) → map (λ x. whole (x ∷ [])) xs ≡ map (λ x. whole (x ∷ [])) ys → whole xs ≡ whole ys
  same_whole xs ys e = joined_is xs ∙ ap joined e ∙ sym (joined_is ys)

abbrev pub method_term : Method → Methods
method_term m = AMethod m.name m.place (sign_of m.signature) NoMethod

abbrev methods_first : Methods → Methods → Methods
methods_first NoMethod rest = rest
methods_first (AMethod name place g _) rest = AMethod name place g rest

pub same_methods : (ms ns : List Method) → map method_term ms ≡ map method_term ns → method_shapes ms ≡ method_shapes ns
same_methods = same_whole method_shapes methods_first (λ m ms. refl)
