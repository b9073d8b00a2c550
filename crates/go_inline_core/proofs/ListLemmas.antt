-- Listing what a program keeps in lists, one after the other.
use Rattle.std.proofs.Common.{◌≡◌, ℕ, ◌+◌, ◌<◌, ◌≤◌, List, [], ◌++◌, length, get_or, take, ap, sym, subst, ◌∙◌, append-nil, append_assoc, arith}
use Rattle.std.specs.List.{flat_map}
use Rattle.std.proofs.lemmas.Grind.{common_steps}
use Rattle.go_inline_core.specs.mirrors.Listing.{Listed, Adds}

module _ {A X : Type 0} where
  one_more : (f : X → List A) (xs : List X) (i : ℕ) (x : X) → i < length xs → x ≡ get_or xs i x → flat_map f (take i xs) ++ f x ≡ flat_map f (take (i + 1) xs)
  one_more f xs i x h is = grind (arith, common_steps)

  all_taken : (f : X → List A) (xs : List X) (i : ℕ) → length xs ≤ i → flat_map f (take i xs) ≡ flat_map f xs
  all_taken f xs i h = grind (arith, common_steps)

module _ {A : Type 0} where
  pub adds_none : (a : Listed A) → Adds a [] a
  adds_none a ok = (ok, sym (append-nil a.items))

  pub adds_more : (a b c : Listed A) (xs ys : List A) → Adds a xs b → Adds b ys c → Adds a (xs ++ ys) c
  adds_more a b c xs ys first second ok =
      let there = second ok in
      let here = first there.0 in
      (here.0, there.1 ∙ (ap (λ l. l ++ ys) here.1 ∙ append_assoc a.items xs ys))

  -- the same, written otherwise
  pub adds_same : (a b : Listed A) (xs ys : List A) → ys ≡ xs → Adds a xs b → Adds a ys b
  adds_same a b xs ys same seen = subst (λ l. Adds a l b) (sym same) seen

  -- what was listed of a value, told of an equal value
  pub adds_at : {X : Type 0} (f : X → List A) (a b : Listed A) (x y : X) → x ≡ y → Adds a (f x) b → Adds a (f y) b
  adds_at f a b x y same seen = subst (λ z. Adds a (f z) b) same seen

  pub adds_both : (a b c : Listed A) (xs ys all : List A) → all ≡ xs ++ ys → Adds a xs b → Adds b ys c → Adds a all c
  adds_both a b c xs ys all same first second = subst (λ l. Adds a l c) (sym same) (adds_more a b c xs ys first second)

  module _ {X : Type 0} (f : X → List A) where
    -- one turn of a loop, behind what was listed before the loop
    pub adds_step : (front : List A) (xs : List X) (i : ℕ) (x : X) (a b c : Listed A) → i < length xs → x ≡ get_or xs i x → Adds a (front ++ flat_map f (take i xs)) b → Adds b (f x) c → Adds a (front ++ flat_map f (take (i + 1) xs)) c
    adds_step front xs i x a b c h is before now =
        subst (λ l. Adds a l c) (append_assoc front (flat_map f (take i xs)) (f x) ∙ ap (λ l. front ++ l) (one_more f xs i x h is)) (adds_more a b c (front ++ flat_map f (take i xs)) (f x) before now)

    -- the end of a loop over the items of a list
    pub adds_whole : (front : List A) (items xs : List X) (i : ℕ) (a b : Listed A) (all : List A) → items ≡ xs → length items ≤ i → all ≡ front ++ flat_map f xs → Adds a (front ++ flat_map f (take i items)) b → Adds a all b
    adds_whole front items xs i a b all is h same seen =
        subst (λ l. Adds a l b) (ap (λ l. front ++ l) (all_taken f items i h ∙ ap (flat_map f) is) ∙ sym same) seen
