-- Walks over what is kept in lists.
use Rattle.std.proofs.Common.{◌≡◌, ℕ, ◌+◌, ◌<◌, ◌≤◌, List, ◌++◌, length, get_or, take, sym, ap, ◌∙◌, subst, append_assoc, arith}
use Rattle.std.specs.List.{flat_map}
use Rattle.std.proofs.lemmas.Grind.{common_steps}
use Rattle.go_tree_core.specs.declared.occurrence.Occ.{Occ}

one_more : {X : Type 0} (f : X → List Occ) (xs : List X) (i : ℕ) (x : X) → i < length xs → x ≡ get_or xs i x → flat_map f (take i xs) ++ f x ≡ flat_map f (take (i + 1) xs)
one_more f xs i x h is = grind (arith, common_steps)

all_taken : {X : Type 0} (f : X → List Occ) (xs : List X) (i : ℕ) → length xs ≤ i → flat_map f (take i xs) ≡ flat_map f xs
all_taken f xs i h = grind (arith, common_steps)

module _ {V : Type 0} (Sees : V → List Occ → V → Type 0) where
  -- the same occurrences, written otherwise
  pub sees_same : (a b : V) (os ps : List Occ) → ps ≡ os → Sees a os b → Sees a ps b
  sees_same a b os ps same seen = subst (λ os. Sees a os b) (sym same) seen

  -- what a visit saw of a value, told of an equal value
  pub sees_at : {X : Type 0} (f : X → List Occ) (a b : V) (x y : X) → x ≡ y → Sees a (f x) b → Sees a (f y) b
  sees_at f a b x y same seen = subst (λ x. Sees a (f x) b) same seen

  -- two visits
  pub sees_both : ((a b c : V) (xs ys : List Occ) → Sees a xs b → Sees b ys c → Sees a (xs ++ ys) c) → (a b c : V) (xs ys os : List Occ) → os ≡ xs ++ ys → Sees a xs b → Sees b ys c → Sees a os c
  sees_both more a b c xs ys os same first second = subst (λ os. Sees a os c) (sym same) (more a b c xs ys first second)

  module _ {X : Type 0} (f : X → List Occ) where
    -- one turn of a loop, behind what was visited before the loop
    pub sees_step : ((a b c : V) (xs ys : List Occ) → Sees a xs b → Sees b ys c → Sees a (xs ++ ys) c) → (front : List Occ) (xs : List X) (i : ℕ) (x : X) (a b c : V) → i < length xs → x ≡ get_or xs i x → Sees a (front ++ flat_map f (take i xs)) b → Sees b (f x) c → Sees a (front ++ flat_map f (take (i + 1) xs)) c
    sees_step more front xs i x a b c h is before now =
        subst (λ os. Sees a os c) (append_assoc front (flat_map f (take i xs)) (f x) ∙ ap (λ os. front ++ os) (one_more f xs i x h is)) (more a b c _ _ before now)

    -- the end of a loop over the items of a list
    pub sees_whole : (front : List Occ) (items xs : List X) (i : ℕ) (a b : V) (os : List Occ) → items ≡ xs → length items ≤ i → os ≡ front ++ flat_map f xs → Sees a (front ++ flat_map f (take i items)) b → Sees a os b
    sees_whole front items xs i a b os is h same seen =
        subst (λ os. Sees a os b) (ap (λ os. front ++ os) (all_taken f items i h ∙ ap (flat_map f) is) ∙ sym same) seen
