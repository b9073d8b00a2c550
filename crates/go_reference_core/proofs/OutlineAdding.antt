-- Loops that add entries.
use Rattle.std.proofs.Common.{◌≡◌, ℕ, ◌+◌, ◌<◌, ◌≤◌, List, ◌++◌, length, get_or, take, sym, ap, ◌∙◌, append_assoc, arith}
use Rattle.std.specs.List.{flat_map}
use Rattle.std.proofs.lemmas.Grind.{common_steps}
use Rattle.go_reference_core.specs.outline.Outlines.{EntryTree}

one_more : {X : Type 0} (f : X → List EntryTree) (xs : List X) (i : ℕ) (x : X) → i < length xs → x ≡ get_or xs i x → flat_map f (take i xs) ++ f x ≡ flat_map f (take (i + 1) xs)
one_more f xs i x h is = grind (arith, common_steps)

all_taken : {X : Type 0} (f : X → List EntryTree) (xs : List X) (i : ℕ) → length xs ≤ i → flat_map f (take i xs) ≡ flat_map f xs
all_taken f xs i h = grind (arith, common_steps)

module _ {X : Type 0} (f : X → List EntryTree) where
  -- one turn of a loop, after what was added before the loop
  pub step : (old now new front : List EntryTree) (xs : List X) (i : ℕ) (x : X) → i < length xs → x ≡ get_or xs i x → now ≡ old ++ (front ++ flat_map f (take i xs)) → new ≡ now ++ f x → new ≡ old ++ (front ++ flat_map f (take (i + 1) xs))
  step old now new front xs i x h is before added =
      let seen : List EntryTree = flat_map f (take i xs) in
      added
      ∙ (ap (λ (l : List EntryTree). l ++ f x) before
      ∙ (append_assoc old (front ++ seen) (f x) ∙ ap (λ (l : List EntryTree). old ++ l) (append_assoc front seen (f x) ∙ ap (λ (l : List EntryTree). front ++ l) (one_more f xs i x h is))))

  -- the end of a loop over the items of a list
  pub whole : (old now front : List EntryTree) (items xs : List X) (i : ℕ) (all : List EntryTree) → items ≡ xs → length items ≤ i → all ≡ front ++ flat_map f xs → now ≡ old ++ (front ++ flat_map f (take i items)) → now ≡ old ++ all
  whole old now front items xs i all is h same seen =
      seen ∙ ap (λ (l : List EntryTree). old ++ l) (ap (λ (l : List EntryTree). front ++ l) (all_taken f items i h ∙ ap (flat_map f) is) ∙ sym same)
