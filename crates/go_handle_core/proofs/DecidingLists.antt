-- Items of lists that are put together, and lists whose items differ.
use Rattle.std.proofs.Common.{List, [], ◌∷◌, ◌++◌, map, refl, sym, subst, inl, inr}
use Rattle.std.specs.Prelude.{⊤}
use Rattle.go_term_core.proofs.Members.{In, in_either, map_in}

-- no item is alike to one behind it
abbrev pub Apart : {A : Type 0} → (A → A → Type 0) → List A → Type 0
Apart Alike [] = ⊤
Apart Alike (x ∷ xs) = ((y : _) → In xs y → Alike x y → ⊥) × Apart Alike xs

pub apart_append : {A : Type 0} (Alike : A → A → Type 0) (xs ys : List A) → Apart Alike xs → Apart Alike ys → ((x y : A) → In xs x → In ys y → Alike x y → ⊥) → Apart Alike (xs ++ ys)
apart_append Alike [] ys a b c = b
apart_append Alike (x ∷ xs) ys a b c = (
  λ y h same. elim (in_either xs ys y h) [ inl k ↦ a.0 y k same | inr k ↦ c x y (inl refl) k same ],
  apart_append Alike xs ys a.1 b (λ z y h k same. c z y (inr h) k same),
)

pub apart_map : {A B : Type 0} (Alike : A → A → Type 0) (Same : B → B → Type 0) (f : A → B) (xs : List A) → ((x y : A) → Same (f x) (f y) → Alike x y) → Apart Alike xs → Apart Same (map f xs)
apart_map Alike Same f [] back a = tt
apart_map Alike Same f (x ∷ xs) back a = (
  λ z h same. let r = map_in f xs z h in a.0 r.0 r.1 (back x r.0 (subst (λ w. Same (f x) w) (sym r.2) same)),
  apart_map Alike Same f xs back a.1,
)
