-- Lists that a loop puts together from pieces, one piece for each element of another list.
use Rattle.std.proofs.Common.{◌≡◌, ℕ, ◌+◌, ◌<◌, ◌≤◌, List, ◌++◌, length, get_or, take, sym, refl, ap, ◌∙◌, append-nil, [], ◌∷◌}
use Rattle.std.specs.List.{flat_map}
use Rattle.std.proofs.lemmas.List.{take_more, take_all, flat_map_more}

-- no piece yet
pub no_pieces : {A : Type 0} (front : List A) → front ≡ front ++ []
no_pieces front = sym (append-nil front)

-- one piece more
pub piece_more : {X A : Type 0} (f : X → List A) (front old new : List A) (xs : List X) (i : ℕ) (x : X) → i < length xs → x ≡ get_or xs i x → old ≡ front ++ flat_map f (take i xs) → new ≡ old ++ f x → new ≡ front ++ flat_map f (take (i + 1) xs)
piece_more f front old new xs i x lt is before e =
    e ∙ (ap (λ l. l ++ f x) before
    ∙ (flat_map_more f front (take i xs) x
    ∙ (ap (λ y. front ++ flat_map f (take i xs ++ y ∷ [])) is
    ∙ ap (λ ys. front ++ flat_map f ys) (sym (take_more xs i x lt)))))

-- all pieces
pub all_pieces : {X A : Type 0} (f : X → List A) (front all : List A) (items xs : List X) (i : ℕ) → length items ≤ i → items ≡ xs → all ≡ front ++ flat_map f (take i items) → all ≡ front ++ flat_map f xs
all_pieces f front all items xs i le is so_far = so_far ∙ ap (λ l. front ++ flat_map f l) (take_all i items le ∙ is)

-- the pieces of one element more
pub next_piece : {X A : Type 0} (f : X → List A) (xs : List X) (i : ℕ) (x : X) → i < length xs → x ≡ get_or xs i x → flat_map f (take (i + 1) xs) ≡ flat_map f (take i xs) ++ f x
next_piece f xs i x lt is = sym (piece_more f [] (flat_map f (take i xs)) (flat_map f (take i xs) ++ f x) xs i x lt is refl refl)
