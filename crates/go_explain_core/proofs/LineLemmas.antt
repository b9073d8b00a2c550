-- Texts that are written piece by piece.
use Rattle.std.proofs.Common.{◌≡◌, ◌∙◌, ℕ, ◌+◌, ◌<◌, ◌≤◌, List, ◌++◌, length, get_or, take, flat_map, append_assoc, Result, Ok, Err, OnOk, sym, ap, ap₂}
use Rattle.std.proofs.lemmas.List.{take_more, take_all, flat_map_more}

-- one more turn of a loop that writes the lines of a list
pub lines_more : {X : Type 0} (f : X → List ℕ) (xs : List X) (i : ℕ) (x : X) (start outs outs' : List ℕ) → i < length xs → outs ≡ start ++ flat_map f (take i xs) → outs' ≡ outs ++ f (get_or xs i x) → outs' ≡ start ++ flat_map f (take (i + 1) xs)
lines_more f xs i x start outs outs' h so_far new =
    new
    ∙ ap (λ l. l ++ f (get_or xs i x)) so_far
    ∙ flat_map_more f start (take i xs) (get_or xs i x)
    ∙ ap (λ l. start ++ flat_map f l) (sym (take_more xs i x h))

-- the end of the loop
pub lines_all : {X : Type 0} (f : X → List ℕ) (xs : List X) (i : ℕ) (start outs : List ℕ) → length xs ≤ i → outs ≡ start ++ flat_map f (take i xs) → outs ≡ start ++ flat_map f xs
lines_all f xs i start outs h so_far = so_far ∙ ap (λ l. start ++ flat_map f l) (take_all i xs h)

-- the first piece of a text
pub begun : (start next piece said : List ℕ) → piece ≡ said → next ≡ start ++ piece → next ≡ start ++ said
begun start next piece said same new = new ∙ ap (λ l. start ++ l) same

-- one more piece
pub more : (start now next first piece said : List ℕ) → now ≡ start ++ first → piece ≡ said → next ≡ now ++ piece → next ≡ start ++ (first ++ said)
more start now next first piece said so_far same new =
    new ∙ ap₂ (λ l l'. l ++ l') so_far same ∙ append_assoc start first said

-- the last piece, where there was room for it
pub ended : {X E : Type 0} (r : Result X E) (start now next first piece said : List ℕ) → now ≡ start ++ first → piece ≡ said → OnOk r (next ≡ now ++ piece) → OnOk r (next ≡ start ++ (first ++ said))
ended (Ok x) start now next first piece said so_far same new = more start now next first piece said so_far same new
ended (Err e) start now next first piece said so_far same new = tt
