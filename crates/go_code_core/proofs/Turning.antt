-- Code from its end.
use Rattle.std.proofs.Common.{◌≡◌, ℕ, List, [], ◌∷◌, ◌++◌, length, reverse, sym, ap, ◌∙◌, append_assoc}
use Rattle.std.specs.Prelude.{slice_set}
use Rattle.std.proofs.Math.Seq.{set-append_seam}
use Rattle.std.proofs.lemmas.List.{reverse-reverse, reverse-append, length-reverse}

apart : {A : Type 0} (front rest : List A) (i : A) → reverse (front ++ i ∷ rest) ≡ reverse rest ++ i ∷ reverse front
apart front rest i = reverse-append front (i ∷ rest) ∙ (ap (λ l. l ++ reverse front) (reverse-append (i ∷ []) rest) ∙ append_assoc (reverse rest) (i ∷ []) (reverse front))

-- an item of a list that is seen from its end
pub turned : {A : Type 0} (items front rest : List A) (i x : A) (n : ℕ) → reverse items ≡ front ++ i ∷ rest → n ≡ length rest → reverse (slice_set items n x) ≡ front ++ x ∷ rest
turned items front rest i x n is at =
    let split : items ≡ reverse rest ++ i ∷ reverse front = sym (reverse-reverse items) ∙ (ap reverse is ∙ apart front rest i) in
    let place : n ≡ length (reverse rest) = at ∙ sym (length-reverse rest) in
    ap (λ l. reverse (slice_set l n x)) split
    ∙ (ap (λ k. reverse (slice_set (reverse rest ++ i ∷ reverse front) k x)) place
    ∙ (ap reverse (set-append_seam (reverse rest) i (reverse front) x)
    ∙ (apart (reverse rest) (reverse front) x
    ∙ (ap (λ l. l ++ x ∷ reverse (reverse rest)) (reverse-reverse front) ∙ ap (λ l. front ++ x ∷ l) (reverse-reverse rest)))))
