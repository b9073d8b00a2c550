-- Declarations by themselves.
use Rattle.std.proofs.Common.{◌≡◌, ◌∙◌, ◌++◌, ◌+◌, ◌-◌, ◌<◌, ◌≤◌, ℕ, List, [], ◌∷◌, drop, take, length, min, slice_index_or, drop-cons, add-one, append_assoc, append-nil, take_all, inl, inr, refl, sym, ap, subst, arith}
use Rattle.std.proofs.lemmas.Bool.{cases_lt}
use Rattle.std.proofs.lemmas.List.{drop_all}
use Rattle.go_recovery_core.specs.declared.standin.part.Interval.{Interval}
use Rattle.go_recovery_core.specs.standin.Alone.{AreBroken, IsNoted}

-- whatever is broken of what is left is broken of all, after what was found so far
abbrev pub AreSoFar : List ℕ → List Interval → List Interval → List Interval → Type 0
AreSoFar text parts left found = (more : List Interval) → AreBroken text left more → AreBroken text parts (found ++ more)

pub noted : (text : List ℕ) (parts : List Interval) (i : ℕ) (d : Interval) (old new : List Interval) → i < length parts → IsNoted text (slice_index_or parts i d) old new → AreSoFar text parts (drop i parts) old → AreSoFar text parts (drop (i + 1) parts) new
noted text parts i d old new lt h k = by h
  where
    cut : drop i parts ≡ slice_index_or parts i d ∷ drop (i + 1) parts
    cut = drop-cons parts i d lt ∙ ap (λ m. slice_index_or parts i d ∷ drop m parts) (sym (add-one i))

    by : IsNoted text (slice_index_or parts i d) old new → AreSoFar text parts (drop (i + 1) parts) new
    by (inl f) = λ more b. subst (λ l. AreBroken text parts (l ++ more)) (sym f.1) (k more (subst (λ ps. AreBroken text ps more) (sym cut) (inl (f.0, b))))
    by (inr f) = λ more b.
        (let part = slice_index_or parts i d in
        let all : new ++ more ≡ old ++ (part ∷ more) = ap (λ l. l ++ more) f.1 ∙ append_assoc old (part ∷ []) more in
        subst (AreBroken text parts) (sym all) (k (part ∷ more) (subst (λ ps. AreBroken text ps (part ∷ more)) (sym cut) (inr (f.0, (more, refl, b))))))

pub all_noted : (text : List ℕ) (parts found : List Interval) (i : ℕ) → length parts ≤ i → AreSoFar text parts (drop i parts) found → AreBroken text parts found
all_noted text parts found i le k =
    let none : drop i parts ≡ [] = drop_all i parts le in
    subst (AreBroken text parts) (append-nil found) (k [] (subst (λ ps. AreBroken text ps []) (sym none) refl))

take_min : (n : ℕ) (xs : List ℕ) → take (min n (length xs)) xs ≡ take n xs
take_min n xs = elim (cases_lt n (length xs)) [
  | inl lt ↦ (let same : min n (length xs) ≡ n = omega (arith, lt) in ap (λ m. take m xs) same)
  | inr le ↦ (let same : min n (length xs) ≡ length xs = omega (arith, le) in ap (λ m. take m xs) same ∙ (take_all (length xs) xs (omega arith) ∙ sym (take_all n xs le)))
]

drop_min : (n : ℕ) (xs : List ℕ) → drop (min n (length xs)) xs ≡ drop n xs
drop_min n xs = elim (cases_lt n (length xs)) [
  | inl lt ↦ (let same : min n (length xs) ≡ n = omega (arith, lt) in ap (λ m. drop m xs) same)
  | inr le ↦ (let same : min n (length xs) ≡ length xs = omega (arith, le) in ap (λ m. drop m xs) same ∙ (drop_all (length xs) xs (omega arith) ∙ sym (drop_all n xs le)))
]

-- the bytes of a part, cut out where there are so many
pub part_is : (text rest front : List ℕ) (start end from size : ℕ) → from ≡ min start (length text) → rest ≡ drop from text → size ≡ min (end - start) (length rest) → front ≡ take size rest → front ≡ take (end - start) (drop start text)
part_is text rest front start end from size f r s t =
    let whole : rest ≡ drop start text = r ∙ (ap (λ n. drop n text) f ∙ drop_min start text) in
    t ∙ (ap (λ n. take n rest) s ∙ (take_min (end - start) rest ∙ ap (take (end - start)) whole))
