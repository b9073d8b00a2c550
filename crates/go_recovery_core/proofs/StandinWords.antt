-- Words at the start of a line.
use Rattle.std.proofs.Common.{◌≡◌, ◌<◌, ◌≤◌, ◌+◌, ◌==◌, ◌&&◌, ◌++◌, ◌∙◌, ℕ, suc, Bool, true, false, cond, List, [], ◌∷◌, length, drop, get_or, drop-cons, add-one, append_assoc, refl, sym, ap}
use Rattle.std.proofs.lemmas.List.{drop_all}
use Rattle.go_recovery_core.specs.declared.standin.outline.Lexical.{Lexical}
use Rattle.go_recovery_core.specs.standin.Outlines.{after, begins_with, is_code, is_start, starts_from}

pub begins_short : (word bytes : List ℕ) (i : ℕ) → i < length word → length bytes ≤ i → begins_with (drop i word) (drop i bytes) ≡ false
begins_short word bytes i lt le =
    let cut : drop i word ≡ get_or word i 0 ∷ drop (suc i) word = drop-cons word i 0 lt in
    let none : drop i bytes ≡ [] = drop_all i bytes le in
    ap (λ xs. begins_with xs (drop i bytes)) cut ∙ ap (begins_with (get_or word i 0 ∷ drop (suc i) word)) none

-- one byte further
pub starts_step : (bytes : List ℕ) (i : ℕ) (state : Lexical) (first t : Bool) (old new : List ℕ) (next : Lexical) → i < length bytes → t ≡ (is_code state && first) && is_start (drop i bytes) → new ≡ cond t (old ++ i ∷ []) old
    → next ≡ after state (get_or bytes i 0) → new ++ starts_from next (get_or bytes i 0 == 10) (i + 1) (drop (i + 1) bytes) ≡ old ++ starts_from state first i (drop i bytes)
starts_step bytes i state first t old new next lt test is goes =
    ap (λ l. l ++ starts_from next (b == 10) (i + 1) rest) is ∙ (ap (λ l. cond t (old ++ i ∷ []) old ++ l) later ∙ (by t ∙ ap (λ l. old ++ l) (sym whole)))
  where
    b : ℕ
    b = get_or bytes i 0

    rest : List ℕ
    rest = drop (i + 1) bytes

    more : List ℕ
    more = starts_from (after state b) (b == 10) (suc i) rest

    cut : drop i bytes ≡ b ∷ rest
    cut = drop-cons bytes i 0 lt ∙ ap (λ m. b ∷ drop m bytes) (sym (add-one i))

    later : starts_from next (b == 10) (i + 1) rest ≡ more
    later = ap (λ s. starts_from s (b == 10) (i + 1) rest) goes ∙ ap (λ n. starts_from (after state b) (b == 10) n rest) (add-one i)

    whole : starts_from state first i (drop i bytes) ≡ cond t (i ∷ more) more
    whole = ap (starts_from state first i) cut ∙ ap (λ z. cond z (i ∷ more) more) (ap (λ l. (is_code state && first) && is_start l) (sym cut) ∙ sym test)

    by : (z : Bool) → cond z (old ++ i ∷ []) old ++ more ≡ old ++ cond z (i ∷ more) more
    by true = append_assoc old (i ∷ []) more
    by false = refl
