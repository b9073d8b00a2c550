-- Steps of reading the value of a string.
use Rattle.std.proofs.Common.{◌≡◌, ℕ, zero, suc, ◌-◌, ◌<◌, ◌≤◌, true, false, cond, ◌==◌, List, [], ◌∷◌, ◌++◌, length, drop, get_or, Option, Some, None, refl, sym, ap, ◌∙◌, arith}
use Rattle.go_token_core.specs.declared.escapes.Meaning.{Meaning}
use Rattle.go_token_core.specs.declared.escapes.Meaning.TheVariants.{Char}
use Rattle.go_token_core.specs.Escapes.{escape_at}
use Rattle.go_token_core.specs.Values.{escape_or, meaning_at, meaning_bytes, quoted_value, raw_bytes, raw_value}
use Rattle.go_token_core.proofs.EscapeLemmas.{escape_within}

or_within : (c : ℕ) (cs : List ℕ) (r : Option (Meaning × ℕ)) → escape_at cs ≡ r → (0 < (escape_or c r).1) × ((escape_or c r).1 ≤ suc (length cs))
or_within c cs None e = (omega arith, omega arith)
or_within c cs (Some x) e = let inside = escape_within cs x e in (omega arith, omega arith)

-- a meaning takes at least one character, and no more than there are
pub meaning_within : (c : ℕ) (cs : List ℕ) → (0 < (meaning_at c cs).1) × ((meaning_at c cs).1 ≤ suc (length cs))
unfolding meaning_at
meaning_within c cs = elim (c == 92) as (λ b. (0 < (cond b (escape_or c (escape_at cs)) (Char c, 1)).1) × ((cond b (escape_or c (escape_at cs)) (Char c, 1)).1 ≤ suc (length cs))) [ true ↦ or_within c cs (escape_at cs) refl | false ↦ (omega arith, omega arith) ]

value-skip : (cs : List ℕ) (k : ℕ) → k ≤ length cs → quoted_value cs k ≡ quoted_value (drop k cs) 0
unfolding quoted_value
value-skip cs zero h = refl
value-skip [] (suc k) h = absurd (omega arith)
value-skip (c ∷ cs) (suc k) h = value-skip cs k (omega arith)

-- one meaning, and the value of what stands behind it
abbrev pub IsStep : List ℕ → Meaning × ℕ → Type 0
IsStep cs m = (0 < m.1) × (m.1 ≤ length cs) × (quoted_value cs 0 ≡ meaning_bytes m.0 ++ quoted_value (drop m.1 cs) 0)

step_here : (d : ℕ) (cs : List ℕ) (m : Meaning × ℕ) → m ≡ meaning_at d cs → IsStep (d ∷ cs) m
unfolding quoted_value
step_here d cs (m, zero) h = absurd (let inside = meaning_within d cs in let none : 0 ≡ (meaning_at d cs).1 = ap (λ x. x.1) h in omega arith)
step_here d cs (m, suc n) h =
    let count : suc n ≡ (meaning_at d cs).1 = ap (λ x. x.1) h in
    let first : m ≡ (meaning_at d cs).0 = ap (λ x. x.0) h in
    let inside = meaning_within d cs in
    let fits : n ≤ length cs = omega arith in
    let skip : (meaning_at d cs).1 - 1 ≡ n = omega arith in
    (omega arith, omega arith, ap (λ k. meaning_bytes (meaning_at d cs).0 ++ quoted_value cs k) skip ∙ ap (λ x. meaning_bytes x ++ quoted_value cs n) (sym first) ∙ ap (λ x. meaning_bytes m ++ x) (value-skip cs n fits))

pub value_step : (cs : List ℕ) (c : ℕ) (m : Meaning × ℕ) → 0 < length cs → c ≡ get_or cs 0 0 → m ≡ meaning_at c (drop 1 cs) → IsStep cs m
value_step [] c m some e h = absurd (omega arith)
value_step (d ∷ cs) c m some e h = step_here d cs m (h ∙ ap (λ x. meaning_at x cs) e)

pub value_end : (cs : List ℕ) → length cs ≡ 0 → quoted_value cs 0 ≡ []
unfolding quoted_value
value_end [] h = refl
value_end (c ∷ cs) h = absurd (omega arith)

pub raw_step : (cs : List ℕ) (c : ℕ) → 0 < length cs → c ≡ get_or cs 0 0 → raw_value cs ≡ raw_bytes c ++ raw_value (drop 1 cs)
raw_step [] c some e = absurd (omega arith)
raw_step (d ∷ cs) c some e = ap (λ x. raw_bytes x ++ raw_value cs) (sym e)

pub raw_end : (cs : List ℕ) → length cs ≡ 0 → raw_value cs ≡ []
raw_end [] h = refl
raw_end (c ∷ cs) h = absurd (omega arith)
