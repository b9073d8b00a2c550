-- What is read of a table, and the rows of lists of nodes.
use Rattle.std.proofs.Common.{◌≡◌, ℕ, zero, suc, ◌<◌, true, false, List, [], ◌∷◌, Option, Some, None, Vec, length, get_or, is_some, refl, sym, ◌∙◌, ap, arith}
use Rattle.std.specs.Prelude.{MatchOption}
use Rattle.std.specs.declared.alloc.Global.{Global}
use Rattle.std.proofs.lemmas.Bool.{both_ways}
use Rattle.std.proofs.lemmas.List.{get_or_default}
use Rattle.go_digraph_core.specs.needs.Needs.{rows_of, needed, known_in}

there_of : {A : Type 0} (o : Option A) → is_some o ≡ true → (v : A) × (o ≡ Some v)
there_of {A} None h = absurd (both_ways (is_some {T = A} None) refl h)
there_of (Some v) h = (v, refl)

pub known_of : {V : Type 0} (table : List (Option V)) (b : ℕ) (o : Option V) → b < length table → o ≡ get_or table b o → is_some o ≡ true → (v : V) × (known_in table b ≡ Some v)
known_of table b o lt read h = (let r = there_of o h in (r.0, get_or_default table b None o lt ∙ (sym read ∙ r.1)))

pub none_of : (P : Type 0) (Q : ℕ → Type 0) (o : Option ℕ) → is_some o ≡ false → MatchOption o P Q → P
none_of P Q None h m = m
none_of P Q (Some v) h m = absurd (both_ways (is_some (Some v)) h refl)

pub rows_count : (rows : List (Vec ℕ Global)) → length (rows_of rows) ≡ length rows
rows_count [] = refl
rows_count (row ∷ rows) = ap suc (rows_count rows)

pub row_read : (rows : List (Vec ℕ Global)) (a : ℕ) (row : Vec ℕ Global) → a < length rows → row ≡ get_or rows a row → needed (rows_of rows) a ≡ row.items
row_read [] a row lt read = absurd (omega (arith, lt))
row_read (r ∷ rows) zero row lt read = ap (λ (v : Vec ℕ Global). v.items) (sym read)
row_read (r ∷ rows) (suc a) row lt read = (let lt' : a < length rows = omega (arith, lt) in row_read rows a row lt' read)
