-- What the names mean that a piece declares, in order.
use Rattle.std.proofs.Common.{◌≡◌, ℕ, suc, List, [], ◌∷◌, map, Option, None, Vec, Result, Ok, Err, refl, sym, ap, ◌∙◌, Bor}
use Rattle.std.specs.Global.{Global}
use Rattle.std.specs.Result.{IfOk}
use Rattle.go_tree_nodes.specs.declared.names.Ident.{Ident}
use Rattle.go_operand_core.specs.declared.types.Operand.{Operand}
use Rattle.go_local_core.specs.Pieces.{ident_place}
use Rattle.go_term_core.specs.Terms.{Term}
use Rattle.go_names_core.specs.Body.{each_means}
use Rattle.go_env_core.specs.declared.meaning.Meaning.{Meaning}
use Rattle.go_env_core.specs.declared.meaning.Meaning.TheVariants as meanings
use Rattle.go_body_core.specs.Rules.{value_at, locals_of}

shifted : (f : ℕ → Meaning) (xs : List Ident) (n : ℕ) → each_means f (suc n) xs ≡ each_means (λ k. f (suc k)) n xs
shifted f [] n = refl
shifted f (x ∷ xs) n = ap (λ l. f (suc n) ∷ l) (shifted f xs (suc n))

pub locals_meant : (xs : List Ident) (vs : List (Option (Operand Term))) → locals_of xs vs ≡ each_means (λ n. meanings.Local (ident_place xs n) (value_at vs n)) 0 xs
locals_meant [] vs = refl
locals_meant (x ∷ xs) [] = ap (λ l. meanings.Local x.span.start None ∷ l) (locals_meant xs [] ∙ sym (shifted (λ n. meanings.Local (ident_place (x ∷ xs) n) (value_at [] n)) xs 0))
locals_meant (x ∷ xs) (v ∷ vs) = ap (λ l. meanings.Local x.span.start v ∷ l) (locals_meant xs vs ∙ sym (shifted (λ n. meanings.Local (ident_place (x ∷ xs) n) (value_at (v ∷ vs) n)) xs 0))

-- by the same names
pub means_by : {E : Type 0} (r : Result (Vec Meaning Global) E) (idents xs : List Ident) (vs : List (Option (Operand Term))) → idents ≡ xs
    → IfOk r (λ l. l.items ≡ locals_of idents vs) → IfOk r (λ means. means.items ≡ each_means (λ n. meanings.Local (ident_place xs n) (value_at vs n)) 0 xs)
means_by (Err e) idents xs vs same made = tt
means_by (Ok l) idents xs vs same made = made ∙ (ap (λ is. locals_of is vs) same ∙ locals_meant xs vs)

-- identifiers lent as a slice
pub lent : (slice list : List (Bor Ident)) (xs : List Ident) → slice ≡ list → map (λ i. i.now) list ≡ xs → map (λ i. i.now) slice ≡ xs
lent slice list xs same are = ap (λ is. map (λ (i : Bor Ident). i.now) is) same ∙ are
