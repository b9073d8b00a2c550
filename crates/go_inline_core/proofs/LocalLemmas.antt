-- What names mean that a piece declares: each is a local.
use Rattle.std.proofs.Common.{◌≡◌, ℕ, suc, List, [], ◌∷◌, map, Vec, Result, Ok, Err, refl, ap, ◌∙◌, Bor}
use Rattle.std.specs.Global.{Global}
use Rattle.std.specs.Result.{IfOk}
use Rattle.go_tree_nodes.specs.declared.names.Ident.{Ident}
use Rattle.go_names_core.specs.Body.{each_means}
use Rattle.go_inline_core.specs.declared.scoped.Scoped.{Scoped}
use Rattle.go_inline_core.specs.declared.scoped.Scoped.TheVariants as scoped

all_local : (is : List (Bor Ident)) (n : ℕ) → map (λ i. scoped.Local) is ≡ each_means (λ k. scoped.Local) n (map (λ i. i.now) is)
all_local [] n = refl
all_local (i ∷ is) n = ap (λ l. scoped.Local ∷ l) (all_local is (suc n))

pub means_by : {E : Type 0} (r : Result (Vec Scoped Global) E) (slice list : List (Bor Ident)) (xs : List Ident) → slice ≡ list → map (λ i. i.now) list ≡ xs → IfOk r (λ l. l.items ≡ map (λ i. scoped.Local) slice) → IfOk r (λ means. means.items ≡ each_means (λ n. scoped.Local) 0 xs)
means_by (Err e) slice list xs same are made = tt
means_by (Ok l) slice list xs same are made = made ∙ (ap (map (λ (i : Bor Ident). scoped.Local)) same ∙ (all_local list 0 ∙ ap (each_means (λ n. scoped.Local) 0) are))
