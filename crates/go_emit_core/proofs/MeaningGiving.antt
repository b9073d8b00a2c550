-- What a call gives, by how many results there are.
use Rattle.std.proofs.Common.{◌≡◌, ◌≤◌, List, [], ◌∷◌, length, Option, Some, slice_get, refl, sym, ap, arith}
use Rattle.go_term_core.specs.Terms.{Term}
use Rattle.go_table_core.specs.Entries.{Entry}
use Rattle.go_code_core.specs.declared.fragments.names.Gives.TheVariants as gives
use Rattle.go_code_core.specs.fragments.Fragment.{over}
use Rattle.go_emit_core.specs.meaning.Words.{results_give, some_word}

pub gives_nothing : (es : List Entry) (rs : List (Option Term)) → length rs ≡ 0 → gives.Nothing ≡ results_give es rs
gives_nothing es [] n = refl
gives_nothing es (r ∷ rs) n = (let no : ⊥ = omega (arith, n) in absurd no)

pub gives_one : (es : List Entry) (rs : List (Option Term)) (t : Option Term) → length rs ≡ 1 → slice_get rs 0 ≡ Some t → over (some_word es t) ≡ results_give es rs
gives_one es [] t n e = cc
gives_one es (r ∷ []) t n e = (let same : r ≡ t = cc in ap (λ (x : Option Term). over (some_word es x)) (sym same))
gives_one es (r ∷ (s ∷ rs)) t n e = (let no : ⊥ = omega (arith, n) in absurd no)

pub gives_more : (es : List Entry) (rs : List (Option Term)) → 2 ≤ length rs → gives.Other ≡ results_give es rs
gives_more es [] n = (let no : ⊥ = omega (arith, n) in absurd no)
gives_more es (r ∷ []) n = (let no : ⊥ = omega (arith, n) in absurd no)
gives_more es (r ∷ (s ∷ rs)) n = refl
