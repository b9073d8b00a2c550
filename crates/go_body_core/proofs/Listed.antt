-- Whether there are results, by how many entries are listed.
use Rattle.std.proofs.Common.{◌≡◌, ℕ, nat_lt, List, [], ◌∷◌, length, Vec, refl, ap, ◌∙◌, arith}
use Rattle.std.specs.Prelude.{vec_len}
use Rattle.std.proofs.lemmas.Bool.Decides.{nat_tests}
use Rattle.go_tree_nodes.specs.declared.types.Params.{Params, out-Params}
use Rattle.go_tree_nodes.specs.declared.types.«Param» as declared_param
use Rattle.go_tree_nodes.specs.declared.types.Results.TheVariants as results
use Rattle.go_tree_nodes.specs.TypeShapes.{params_of, shape_results}
use Rattle.go_tree_nodes.proofs.TypeShapes.{listed_parts}
use Rattle.go_body_core.specs.Ends.{are_some, has_result}

entries_some : (ps : List declared_param.Param) → are_some (params_of ps) ≡ nat_lt 0 (length ps)
entries_some [] = refl
entries_some (p ∷ ps) = grind (arith, nat_tests)

pub listed_some : (p : Params) → has_result (shape_results (results.Listed p)) ≡ nat_lt 0 (length (out-Params p).entries.items)
listed_some p = ap has_result (listed_parts p) ∙ entries_some (out-Params p).entries.items

-- the number of elements, as a list and as a vector has it
pub len_as_list : {T A : Type 0} (v : Vec T A) (n : ℕ) → n ≡ vec_len v → n ≡ length v.items
len_as_list v n is = omega (arith, v.ok.0)
