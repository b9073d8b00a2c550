-- The names of files that are in order.
use Rattle.std.proofs.Common.{◌≡◌, false, List, [], ◌∷◌, sym, ◌∙◌, ap}
use Rattle.std.specs.Prelude.{string_bytes}
use Rattle.std.specs.List.{IsDistinct, AllByRecursion}
use Rattle.std.specs.List.Sorted.{IsStrictlySortedBy}
use Rattle.std.specs.Ordering.{is_eq}
use Rattle.std.specs.String.{string_cmp}
use Rattle.std.specs.Str.{bytes_eq}
use Rattle.std.specs.Map.{keys_of}
use Rattle.std.specs.declared.string.String.{String}
use Rattle.std.specs.declared.cmp.Ordering.TheVariants.{Less}
use Rattle.std.proofs.lemmas.Map.Text.{is_eq-slice_cmp}
use Rattle.go_graph_core.specs.Workspaces.{given_files, HaveDistinctNames}

apart : {Y Z : Type 0} (k : String Y) (es : List (String Y × String Z)) → AllByRecursion (λ y. string_cmp k y ≡ Less) (keys_of es) → AllByRecursion (λ y. bytes_eq (string_bytes k) y ≡ false) (keys_of (given_files es))
apart k [] h = tt
apart k (e ∷ es) h = (sym (is_eq-slice_cmp (string_bytes k) (string_bytes e.0)) ∙ ap is_eq h.0, apart k es h.1)

-- files in order of name have distinct names
pub distinct_names : {Y Z : Type 0} (es : List (String Y × String Z)) → IsStrictlySortedBy string_cmp (keys_of es) → HaveDistinctNames (given_files es)
unfolding IsDistinct IsStrictlySortedBy
distinct_names [] h = tt
distinct_names (e ∷ es) h = (apart e.0 es h.0, distinct_names es h.1)
