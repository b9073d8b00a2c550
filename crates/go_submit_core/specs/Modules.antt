-- The modules of submissions, each once, in the order in which they come first.
use Rattle.std.specs.Prelude.{ℕ, Bool, if◌then◌else◌, List, [], ◌∷◌, ◌++◌}
use Rattle.std.specs.List.{fold, list_any}
use Rattle.std.specs.Str.{bytes_eq}
use Rattle.go_submit_core.specs.declared.submission.Submission.{Submission}

abbrev pub is_among : List ℕ → List (List ℕ) → Bool
is_among m ms = list_any (λ t. bytes_eq t m) ms

abbrev pub with_module : List (List ℕ) → List ℕ → List (List ℕ)
with_module ms m = if is_among m ms then ms else ms ++ m ∷ []

abbrev pub with_trees : List (List ℕ) → List Submission → List (List ℕ)
with_trees ms ss = fold (λ l s. with_module l s.tree.own) ms ss
