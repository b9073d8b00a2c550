-- Where sessions ask.
use Rattle.std.specs.Prelude.{◌≡◌, ◌⊎◌, ℕ, true, false, List}
use Rattle.go_path_core.specs.text_core.declared.rule.Rule.{Rule}
use Rattle.go_path_core.specs.text_core.declared.rule.Rule.TheVariants.{M0, Q1, Q4}
use Rattle.go_path_core.specs.Path.{IsPath}
use Rattle.go_graph_core.specs.Workspaces.{is_path_inside}

-- a place that is no package's which the session may ask of: it lies outside the module, or it lies inside and is no path
abbrev pub IsPlaceRefusal : List ℕ → List ℕ → Rule → Type 0
IsPlaceRefusal own path rule =
    (rule ≡ M0)
    ⊎ ((rule ≡ Q4) × (is_path_inside own path ≡ false))
    ⊎ ((rule ≡ Q1) × (is_path_inside own path ≡ true) × ¬ IsPath path)
