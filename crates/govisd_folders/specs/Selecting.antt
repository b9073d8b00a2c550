-- Which faults are told, and which of them are shown.
use Rattle.std.specs.Prelude.{◌||◌, ℕ, Bool, true, false, List, [], ◌∷◌, Option, Some, None, slice_get, flat_map, is_some, if◌then◌else◌}
use Rattle.go_path_core.specs.text_core.declared.rule.Rule.{Rule}
use Rattle.go_path_core.specs.text_core.declared.rule.Rule.TheVariants.{N1}
use Rattle.go_graph_core.specs.Workspaces.{PackageModel}
use Rattle.go_diagnostic_core.specs.snap_core.declared.fault.PlacedFault.{PlacedFault}
use Rattle.go_cause_core.specs.declared.cause.Cause.{Cause}
use Rattle.go_cause_core.specs.declared.cause.Cause.TheVariants as cause
use Rattle.govisd_disk.specs.Scopes.{ScopeModel, has_fault}
use Rattle.govisd_folders.specs.declared.selecting.Told.{Told}

-- where faults stand, where a name that is refused again stands with the first fault of this name
abbrev pub joined_cause : Cause → Option ℕ → Cause
joined_cause cause.Root None = cause.Root
joined_cause cause.Root (Some first) = cause.Follows first
joined_cause (cause.Follows root) again = cause.Follows root

abbrev pub joined_by : List Cause → List (Option ℕ) → List Cause
joined_by [] repeated = []
joined_by (c ∷ cs) [] = []
joined_by (c ∷ cs) (r ∷ rs) = joined_cause c r ∷ joined_by cs rs

-- the fault that another follows from, if it follows from one
abbrev pub root_of : List PlacedFault → Cause → Option PlacedFault
root_of faults cause.Root = None
root_of faults (cause.Follows root) = slice_get faults root

-- a fault with the one that it follows from
abbrev pub told_of : PlacedFault → Option PlacedFault → Told
told_of f root = record { fault = f; root = root }

-- of each of some faults, by where they stand among the causes
abbrev pub told_by : List PlacedFault → List PlacedFault → List Cause → List Told
told_by faults [] causes = []
told_by faults (f ∷ fs) [] = []
told_by faults (f ∷ fs) (c ∷ cs) = told_of f (root_of faults c) ∷ told_by faults fs cs

-- a fault follows from another one; a name that is not declared follows from nothing
abbrev pub follows_by : Rule → Bool → Bool
follows_by N1 has_root = false
follows_by _ has_root = has_root

abbrev pub follows : Told → Bool
follows t = follows_by t.fault.rule (is_some t.root)

-- those that lie in a scope
abbrev pub told_if : Bool → Told → List Told
told_if true t = t ∷ []
told_if false t = []

abbrev pub told_in : ScopeModel → List PackageModel → List Told → List Told
told_in scope ps ts = flat_map (λ t. told_if (has_fault scope ps t.fault) t) ts

-- a fault is shown where not all are: it follows from none, or from one that lies elsewhere
abbrev pub root_elsewhere : ScopeModel → List PackageModel → Option PlacedFault → Bool
root_elsewhere scope ps None = true
root_elsewhere scope ps (Some root) = if has_fault scope ps root then false else true

abbrev pub is_shown : Bool → ScopeModel → List PackageModel → Told → Bool
is_shown all scope ps t = all || root_elsewhere scope ps t.root

-- those that are shown
abbrev pub shown_in : Bool → ScopeModel → List PackageModel → List Told → List Told
shown_in all scope ps ts = flat_map (λ t. told_if (is_shown all scope ps t) t) ts
