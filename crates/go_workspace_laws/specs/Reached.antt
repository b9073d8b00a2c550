-- Where the occurrences of a package have their declarations.
--
-- The Go specification, "Packages", "Import declarations", "Selectors".
use Rattle.std.specs.Prelude.{ℕ, List, ◌∷◌, map, ⊤}
use Rattle.go_report_core.specs.denote_core.declared.things.Outcome.{Outcome}
use Rattle.go_report_core.specs.denote_core.declared.things.Outcome.TheVariants as outcomes
use Rattle.govisd_resolve.specs.handle_core.Declarations.{Declaration, Universe, OfError, Package, InFile}
use Rattle.go_report_core.specs.summary_core.Summaries.{path_of}
use Rattle.go_emit_core.specs.package_core.PackagePartInputs.{InputModel, path_in}

-- the paths of a package and of those that it reaches
abbrev pub reached_paths : InputModel → List (List ℕ)
reached_paths i = path_in i ∷ map path_of i.reached

-- it is one of these packages, or what a file of one declares: a field or a method too, and what stands inside a function. A predeclared name is of no
-- package
abbrev pub IsDeclaredIn : (List ℕ → Type 0) → Declaration → Type 0
IsDeclaredIn Inside (Universe name) = ⊤
IsDeclaredIn Inside OfError = ⊤
IsDeclaredIn Inside (Package path) = Inside path
IsDeclaredIn Inside (InFile path place) = Inside path

-- where there is a declaration
abbrev pub HasDeclaredIn : (List ℕ → Type 0) → Outcome Declaration (List ℕ) → Type 0
HasDeclaredIn Inside (outcomes.Declared d) = IsDeclaredIn Inside d
HasDeclaredIn Inside (outcomes.Selected d path) = IsDeclaredIn Inside d
HasDeclaredIn Inside (outcomes.Refused rule) = ⊤
