-- What the names of types lead to in a package.
use Rattle.std.proofs.Common.{◌≡◌, ℕ, List}
use Rattle.go_term_core.specs.decl_core.declared.keys.DeclRef.{DeclRef}
use Rattle.go_term_core.specs.Terms.{Term}
use Rattle.go_body_core.specs.typexpr_core.AliasesAliases.{target_by}
use Rattle.go_body_core.specs.typexpr_core.EntryMeanings.{Shows}
use Rattle.go_report_core.specs.declared_core.Here.{far_type}
use Rattle.go_package_core.specs.prepare.Packages.{PackageIn, shows_in, targets_in}

abbrev pub names_with : PackageIn → List ℕ → List (DeclRef × Term) → Shows
names_with p path targets = record { shown = p.shows; target = target_by path targets (far_type p.others) }

pub names_are : (p : PackageIn) (path : List ℕ) (targets : List (DeclRef × Term)) → path ≡ p.path → targets ≡ targets_in p → names_with p path targets ≡ shows_in p
names_are p path targets path_is targets_are = λ i. names_with p (path_is i) (targets_are i)
