-- What names of types lead to in a package, by its path and the targets of its aliases.
use Rattle.std.proofs.Common.{◌≡◌, ℕ, List}
use Rattle.go_term_core.specs.decl_core.declared.keys.DeclRef.{DeclRef}
use Rattle.go_term_core.specs.Terms.{Term}
use Rattle.go_typexpr_core.specs.aliases.Aliases.{alias_ends, target_by}
use Rattle.go_typexpr_core.specs.aliases.Outlined.{written_aliases}
use Rattle.go_typexpr_core.specs.entry.Meanings.{Shows}
use Rattle.go_candidate_core.specs.declared_core.Here.{far_type}
use Rattle.go_package_core.specs.prepare.Packages.{PackageIn, outlines_in, shows_in}

abbrev pub names_with : PackageIn → List ℕ → List (DeclRef × Term) → Shows
names_with p path targets = record { shown = p.shows; target = target_by path targets (far_type p.others) }

pub names_are : (p : PackageIn) (path : List ℕ) (targets : List (DeclRef × Term)) → path ≡ p.path → targets ≡ alias_ends (written_aliases p.shows p.path p.blocks (outlines_in p)) p.path → names_with p path targets ≡ shows_in p
names_are p path targets path_is targets_are = λ i. names_with p (path_is i) (targets_are i)
