-- The types of a package, with their faults.
--
-- docs/RULES.md, "Types". The Go specification, "Type declarations", "Alias declarations", "Underlying types".
use Rattle.std.specs.Prelude.{◌≡◌, ◌++◌, List}
use Rattle.go_term_core.specs.decl_core.declared.keys.DeclRef.{DeclRef}
use Rattle.go_type_core.specs.table_core.Entries.{Entry, find_entry}
use Rattle.go_type_core.specs.declared.build.TypeFault.{TypeFault}
use Rattle.go_type_core.specs.Built.{IsBuilt}
use Rattle.go_body_core.specs.typexpr_core.EntryEntries.{package_meanings}
use Rattle.go_body_core.specs.typexpr_core.EntryMeanings.{declared_alone}
use Rattle.go_body_core.specs.typexpr_core.AliasesLaws.{AreLoopedAliases}
use Rattle.go_report_core.specs.declared.type_faults.places.PackageFault.{PackageFault}
use Rattle.go_report_core.specs.type_faults.TypeFaults.{faults_of_types}
use Rattle.go_package_core.specs.prepare.Packages.{PackageIn, entries_in, outlines_in, shows_in, targets_in, written_in}

-- what the types of a package are over those of the packages that it reaches, and the faults of their declarations
pub record AreTypes (p : PackageIn) (far own : List Entry) (faults : List PackageFault) : Type 0 where
  -- those that reach themselves
  pub loops : List TypeFault
  pub built : IsBuilt (find_entry far) (entries_in p) own loops
  -- and the aliases that do, by what is written
  pub looped : List DeclRef
  pub looped_are : AreLoopedAliases (written_in p) (targets_in p) looped
  pub faults_are : faults ≡ faults_of_types (far ++ own) (package_meanings (declared_alone p.shows) p.path p.blocks) (package_meanings (shows_in p) p.path p.blocks) p.path (outlines_in p) (entries_in p) looped loops
