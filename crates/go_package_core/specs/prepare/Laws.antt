-- Laws of what is made of a package before its files are checked.
use Rattle.std.specs.Prelude.{◌≡◌, ◌↔◌, Bool, List, Option, Some, All, Contains}
use Rattle.go_path_core.specs.text_core.declared.rule.Rule.TheVariants.{Y1}
use Rattle.go_term_core.specs.decl_core.declared.keys.DeclKey.{DeclKey}
use Rattle.go_term_core.specs.declared.term.MemberPlace.TheVariants as places
use Rattle.go_term_core.specs.Terms.{Term}
use Rattle.go_type_core.specs.table_core.Entries.{Entry, find_entry}
use Rattle.go_body_core.specs.typexpr_core.AliasesAliases.{own_alias}
use Rattle.go_body_core.specs.typexpr_core.AliasesLaws.{IsNamed, MeansOthers}
use Rattle.go_report_core.specs.declared_core.Faces.{TheFace}
use Rattle.go_report_core.specs.declared_core.Here.{far_type}
use Rattle.go_report_core.specs.declared.type_faults.places.PackageFault.{PackageFault}
use Rattle.go_report_core.specs.type_faults.Places.{located}
use Rattle.go_type_core.specs.Built.{IsLooped}
use Rattle.go_value_core.specs.Laws.{AreFaces}
use Rattle.go_value_core.specs.Package.{PlacedOf, placed_decls, AreThroughThemselves}
use Rattle.go_package_core.specs.prepare.Packages.{PackageIn, aliases_in, outlines_in, scene_in, written_in}
use Rattle.go_package_core.specs.prepare.Types.{AreTypes}
use Rattle.go_package_core.specs.prepare.Inlines.{initial_in}
use Rattle.go_package_core.specs.prepare.Values.{AreDeclared, AreLooped}
use Rattle.go_tree_nodes.specs.Spelling.{IsPlaced}

-- the declarations of the package, each with the types that its file writes in initialisers
abbrev pub package_placed : PackageIn → List Entry → List PlacedOf
package_placed p types = placed_decls (initial_in p types) (outlines_in p)

-- a table of values by the types that were made of the initialisers is one by what the names of types mean where they stand, and the other way
-- round; and so it is with the constants that are defined through themselves
pub record ValuesAreAsWritten : Type 0 where
  pub values : (p : PackageIn) (types : List Entry) (known : List (Option TheFace)) → All IsPlaced p.trees → AreFaces (scene_in p types) (package_placed p types) known ↔ AreDeclared p types known
  pub looped : (p : PackageIn) (types : List Entry) (flags : List Bool) → AreThroughThemselves (scene_in p types) (package_placed p types) flags ↔ AreLooped p types flags

-- there is one answer to what the declarations of a package are, and to which constants are defined through themselves
pub record DeclarationsHaveOneTable : Type 0 where
  pub values : (p : PackageIn) (types : List Entry) (one other : List (Option TheFace)) → All IsPlaced p.trees → AreDeclared p types one → AreDeclared p types other → one ≡ other
  pub looped : (p : PackageIn) (types : List Entry) (one other : List Bool) → AreLooped p types one → AreLooped p types other → one ≡ other

-- types and aliases that reach themselves

-- behind `=` of each alias of a package stands a name, as in each file of the grammar
abbrev pub AliasesAreNames : PackageIn → Type 0
AliasesAreNames p = (k : DeclKey) (w : Term) → own_alias (aliases_in p) p.path k ≡ Some w → IsNamed w

-- a fault at the name of a type or an alias, of the rule of those that reach themselves
abbrev pub IsLoopFault : PackageIn → DeclKey → PackageFault → Type 0
IsLoopFault p k f = Contains (located (outlines_in p) (places.Declared k.decl) Y1) f

-- a type or an alias of the package that reaches itself by what is written, through types and aliases, has this fault
abbrev pub IsOfLoop : PackageIn → PackageFault → Type 0
IsOfLoop p f = (k : DeclKey) × (w : Entry) × (find_entry (written_in p) k ≡ Some w) × IsLooped (written_in p) k × IsLoopFault p k f

-- the types and the aliases of a package that reach themselves by what is written are those that have a fault of the rule at their names, where
-- other packages' declarations mean nothing that uses the package's types directly
pub record LoopsAreFaults : Type 0 where
  pub found : (p : PackageIn) (far own : List Entry) (faults : List PackageFault) → AreTypes p far own faults → AliasesAreNames p → MeansOthers p.path (far_type p.others)
      → (f : PackageFault) → IsOfLoop p f → Contains faults f
  pub only : (p : PackageIn) (far own : List Entry) (faults : List PackageFault) → AreTypes p far own faults → AliasesAreNames p → MeansOthers p.path (far_type p.others)
      → (f : PackageFault) → Contains faults f → f.rule ≡ Y1 → IsOfLoop p f
