-- A package has types.
use Rattle.std.proofs.Common.{ℕ, Bool, List, [], ◌∷◌, ◌++◌, All, length, map, refl}
use Rattle.std.specs.List.{AllByRecursion}
use Rattle.std.proofs.lemmas.List.Elements.{All-from_recursion}
use Rattle.go_tree_nodes.specs.Trees.{FileTree}
use Rattle.go_term_core.specs.decl_core.declared.keys.DeclRef.{DeclRef}
use Rattle.go_body_core.specs.table_core.Entries.{find_entry}
use Rattle.go_body_core.specs.table_core.Tables.{KeysRise}
use Rattle.go_select_core.specs.type_core.mirrors.Chained.{AreNothing, kind_at, known_kind, next_bare, next_named, nothing_at}
use Rattle.go_select_core.specs.type_core.mirrors.Making.{entry_at, marked_faults}
use Rattle.go_select_core.specs.type_core.mirrors.Numbers.{keys_of}
use Rattle.go_select_core.specs.type_core.Building.{is_built}
use Rattle.go_select_core.specs.type_core.Keyed.{rise_apart}
use Rattle.go_select_core.specs.type_core.Nothings.{are_nothing}
use Rattle.go_select_core.specs.type_core.Unders.{IsRooted}
use Rattle.go_body_core.specs.typexpr_core.EntryEntries.{package_meanings, package_methods}
use Rattle.go_body_core.specs.typexpr_core.EntryMeanings.{declared_alone}
use Rattle.go_body_core.specs.typexpr_core.EntryOutlines.{IsOutline, outline_of}
use Rattle.go_body_core.specs.typexpr_core.EntryOrdered.{all_rise, entries_rise}
use Rattle.go_body_core.specs.typexpr_core.AliasesLaws.{looped_aliases}
use Rattle.go_report_core.specs.declared.type_faults.places.PackageFault.{PackageFault}
use Rattle.go_report_core.specs.type_faults.TypeFaults.{faults_of_types}
use Rattle.go_emit_core.specs.package_core.PreparePackages.{PackageIn, entries_in, outlines_in, shows_in, targets_in, written_in}
use Rattle.go_workspace_laws.specs.existence.Laws.{PackagesHaveTypes, TypesExist}
use Rattle.go_workspace_laws.proofs.ExistenceChains.{has_ends}
use Rattle.go_workspace_laws.proofs.ExistenceLooped.{loops_decided, marked}
use Rattle.go_workspace_laws.proofs.ExistenceTables.{tabled}

pub types_exist : TypesExist
types_exist far written rise =
    let count : ℕ = length written in
    let keys = keys_of written in
    let m = marked written rise in
    let looped : List Bool = m.0 in
    let bare = tabled count (next_bare keys looped written) in
    let bare_ends = has_ends bare.0 in
    let nothing = tabled count (nothing_at far looped written bare_ends.0) in
    let nothing_are : AreNothing written far nothing.0 = are_nothing written (rise_apart written rise) far looped m.1.are bare.0 bare.1 bare_ends.0 nothing.0 bare_ends.1 nothing.1 in
    let next = tabled count (next_named keys looped written) in
    let ends = has_ends next.0 in
    let rooted : IsRooted written far looped nothing.0 next.0 ends.0 = record { apart = rise_apart written rise; are = m.1.are; falls = m.1.falls; nothing_is = nothing_are; table = next.1; ends_are = ends.1 } in
    let kinds = tabled count (kind_at far nothing.0 written ends.0) in
    let types = tabled count (entry_at far (known_kind keys kinds.0 far) nothing.0 written ends.0) in
    (types.0, marked_faults 0 looped, is_built written far looped nothing.0 next.0 ends.0 kinds.0 rooted kinds.1 types.0 (marked_faults 0 looped) m.1.as_many types.1 refl)

-- a package

outlines : (fs : List FileTree) → All IsOutline (map outline_of fs)
outlines fs = All-from_recursion IsOutline (map outline_of fs) (by fs)
  where
    by : (fs : List FileTree) → AllByRecursion IsOutline (map outline_of fs)
    by [] = tt
    by (f ∷ fs) = ((f, refl), by fs)

module _ (p : PackageIn) where
  rising : KeysRise (entries_in p)
  rising = (let means = package_meanings (shows_in p) p.path p.blocks in entries_rise means p.path (package_methods means p.path (outlines_in p)) (outlines_in p) (outlines p.trees))

  all_rising : KeysRise (written_in p)
  all_rising = all_rise (package_meanings (declared_alone p.shows) p.path p.blocks) p.path [] (outlines_in p) (outlines p.trees)

pub packages_have_types : PackagesHaveTypes
packages_have_types p far =
    let built = types_exist (find_entry far) (entries_in p) (rising p) in
    let loops = loops_decided (written_in p) (all_rising p) in
    let looped : List DeclRef = looped_aliases loops.0 (targets_in p) (written_in p) in
    let faults : List PackageFault = faults_of_types (far ++ built.0) (package_meanings (declared_alone p.shows) p.path p.blocks) (package_meanings (shows_in p) p.path p.blocks) p.path (outlines_in p) (entries_in p) looped built.1 in
    (built.0, faults, record { loops = built.1; built = built.2; looped = looped; looped_are = (loops.0, loops.1, refl); faults_are = refl })
