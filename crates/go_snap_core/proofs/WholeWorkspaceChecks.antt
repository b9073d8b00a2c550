-- What follows from a workspace, and from a check.
use Rattle.std.proofs.Common.{◌≡◌, ℕ, List, [], ◌∷◌, All, Some, ap, subst, ◌∙◌}
use Rattle.std.specs.Prelude.{slice_get}
use Rattle.std.proofs.lemmas.List.Elements.{All-from_recursion, recursion_from_All}
use Rattle.std.proofs.lemmas.Option.{slice_get_within, get_or_from_slice_get}
use Rattle.go_graph_core.specs.Sources.{IsPlacedSource}
use Rattle.go_graph_core.specs.Workspaces.{PackageModel, IsPackage, IsWorkspace}
use Rattle.go_term_core.specs.decl_core.declared.keys.DeclKey.{DeclKey}
use Rattle.go_body_core.specs.table_core.Entries.{Entry, EntryLook, find_entry}
use Rattle.go_term_core.specs.declared.settling.kind.Kind.{Kind}
use Rattle.go_body_core.specs.table_core.Tables.{AreOf}
use Rattle.go_select_core.specs.type_core.Built.{AreEntries}
use Rattle.go_body_core.specs.typexpr_core.EntryEntries.{package_meanings, package_methods}
use Rattle.go_body_core.specs.typexpr_core.EntryOrdered.{entries_own}
use Rattle.go_emit_core.specs.declared_core.Packages.{PackageFacesModel}
use Rattle.go_emit_core.specs.package_core.PrepareMade.{trees_placed}
use Rattle.go_emit_core.specs.package_core.PreparePackages.{PackageIn, entries_in, outlines_in, shows_in, trees_in}
use Rattle.go_emit_core.specs.package_core.Checked.{CheckedOf, IsChecked}
use Rattle.go_tree_nodes.specs.Spelling.{IsPlaced}

-- the trees of a package of a workspace are placed

package_there : (ps : List PackageModel) (n : ℕ) (p : PackageModel) → All IsPackage ps → slice_get ps n ≡ Some p → IsPackage p
package_there ps n p all at = subst IsPackage (get_or_from_slice_get ps n p p at) (all n p (slice_get_within ps n p at))

pub trees_are_placed : (ps : List PackageModel) (n : ℕ) (p : PackageModel) → IsWorkspace ps → slice_get ps n ≡ Some p → All IsPlaced (trees_in p)
trees_are_placed ps n p well at = All-from_recursion IsPlaced (trees_in p) (trees_placed p.1 (recursion_from_All IsPlacedSource p.1 (package_there ps n p well.packages at).contents))

-- the types of a package are of its path

own_built : (written : List Entry) (far : EntryLook) (kind : DeclKey → Kind) (path : List ℕ) (ws es : List Entry) → AreOf path ws → AreEntries written far kind ws es → AreOf path es
own_built written far kind path [] [] own h = tt
own_built written far kind path [] (e ∷ es) own h = absurd h
own_built written far kind path (w ∷ ws) [] own h = absurd h
own_built written far kind path (w ∷ ws) (e ∷ es) own h = (ap (λ (k : DeclKey). k.path) h.0.key ∙ own.0, own_built written far kind path ws es own.1 h.1)

pub types_own : (p : PackageIn) (far : List Entry) (c : CheckedOf) → IsChecked p far c → AreOf p.path c.types
types_own p far c h =
    let means = package_meanings (shows_in p) p.path p.blocks in
    own_built (entries_in p) (find_entry far) h.types.built.kind p.path (entries_in p) c.types (entries_own means p.path (package_methods means p.path (outlines_in p)) (outlines_in p)) h.types.built.entries

-- what a package shows is of its path
pub faces_own : (p : PackageIn) (far : List Entry) (c : CheckedOf) → IsChecked p far c → c.faces.path ≡ p.path
faces_own p far c h = ap (λ (f : PackageFacesModel). f.path) h.faces
