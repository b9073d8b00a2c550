-- What names are looked up in by the outlines of a package's files is what its trees give.
use Rattle.std.proofs.Common.{◌≡◌, ℕ, suc, List, [], ◌∷◌, ◌++◌, map, Option, refl, ap, ◌∙◌}
use Rattle.go_declared_core.specs.graph_core.Packages.{Trees, tree_shown, trees_of}
use Rattle.go_term_core.specs.decl_core.TopDecls.{top_decls}
use Rattle.go_declared_core.specs.typexpr_core.EntryOutlines.{FileOutline, outline_of}
use Rattle.go_declared_core.specs.Faces.{TheFace}
use Rattle.go_package_core.specs.prepare.Packages.{trees_in}
use Rattle.go_package_core.specs.package_part.Inputs.{InputModel, path_in}
use Rattle.go_package_core.specs.package_part.Parts.{ContentOf}
use Rattle.go_emit_core.specs.declared.meaning.tables.Tables.{Tables}
use Rattle.go_emit_core.specs.meaning.Scenes.{CodeScene, decl_at, package_decl_refs}
use Rattle.go_emit_core.specs.meaning.mirrors.Listing.{outlines_decls}
use Rattle.go_emit_core.specs.meaning.mirrors.Naming.{code_scene_in, scene_with}

decls_outlined : (n : ℕ) (ts : Trees) → outlines_decls n (map (λ t. outline_of t.1) ts) ≡ package_decl_refs n (map tree_shown ts)
decls_outlined n [] = refl
decls_outlined n (t ∷ ts) = ap (λ l. map (decl_at n) (top_decls t.1) ++ l) (decls_outlined (suc n) ts)

-- what is looked up in is the scene
pub scene_made : (t : Tables) (i : InputModel) (c : ContentOf) (s : CodeScene) (path : List ℕ) (known : List (Option TheFace)) (os : List FileOutline)
    → s ≡ code_scene_in t path (outlines_decls 0 os) known
    → path ≡ path_in i → os ≡ map (λ t. outline_of t.1) (trees_of i.source.1) → known ≡ c.declared → s ≡ scene_with t i c
scene_made t i c s path known os made at outlined ks =
    let here : outlines_decls 0 os ≡ package_decl_refs 0 (trees_in i.source) = ap (outlines_decls 0) outlined ∙ decls_outlined 0 (trees_of i.source.1) in
    made ∙ (λ k. code_scene_in t (at k) (here k) (ks k))
