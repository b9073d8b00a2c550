use Rattle.std.proofs.Common.{map, ap, refl, sym, subst, ◌∙◌}
use Rattle.std.specs.Prelude.{All}
use Rattle.std.specs.List.{AllByRecursion}
use Rattle.std.proofs.lemmas.Result.{IfOk-weaker}
use Rattle.std.proofs.lemmas.List.Elements.{All-from_recursion, recursion_from_All}
use Rattle.go_block_core.specs.graph_core.Packages.{trees_of, tree_shown}
use Rattle.go_block_core.specs.graph_core.Sources.{IsPlacedSource}
use Rattle.go_body_core.specs.typexpr_core.EntryOutlines.{outline_of}
use Rattle.go_package_core.specs.prepare.Inlines.{IsPlacedOutline}
use Rattle.go_package_core.specs.prepare.Packages.{trees_in}
use Rattle.go_package_core.proofs.PrepareLists.{map_map}
use Rattle.go_package_core.proofs.PreparePlacing.{outlines_placed}
use Rattle.go_package_core.proofs.PrepareMade.{trees_placed}
use Rattle.go_package_core.proofs.prepare.package_at.package_outlines.Goals as goal
use Rattle.go_tree_nodes.specs.Spelling.{IsPlaced}

pub returns-clause-outlines : goal.returns-clause-outlines
returns-clause-outlines g c =
    let files = c.args.at.now.package.now.1 in
    IfOk-weaker c.outlines.result _ _
    (λ os e. e ∙ (ap (λ fs. map (λ t. outline_of t.1) (trees_of fs)) c.files.ensures.files ∙ sym (map_map tree_shown outline_of (λ t. outline_of t.1) (λ t. refl) (trees_of files))))
    c.outlines.ensures.files

pub returns-clause-placed : goal.returns-clause-placed
returns-clause-placed g c =
    let files = c.args.at.now.package.now.1 in
    IfOk-weaker c.outlines.result _ _
    (λ os e.
    subst (AllByRecursion IsPlacedOutline)
    (sym (e ∙ (ap (λ fs. map (λ t. outline_of t.1) (trees_of fs)) c.files.ensures.files ∙ sym (map_map tree_shown outline_of (λ t. outline_of t.1) (λ t. refl) (trees_of files)))))
    (outlines_placed (trees_in c.args.at.now.package.now) (trees_placed files (recursion_from_All IsPlacedSource files c.files.ensures.well.contents))))
    c.outlines.ensures.files

pub returns-clause-trees : goal.returns-clause-trees
returns-clause-trees g c =
    let files = c.args.at.now.package.now.1 in
    IfOk-weaker c.outlines.result _ (λ os. All IsPlaced (trees_in c.args.at.now.package.now))
    (λ os e. All-from_recursion IsPlaced (trees_in c.args.at.now.package.now) (trees_placed files (recursion_from_All IsPlacedSource files c.files.ensures.well.contents)))
    c.outlines.ensures.files
