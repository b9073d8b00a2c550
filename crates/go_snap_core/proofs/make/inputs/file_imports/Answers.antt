use Rattle.std.proofs.Common.{◌≡◌, ℕ, ◌<◌, ◌≤◌, length, [], map, sym, ap, subst, ◌∙◌, arith}
use Rattle.std.proofs.lemmas.List.{length-map, take_all}
use Rattle.go_tree_nodes.specs.Shapes.{file_of}
use Rattle.go_tree_nodes.specs.Trees.{ImportSpecTree}
use Rattle.go_graph_core.specs.Lists.{AllNumbered}
use Rattle.go_snap_core.specs.whole_workspace.mirrors.Steps.{exports_in}
use Rattle.go_names_core.specs.block_core.declared.imports.Imported.{Imported}
use Rattle.go_names_core.specs.block_core.Naming.{file_specs, import_at}
use Rattle.go_names_core.specs.block_core.mirrors.Shown.{spec_shown}
use Rattle.go_names_core.specs.block_core.mirrors.Steps.{IsPlanned}
use Rattle.go_names_core.specs.block_core.GivenSteps.{numbered_next}
use Rattle.go_snap_core.proofs.make.inputs.file_imports.Goals as goal

pub loop-import-init : goal.loop-import-init
loop-import-init c = subst (λ l. AllNumbered (λ (n : ℕ) (spec : ImportSpecTree) (i : Imported). IsPlanned c.args.plan.now.outcomes (exports_in c.args.parts.now) (import_at c.args.«package» c.args.file n) i) 0 [] l) (sym c.in_ok-imported.ensures.items) tt

pub imported_at-requires : goal.imported_at-requires
imported_at-requires c =
    let lt : c.loop-import.import < length (file_specs (file_of c.args.tree.now)) = omega (arith, c.loop-import-test.true, length-map c.in_ok-specs.specs.items spec_shown, ap length c.in_ok-specs.ensures) in
    c.requires c.loop-import.import lt

pub loop-import-preserved : goal.loop-import-preserved
loop-import-preserved c =
    let lt : c.loop-import.import < length (file_specs (file_of c.args.tree.now)) = omega (arith, c.loop-import-test.true, length-map c.in_ok-specs.specs.items spec_shown, ap length c.in_ok-specs.ensures) in
    numbered_next (λ n spec i. IsPlanned c.args.plan.now.outcomes (exports_in c.args.parts.now) (import_at c.args.«package» c.args.file n) i) (file_specs (file_of c.args.tree.now)) c.loop-import.imported.items c.add.new.all.items c.loop-import.import _ lt c.loop-import.invariant (λ spec at. c.in_ok-imported_at.ensures) c.in_ok-add.ensures

pub returns : goal.returns
returns c =
    let le : length (file_specs (file_of c.args.tree.now)) ≤ c.loop-import.import = omega (arith, c.loop-import-test.false, length-map c.in_ok-specs.specs.items spec_shown, ap length c.in_ok-specs.ensures) in
    subst (λ l. AllNumbered (λ n spec i. IsPlanned c.args.plan.now.outcomes (exports_in c.args.parts.now) (import_at c.args.«package» c.args.file n) i) 0 l c.loop-import.imported.items) (take_all c.loop-import.import (file_specs (file_of c.args.tree.now)) le) c.loop-import.invariant
