use Rattle.std.proofs.Common.{List, Vec, sym, subst, ℕ}
use Rattle.std.specs.List.{flat_map}
use Rattle.std.specs.declared.alloc.Global.{Global}
use Rattle.go_declared_core.specs.block_core.Naming.{imported_in}
use Rattle.go_declared_core.specs.block_core.declared.imports.Imported.{Imported}
use Rattle.go_summary_core.specs.shown.Shown.{MayBeShown, path_in, texts}
use Rattle.go_summary_core.specs.shown.mirrors.Adding.{AddsPicked}
use Rattle.go_summary_core.proofs.ShownPicking.{adds_more, adds_none, adds_them, flat_mapped}
use Rattle.go_summary_core.proofs.shown.paths.add_all_imports.Goals as goal

pub loop-imports-init : goal.loop-imports-init
loop-imports-init c = adds_none (MayBeShown c.args.from.now) (texts c.args.paths.now.items)

pub loop-imports-preserved : goal.loop-imports-preserved
loop-imports-preserved c =
    adds_more (MayBeShown c.args.from.now) (λ (is : Vec Imported Global). flat_map path_in is.items) c.args.files.now c.loop-imports.imports-index c.imports-item.result (texts c.args.paths.now.items) (texts c.loop-imports.paths.items) (texts c.add_imports.new.paths.items)
    c.loop-imports-test.true c.imports-item.is c.loop-imports.invariant
    (subst (λ (l : List Imported). AddsPicked (MayBeShown c.args.from.now) (flat_map path_in l) (texts c.loop-imports.paths.items) (texts c.add_imports.new.paths.items)) c.deref.ensures.value c.in_ok-add_imports.ensures)

pub returns : goal.returns
returns c =
    subst (λ (l : List (List ℕ)). AddsPicked (MayBeShown c.args.from.now) l (texts c.args.paths.now.items) (texts c.loop-imports.paths.items)) (sym (flat_mapped (flat_map path_in) imported_in c.args.files.now))
    (adds_them (MayBeShown c.args.from.now) (λ (is : Vec Imported Global). flat_map path_in is.items) c.args.files.now c.loop-imports.imports-index (texts c.args.paths.now.items) (texts c.loop-imports.paths.items) c.loop-imports-test.false c.loop-imports.invariant)
