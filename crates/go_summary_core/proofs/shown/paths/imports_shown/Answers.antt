use Rattle.std.proofs.Common.{Bor, List, ℕ, map, subst}
use Rattle.go_declared_core.specs.block_core.Naming.{imported_in}
use Rattle.go_summary_core.specs.shown.Shown.{MayBeShown, import_paths, texts}
use Rattle.go_summary_core.specs.shown.mirrors.Adding.{AddsPicked}
use Rattle.go_summary_core.proofs.ShownPicking.{adds_all, picks_both}
use Rattle.go_summary_core.proofs.shown.paths.imports_shown.Goals as goal

pub returns-clause-each : goal.returns-clause-each
returns-clause-each c = λ path.
    let shown = MayBeShown c.args.from.now in
    let xs = import_paths (map imported_in c.args.files.now) in
    let added = subst (λ (l : List (Bor (List ℕ))). AddsPicked shown xs (texts l) (texts c.add_all_imports.new.paths.items)) c.new-paths.ensures.items c.in_ok-add_all_imports.ensures in
    let both = picks_both shown xs (texts c.add_all_imports.new.paths.items) (adds_all shown xs (texts c.add_all_imports.new.paths.items) added) path in
    let same = c.put_in_order.ensures.same path in
    ((λ h. both.0 (same.0 h)), (λ h. same.1 (both.1 h)))
