use Rattle.std.proofs.Common.{List, ℕ, Some, ap, sym, subst, ◌∙◌}
use Rattle.std.specs.List.{flat_map}
use Rattle.std.proofs.lemmas.Option.{slice_get-get_or}
use Rattle.std.proofs.lemmas.Result.{on_ok_weaker}
use Rattle.go_graph_core.specs.Imports.{import_texts}
use Rattle.go_graph_core.specs.Sources.{SourceModel}
use Rattle.go_import_core.specs.list.mirrors.Visits.{IsTargetOf, Visits}
use Rattle.go_import_core.proofs.ListSearches.{package_visited}
use Rattle.go_import_core.proofs.list.reaching.visit_package.Goals as goal

pub returns : goal.returns
returns c =
    let ps = c.args.packages.now in
    let p = c.index-packages-number.result in
    let at = slice_get-get_or ps c.args.number p c.requires.number ∙ ap Some (sym c.index-packages-number.is) in
    let visited = package_visited ps c.args.number p at c.args.marks.now c.visit_files.new.marks c.args.stack.now.items c.visit_files.new.stack.items in
    on_ok_weaker c.visit_files.result
    (λ h. visited (
    subst (λ (fs : List SourceModel). Visits (IsTargetOf ps p.0 (flat_map import_texts fs)) c.args.marks.now c.visit_files.new.marks c.args.stack.now.items c.visit_files.new.stack.items) c.files.ensures.files
    (subst (λ (q : List ℕ). Visits (IsTargetOf ps q (flat_map import_texts c.files.result.now)) c.args.marks.now c.visit_files.new.marks c.args.stack.now.items c.visit_files.new.stack.items) c.path.ensures h)
    ))
    c.visit_files.ensures
