use Rattle.std.proofs.Common.{sym, ap, subst, ◌++◌, ◌∙◌}
use Rattle.go_table_core.specs.Tables.{AreOthers, PackageTypesModel}
use Rattle.go_summary_core.specs.Summaries.{path_of}
use Rattle.go_batch_core.proofs.SeenAdding.{others_before, seen_push}
use Rattle.go_batch_core.proofs.seen.sight.add_summary.Goals as goal

pub add-requires : goal.add-requires
add-requires c =
    let s = c.args.summary.now in
    let view = c.args.view.now in
    let path = ap (λ (t : PackageTypesModel). t.path) (c.in_ok-share.ensures ∙ c.types.ensures) ∙ c.path-path.ensures.own.types in
    subst (λ p. AreOthers p view.types) (sym path) (others_before c.args.told.now.items (path_of s) view.types view.shown view.faces c.requires.seen c.requires.new)

pub returns-clause-seen : goal.returns-clause-seen
returns-clause-seen c =
    let s = c.args.summary.now in
    let view = c.args.view.now in
    let after = c.add_after_types.new.view in
    let types = c.add_after_types.ensures.types ∙ (c.in_ok-add.ensures.ok ∙ ap (λ (t : PackageTypesModel). view.types ++ t.entries) (c.in_ok-share.ensures ∙ c.types.ensures)) in
    seen_push c.args.told.now.items c.add_after_types.new.told.items s view.types after.types view.shown after.shown view.faces after.faces c.requires.seen c.path-path.ensures.own c.requires.new c.in_ok-add_after_types.ensures.told types
    c.in_ok-add_after_types.ensures.shown c.in_ok-add_after_types.ensures.faces
