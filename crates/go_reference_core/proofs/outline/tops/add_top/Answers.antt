use Rattle.std.proofs.Common.{◌++◌, map, ap, sym, ◌∙◌}
use Rattle.std.proofs.lemmas.Result.{on_ok_weaker}
use Rattle.go_tree_nodes.specs.declared.files.Decl.{Decl}
use Rattle.go_tree_nodes.specs.Shapes.{decl_of}
use Rattle.go_reference_core.specs.outline.Outlines.{decl_entries, entry_shown}
use Rattle.go_reference_core.proofs.outline.tops.add_top.Goals as goal

pub returns-in-Value : goal.returns-in-Value
returns-in-Value c =
    let first = map entry_shown c.args.entries.now.items in
    on_ok_weaker c.add_values.result (λ e. e ∙ ap (λ (d : Decl). first ++ decl_entries c.args.top.now.semicolon.start (decl_of d)) (sym c.in-Value.is)) c.add_values.ensures

pub returns-in-Type : goal.returns-in-Type
returns-in-Type c =
    let first = map entry_shown c.args.entries.now.items in
    on_ok_weaker c.add_types.result (λ e. e ∙ ap (λ (d : Decl). first ++ decl_entries c.args.top.now.semicolon.start (decl_of d)) (sym c.in-Type.is)) c.add_types.ensures

pub returns-in-Func : goal.returns-in-Func
returns-in-Func c =
    let first = map entry_shown c.args.entries.now.items in
    on_ok_weaker c.add_func.result (λ e. e ∙ ap (λ (d : Decl). first ++ decl_entries c.args.top.now.semicolon.start (decl_of d)) (sym c.in-Func.is)) c.add_func.ensures
