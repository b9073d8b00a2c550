use Rattle.std.proofs.Common.{◌≡◌, ◌++◌, map, Bor, sym, ap, subst, ◌∙◌}
use Rattle.std.specs.Result.{OnOk}
use Rattle.go_tree_nodes.specs.declared.names.Ident.{Ident}
use Rattle.go_tree_nodes.specs.TypeShapes.{shape_results}
use Rattle.go_tree_nodes.proofs.TypeShapes.{listed_parts}
use Rattle.go_local_core.specs.Outline.{result_idents}
use Rattle.go_names_core.proofs.idents.add_results.Goals as goal

pub returns-in-Listed : goal.returns-in-Listed
returns-in-Listed c =
    subst (λ xs. OnOk c.add_params.result (map (λ (i : Bor Ident). i.now) c.add_params.new.list.items ≡ map (λ (i : Bor Ident). i.now) c.args.list.now.items ++ xs))
    (sym (ap (λ r. result_idents (shape_results r)) c.in-Listed.is ∙ ap result_idents (listed_parts c.in-Listed.params))) c.add_params.ensures
