use Rattle.std.proofs.Common.{◌≡◌, [], map, ap, ◌∙◌}
use Rattle.std.proofs.lemmas.Result.{IfOk-at_ok, IfOk-weaker}
use Rattle.go_block_core.specs.Tables.{names_in}
use Rattle.go_block_core.specs.Blocks.{held_in}
use Rattle.go_block_core.specs.scope_stack.Blocks.{all_names, list_names}
use Rattle.go_scope_core.specs.Scopes.{universe}
use Rattle.go_scope_core.proofs.names.listed_names.Goals as goal

pub returns-clause-ok : goal.returns-clause-ok
returns-clause-ok c =
    let blocks = c.args.blocks.now in
    let P = names_in blocks.names in
    let F = names_in (held_in blocks c.args.file) in
    let O = list_names [] (all_names c.args.open_blocks.now) in
    let p = c.in_ok-add_listed.ensures.ok in
    let f = c.in_ok-add_listed-2.ensures.ok in
    let old = list_names c.args.names.now (names_in universe) in
    let first : c.add_listed.new.names ≡ list_names old P = p.2 ∙ (ap (λ s. list_names s (map (λ n. n.now) p.0.items)) c.in_ok-add_predeclared.ensures.ok ∙ ap (list_names old) (IfOk-at_ok (λ names. map (λ n. n.now) names.items ≡ P) p.1 c.package_names.ensures)) in
    let second : c.add_listed-2.new.names ≡ list_names (list_names old P) F =
    f.2 ∙ (ap (λ s. list_names s (map (λ n. n.now) f.0.items)) first ∙ ap (list_names (list_names old P)) (IfOk-at_ok (λ names. map (λ n. n.now) names.items ≡ F) f.1 c.file_names.ensures)) in
    let o = c.in_ok-add_listed-3.ensures.ok in
    let third : c.add_listed-3.new.names ≡ list_names (list_names (list_names old P) F) O =
    o.2 ∙ (ap (λ s. list_names s (map (λ n. n.now) o.0.items)) second ∙ ap (list_names (list_names (list_names old P) F)) (IfOk-at_ok (λ names. map (λ n. n.now) names.items ≡ O) o.1 c.names.ensures.value)) in
    IfOk-weaker c.to_list.result _ _ (λ list same. same ∙ third) c.to_list.ensures.ok
