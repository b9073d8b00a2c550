use Rattle.std.proofs.Common.{[], map, ap, ◌∙◌}
use Rattle.std.proofs.lemmas.Result.{IfOk-weaker}
use Rattle.go_block_core.specs.Tables.{names_in}
use Rattle.go_block_core.specs.Blocks.{held_in}
use Rattle.go_block_core.specs.scope_stack.Blocks.{all_names, list_names}
use Rattle.go_block_core.specs.scope_stack.Names.{names_found, names_once}
use Rattle.go_scope_core.specs.Models.{scopes_model}
use Rattle.go_scope_core.specs.Scopes.{universe, scope_blocks}
use Rattle.go_scope_core.proofs.Listed.{listed_in_turn}
use Rattle.go_scope_core.proofs.scope.Scopes.names.Goals as goal

pub returns : goal.returns
returns c =
    let inside = scopes_model c.self.inside.blocks.now c.self.inside.file c.self.inside.open_blocks in
    let F = names_in (held_in inside.blocks inside.file) in
    let O = list_names [] (all_names inside.open_blocks) in
    let none = ap (λ k. list_names (list_names (list_names (list_names k (names_in universe)) (names_in inside.blocks.names)) F) O) c.new-all.ensures in
    let whole = none ∙ (listed_in_turn inside ∙ ap (λ s. list_names [] (all_names (scope_blocks s))) c.self.view_is) in
    record {
      value = IfOk-weaker c.listed_names.result _ _ (λ list same. same ∙ whole) c.listed_names.ensures.ok;
      found = IfOk-weaker c.listed_names.result _ _ (λ list same name. names_found (scope_blocks c.args.self.now) (map (λ n. n.now) list.items) name (same ∙ whole)) c.listed_names.ensures.ok;
      once = IfOk-weaker c.listed_names.result _ _ (λ list same. names_once (all_names (scope_blocks c.args.self.now)) (map (λ n. n.now) list.items) (same ∙ whole)) c.listed_names.ensures.ok;
      err = c.listed_names.ensures.err;
    }
