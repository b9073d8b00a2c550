use Rattle.std.proofs.Common.{◌-◌, map, ap, ◌∙◌}
use Rattle.std.proofs.lemmas.Result.{IfOk-weaker}
use Rattle.go_scope_stack.specs.Blocks.{block_of, short_names}
use Rattle.go_scope_stack.proofs.Tables.{last_place, len_as_list, top_is}
use Rattle.go_scope_stack.proofs.OpenBlocks.short_names.Goals as goal

pub returns-clause-ok : goal.returns-clause-ok
returns-clause-ok c =
    let blocks = c.self.inside.blocks in
    let top = c.len-top.result - 1 in
    let place = last_place block_of blocks.items c.args.self.now c.len-top.result (len_as_list blocks c.len-top.result c.len-top.ensures) c.self.view_is c.requires in
    let here = top_is block_of blocks.items c.args.self.now top c.index.result.now c.self.view_is place c.index.ensures in
    IfOk-weaker c.short_names_in.result _ _ (λ short h. h ∙ ap (λ b. short_names b (map (λ n. n.now) c.args.names.now)) here) c.short_names_in.ensures.ok
