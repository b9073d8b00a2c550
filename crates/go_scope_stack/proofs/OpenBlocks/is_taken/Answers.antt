use Rattle.std.proofs.Common.{◌-◌, ◌&&◌, is_some, sym, ap, ◌∙◌}
use Rattle.go_scope_stack.specs.Blocks.{in_block, innermost, block_of}
use Rattle.go_scope_stack.proofs.Tables.{last_place, len_as_list, top_is}
use Rattle.go_scope_stack.proofs.OpenBlocks.is_taken.Goals as goal

pub returns-then-ne : goal.returns-then-ne
returns-then-ne c =
    let blocks = c.self.inside.blocks in
    let top = c.len-top.result - 1 in
    let name = c.args.name.now in
    let place = last_place block_of blocks.items c.args.self.now c.len-top.result (len_as_list blocks c.len-top.result c.len-top.ensures) c.self.view_is c.requires in
    let here = top_is block_of blocks.items c.args.self.now top c.index.result.now c.self.view_is place c.index.ensures in
    c.is_some.ensures
    ∙ ap is_some (c.find_in.ensures ∙ ap (λ b. in_block b name) here)
    ∙ ap (λ b. b && is_some (in_block (innermost c.args.self.now) name)) (sym c.if-ne.true ∙ c.ne.ensures)
