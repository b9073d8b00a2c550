use Rattle.go_scope_stack.specs.Blocks.{block_of}
use Rattle.go_scope_stack.proofs.Tables.{left_by_pop, some_blocks, some_len}
use Rattle.go_scope_stack.proofs.OpenBlocks.leave.Goals as goal

pub returns : goal.returns
returns c =
    let any = some_blocks block_of c.self.inside.blocks.items c.args.self.now c.self.view_is c.requires in
    left_by_pop block_of c.self.inside.blocks.items c.pop.new.self.items c.args.self.now c.pop.result (c.pop.ensures.variant.1 (some_len c.self.inside.blocks any)) c.self.view_is c.pop.ensures.items
