use Rattle.std.proofs.Common.{length, sym, ap, ◌∙◌}
use Rattle.std.proofs.lemmas.List.{length-map}
use Rattle.go_scope_stack.specs.Blocks.{block_of}
use Rattle.go_scope_stack.proofs.Tables.{len_as_list}
use Rattle.go_scope_stack.proofs.OpenBlocks.depth.Goals as goal

pub returns : goal.returns
returns c = len_as_list c.self.inside.blocks c.len.result c.len.ensures ∙ (sym (length-map c.self.inside.blocks.items block_of) ∙ ap length c.self.view_is)
