use Rattle.std.proofs.Common.{ap, ◌∙◌}
use Rattle.go_scope_stack.specs.Blocks.{is_listed}
use Rattle.go_scope_stack.proofs.Names.{any_shown}
use Rattle.go_scope_stack.proofs.sorted.SortedNames.has.Goals as goal

pub returns : goal.returns
returns c =
    c.contains.ensures
    ∙ (any_shown c.args.name.now c.self.inside.known.keys ∙ (c.self.invariant c.args.name.now ∙ ap (λ l. is_listed l c.args.name.now) c.self.view_is))
