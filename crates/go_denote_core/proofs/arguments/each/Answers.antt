use Rattle.std.proofs.Common.{[], ◌∷◌, ◌++◌, map, ap, ◌∙◌}
use Rattle.std.specs.Vec.Iter.{into_iter_items}
use Rattle.go_denote_core.specs.Arguments.{argument_of}
use Rattle.go_denote_core.proofs.Turns.{left_less}
use Rattle.go_denote_core.proofs.arguments.each.Goals as goal

pub loop-member-preserved : goal.loop-member-preserved
loop-member-preserved g c =
    left_less argument_of c.loop-member.all.items c.in-Some.member (into_iter_items c.loop-member.member-iterator) (into_iter_items c.next.new.self) (map argument_of c.args.members.items) c.push.new.self.items
    c.in-Some.ensures.steps.0 c.loop-member.invariant (c.in_ok-push.ensures.items ∙ ap (λ x. c.loop-member.all.items ++ x ∷ []) c.argument_of.ensures)
