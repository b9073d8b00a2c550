use Rattle.std.proofs.Common.{◌≡◌, ◌<◌, length, Some, None, ap, ◌∙◌, arith}
use Rattle.std.specs.List.{slice_get}
use Rattle.std.proofs.lemmas.List.Elements.{All-same}
use Rattle.std.proofs.lemmas.Option.{slice_get-get_or}
use Rattle.go_digraph_core.proofs.ChainLists.{marked_within}
use Rattle.go_digraph_core.proofs.ChainKnowing.{given_end_to, given_none, way_inside}
use Rattle.go_digraph_core.proofs.chain.follow.follow_chain.Goals as goal
use Rattle.go_digraph_core.proofs.chain.follow.follow_chain.Goals.{in-Some, in_default}

pub give_end-requires : goal.give_end-requires
give_end-requires c =
    All-same (λ i. i < length c.walk.new.ends) c.deref.result.now c.walk.new.way.items c.deref.ensures.value
    (way_inside c.args.next.now c.walk.new.marks c.walk.new.ends c.walk.new.way.items c.in_ok-stop.stop c.in_ok-stop.ensures.known)

pub returns-clause-known : goal.returns-clause-known
returns-clause-known c =
    let next = c.args.next.now in
    let marks = c.walk.new.marks in
    let ends = c.walk.new.ends in
    let way = c.walk.new.way.items in
    let stop = c.in_ok-stop.stop in
    let known = c.in_ok-stop.ensures.known in
    let marked = marked_within marks stop c.in_ok-stop.ensures.stops in
    let marks_len = known.marks_len in
    let ends_len = known.ends_len in
    let lt : stop < length ends = omega (arith, marked, marks_len, ends_len) in
    elim c.match-ends-stop.branch [
      | in-Some w ↦
          (let at : slice_get ends stop ≡ Some (Some w.in-Some.end) = slice_get-get_or ends stop None lt ∙ ap Some w.in-Some.is in
          rw (c.clear.ensures.items, w.ends-is)
          (given_end_to next marks ends w.give_end.new.ends way w.deref.result.now stop w.in-Some.end at w.give_end.auto.ends w.deref.ensures.value w.give_end.ensures.given w.give_end.ensures.kept known))
      | in_default w ↦
          (let at : slice_get ends stop ≡ Some None = slice_get-get_or ends stop None lt ∙ ap Some w.in_default.is in
          rw (c.clear.ensures.items, w.ends-is) (given_none next marks ends way stop at c.in_ok-stop.ensures.stops known))
    ]
