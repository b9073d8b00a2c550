use Rattle.std.proofs.Common.{◌≡◌, ◌++◌, List, length, map, ap, ◌∙◌, arith, Bool}
use Rattle.std.proofs.lemmas.List.{length-map}
use Rattle.go_digraph_core.specs.declared.cycle.edge.Edge.{Edge}
use Rattle.go_machine_core.specs.Programs.{LinkedOf, linked_shown}
use Rattle.go_machine_core.specs.link.Reaching.{edge, is_outside}
use Rattle.go_machine_core.specs.link.mirrors.Numbering.{first_marked}
use Rattle.go_machine_core.proofs.LinkReaching.{all_in_range, outside_is}
use Rattle.go_machine_core.proofs.link.reached.outside_of.Goals as goal

pub reached_from-requires-clause-edges : goal.reached_from-requires-clause-edges
reached_from-requires-clause-edges c =
    let fs = map linked_shown c.args.functions.now in
    let top = length c.args.functions.now in
    all_in_range fs c.args.starts.now top (length-map c.args.functions.now linked_shown) c.requires.below c.requires.starts c.deref.result.now
    (c.deref.ensures.value ∙ (c.in_ok-add_starts.ensures ∙ ap (λ (g : List Edge). g ++ map (edge top) c.args.starts.now) c.in_ok-edges.ensures)) c.in-Some.count (omega (arith, c.in-Some.ensures.1))

pub returns : goal.returns
returns c =
    let fs = map linked_shown c.args.functions.now in
    let top = length c.args.functions.now in
    outside_is fs c.args.starts.now top (length-map c.args.functions.now linked_shown) c.requires.below c.requires.starts c.deref.result.now
    (c.deref.ensures.value ∙ (c.in_ok-add_starts.ensures ∙ ap (λ (g : List Edge). g ++ map (edge top) c.args.starts.now) c.in_ok-edges.ensures)) c.in_ok-marks.marks.items c.in_ok-marks.ensures.marks
    c.marked_outside-outside.result (c.marked_outside-outside.ensures ∙ ap (λ (marks : List Bool). first_marked (λ (f : LinkedOf). is_outside f.code) 0 fs marks) c.deref-2.ensures.value)
