use Rattle.std.proofs.Common.{◌≡◌, ◌<◌, length, Some, None, ap, ◌∙◌, arith, inr}
use Rattle.std.specs.List.{slice_get}
use Rattle.std.proofs.lemmas.Option.{slice_get-get_or}
use Rattle.go_digraph_core.proofs.ChainKnowing.{step_on, step_end}
use Rattle.go_digraph_core.proofs.ChainLists.{start_marked, still_marked}
use Rattle.go_digraph_core.proofs.chain.follow.walk.Goals as goal

pub steps-preserved-in-Some : goal.steps-preserved-in-Some
steps-preserved-in-Some c =
    let before = c.steps.invariant in
    let lt : c.steps.stop < length c.args.next.now = before.inside in
    let len : length c.steps.marks ≡ length c.args.next.now = before.known.marks_len in
    let lt' : c.steps.stop < length c.steps.marks = omega arith in
    let follows : slice_get c.args.next.now c.steps.stop ≡ Some (Some c.in-Some.follower) = slice_get-get_or c.args.next.now c.steps.stop _ lt ∙ ap Some c.in-Some.is in
    record {
      known = rw c.in_ok-push-in-Some.ensures.items (step_on c.args.next.now c.steps.marks c.steps.ends c.steps.way.items c.steps.stop c.in-Some.follower lt follows before.known);
      inside = c.requires.inside c.steps.stop c.in-Some.follower follows;
      keeps = λ i h. still_marked c.steps.marks c.steps.stop i lt' (before.keeps i h);
      marked = inr (start_marked c.steps.marks c.steps.stop c.args.start lt' before.marked);
    }

pub steps-preserved : goal.steps-preserved
steps-preserved c =
    let before = c.steps.invariant in
    let lt : c.steps.stop < length c.args.next.now = before.inside in
    let len : length c.steps.marks ≡ length c.args.next.now = before.known.marks_len in
    let lt' : c.steps.stop < length c.steps.marks = omega arith in
    let last : slice_get c.args.next.now c.steps.stop ≡ Some None = slice_get-get_or c.args.next.now c.steps.stop _ lt ∙ ap Some c.in-None.is in
    record {
      known = step_end c.args.next.now c.steps.marks c.steps.ends c.steps.way.items c.steps.stop lt last before.known;
      inside = lt;
      keeps = λ i h. still_marked c.steps.marks c.steps.stop i lt' (before.keeps i h);
      marked = inr (start_marked c.steps.marks c.steps.stop c.args.start lt' before.marked);
    }
