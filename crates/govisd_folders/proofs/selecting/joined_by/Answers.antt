use Rattle.std.proofs.Common.{◌++◌, ◌∷◌, [], ◌∙◌, ap, inl, inr}
use Rattle.std.proofs.lemmas.Slice.Zip.{Zip-more, either_empty_from_Zip}
use Rattle.govisd_folders.specs.Selecting.{joined_by}
use Rattle.govisd_folders.proofs.SelectingLemmas.{causes_ended, joined_step, names_ended}
use Rattle.govisd_folders.proofs.selecting.joined_by.Goals as goal

pub loop-cause-preserved : goal.loop-cause-preserved
loop-cause-preserved c =
    let left = c.loop-cause.cause-iterator in
    let rest = c.next.new.self in
    let before = c.loop-cause.joined.items in
    let more = Zip-more left rest c.next.result (c.in-Some.cause, c.in-Some.again) c.in-Some.is c.next.ensures.steps in
    joined_step before (joined_by c.args.causes.now c.args.repeated.now) left.a.rest.now rest.a.rest.now left.b.rest.now rest.b.rest.now c.in-Some.cause.now c.in-Some.again.now c.push.new.self.items more.0 more.1
    (c.in_ok-push.ensures.items ∙ ap (λ r. before ++ r ∷ []) c.joined_cause-one.ensures) c.loop-cause.invariant

pub returns : goal.returns
returns c =
    let left = c.loop-cause.cause-iterator in
    let now = c.loop-cause.joined.items in
    let all = joined_by c.args.causes.now c.args.repeated.now in
    elim (either_empty_from_Zip left c.next.new.self c.next.result c.in-None.is c.next.ensures.steps) [
      | inl e ↦ causes_ended now all left.a.rest.now left.b.rest.now e c.loop-cause.invariant
      | inr e ↦ names_ended now all left.a.rest.now left.b.rest.now e c.loop-cause.invariant
    ]
