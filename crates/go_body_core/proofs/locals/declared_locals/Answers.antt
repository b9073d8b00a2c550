use Rattle.std.proofs.Common.{inl, inr}
use Rattle.std.proofs.lemmas.Slice.Zip.{Zip-more, either_empty_from_Zip}
use Rattle.go_body_core.specs.Rules.{declared_among}
use Rattle.go_body_core.proofs.Declaring.{declare_step, no_firsts, no_means}
use Rattle.go_body_core.proofs.locals.declared_locals.Goals as goal

pub loop-first-preserved : goal.loop-first-preserved
loop-first-preserved c =
    let left = c.loop-first.first-iterator in
    let rest = c.next.new.self in
    let more = Zip-more left rest c.next.result (c.in-Some.first, c.in-Some.meaning) c.in-Some.is c.next.ensures.steps in
    declare_step c.loop-first.declared.items (declared_among c.args.firsts.now c.args.means.now) left.a.rest.now rest.a.rest.now left.b.rest.now rest.b.rest.now c.in-Some.first.now c.in-Some.meaning.now
    c.add_local.new.declared.items more.0 more.1 c.in_ok-add_local.ensures c.loop-first.invariant

pub returns : goal.returns
returns c =
    let left = c.loop-first.first-iterator in
    let now = c.loop-first.declared.items in
    let all = declared_among c.args.firsts.now c.args.means.now in
    elim (either_empty_from_Zip left c.next.new.self c.next.result c.in-None.is c.next.ensures.steps) [
      | inl e ↦ no_firsts now all left.a.rest.now left.b.rest.now e c.loop-first.invariant
      | inr e ↦ no_means now all left.a.rest.now left.b.rest.now e c.loop-first.invariant
    ]
