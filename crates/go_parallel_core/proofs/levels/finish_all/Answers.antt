use Rattle.std.proofs.lemmas.Slice.Zip.{Zip-more, either_empty_from_Zip}
use Rattle.go_parallel_core.proofs.Handing.{ended_all, ended_more, next_taken}
use Rattle.go_parallel_core.proofs.levels.finish_all.Goals as goal

pub finish-requires : goal.finish-requires
finish-requires c =
    let left = c.loop-place.place-iterator in
    let rest = c.next.new.self in
    let more = Zip-more left rest c.next.result (c.in-Some.place, c.in-Some.part) c.in-Some.is c.next.ensures.steps in
    next_taken c.args.batch.now c.loop-place.batch left.a.rest.now rest.a.rest.now c.args.parts.now left.b.rest.now rest.b.rest.now c.in-Some.place.now c.in-Some.part.now c.loop-place.invariant more.0 more.1

pub loop-place-preserved : goal.loop-place-preserved
loop-place-preserved c =
    let left = c.loop-place.place-iterator in
    let rest = c.next.new.self in
    let more = Zip-more left rest c.next.result (c.in-Some.place, c.in-Some.part) c.in-Some.is c.next.ensures.steps in
    ended_more c.args.batch.now c.loop-place.batch c.finish.new.batch left.a.rest.now rest.a.rest.now c.args.parts.now left.b.rest.now rest.b.rest.now c.in-Some.place.now c.in-Some.part.now c.loop-place.invariant more.0 more.1
    c.in_ok-finish.ensures.finished c.in_ok-finish.ensures.tells

pub returns-clause-tells : goal.returns-clause-tells
returns-clause-tells c =
    let left = c.loop-place.place-iterator in
    ended_all c.args.batch.now c.loop-place.batch left.a.rest.now c.args.parts.now left.b.rest.now c.loop-place.invariant (either_empty_from_Zip left c.next.new.self c.next.result c.in-None.is c.next.ensures.steps)
