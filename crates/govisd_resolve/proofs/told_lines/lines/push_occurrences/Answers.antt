use Rattle.std.proofs.Common.{◌++◌, inl, inr}
use Rattle.std.proofs.lemmas.Slice.Zip.{Zip-more, either_empty_from_Zip}
use Rattle.govisd_resolve.specs.told_lines.Lines.{occurrence_lines}
use Rattle.govisd_resolve.proofs.ToldLinesLineLemmas.{occurrence_more, no_occurrence, no_use}
use Rattle.govisd_resolve.proofs.told_lines.lines.push_occurrences.Goals as goal

pub loop-occ-preserved : goal.loop-occ-preserved
loop-occ-preserved c =
    let left = c.loop-occ.occ-iterator in
    let rest = c.next.new.self in
    let more = Zip-more left rest c.next.result (c.in-Some.occ, c.in-Some.answer) c.in-Some.is c.next.ensures.steps in
    let name = c.args.name.now in
    let places = c.args.places.now in
    occurrence_more name places c.loop-occ.out.items c.push_occurrence.new.out.items (c.args.out.now.items ++ occurrence_lines name places c.args.occs.now c.args.answers.now)
    left.a.rest.now rest.a.rest.now left.b.rest.now rest.b.rest.now c.in-Some.occ.now c.in-Some.answer.now more.0 more.1 c.in_ok-push_occurrence.ensures c.loop-occ.invariant

pub returns : goal.returns
returns c =
    let left = c.loop-occ.occ-iterator in
    let name = c.args.name.now in
    let places = c.args.places.now in
    let now = c.loop-occ.out.items in
    let all = c.args.out.now.items ++ occurrence_lines name places c.args.occs.now c.args.answers.now in
    elim (either_empty_from_Zip left c.next.new.self c.next.result c.in-None.is c.next.ensures.steps) [
      | inl e ↦ no_occurrence name places now all left.a.rest.now left.b.rest.now e c.loop-occ.invariant
      | inr e ↦ no_use name places now all left.a.rest.now left.b.rest.now e c.loop-occ.invariant
    ]
