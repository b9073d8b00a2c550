use Rattle.std.proofs.Common.{inl, inr, map}
use Rattle.std.proofs.lemmas.Slice.Zip.{Zip-more, either_empty_from_Zip}
use Rattle.go_body_core.specs.file.Package.{checked_file_shown, files_checked, lent_tree}
use Rattle.go_body_core.proofs.FilePackages.{first_ready, file_step, no_files, no_trees}
use Rattle.go_body_core.proofs.file.bodies.check_bodies.Goals as goal

pub loop-at-preserved : goal.loop-at-preserved
loop-at-preserved g c =
    let shows = g.P.ImportedNames.shows in
    let left = c.loop-at.at-iterator in
    let rest = c.next.new.self in
    let more = Zip-more left rest c.next.result (c.in-Some.at, c.in-Some.tree) c.in-Some.is c.next.ensures.steps in
    let all = files_checked shows c.args.files.now (map lent_tree c.args.trees.now) in
    record {
      checked = file_step shows left.a.rest.now rest.a.rest.now left.b.rest.now rest.b.rest.now c.in-Some.at.now c.in-Some.tree.now c.in_ok-file.file c.loop-at.checked.items c.add.new.all.items all more.0 more.1
          c.in_ok-file.ensures.uses c.in_ok-file.ensures.faults c.in_ok-file.ensures.locals c.in_ok-add.ensures c.loop-at.invariant.checked;
      left = (first_ready shows g.K.TypesOf.types left.a.rest.now rest.a.rest.now left.b.rest.now rest.b.rest.now c.in-Some.at.now c.in-Some.tree.now more.0 more.1 c.loop-at.invariant.left).1;
    }

pub returns : goal.returns
returns g c =
    let shows = g.P.ImportedNames.shows in
    let left = c.loop-at.at-iterator in
    let now = map checked_file_shown c.loop-at.checked.items in
    let all = files_checked shows c.args.files.now (map lent_tree c.args.trees.now) in
    elim (either_empty_from_Zip left c.next.new.self c.next.result c.in-None.is c.next.ensures.steps) [
      | inl e ↦ no_files shows left.a.rest.now left.b.rest.now now all e c.loop-at.invariant.checked
      | inr e ↦ no_trees shows left.a.rest.now left.b.rest.now now all e c.loop-at.invariant.checked
    ]
