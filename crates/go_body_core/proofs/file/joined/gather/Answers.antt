use Rattle.std.proofs.Common.{◌≡◌, ◌++◌, subst}
use Rattle.std.specs.List.{flat_map}
use Rattle.std.specs.Vec.Iter.{into_iter_items}
use Rattle.go_body_core.specs.declared.file.whole.CheckedFile.{CheckedFile}
use Rattle.go_body_core.proofs.FileRunning.{appended}
use Rattle.go_body_core.proofs.file.joined.gather.Goals as goal

pub loop-run-preserved : goal.loop-run-preserved
loop-run-preserved c =
    let e = c.in_ok-join.ensures in
    let steps = c.in-Some.ensures.steps.0 in
    let rest = into_iter_items c.next.new.self in
    let at = c.loop-run in
    let now = c.join.new in
    let uses = λ (x : CheckedFile). x.uses.items in
    let faults = λ (x : CheckedFile). x.faults.items in
    let locals = λ (x : CheckedFile). x.locals.items in
    let used = c.args.notes.now.uses.items ++ flat_map uses c.args.runs.items in
    let broken = c.args.notes.now.faults.items ++ flat_map faults c.args.runs.items in
    let listed = c.args.declared.now.items ++ flat_map locals c.args.runs.items in
    record {
      used = appended uses c.in-Some.run' rest at.notes.uses.items now.notes.uses.items used e.uses (subst (λ l. at.notes.uses.items ++ flat_map uses l ≡ used) steps at.invariant.used);
      broken = appended faults c.in-Some.run' rest at.notes.faults.items now.notes.faults.items broken e.faults (subst (λ l. at.notes.faults.items ++ flat_map faults l ≡ broken) steps at.invariant.broken);
      listed = appended locals c.in-Some.run' rest at.declared.items now.declared.items listed e.declared (subst (λ l. at.declared.items ++ flat_map locals l ≡ listed) steps at.invariant.listed);
    }
