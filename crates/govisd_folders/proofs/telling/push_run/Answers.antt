use Rattle.std.proofs.Common.{◌∙◌, arith, false, refl}
use Rattle.std.specs.Prelude.{string_bytes}
use Rattle.govisd_folders.specs.Telling.{told_at}
use Rattle.govisd_folders.proofs.TellingLemmas.{adds_more, adds_none, line_added, none_first, source_beside}
use Rattle.govisd_folders.proofs.telling.push_run.Goals as goal

pub loop-place-init : goal.loop-place-init
loop-place-init c =
    let sheet = c.args.sheet.now in
    let page = sheet.page.now in
    let ps = sheet.snapshot.now.sources in
    let start = string_bytes c.args.out.now in
    let at = c.requires.lies in
    let line = line_added page.look page.scope.package.now page.given.now ps c.args.is_first (told_at c.args.faults.now 0) sheet.package.now at.folder sheet.file.now c.new-lines.result start (string_bytes c.push_fault.new.out) at.source at.lies at.below at.named (c.new-lines.ensures ∙ at.same) c.in_ok-push_fault.ensures.added in
    record {
      begun = omega arith;
      lines = refl;
      added = adds_more page.look page.scope.package.now page.given.now ps c.args.is_first c.args.is_first c.args.faults.now 0 _ start start (string_bytes c.push_fault.new.out) c.requires.some refl (adds_none page.look page.scope.package.now page.given.now ps c.args.is_first start) line;
    }

pub loop-place-preserved : goal.loop-place-preserved
loop-place-preserved c =
    let sheet = c.args.sheet.now in
    let page = sheet.page.now in
    let ps = sheet.snapshot.now.sources in
    let start = string_bytes c.args.out.now in
    let at = c.requires.lies in
    let beside = c.if-not-is_beside.ensures refl in
    let lies = source_beside ps (told_at c.args.faults.now c.loop-place.place).fault (told_at c.args.faults.now 0).fault beside.0 beside.1 ∙ at.lies in
    let text = c.loop-place.invariant.lines ∙ (c.in_ok-push_fault.ensures.text ∙ (c.new-lines.ensures ∙ at.same)) in
    let line = line_added page.look page.scope.package.now page.given.now ps false (told_at c.args.faults.now c.loop-place.place) sheet.package.now at.folder sheet.file.now c.loop-place.lines (string_bytes c.loop-place.out) (string_bytes c.push_fault-in-loop-place.new.out) at.source lies at.below at.named text c.in_ok-push_fault-2.ensures.added in
    record {
      begun = omega arith;
      lines = c.in_ok-push_fault-2.ensures.text ∙ c.loop-place.invariant.lines;
      added = adds_more page.look page.scope.package.now page.given.now ps c.args.is_first false c.args.faults.now c.loop-place.place _ start (string_bytes c.loop-place.out) (string_bytes c.push_fault-in-loop-place.new.out) c.loop-place-test.true (none_first c.args.is_first c.loop-place.place c.args.faults.now c.loop-place.invariant.begun c.loop-place-test.true) c.loop-place.invariant.added line;
    }
