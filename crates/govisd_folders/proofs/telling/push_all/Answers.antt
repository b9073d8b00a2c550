use Rattle.std.proofs.Common.{◌≤◌, ◌==◌, List, length, take, subst, true}
use Rattle.std.specs.Prelude.{string_bytes}
use Rattle.govisd_folders.specs.Telling.{AddsLines}
use Rattle.govisd_folders.specs.declared.selecting.Told.{Told}
use Rattle.govisd_folders.proofs.TellingLemmas.{adds_file, first_at, within_rest}
use Rattle.govisd_folders.proofs.telling.push_all.Goals as goal

pub turns-preserved : goal.turns-preserved
turns-preserved c =
    let page = c.args.page.now in
    let ps = c.args.snapshot.now.sources in
    let start = string_bytes c.args.out.now in
    let count = c.in_ok-told.field-0 in
    let mid = string_bytes c.turns.out in
    let new = string_bytes c.push_file.new.out in
    record {
      within = within_rest c.args.faults.now c.turns.told count (subst (λ (ts : List Told). count ≤ length ts) c.split_at.ensures.back c.in_ok-told.ensures.within) c.turns.invariant.within;
      added =
          adds_file page.look page.scope.package.now page.given.now ps true (c.turns.told == 0) c.args.faults.now c.turns.told count start mid new (first_at c.turns.told c.args.faults.now c.turns-test.true) c.turns.invariant.added
          (subst (λ (ts : List Told). AddsLines page.look page.scope.package.now page.given.now ps (c.turns.told == 0) (take count ts) mid new) c.split_at.ensures.back c.in_ok-told.ensures.added);
    }
