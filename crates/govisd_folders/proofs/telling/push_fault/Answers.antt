use Rattle.std.specs.Prelude.{string_bytes}
use Rattle.govisd_folders.proofs.ReportLemmas.{fault_added}
use Rattle.govisd_folders.proofs.telling.push_fault.Goals as goal

pub returns-clause-added : goal.returns-clause-added
returns-clause-added c =
    let sheet = c.args.sheet.now in
    fault_added c.push_form.result sheet.page.now.look sheet.package.now sheet.file.now c.args.lines.now c.args.is_first c.follows.result c.args.told c.position_of-at.result (string_bytes c.args.out.now) (string_bytes c.push_form.new.out)
    c.position_of-at.ensures.place c.follows.ensures c.push_form.ensures
