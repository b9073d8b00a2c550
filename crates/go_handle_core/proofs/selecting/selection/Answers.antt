use Rattle.std.proofs.Common.{subst}
use Rattle.go_table_core.specs.Entries.{find_entry}
use Rattle.go_mset_core.specs.select_core.LevelsSelectors.{IsSelectorAnswer}
use Rattle.go_handle_core.proofs.selecting.selection.Goals as goal

pub returns : goal.returns
returns c =
    let t = c.args.t.now in
    let name = c.args.name.now in
    c.chosen.ensures t name (subst (λ home. IsSelectorAnswer (find_entry c.args.table.now) t name home c.answer-answered.result) c.path.ensures c.answer-answered.ensures)
