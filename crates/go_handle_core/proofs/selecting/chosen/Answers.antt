use Rattle.std.proofs.Common.{◌≡◌, true, false, sym, ap, ◌∙◌, subst}
use Rattle.go_table_core.specs.Entries.{find_entry}
use Rattle.go_mset_core.specs.select_core.LevelsSelectors.{IsSelectorAnswer}
use Rattle.go_handle_core.specs.Names.{shown_choice}
use Rattle.go_handle_core.proofs.Telling.{told_member, told_rule}
use Rattle.go_handle_core.proofs.selecting.chosen.Goals as goal

pub returns-in-Ok : goal.returns-in-Ok
returns-in-Ok c t name h =
    let es = c.args.table.now in
    let home = c.args.home.now in
    c.shown.ensures ∙ ap (shown_choice (find_entry es)) (told_member es t name home c.in-Ok.selected (subst (IsSelectorAnswer (find_entry es) t name home) c.in-Ok.is h))

pub returns-else-is_memory : goal.returns-else-is_memory
returns-else-is_memory c t name h =
    let es = c.args.table.now in
    let home = c.args.home.now in
    ap (shown_choice (find_entry es))
    (told_rule es t name home c.in-Err.rule (λ e. let z : true ≡ false = sym (c.is_memory.ensures.1 e) ∙ c.if-is_memory.false in (cc)) (subst (IsSelectorAnswer (find_entry es) t name home) c.in-Err.is h))
