use Rattle.std.proofs.Common.{sym, ◌∙◌}
use Rattle.go_denote_core.specs.text_core.declared.rule.Rule.TheVariants.{S6}
use Rattle.go_term_core.specs.Shapes.{shape}
use Rattle.go_table_core.specs.Entries.{find_entry}
use Rattle.go_mset_core.specs.select_core.LevelsAnswering.{answers_refused}
use Rattle.go_handle_core.proofs.Telling.{two_stars, no_member}
use Rattle.go_handle_core.proofs.selecting.answer.Goals as goal

pub returns : goal.returns
returns c =
    let x = c.t.inside in
    let two = two_stars x.stars (shape x.term.now) c.if-t-eq0.false c.if-t-eq1.false in
    answers_refused (find_entry c.args.table.now) c.args.t.now c.args.name.now c.args.from.now S6 (sym c.eq.ensures ∙ c.if-eq.false) (no_member c.args.table.now c.args.t.now two.0 (sym c.t.view_is ∙ two.1))
