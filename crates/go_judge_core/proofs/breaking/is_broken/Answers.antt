use Rattle.std.proofs.Common.{◌++◌, ap, ◌∙◌}
use Rattle.go_stmt_core.specs.expr_core.Looks.{everywhere}
use Rattle.go_judge_core.specs.Breaking.{faults_of, uses_of}
use Rattle.go_judge_core.proofs.Noted.{noted_there}
use Rattle.go_judge_core.proofs.breaking.is_broken.Goals as goal

pub returns : goal.returns
returns g c = λ holds.
    let looks = everywhere (g.E.TypeLooks.types c.args.env.now) (g.E.Names.names c.args.env.now) (g.E.Literals.literals c.args.env.now) (g.E.Exprs.written c.args.env.now) in
    let used = uses_of looks c.args.piece in
    let faulty = faults_of looks c.args.is_inside c.args.news.now c.args.results.now c.args.has_names c.args.piece in (
      c.args.is_inside,
      c.args.news.now,
      c.args.results.now,
      c.args.has_names,
      noted_there c.note_piece.new.notes.uses.items used c.note_piece.new.notes.faults.items faulty c.args.offset c.args.rule
          (c.in_ok-note_piece.ensures.uses ∙ ap (λ l. l ++ used) c.new-uses.ensures.items)
          (c.in_ok-note_piece.ensures.faults ∙ ap (λ l. l ++ faulty) c.new-faults.ensures.items)
          (c.has_rule.ensures holds),
    )
