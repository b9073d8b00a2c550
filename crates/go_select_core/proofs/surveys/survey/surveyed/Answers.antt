use Rattle.std.proofs.Common.{IfSome, subst}
use Rattle.go_term_core.specs.Shapes.{shape}
use Rattle.go_embed_core.specs.table_core.Entries.{find_entry}
use Rattle.go_select_core.specs.mirrors.Names.{names_of}
use Rattle.go_select_core.specs.surveys.mirrors.Walks.{AreDenoted}
use Rattle.go_select_core.proofs.SurveysTelling.{told}
use Rattle.go_select_core.proofs.surveys.survey.surveyed.Goals as goal

pub invariant_of-result : goal.invariant_of-result
invariant_of-result c =
    let es = c.args.table.now in
    let t = shape c.args.term.now in
    let w = c.in-Some.walk in
    let denoted : AreDenoted (find_entry es) t w.levels.trails w.levels.types.items (names_of w.names) = subst (λ o. IfSome o (λ v. AreDenoted (find_entry es) t v.levels.trails v.levels.types.items (names_of v.names))) c.in-Some.is c.in_ok-walk.ensures in
    told es t c.args.from.now w.levels.trails w.levels.types.items (names_of w.names) c.in_ok-known.known.entries c.in_ok-hidden.hidden.keys c.requires denoted c.in_ok-known.ensures c.in_ok-hidden.ensures
