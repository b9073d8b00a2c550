use Rattle.std.proofs.Common.{◌≡◌, map, subst}
use Rattle.std.specs.Prelude.{IfOk}
use Rattle.go_embed_core.specs.table_core.Entries.{find_entry}
use Rattle.go_term_core.specs.Shapes.{shape}
use Rattle.go_select_core.specs.PathNames.{names_along}
use Rattle.go_select_core.proofs.along.path_names.Goals as goal

pub returns : goal.returns
returns c = subst (λ steps. IfOk c.names_in.result (λ names. map (λ n. n.now) names.items ≡ names_along (find_entry c.args.table.now) (shape c.args.term.now) steps)) c.steps.ensures c.names_in.ensures
