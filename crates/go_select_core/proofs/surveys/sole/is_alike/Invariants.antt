use Rattle.go_term_core.specs.Shapes.{shape}
use Rattle.go_embed_core.specs.table_core.Entries.{find_entry}
use Rattle.go_select_core.specs.surveys.mirrors.Alike.{AreAlike}
use Rattle.go_select_core.proofs.surveys.sole.is_alike.Given as goal

abbrev pub invariant-steps : goal.invariant-steps
invariant-steps l = AreAlike (find_entry l.table) l.name l.from (shape l.x) (shape l.y) → AreAlike (find_entry l.table) l.name l.from (shape l.a) (shape l.b)
