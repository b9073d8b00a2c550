use Rattle.go_embed_core.specs.table_core.Entries.{find_entry}
use Rattle.go_select_core.proofs.LevelsJudging.{JudgedTo}
use Rattle.go_select_core.proofs.levels.level.judge.Given as goal

abbrev pub invariant-types : goal.invariant-types
invariant-types l = JudgedTo (find_entry l.table) l.name l.from l.types l.first l.n l.best l.spelled
