use Rattle.std.proofs.Common.{List, sym, subst}
use Rattle.go_select_core.specs.levels.Selectors.{IsSelectorAnswer}
use Rattle.go_table_core.specs.Entries.{Entry, find_entry}
use Rattle.go_env_core.proofs.recalling.RecallingNames.select.Goals as goal

pub returns-in-Some : goal.returns-in-Some
returns-in-Some g c =
    let told = subst (λ from. IsSelectorAnswer (find_entry g.K.TypesOf.types) c.args.t.now c.args.name.now from c.in-Some.answered) c.path.ensures c.in-Some.ensures in
    c.chosen.ensures c.args.t.now c.args.name.now
    (subst (λ (es : List Entry). IsSelectorAnswer (find_entry es) c.args.t.now c.args.name.now c.args.self.now.here.scene.now.home.now c.in-Some.answered) (sym c.args.self.now.same) told)
