use Rattle.std.proofs.Common.{◌≡◌, Vec, map}
use Rattle.std.specs.Global.{Global}
use Rattle.std.proofs.lemmas.Result.{IfOk-weaker}
use Rattle.go_term_core.specs.decl_core.declared.keys.DeclRef.{DeclRef}
use Rattle.go_type_core.specs.table_core.Shown.{entry_shown}
use Rattle.go_typexpr_core.specs.aliases.Laws.{AreLoopedAliases}
use Rattle.go_typexpr_core.specs.aliases.mirrors.Numbered.{marked_aliases}
use Rattle.go_typexpr_core.proofs.AliasesMaking.{loops_made}
use Rattle.go_typexpr_core.proofs.aliases.loops.alias_loops.Goals as goal

pub returns : goal.returns
returns c = IfOk-weaker c.marked_aliases.result (λ (ds : Vec DeclRef Global). ds.items ≡ marked_aliases c.args.aliases.now c.deref.result.now (map entry_shown c.args.written.now))
    (λ ds. AreLoopedAliases (map entry_shown c.args.written.now) c.args.aliases.now ds.items)
    (λ ds h. loops_made c.args.aliases.now c.args.written.now c.in_ok-marks.marks.items c.deref.result.now ds.items c.deref.ensures.value c.in_ok-marks.ensures.len c.in_ok-marks.ensures.looped h) c.marked_aliases.ensures
