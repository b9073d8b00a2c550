use Rattle.std.proofs.Common.{IfOk, sym, ap, ◌∙◌, subst}
use Rattle.go_term_core.specs.Terms.{InterfaceOf}
use Rattle.go_term_core.specs.Shapes.{shape, method_shapes}
use Rattle.go_term_core.proofs.TermShapes.{shape_interface}
use Rattle.go_select_core.specs.table_core.Entries.{find_entry}
use Rattle.go_mset_core.specs.Implementing.{IsImplementsAnswer}
use Rattle.go_mset_core.specs.mirrors.Asking.{holder_shown}
use Rattle.go_mset_core.proofs.interface.holder_implements.Goals as goal

pub returns-in-Interface : goal.returns-in-Interface
returns-in-Interface c =
    let look = find_entry c.args.table.now in
    let t = holder_shown c.args.holder in
    let w = c.in-Interface in
    let under = sym (shape_interface w.path w.methods) ∙ (sym (ap shape w.is) ∙ c.underlying.ensures) in
    subst (λ u. IfOk c.has_all.result (λ a. IsImplementsAnswer look t u a)) under
    (subst (λ ms. IfOk c.has_all.result (λ a. IsImplementsAnswer look t (InterfaceOf w.path (method_shapes ms)) a)) c.deref.ensures.value c.has_all.ensures)
