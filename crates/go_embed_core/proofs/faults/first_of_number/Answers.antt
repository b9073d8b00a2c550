use Rattle.std.proofs.Common.{sym, ap, ◌∙◌}
use Rattle.go_term_core.specs.Terms.{NoType}
use Rattle.go_term_core.specs.Shapes.{shape}
use Rattle.go_term_core.proofs.SameLists.{found, missing}
use Rattle.go_embed_core.specs.Faults.{first_place}
use Rattle.go_embed_core.proofs.faults.first_of_number.Goals as goal

pub returns-in-Some : goal.returns-in-Some
returns-in-Some c =
    let w = c.in-Some in
    c.first_place.ensures ∙ ap first_place (sym (found shape NoType c.deref.result.now c.args.terms.now.items c.args.number w.term c.deref.ensures.value w.ensures.lookup))

pub returns-in-None : goal.returns-in-None
returns-in-None c = ap first_place (sym (missing shape NoType c.deref.result.now c.args.terms.now.items c.args.number c.deref.ensures.value c.in-None.ensures.lookup))
