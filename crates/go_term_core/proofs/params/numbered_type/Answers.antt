use Rattle.std.proofs.Common.{map}
use Rattle.go_term_core.specs.Shapes.{shape}
use Rattle.go_term_core.proofs.SameLists.{typed_at, never_missing}
use Rattle.go_term_core.proofs.params.numbered_type.Goals as goal

pub returns-in-Some : goal.returns-in-Some
returns-in-Some c =
    let a = c.args.params.now in
    typed_at a.terms.items a.lines.items c.deref.result.now c.deref-in-Some.result.now c.args.at c.in-Some.line c.get-in-Some.result c.deref.ensures.value c.deref-in-Some.ensures.value c.in-Some.ensures.lookup c.get-in-Some.ensures.lookup

pub returns-in-None : goal.returns-in-None
returns-in-None c =
    let a = c.args.params.now in
    absurd (never_missing (map shape a.terms.items) a.lines.items c.deref.result.now c.args.at c.deref.ensures.value c.requires c.in-None.ensures.lookup)
