use Rattle.std.proofs.Common.{arith, refl}
use Rattle.std.proofs.lemmas.Option.{slice_get_within}
use Rattle.go_import_core.proofs.ListVisited.{met_some}
use Rattle.go_import_core.proofs.list.reaching.is_met.Goals as goal

pub returns-in-Some : goal.returns-in-Some
returns-in-Some c =
    let ps = c.args.packages.now in
    let within = slice_get_within ps c.in-Some.number (c.args.text.now, c.in-Some.ensures.0) c.in-Some.ensures.1 in
    met_some ps c.args.text.now c.args.marks.now c.in-Some.number c.in-Some.ensures.0 _ _ c.requires.well c.in-Some.ensures.1 (omega (arith, within, c.requires.many)) refl
