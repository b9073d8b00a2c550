use Rattle.std.proofs.Common.{All, List, map, sym, subst}
use Rattle.std.specs.Borrow.{Bor}
use Rattle.std.specs.Prelude.{Vec}
use Rattle.std.specs.declared.alloc.Global.{Global}
use Rattle.std.specs.List.{AllZip}
use Rattle.rayon.proofs.ListFacts.{IfOk-then}
use Rattle.go_package_core.specs.Checked.{answers_shown}
use Rattle.go_package_core.specs.Tasks.{IsAnswered, IsTask}
use Rattle.go_package_core.proofs.Corresponding.{all_in_pieces, joined_zip}
use Rattle.go_package_core.proofs.split.answers_at_once.Goals as goal

pub parts_at_once-requires-clause-parts : goal.parts_at_once-requires-clause-parts
parts_at_once-requires-clause-parts g c κs within =
    let ready = IsTask g.N.ImportedNames.shows g.K.TypesOf.types in
    subst (All (λ (q : Bor (List _)). All ready q.now)) (sym c.as_slice.ensures.value) (all_in_pieces ready c.in_ok-parts.parts.items c.args.tasks.now c.in_ok-parts.ensures c.requires.tasks)

pub returns : goal.returns
returns g c =
    let answered = IsAnswered g.N.ImportedNames.shows in
    IfOk-then c.joined.result _ _ c.joined.ensures (λ files h.
    joined_zip answered answers_shown c.in_ok-parts.parts.items c.in_ok-answers.answers.items c.args.tasks.now files.items c.in_ok-parts.ensures h
    (subst (λ l. AllZip (λ (part : Bor (List _)) (v : Vec _ Global). AllZip answered part.now (map answers_shown v.items)) l c.in_ok-answers.answers.items) c.as_slice.ensures.value c.in_ok-answers.ensures))
