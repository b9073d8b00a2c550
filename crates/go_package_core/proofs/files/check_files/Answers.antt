use Rattle.std.proofs.Common.{All, map, sym, subst}
use Rattle.std.specs.List.{AllZip, enumerate_from}
use Rattle.rayon.proofs.ListFacts.{IfOk-then}
use Rattle.go_package_core.specs.prepare.Packages.{package_in_shown}
use Rattle.go_package_core.specs.Checked.{IsFileChecked, answers_shown}
use Rattle.go_package_core.specs.Tasks.{IsAnswered, IsTask}
use Rattle.go_package_core.specs.mirrors.TasksOf.{IsTaskOf}
use Rattle.go_package_core.proofs.Corresponding.{zip_all, zip_through}
use Rattle.go_package_core.proofs.files.check_files.Goals as goal

pub answers_in-requires : goal.answers_in-requires
answers_in-requires g c =
    let p = package_in_shown g.P.ImportedNames.shows c.args.at.now in
    let shows = g.N.ImportedNames.shows in
    let types = c.args.scene.now.types.now in
    let d = c.args.declared.now in
    let of = IsTaskOf shows p types d.known.items c.args.type_faults.now d.looped.items in
    subst (All (IsTask shows g.K.TypesOf.types)) (sym c.as_slice.ensures.value)
    (subst (λ ts. All (IsTask shows ts) c.in_ok-tasks.tasks.items) c.requires.table (zip_all of (IsTask shows types) (λ q t is. is.ready) (enumerate_from 0 p.trees) c.in_ok-tasks.tasks.items c.in_ok-tasks.ensures))

pub returns : goal.returns
returns g c =
    let p = package_in_shown g.P.ImportedNames.shows c.args.at.now in
    let shows = g.N.ImportedNames.shows in
    let types = c.args.scene.now.types.now in
    let d = c.args.declared.now in
    let of = IsTaskOf shows p types d.known.items c.args.type_faults.now d.looped.items in
    IfOk-then c.answers_in.result _ _ c.answers_in.ensures (λ files h.
    zip_through of (IsAnswered shows) (IsFileChecked p types d.known.items c.args.type_faults.now d.looped.items) (λ q t a is answered. is.checked a answered) (enumerate_from 0 p.trees) c.in_ok-tasks.tasks.items
    (map answers_shown files.items) c.in_ok-tasks.ensures (subst (λ ts. AllZip (IsAnswered shows) ts (map answers_shown files.items)) c.as_slice.ensures.value h))
