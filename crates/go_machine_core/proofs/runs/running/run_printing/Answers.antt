use Rattle.std.proofs.Common.{◌≡◌, Option, map, inr, refl, subst}
use Rattle.std.specs.Prelude.{MatchOption}
use Rattle.go_object_core.specs.Objects.{object_shown}
use Rattle.go_machine_core.specs.link.Linked.{program_of, runnable_shown}
use Rattle.go_machine_core.specs.declared.runs.outcome.Run.{Run}
use Rattle.go_machine_core.specs.runs.Runs.{IsStuck, comes_to, run_shown}
use Rattle.go_machine_core.proofs.RunsTelling.{gets_stuck, gives_run}
use Rattle.go_machine_core.proofs.runs.running.run_printing.Goals as goal

pub returns-in-Some-clause-ok : goal.returns-in-Some-clause-ok
returns-in-Some-clause-ok g c =
    let p = program_of (g.P.Places.place_of c.args.places.now) (map object_shown c.args.objects.now) c.args.main.now in
    let r = runnable_shown c.in-Ok.runnable in
    let h = subst (λ (o : Option Run). MatchOption o (IsStuck (comes_to r c.args.steps)) (λ run. run_shown run ≡ comes_to r c.args.steps)) c.in-Some.is c.in-Ok-run_linked.ensures in
    gives_run p r c.args.steps _ c.in-Ok.ensures.ok h

pub returns-clause-err : goal.returns-clause-err
returns-clause-err g c =
    let p = program_of (g.P.Places.place_of c.args.places.now) (map object_shown c.args.objects.now) c.args.main.now in
    let r = runnable_shown c.in-Ok.runnable in
    let h = subst (λ (o : Option Run). MatchOption o (IsStuck (comes_to r c.args.steps)) (λ run. run_shown run ≡ comes_to r c.args.steps)) c.in-None.is c.in-Ok-run_linked.ensures in
    inr (inr (inr (refl, gets_stuck p r c.args.steps c.in-Ok.ensures.ok h)))
