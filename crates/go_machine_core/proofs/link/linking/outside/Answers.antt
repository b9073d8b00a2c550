use Rattle.std.proofs.Common.{◌≡◌, map, inr, subst}
use Rattle.go_object_core.specs.Objects.{function_shown, object_shown}
use Rattle.go_machine_core.specs.link.Linked.{program_of}
use Rattle.go_machine_core.specs.link.mirrors.Layouts.{IsBeginning, runnable_with}
use Rattle.go_machine_core.proofs.LinkSettled.{outside_told}
use Rattle.go_machine_core.proofs.link.linking.outside.Goals as goal

pub returns-in-Outside : goal.returns-in-Outside
returns-in-Outside g c =
    let place = g.P.Places.place_of c.args.places.now in
    let os = map object_shown c.args.objects.now in
    outside_told place os c.args.main.now (λ f. function_shown f.now) c.in-Outside.number c.function_at.result c.function_at.ensures
    (subst (IsBeginning (program_of place os c.args.main.now)) c.in-Outside.is c.in_ok-linking.ensures.beginning)

pub returns : goal.returns
returns g c =
    let p = program_of (g.P.Places.place_of c.args.places.now) (map object_shown c.args.objects.now) c.args.main.now in
    inr (inr (runnable_with p.functions c.in-Starts.field-0.items, subst (IsBeginning p) c.in-Starts.is c.in_ok-linking.ensures.beginning))
