use Rattle.std.proofs.Common.{Option, map, subst, ◌∙◌}
use Rattle.std.specs.Borrow.{Bor}
use Rattle.std.specs.Prelude.{MatchOption}
use Rattle.std.proofs.lemmas.Result.{IfOk-weaker}
use Rattle.go_handle_core.specs.Declarations.{Declaration}
use Rattle.go_object_core.specs.declared.object.FunctionCode.{FunctionCode}
use Rattle.go_object_core.specs.Objects.{function_shown, object_shown}
use Rattle.go_machine_core.specs.link.Linked.{HasNoneOutside, IsOutsideOf}
use Rattle.govisd_folders.specs.runs.Runs.{ByFunction, ByPackage, program_at}
use Rattle.govisd_folders.proofs.RunsRunLemmas.{cut_of}
use Rattle.govisd_folders.proofs.runs.blame.blamed.Goals as goal

pub returns-in-Some : goal.returns-in-Some
returns-in-Some c =
    let os = map object_shown c.args.objects.now in
    let p = program_at os c.args.main.now in
    IfOk-weaker c.function_text.result _ _
    (λ text is. ByFunction (function_shown c.in-Some.function.now) (subst (λ (o : Option (Bor (FunctionCode Declaration))). MatchOption o (HasNoneOutside p) (λ f. IsOutsideOf p os (function_shown f.now))) c.in-Some.is c.in_ok-found.ensures) is) c.function_text.ensures

pub returns-in-None : goal.returns-in-None
returns-in-None c =
    let os = map object_shown c.args.objects.now in
    let p = program_at os c.args.main.now in
    IfOk-weaker c.from_str.result _ _
    (λ text is. ByPackage (cut_of c.answers_are_one.ensures p c.requires (subst (λ (o : Option (Bor (FunctionCode Declaration))). MatchOption o (HasNoneOutside p) (λ f. IsOutsideOf p os (function_shown f.now))) c.in-None.is c.in_ok-found.ensures)) (is ∙ c.as_str.ensures.text)) c.from_str.ensures.ok
