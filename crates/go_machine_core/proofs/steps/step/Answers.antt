use Rattle.std.proofs.Common.{◌≡◌, ◌<◌, ◌≤◌, ◌-◌, ◌^◌, Some, length, refl, sym, ap, ◌∙◌, subst, rules}
use Rattle.std.specs.Prelude.{slice_get}
use Rattle.std.proofs.lemmas.Option.{slice_get_read}
use Rattle.go_machine_core.specs.mirrors.Shown.{numbered}
use Rattle.go_machine_core.proofs.Stepping.{through}
use Rattle.go_machine_core.proofs.steps.step.Goals as goal

pub returns : goal.returns
returns c =
    let code = c.args.code.now in
    let place = c.args.state.now.frame.place in
    let inside : place < length code = search rules in
    let short : length code ≤ 2 ^ 64 - 1 = search rules in
    let small : length (numbered c.args.program.now c.args.state.now.frame.function).code ≤ 2 ^ 64 - 1 = subst (λ is. length is ≤ 2 ^ 64 - 1) c.requires short in
    let here : Some c.index-code-state.result ≡ slice_get (numbered c.args.program.now c.args.state.now.frame.function).code place =
    sym (slice_get_read code (length code) place c.index-code-state.result refl inside c.index-code-state.is) ∙ ap (λ is. slice_get is place) c.requires in
    through c.args.program.now c.args.state.now c.apply.new.state c.apply.result c.index-code-state.result small here c.apply.ensures
