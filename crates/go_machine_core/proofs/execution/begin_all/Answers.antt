use Rattle.std.proofs.Common.{◌-◌, ◌<◌, List, ℤ, Option, map, get_or, length, sym, ap, ◌∙◌, arith}
use Rattle.std.specs.Prelude.{option_map, slice_get}
use Rattle.go_machine_core.specs.declared.frame.Frame.{Frame}
use Rattle.go_machine_core.specs.Programs.{linked_shown}
use Rattle.go_machine_core.specs.Machine.{begun}
use Rattle.go_machine_core.specs.mirrors.Shown.{frame_shown}
use Rattle.go_machine_core.proofs.Stepping.{none_begun}
use Rattle.go_machine_core.proofs.execution.begin_all.Goals as goal

pub returns-in_default : goal.returns-in_default
returns-in_default c =
    let program = map linked_shown c.args.program.now in
    let at = c.loop-number.number - 1 in
    let lt : at < length c.args.starts.now = omega (arith, c.loop-number-test.true, c.loop-number.auto.number) in
    none_begun program c.args.starts.now at lt
    (ap (λ (o : Option Frame). option_map (frame_shown c.args.program.now) o) (sym c.in_default.is)
    ∙ (c.in_ok-frame.ensures
    ∙ ap (λ (arguments : List ℤ). option_map (λ g. begun g arguments) (slice_get program (get_or c.args.starts.now at 0))) c.new.ensures.items))
