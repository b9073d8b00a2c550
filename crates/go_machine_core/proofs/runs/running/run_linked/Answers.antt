use Rattle.std.proofs.Common.{◌≡◌, ℕ, List, map, ap, ◌∙◌, subst}
use Rattle.std.specs.Prelude.{MatchOption}
use Rattle.go_machine_core.specs.declared.linked.Linked.{Linked}
use Rattle.go_machine_core.specs.Programs.{linked_shown}
use Rattle.go_machine_core.specs.Machine.{Run as MachineRun, machine}
use Rattle.go_machine_core.specs.runs.Runs.{IsStuck, run_shown}
use Rattle.go_machine_core.proofs.runs.running.run_linked.Goals as goal

pub returns : goal.returns
returns c =
    let functions = c.args.runnable.now.functions.items in
    let is = c.in_ok-ran.ensures
    ∙ (ap (λ (fs : List Linked). machine (map linked_shown fs) c.deref-2.result.now c.args.steps) c.deref.ensures.value
    ∙ ap (λ (ns : List ℕ). machine (map linked_shown functions) ns c.args.steps) c.deref-2.ensures.value) in
    subst (λ (m : MachineRun). MatchOption c.told-run.result (IsStuck m) (λ run. run_shown run ≡ m)) is c.told-run.ensures
