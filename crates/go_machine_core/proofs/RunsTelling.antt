-- What a program that can be run comes to.
use Rattle.std.proofs.Common.{◌≡◌, ℕ, sym}
use Rattle.go_machine_core.specs.Machine.{Run as MachineRun}
use Rattle.go_machine_core.specs.link.Linked.{IsRunnable, ProgramOf, RunnableOf}
use Rattle.go_machine_core.specs.runs.Runs.{GetsStuck, Gives, IsStuck, comes_to}

pub gives_run : (p : ProgramOf) (r : RunnableOf) (steps : ℕ) (run : MachineRun) → IsRunnable p r → run ≡ comes_to r steps → Gives p steps run
gives_run p r steps run h e = (r, h, sym e)

pub gets_stuck : (p : ProgramOf) (r : RunnableOf) (steps : ℕ) → IsRunnable p r → IsStuck (comes_to r steps) → GetsStuck p steps
gets_stuck p r steps h s = (r, h, s)
