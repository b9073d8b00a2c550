-- What a program comes to.
use Rattle.std.specs.Prelude.{◌≡◌, ℕ, List, string_bytes}
use Rattle.go_machine_core.specs.Machine.{Run as MachineRun, Ended, Panicked, Spent, Stuck, machine}
use Rattle.go_machine_core.specs.link.Linked.{IsRunnable, ProgramOf, RunnableOf}
use Rattle.go_machine_core.specs.declared.runs.outcome.Run.{Run}
use Rattle.go_machine_core.specs.declared.runs.outcome.Run.TheVariants as runs

abbrev pub run_shown : Run → MachineRun
run_shown (runs.Ended output) = Ended (string_bytes output)
run_shown (runs.Panicked value output) = Panicked value (string_bytes output)
run_shown (runs.Spent output) = Spent (string_bytes output)

-- what functions come to in so many steps, from those that begin a program
abbrev pub comes_to : RunnableOf → ℕ → MachineRun
comes_to r steps = machine r.functions r.starts steps

abbrev pub IsStuck : MachineRun → Type 0
IsStuck run = (output : List ℕ) × (run ≡ Stuck output)

-- a program can be run, and comes to this
abbrev pub Gives : ProgramOf → ℕ → MachineRun → Type 0
Gives p steps run = (r : RunnableOf) × IsRunnable p r × (comes_to r steps ≡ run)

-- it can be run, and an instruction lacks what it asks for
abbrev pub GetsStuck : ProgramOf → ℕ → Type 0
GetsStuck p steps = (r : RunnableOf) × IsRunnable p r × IsStuck (comes_to r steps)
