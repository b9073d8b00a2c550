use Rattle.std.proofs.Common.{◌≡◌, ◌<◌, ℕ, false, get_or}
use Rattle.go_graph_core.specs.Sources.{SourceModel}
use Rattle.go_graph_core.specs.mirrors.Flaws.{is_flawed}
use Rattle.go_graph_core.proofs.assembly.first_fault.Given as goal

abbrev pub invariant-loop-file : goal.invariant-loop-file
invariant-loop-file l = (k : ℕ) (d : SourceModel) → k < l.file → is_flawed l.flaw (get_or l.files k d) ≡ false
