use Rattle.std.proofs.Common.{rules, sym, subst, IfOk}
use Rattle.std.proofs.Crossing.{crosses}
use Rattle.std.specs.Prelude.{Vec}
use Rattle.std.specs.declared.alloc.Global.{Global}
use Rattle.std.specs.declared.string.String.{String}
use denote.Param.Send.{sendable}
use Rattle.go_graph_core.specs.Workspaces.{given_files}
use Rattle.go_thread_core.proofs.Crossing.{source_file_row_send}
use Rattle.govisd_disk.specs.at_once.Reading.{AreReadOf}
use Rattle.govisd_disk.proofs.at_once.reading.begin.Goals as goal

pub spawn_with-requires-send-T : goal.spawn_with-requires-send-T
spawn_with-requires-send-T g c κs within = search (source_file_row_send, crosses, sendable) depth 40

pub spawn_with-requires-clause-keeps : goal.spawn_with-requires-clause-keeps
spawn_with-requires-clause-keeps g c κs within r gave =
    subst (λ (v : Vec (String Global × String Global) Global). IfOk r (λ w. AreReadOf (given_files v.items) w.items)) (sym c.of.ensures) (search rules)
