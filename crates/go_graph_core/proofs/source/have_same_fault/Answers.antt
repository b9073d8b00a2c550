use Rattle.go_graph_core.proofs.Contents.{fault_test}
use Rattle.go_graph_core.proofs.source.have_same_fault.Goals as goal

pub returns-in-Err-Err : goal.returns-in-Err-Err
returns-in-Err-Err c = fault_test c.in-Err-Err.one c.in-Err-Err.other c.eq.result c.args.one c.args.other c.eq.ensures c.in-Err-Err.is-0 c.in-Err-Err.is-1
