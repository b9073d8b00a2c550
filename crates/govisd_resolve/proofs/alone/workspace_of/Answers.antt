use Rattle.std.proofs.Common.{string_bytes, sym, subst}
use Rattle.go_block_core.specs.graph_core.Workspaces.{HaveDistinctNames, Puts, given_files}
use Rattle.govisd_resolve.specs.Alone.{the_name}
use Rattle.govisd_resolve.proofs.Putting.{one_distinct, put_alone}
use Rattle.govisd_resolve.proofs.alone.workspace_of.Goals as goal

pub put-requires : goal.put-requires
put-requires c = subst HaveDistinctNames (sym c.in_ok-files.ensures) (one_distinct (the_name, string_bytes c.args.text))

pub returns-in-Ok-put : goal.returns-in-Ok-put
returns-in-Ok-put c = put_alone (string_bytes c.args.text) c.in-Ok.path (given_files c.in_ok-files.files.items) c.put.new.self c.in-Ok.ensures.ok.0 c.in_ok-files.ensures (subst (λ old. Puts old c.in-Ok.path (given_files c.in_ok-files.files.items) c.put.new.self) c.empty-workspace.ensures c.in-Ok-put.ensures.ok)
