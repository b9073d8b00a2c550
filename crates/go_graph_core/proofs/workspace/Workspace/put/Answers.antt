use Rattle.std.proofs.Common.{◌<◌, ◌∙◌, sym, subst, length, arith, ap}
use Rattle.std.specs.Result.{OnOk, OnErr}
use Rattle.go_graph_core.specs.Workspaces.{given_files, texts_of_files, HaveDistinctNames, Puts}
use Rattle.go_graph_core.proofs.Keeping.{as_many_given, as_many_texts}
use Rattle.go_graph_core.proofs.workspace.Workspace.put.Goals as goal

pub put_read-requires-clause-names : goal.put_read-requires-clause-names
put_read-requires-clause-names c = subst HaveDistinctNames (sym c.in-Ok.ensures.texts) c.requires

pub returns-clause-ok : goal.returns-clause-ok
returns-clause-ok c = subst (λ given. OnOk c.put_read.result (Puts c.args.self.now c.args.path.now given c.put_read.new.self)) c.in-Ok.ensures.texts c.put_read.ensures.ok

pub returns-clause-memory : goal.returns-clause-memory
returns-clause-memory c = subst (λ n. OnErr c.put_read.result (0 < n)) (sym (as_many_texts c.in-Ok.files.items) ∙ (ap length c.in-Ok.ensures.texts ∙ as_many_given c.args.files.items)) c.put_read.ensures.memory
