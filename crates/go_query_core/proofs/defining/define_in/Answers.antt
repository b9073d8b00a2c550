use Rattle.std.proofs.lemmas.Result.{IfErr-weaker, IfOk-weaker}
use Rattle.go_complete_core.specs.snap_core.Snapshots.{file_in_shown}
use Rattle.go_query_core.proofs.Using.{defined_in, refused_in, unused_in}
use Rattle.go_query_core.proofs.defining.define_in.Goals as goal

pub returns-in-Some-clause-ok : goal.returns-in-Some-clause-ok
returns-in-Some-clause-ok c = IfOk-weaker c.declared.result _ _ (λ site h. defined_in (file_in_shown c.args.file) c.args.offset c.in-Some.answer.now c.in-Some.ensures site.now h) c.declared.ensures.ok

pub returns-in-Some-clause-err : goal.returns-in-Some-clause-err
returns-in-Some-clause-err c = IfErr-weaker c.declared.result _ _ (λ rule h. refused_in (file_in_shown c.args.file) c.args.offset c.in-Some.answer.now c.in-Some.ensures rule h) c.declared.ensures.err

pub returns-in-None-clause-err : goal.returns-in-None-clause-err
returns-in-None-clause-err c = unused_in (file_in_shown c.args.file) c.args.offset c.text.result.now c.text.ensures c.in-None.ensures c.unused.result c.unused.ensures
