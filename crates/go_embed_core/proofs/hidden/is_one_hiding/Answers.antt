use Rattle.std.proofs.Common.{map, sym, ◌∙◌}
use Rattle.go_type_core.specs.table_core.Shown.{member_shown}
use Rattle.go_embed_core.specs.mirrors.Passing.{is_one_hiding}
use Rattle.go_embed_core.proofs.Naming.{hiding_step, hiding_found, hiding_end}
use Rattle.go_embed_core.proofs.hidden.is_one_hiding.Goals as goal

pub loop-method-preserved : goal.loop-method-preserved
loop-method-preserved c =
    hiding_step c.args.path.now c.args.fields.now c.args.methods.now c.loop-method.method-index c.method-item.result (is_one_hiding c.args.path.now c.args.fields.now (map member_shown c.args.methods.now))
    c.loop-method-test.true c.method-item.is c.loop-method.invariant (sym c.is_hiding.ensures ∙ c.if-is_hiding.false)

pub returns-then-is_hiding : goal.returns-then-is_hiding
returns-then-is_hiding c =
    hiding_found c.args.path.now c.args.fields.now c.args.methods.now c.loop-method.method-index c.method-item.result (is_one_hiding c.args.path.now c.args.fields.now (map member_shown c.args.methods.now))
    c.loop-method-test.true c.method-item.is c.loop-method.invariant (sym c.is_hiding.ensures ∙ c.if-is_hiding.true)

pub returns : goal.returns
returns c =
    hiding_end c.args.path.now c.args.fields.now c.args.methods.now c.loop-method.method-index (is_one_hiding c.args.path.now c.args.fields.now (map member_shown c.args.methods.now)) c.loop-method-test.false c.loop-method.invariant
