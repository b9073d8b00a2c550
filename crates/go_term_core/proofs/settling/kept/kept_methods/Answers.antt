use Rattle.std.proofs.Common.{[], length, map, ap, ◌∙◌}
use Rattle.go_term_core.specs.settling.mirrors.Kept.{keeps_method, kept_methods}
use Rattle.go_term_core.proofs.SettlingLoops.{one_flag, all_flags}
use Rattle.go_term_core.proofs.SettlingMasks.{kept_len, names_len}
use Rattle.go_term_core.proofs.settling.kept.kept_methods.Goals as goal

pub loop-method-preserved : goal.loop-method-preserved
loop-method-preserved c =
    one_flag keeps_method (λ x. x.name) c.args.methods.now c.loop-method.method-index c.method-item.result c.loop-method.seen c.add.new.self c.as_str-name.result.now c.loop-method.kept.items c.add-in-loop-method.new.all.items
    c.in_ok-is_new.is_new c.keeps_method.result (kept_methods c.args.methods.now) c.loop-method-test.true c.method-item.is c.as_str-name.ensures c.in_ok-is_new.ensures.added c.in_ok-is_new.ensures.seen c.keeps_method.ensures
    c.in_ok-add.ensures c.loop-method.invariant

pub returns-clause-len : goal.returns-clause-len
returns-clause-len c =
    let is = all_flags keeps_method (λ x. x.name) c.args.methods.now c.loop-method.method-index c.loop-method.seen c.loop-method.kept.items (kept_methods c.args.methods.now) c.loop-method-test.false c.loop-method.invariant in
    ap length is ∙ (kept_len keeps_method [] (map (λ x. x.name) c.args.methods.now) ∙ names_len (λ x. x.name) c.args.methods.now)
