use Rattle.std.proofs.lemmas.Result.{IfOk-weaker}
use Rattle.go_type_core.proofs.Joining.{made_of}
use Rattle.go_type_core.proofs.build.made_types.Goals as goal

pub returns : goal.returns
returns c =
    let made = made_of c.args.entries.now c.args.imported.now c.args.keys.now c.args.looped.now c.in_ok-nothing.nothing.items c.in_ok-ends.ends.items c.in_ok-kinds.kinds.items in
    IfOk-weaker c.settled_types.result _ _ (λ types shared. made types.items c.deref.result.now c.deref-4.result.now c.deref-2.result.now c.deref-5.result.now c.deref-3.result.now
    c.deref.ensures.value c.deref-4.ensures.value c.deref-2.ensures.value c.deref-5.ensures.value c.deref-3.ensures.value c.in_ok-nothing.ensures c.in_ok-ends.ensures c.in_ok-kinds.ensures shared) c.settled_types.ensures
