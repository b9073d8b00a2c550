use Rattle.std.proofs.Common.{◌<◌, length, take, sym, ap, ◌∙◌, subst, arith}
use Rattle.go_batch_core.specs.declared.tell.Tell.{Tell}
use Rattle.go_batch_core.specs.mirrors.Tells.{with_tells}
use Rattle.go_batch_core.proofs.Telling.{told_again}
use Rattle.go_batch_core.proofs.Steps.{tells_long}
use Rattle.go_batch_core.proofs.tell.tell_all.Goals as goal

pub add_tell-requires : goal.add_tell-requires
add_tell-requires c =
    let ts = c.args.untold.now in
    let i = c.loop-tell.tell-index in
    let t : Tell = c.tell-item.result in
    let inside : t.place < length c.args.told.now = subst (λ (x : Tell). x.place < length c.args.told.now) (sym c.tell-item.is) (c.requires i t (omega arith)) in
    omega (arith, inside, ap length c.loop-tell.invariant, tells_long c.args.told.now (take i ts))

pub returns-in_err-add_tell-clause-kept : goal.returns-in_err-add_tell-clause-kept
returns-in_err-add_tell-clause-kept c =
    let us = c.args.untold.now in
    ap (λ told. with_tells told us) (c.in_err-add_tell.ensures.kept ∙ c.loop-tell.invariant) ∙ told_again c.args.told.now us c.loop-tell.tell-index (omega arith)

pub returns-clause-kept : goal.returns-clause-kept
returns-clause-kept c =
    let us = c.args.untold.now in
    ap (λ told. with_tells told us) c.loop-tell.invariant ∙ told_again c.args.told.now us c.loop-tell.tell-index (omega arith)
