use Rattle.std.proofs.Common.{◌<◌, length, subst, sym}
use Rattle.test_probe.proofs.OpenBlocks.{stays_open}
use Rattle.test_probe.proofs.scopes.add_declared.Goals as goal

pub returns-in-Ok : goal.returns-in-Ok
returns-in-Ok c = subst (λ s. 0 < length s.open_blocks) (sym c.in-Ok.ensures.ok.1) (stays_open c.args.scopes.now.open_blocks _ c.requires)
