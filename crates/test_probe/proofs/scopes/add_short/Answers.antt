use Rattle.std.proofs.Common.{◌<◌, length, subst, sym}
use Rattle.test_probe.proofs.OpenBlocks.{stays_open}
use Rattle.test_probe.proofs.scopes.add_short.Goals as goal

pub returns-in-Ok-declare_short : goal.returns-in-Ok-declare_short
returns-in-Ok-declare_short c =
    subst (λ s. 0 < length s.open_blocks) (sym c.in-Ok-declare_short.ensures.ok) (stays_open c.args.scopes.now.open_blocks _ c.requires)
