use Rattle.std.proofs.Common.{sym, subst}
use Rattle.go_type_core.specs.mirrors.Numbers.{RefsRise}
use Rattle.go_type_core.proofs.Keyed.{refs_rise, of_shown}
use Rattle.go_type_core.proofs.own_keys.OwnKeys.of.Goals as goal

pub with-requires : goal.with-requires
with-requires c = subst RefsRise (sym c.in_ok-decls.ensures) (refs_rise c.args.entries.now c.requires.rising)

pub returns : goal.returns
returns c = of_shown c.with.result c.args.path.now c.in_ok-path.path c.in_ok-decls.decls.items c.args.entries.now c.with.ensures c.in_ok-path.ensures c.in_ok-decls.ensures c.requires.own
