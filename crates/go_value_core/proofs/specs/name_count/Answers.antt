use Rattle.std.proofs.Common.{◌≡◌, ◌+◌, suc, ap, sym, ◌∙◌, arith}
use Rattle.go_value_core.proofs.Owning.{names_counted}
use Rattle.go_value_core.proofs.specs.name_count.Goals as goal

pub returns : goal.returns
returns c =
    let spec = c.args.spec.now in
    let n = c.len.ensures ∙ spec.names.more.ok.0 in
    omega (arith, n, names_counted spec.names.first spec.names.more.items)
