use Rattle.std.proofs.Common.{nat_eq, Some, if◌then◌else◌, ap, ◌∙◌}
use Rattle.std.specs.Map.{lookup}
use Rattle.go_select_core.proofs.levels.numbers.Numbers.add.Goals as goal

pub returns : goal.returns
returns c n = c.in_ok-insert.ensures.updates.0 n ∙ ap (λ es. if nat_eq c.args.number n then Some c.args.place else lookup (nat_eq n) es) c.self.view_is
