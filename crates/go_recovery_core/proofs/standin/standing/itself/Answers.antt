use Rattle.std.proofs.Common.{◌≡◌, rules, string_bytes}
use Rattle.go_recovery_core.proofs.StandinTried.{itself}
use Rattle.go_recovery_core.proofs.standin.standing.itself.Goals as goal

pub returns-clause-stands : goal.returns-clause-stands
returns-clause-stands c =
    let is : string_bytes c.in_ok-text.text ≡ c.args.text.now = search rules in
    itself c.args.text.now (record { text = c.in_ok-text.text; blanked = c.new-blanked.result }) is c.new-blanked.ensures.items c.requires
