use Rattle.std.proofs.Common.{rules, ◌≡◌, None, Some, inr}
use Rattle.go_recovery_core.specs.mend.Forms.{around_of, late_form, sure_form}
use Rattle.go_recovery_core.specs.mend.Mends.{IsMendingAt}
use Rattle.go_recovery_core.proofs.mend.finding.told_at.Goals as goal

pub returns-in-Some-late_form : goal.returns-in-Some-late_form
returns-in-Some-late_form c =
    let none : sure_form (around_of c.args.tokens.now c.args.number) ≡ None = search rules in
    let late : late_form (around_of c.args.tokens.now c.args.number) ≡ Some c.in-Some-late_form.form = search rules in
    let mending : IsMendingAt c.args.text.now c.args.tokens.now c.args.number c.args.offset None = search rules in
    inr (none, late, mending)
