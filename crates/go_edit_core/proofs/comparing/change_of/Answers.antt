use Rattle.std.proofs.Common.{arith}
use Rattle.go_edit_core.proofs.KeptParts.{same_places}
use Rattle.go_edit_core.proofs.comparing.change_of.Goals as goal

pub returns-then-number-count : goal.returns-then-number-count
returns-then-number-count c =
    let ps = c.args.packages.now in
    let qs = c.args.others.now in
    let found = c.next_other-number.ensures in
    same_places ps qs c.if-count-others.false (λ m lt. found.same m (omega arith) (omega (arith, lt, c.if-number-count.true)))
