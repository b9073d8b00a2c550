use Rattle.std.proofs.Common.{◌≡◌, ◌<◌, ◌≤◌, ◌-◌, [], length, reverse, sym, ap, ◌∙◌, arith}
use Rattle.std.proofs.lemmas.List.{length-reverse}
use Rattle.go_machine_core.specs.Machine.{popped}
use Rattle.go_machine_core.proofs.Taking.{too_few, taken}
use Rattle.go_machine_core.proofs.operands.Operands.take.Goals as goal

pub returns-then-len-count-clause-operands : goal.returns-then-len-count-clause-operands
returns-then-len-count-clause-operands c =
    let items = c.self.inside.words.items in
    let few : length (reverse items) < c.args.count = omega (arith, length-reverse items, c.self.inside.words.ok.0, c.len.ensures, c.if-len-count.true) in
    ap (λ s. popped c.args.count [] s) (sym c.self.view_is) ∙ too_few c.args.count [] (reverse items) few

pub returns-clause-operands : goal.returns-clause-operands
returns-clause-operands c =
    let items = c.self.inside.words.items in
    let many : c.args.count ≤ length items = omega (arith, c.self.inside.words.ok.0, c.len.ensures, c.if-len-count.false) in
    let at : c.len-2.result - c.args.count ≡ length items - c.args.count = omega (arith, c.self.inside.words.ok.0, c.len-2.ensures) in
    ap (λ s. popped c.args.count [] s) (sym c.self.view_is) ∙ taken items c.split_off.new.self.items c.in_ok-words.words.items c.args.count (c.len-2.result - c.args.count) many at c.in_ok-words.ensures.items c.in_ok-words.ensures.tail
