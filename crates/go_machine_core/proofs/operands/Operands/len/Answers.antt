use Rattle.std.proofs.Common.{◌≡◌, length, reverse, ap, ◌∙◌, arith}
use Rattle.std.proofs.lemmas.List.{length-reverse}
use Rattle.go_machine_core.proofs.operands.Operands.len.Goals as goal

pub returns : goal.returns
returns c =
    let items = c.self.inside.words.items in
    let same : c.len.result ≡ length (reverse items) = omega (arith, length-reverse items, c.self.inside.words.ok.0, c.len.ensures) in
    same ∙ ap length c.self.view_is
