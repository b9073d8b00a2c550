use Rattle.std.proofs.Common.{◌≡◌, ◌+◌, ◌-◌, ◌∷◌, drop, set, length, reverse, ap, ◌∙◌, arith, to_z, of_z, w64}
use Rattle.std.proofs.lemmas.Int.{to_z-of_z}
use Rattle.std.proofs.lemmas.List.{length-reverse}
use Rattle.go_machine_core.proofs.Tops.{top_replaced}
use Rattle.go_machine_core.proofs.operands.Operands.replace_top.Goals as goal

pub returns : goal.returns
returns c =
    let items = c.self.inside.words.items in
    let at = c.len-top.result - 1 in
    let last : at + 1 ≡ length items = omega (arith, c.requires, ap length c.self.view_is, length-reverse items, c.self.inside.words.ok.0, c.len-top.ensures) in
    let word : to_z w64 (of_z w64 c.args.word) ≡ c.args.word = to_z-of_z w64 c.args.word c.ranges.word in
    ap (λ v. reverse (set items at v)) word ∙ top_replaced items at c.args.word last ∙ ap (λ s. c.args.word ∷ drop 1 s) c.self.view_is
