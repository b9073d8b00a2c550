use Rattle.std.proofs.Common.{◌≡◌, ◌∙◌, ◌+◌, [], drop, sym, ap}
use Rattle.std.proofs.lemmas.List.{drop_all}
use Rattle.go_recovery_core.specs.standin.Blanks.{all_blanked}
use Rattle.go_recovery_core.proofs.StandinAlike.{blank_more, none_blanked}
use Rattle.go_recovery_core.proofs.standin.blanks.blank_parts.Goals as goal

pub loop-part-preserved : goal.loop-part-preserved
loop-part-preserved c =
    ap (all_blanked (drop (c.loop-part.part-index + 1) c.args.parts.now)) c.blank_part.ensures ∙ (blank_more c.args.parts.now c.loop-part.part-index _ c.loop-part.bytes c.loop-part-test.true ∙ c.loop-part.invariant)

pub returns : goal.returns
returns c =
    let none : drop c.loop-part.part-index c.args.parts.now ≡ [] = drop_all c.loop-part.part-index c.args.parts.now c.loop-part-test.false in
    sym (none_blanked 0 c.loop-part.bytes) ∙ (ap (λ ps. all_blanked ps c.loop-part.bytes) (sym none) ∙ c.loop-part.invariant)
