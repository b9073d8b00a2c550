use Rattle.std.proofs.Common.{◌≡◌, ◌∙◌, ap, map, drop, arith}
use Rattle.std.specs.Prelude.{option_map}
use Rattle.std.specs.List.{position_from}
use Rattle.go_machine_core.specs.link.Functions.{is_at, place_shown}
use Rattle.go_machine_core.proofs.LinkLaying.{all_noted}
use Rattle.go_machine_core.proofs.link.numbers.numbers_of.Goals as goal

pub returns : goal.returns
returns c =
    let none : c.loop-number.number ≡ 0 = omega (arith, c.loop-number-test.false) in
    all_noted c.loop-number.numbers.entries (map (option_map place_shown) c.args.places.now) (λ k. c.loop-number.invariant k ∙ ap (λ n. position_from (is_at (place_shown k)) n (map (option_map place_shown) (drop n c.args.places.now))) none)
