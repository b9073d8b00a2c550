use Rattle.std.proofs.Common.{rules, ◌≡◌, List, [], ◌∷◌, ◌++◌, ℕ, subst}
use Rattle.std.specs.Prelude.{IfOk}
use Rattle.std.specs.List.{concat}
use Rattle.go_constant_core.proofs.Joined.{met_lists}
use Rattle.go_constant_core.proofs.joints.joined_blocks.Goals as goal

pub returns-in-Some-split_first : goal.returns-in-Some-split_first
returns-in-Some-split_first c =
    let a = c.args.a.now in
    let b = c.args.b.now in
    let front = c.in-Some.front.now in
    let last = c.in-Some.last.now in
    let first = c.in-Some-split_first.first.now in
    let back = c.in-Some-split_first.back.now in
    let of_a : a ≡ front ++ last ∷ [] = search rules in
    let of_b : b ≡ first ∷ back = search rules in
    subst (λ (l : List ℕ). IfOk c.met.result (λ blocks. concat blocks.items ≡ l)) (met_lists a b front back last first of_a of_b) c.met.ensures
