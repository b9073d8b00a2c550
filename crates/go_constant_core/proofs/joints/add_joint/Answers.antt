use Rattle.std.proofs.Common.{rules, ◌≡◌, List, [], ◌∷◌, ◌++◌, ℕ, ap, ◌∙◌}
use Rattle.std.proofs.lemmas.Result.{on_ok_weaker}
use Rattle.std.specs.List.{concat}
use Rattle.go_constant_core.proofs.Joined.{met_pieces}
use Rattle.go_constant_core.proofs.joints.add_joint.Goals as goal

pub returns-then-bytes-le-PIECE : goal.returns-then-bytes-le-PIECE
returns-then-bytes-le-PIECE c =
    let a = c.args.a.now in
    let b = c.args.b.now in
    let front = c.in-Some.front.now in
    let last = c.in-Some.last.now in
    let first = c.in-Some-split_first.first.now in
    let back = c.in-Some-split_first.back.now in
    let of_a : a ≡ front ++ last ∷ [] = search rules in
    let of_b : b ≡ first ∷ back = search rules in
    on_ok_weaker c.add_pieces.result
    (λ e. e ∙ ap (λ (l : List ℕ). concat c.args.blocks.now.items ++ l)
    (met_pieces a b front back c.in_ok-pieces.pieces.items c.add.new.all.items last first c.in_ok-joined.field-0 of_a of_b c.in_ok-pieces.ensures c.in_ok-joined.ensures c.in_ok-add.ensures))
    c.add_pieces.ensures
