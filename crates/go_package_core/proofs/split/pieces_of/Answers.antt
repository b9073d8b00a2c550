use Rattle.std.proofs.Common.{◌≡◌, ◌+◌, ◌<◌, ◌++◌, [], List, drop, length, sym, ap, ◌∙◌, append-nil, arith}
use Rattle.std.specs.Borrow.{Bor}
use Rattle.std.specs.List.{flat_map}
use Rattle.std.proofs.lemmas.List.{drop_all}
use Rattle.go_package_core.proofs.Corresponding.{piece_moves}
use Rattle.go_package_core.proofs.split.pieces_of.Goals as goal

pub loop-start-smaller : goal.loop-start-smaller
loop-start-smaller g c =
    let lt = c.loop-start-test.true in
    let behind = c.split_at-cut.ensures.back_len in
    let left : 0 < length c.split_at-cut.result.1.now = omega (arith, lt, behind) in
    let some = c.first_piece.ensures.some left in
    omega (arith, lt, behind, some, c.split_at-apart.ensures.front_len, c.split_at-apart.ensures.back_len)

pub loop-start-preserved : goal.loop-start-preserved
loop-start-preserved g c =
    let cut = c.split_at-cut in
    let apart = c.split_at-apart in
    let moved = ap (λ m. c.loop-start.start + m) apart.ensures.front_len in
    record {
      all = piece_moves c.loop-start.pieces.items c.add.new.all.items apart.result.0 cut.result.1.now apart.result.1.now c.args.tasks.now c.loop-start.start _ _ c.in_ok-add.ensures apart.ensures.by_index.0 cut.ensures.back apart.ensures.back moved c.loop-start.invariant.all;
      within = omega (arith, cut.ensures.back_len, apart.ensures.front_len, apart.ensures.back_len);
    }

pub returns : goal.returns
returns g c =
    let past = c.loop-start-test.false in
    let none = drop_all c.loop-start.start c.args.tasks.now past in
    sym (append-nil (flat_map (λ (q : Bor (List _)). q.now) c.loop-start.pieces.items)) ∙ (ap (λ l. flat_map (λ (q : Bor (List _)). q.now) c.loop-start.pieces.items ++ l) (sym none) ∙ c.loop-start.invariant.all)
