use Rattle.std.proofs.Common.{◌+◌, ◌<◌, ◌≤◌, ◌∙◌, length, drop, get_or, sym, subst, arith}
use Rattle.go_lsp_core.specs.positions.Positions.{units}
use Rattle.go_lsp_core.specs.positions.mirrors.Walks.{total}
use Rattle.go_lsp_core.proofs.PositionsWalks.{stepped_fits, total_step, walk_end, walk_step}
use Rattle.go_lsp_core.proofs.positions.offsets.position_in.Goals as goal

pub loop-at-preserved : goal.loop-at-preserved
loop-at-preserved c =
    let u = units c.args.encoding in
    let xs = c.args.bytes.now in
    let i = c.loop-at.at in
    let lt : i < length xs = omega (arith, c.min-at-end.ensures, c.loop-at-test.true) in
    let less : i < c.args.offset = omega (arith, c.min-at-end.ensures, c.loop-at-test.true) in
    let here : c.loop-at.position.character + (u (get_or xs i 0) + total u (drop (i + 1) xs)) ≤ total u xs =
    subst (λ n. c.loop-at.position.character + n ≤ total u xs) (total_step u xs i lt) c.loop-at.invariant.fits in
    let kept = stepped_fits u (get_or xs i 0) (drop (i + 1) xs) c.loop-at.position c.stepped-position.result i (total u xs) c.stepped-position.ensures c.loop-at.invariant.line here in
    record {
      line = kept.0;
      fits = kept.1;
      place = walk_step u xs i c.args.offset c.loop-at.position c.stepped-position.result lt less c.stepped-position.ensures ∙ c.loop-at.invariant.place;
    }

pub returns : goal.returns
returns c =
    sym (walk_end (units c.args.encoding) c.args.bytes.now c.loop-at.at c.args.offset c.loop-at.position (omega (arith, c.min-at-end.ensures, c.loop-at-test.false))) ∙ c.loop-at.invariant.place
