use Rattle.std.proofs.Common.{sym, ◌∙◌}
use Rattle.go_candidate_core.proofs.ContextLocals.{kept_turn, new_turn}
use Rattle.go_candidate_core.proofs.context.alone.scopes_with.Goals.{then-not-is_taken+in_ok-declare, else-not-is_taken}
use Rattle.go_candidate_core.proofs.context.alone.scopes_with.Goals as goal

pub loop-number-preserved : goal.loop-number-preserved
loop-number-preserved c =
    let xs = c.args.locals.now in
    elim c.if-not-is_taken.branch [
      | then-not-is_taken+in_ok-declare w ↦ new_turn c.args.blocks.now c.args.file xs c.loop-number.number c.index-locals-number.result (record { 0 = c.loop-number.number }) c.as_str-name.result.now c.loop-number.scopes w.declare.new.self _ c.loop-number-test.true c.index-locals-number.is c.loop-number.invariant c.as_str-name.ensures (sym c.is_taken.ensures ∙ w.if-not-is_taken.true) w.in_ok-declare.ensures.ok.1 w.scopes-is
      | else-not-is_taken w ↦ kept_turn c.args.blocks.now c.args.file xs c.loop-number.number c.index-locals-number.result c.as_str-name.result.now c.loop-number.scopes _ c.loop-number-test.true c.index-locals-number.is c.loop-number.invariant c.as_str-name.ensures (sym c.is_taken.ensures ∙ w.if-not-is_taken.false) w.scopes-is
    ]
