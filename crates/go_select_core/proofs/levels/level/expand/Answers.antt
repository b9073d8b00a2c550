use Rattle.std.proofs.Common.{◌≡◌, ◌+◌, subst, sym, ap, ◌∙◌, arith}
use Rattle.std.specs.Option.{option_map}
use Rattle.go_embed_core.specs.OwnersShown.{embedded_shown}
use Rattle.go_select_core.specs.declared.levels.level.Levels.{Levels}
use Rattle.go_select_core.specs.levels.mirrors.Ways.{ways}
use Rattle.go_select_core.specs.levels.mirrors.Levels.{IsNext}
use Rattle.go_select_core.proofs.LevelsListLemmas.{at_read}
use Rattle.go_select_core.proofs.LevelsWayLemmas.{ways_length}
use Rattle.go_select_core.proofs.LevelsGrowing.{NextTo, level_within, level_at, enter_grown, skip_grown, row_grown}
use Rattle.go_select_core.proofs.levels.level.expand.Goals as goal
use Rattle.go_select_core.proofs.levels.level.expand.Goals.{in-Some+in_ok-enter, in_default}

pub index-requires : goal.index-requires
index-requires c =
    let l = level_within _ _ _ _ _ _ _ c.types.a _ _ _ c.requires.sized c.types.invariant (omega (arith, c.requires.whole)) in
    omega (arith, l, c.types.levels.types.ok.0)

pub enter-requires-clause-inside : goal.enter-requires-clause-inside
enter-requires-clause-inside c = level_within _ _ _ _ _ _ _ c.types.a _ _ _ c.requires.sized c.fields.invariant (omega (arith, c.requires.whole))

pub fields-preserved : goal.fields-preserved
fields-preserved c =
    let size = ways_length c.args.levels.now.trails c.args.levels.now.types.items c.requires.sized in
    let whole = c.requires.whole in
    let within = level_within _ _ _ _ _ _ _ c.types.a _ _ _ c.requires.sized c.types.invariant (omega (arith, whole)) in
    let at = level_at _ _ _ _ _ _ c.types.a _ _ _ c.index.result.now c.types.invariant (omega (arith, size, whole)) (at_read _ _ _ within c.index.ensures) in
    elim c.match-embedded.branch [
      | in-Some+in_ok-enter w ↦
          subst (λ (l : Levels). NextTo c.args.table.now c.args.first (ways c.args.levels.now.trails c.args.levels.now.types.items) c.args.levels.now.met c.types.a (c.fields.i + 1) l.trails l.types.items l.met) (sym w.levels-is)
          (enter_grown _ _ _ _ c.types.a c.fields.i c.args.end _ _ _ _ _ _ _ _ _ c.fields.invariant at c.types.auto.a c.of-owner.ensures w.in-Some.ensures (whole ∙ sym size) w.in_ok-enter.ensures.sized w.in_ok-enter.ensures.entered)
      | in_default w ↦
          subst (λ (l : Levels). NextTo c.args.table.now c.args.first (ways c.args.levels.now.trails c.args.levels.now.types.items) c.args.levels.now.met c.types.a (c.fields.i + 1) l.trails l.types.items l.met) (sym w.levels-is)
          (skip_grown _ _ _ _ c.types.a c.fields.i _ _ _ _ _ c.fields.invariant at c.of-owner.ensures (sym c.embedded.ensures ∙ ap (option_map embedded_shown) w.in_default.is))
    ]

pub types-preserved : goal.types-preserved
types-preserved c =
    let size = ways_length c.args.levels.now.trails c.args.levels.now.types.items c.requires.sized in
    let whole = c.requires.whole in
    let within = level_within _ _ _ _ _ _ _ c.types.a _ _ _ c.requires.sized c.types.invariant (omega (arith, whole)) in
    let at = level_at _ _ _ _ _ _ c.types.a _ _ _ c.index.result.now c.types.invariant (omega (arith, size, whole)) (at_read _ _ _ within c.index.ensures) in
    row_grown _ _ _ _ c.types.a c.fields.i _ _ _ _ _ _ c.fields.invariant at c.of-owner.ensures c.field_count-i-end.ensures c.fields-test.false

pub returns-clause-next : goal.returns-clause-next
returns-clause-next c =
    let e : c.types.a ≡ c.args.end = omega (arith, c.requires.inside) in
    subst (λ n. IsNext c.args.table.now c.args.first (ways c.args.levels.now.trails c.args.levels.now.types.items) c.args.levels.now.met n 0 (ways c.types.levels.trails c.types.levels.types.items) c.types.levels.met) e c.types.invariant.next
