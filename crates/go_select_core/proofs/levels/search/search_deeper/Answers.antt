use Rattle.std.proofs.Common.{◌≤◌, ◌||◌, length, subst, sym, ap, ◌∙◌, arith}
use Rattle.go_term_core.specs.Shapes.{shape}
use Rattle.go_embed_core.specs.table_core.Entries.{find_entry}
use Rattle.go_embed_core.specs.OwnersShown.{found_shown}
use Rattle.go_select_core.specs.levels.Selectors.{IsMissing}
use Rattle.go_select_core.proofs.LevelsListLemmas.{at_read}
use Rattle.go_select_core.proofs.LevelsSearching.{search_begin, search_hidden, search_absent, turn_next, turn_one, turn_more, turn_falls, turn_within}
use Rattle.go_select_core.proofs.levels.search.search_deeper.Goals as goal
use Rattle.go_select_core.proofs.levels.search.search_deeper.Goals.{then-spelled-2, else-spelled-2}

pub levels-init : goal.levels-init
levels-init c = search_begin c.args.table.now (shape c.args.start.now) c.args.name.now c.args.from.now _ _ _ c.args.spelled c.requires.none c.requires.spelled c.in_ok-levels.ensures

pub path-requires : goal.path-requires
path-requires c =
    let l = turn_within c.args.table.now (shape c.args.start.now) c.args.name.now c.args.from.now c.levels.first c.len-end.result _ _ _ _ c.deref.result.now _ _ _ c.levels.invariant (omega (arith, c.len-end.ensures, c.levels.levels.types.ok.0)) c.deref.ensures.value c.in_ok-expand.ensures.sized c.in_ok-expand.ensures.next
    c.in-One.n (found_shown c.in-One.member) c.in-One.ensures in
    omega (arith, l, c.in_ok-expand.ensures.sized)

pub index-requires : goal.index-requires
index-requires c =
    let l = turn_within c.args.table.now (shape c.args.start.now) c.args.name.now c.args.from.now c.levels.first c.len-end.result _ _ _ _ c.deref.result.now _ _ _ c.levels.invariant (omega (arith, c.len-end.ensures, c.levels.levels.types.ok.0)) c.deref.ensures.value c.in_ok-expand.ensures.sized c.in_ok-expand.ensures.next
    c.in-One.n (found_shown c.in-One.member) c.in-One.ensures in
    omega (arith, l, c.expand.new.levels.types.ok.0)

pub returns-in-One : goal.returns-in-One
returns-in-One c =
    let l = turn_within c.args.table.now (shape c.args.start.now) c.args.name.now c.args.from.now c.levels.first c.len-end.result _ _ _ _ c.deref.result.now _ _ _ c.levels.invariant (omega (arith, c.len-end.ensures, c.levels.levels.types.ok.0)) c.deref.ensures.value c.in_ok-expand.ensures.sized c.in_ok-expand.ensures.next
    c.in-One.n (found_shown c.in-One.member) c.in-One.ensures in
    turn_one c.args.table.now (shape c.args.start.now) c.args.name.now c.args.from.now c.levels.first c.len-end.result _ _ _ _ c.deref.result.now _ _ _ c.levels.invariant (omega (arith, c.len-end.ensures, c.levels.levels.types.ok.0)) c.deref.ensures.value c.in_ok-expand.ensures.sized c.in_ok-expand.ensures.next
    c.in-One.n (found_shown c.in-One.member) c.index.result.now c.in_ok-path-in-One.field-0 c.in-One.ensures (at_read _ _ _ l c.index.ensures) c.in_ok-path-in-One.ensures

pub returns-in-More : goal.returns-in-More
returns-in-More c =
    turn_more c.args.table.now (shape c.args.start.now) c.args.name.now c.args.from.now c.levels.first c.len-end.result _ _ _ _ c.deref.result.now _ _ _ c.levels.invariant (omega (arith, c.len-end.ensures, c.levels.levels.types.ok.0)) c.deref.ensures.value c.in_ok-expand.ensures.sized c.in_ok-expand.ensures.next
    c.in-More.ensures

pub levels-smaller-then-spelled : goal.levels-smaller-then-spelled
levels-smaller-then-spelled c =
    turn_falls c.args.table.now (shape c.args.start.now) c.args.name.now c.args.from.now c.levels.first c.len-end.result _ _ _ _ c.deref.result.now _ _ _ c.levels.invariant (omega (arith, c.len-end.ensures, c.levels.levels.types.ok.0)) c.deref.ensures.value c.in_ok-expand.ensures.sized c.in_ok-expand.ensures.next
    (omega (arith, c.len.ensures, c.levels-test.true, c.levels.levels.types.ok.0))

pub levels-preserved-then-spelled : goal.levels-preserved-then-spelled
levels-preserved-then-spelled c =
    turn_next c.args.table.now (shape c.args.start.now) c.args.name.now c.args.from.now c.levels.first c.len-end.result _ _ _ _ c.deref.result.now _ _ _ c.levels.invariant (omega (arith, c.len-end.ensures, c.levels.levels.types.ok.0)) c.deref.ensures.value c.in_ok-expand.ensures.sized c.in_ok-expand.ensures.next
    c.in-Nothing.here c.levels.spelled c.in-Nothing.ensures (ap (λ b. b || c.in-Nothing.here) c.if-spelled.true ∙ sym c.if-spelled.true)

pub levels-smaller : goal.levels-smaller
levels-smaller c =
    turn_falls c.args.table.now (shape c.args.start.now) c.args.name.now c.args.from.now c.levels.first c.len-end.result _ _ _ _ c.deref.result.now _ _ _ c.levels.invariant (omega (arith, c.len-end.ensures, c.levels.levels.types.ok.0)) c.deref.ensures.value c.in_ok-expand.ensures.sized c.in_ok-expand.ensures.next
    (omega (arith, c.len.ensures, c.levels-test.true, c.levels.levels.types.ok.0))

pub levels-preserved : goal.levels-preserved
levels-preserved c =
    turn_next c.args.table.now (shape c.args.start.now) c.args.name.now c.args.from.now c.levels.first c.len-end.result _ _ _ _ c.deref.result.now _ _ _ c.levels.invariant (omega (arith, c.len-end.ensures, c.levels.levels.types.ok.0)) c.deref.ensures.value c.in_ok-expand.ensures.sized c.in_ok-expand.ensures.next
    c.in-Nothing.here c.in-Nothing.here c.in-Nothing.ensures (ap (λ b. b || c.in-Nothing.here) c.if-spelled.false)

pub returns : goal.returns
returns c =
    let all : length c.levels.levels.types.items ≤ c.levels.first = omega (arith, c.len.ensures, c.levels-test.false, c.levels.levels.types.ok.0) in
    elim c.if-spelled-2.branch [
      | then-spelled-2 w ↦
          subst (λ r. IsMissing (find_entry c.args.table.now) (shape c.args.start.now) c.args.name.now c.args.from.now r) (sym w.result-is)
          (search_hidden c.args.table.now (shape c.args.start.now) c.args.name.now c.args.from.now c.levels.first _ _ _ _ c.levels.invariant all w.if-spelled-2.true)
      | else-spelled-2 w ↦
          subst (λ r. IsMissing (find_entry c.args.table.now) (shape c.args.start.now) c.args.name.now c.args.from.now r) (sym w.result-is)
          (search_absent c.args.table.now (shape c.args.start.now) c.args.name.now c.args.from.now c.levels.first _ _ _ _ c.levels.invariant all w.if-spelled-2.false)
    ]
