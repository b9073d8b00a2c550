use Rattle.std.proofs.Common.{◌≡◌, ℕ, ◌+◌, ◌<◌, [], length, take, get_or, Some, sym, ap, subst, ◌∙◌, arith}
use Rattle.std.specs.Prelude.{slice_index, slice_set}
use Rattle.std.specs.Option.{option_map}
use Rattle.std.proofs.lemmas.List.{length-map}
use Rattle.std.proofs.lemmas.Option.{slice_get_within}
use Rattle.go_graph_core.specs.Plans.{plan_of}
use Rattle.go_body_core.specs.typexpr_core.EntryShowing.{with_shown}
use Rattle.go_emit_core.specs.declared_core.Packages.{with_faces}
use Rattle.go_snap_core.specs.whole_workspace.mirrors.Steps.{AreMade, IsNext, IsRight, SoFar}
use Rattle.go_snap_core.proofs.WholeWorkspaceNext.{so_far_all, so_far_more, so_far_none}
use Rattle.go_emit_core.specs.package_core.PackagePartParts.{PartModel}
use Rattle.go_snap_core.specs.make.Keeping.{AreKept, AreMarked}
use Rattle.go_snap_core.specs.make.Telling.{told_of}
use Rattle.go_snap_core.proofs.MakeKeeping.{kept_none, one_kept}
use Rattle.go_snap_core.proofs.MakeMarking.{marks_none, marks_put}
use Rattle.go_snap_core.proofs.MakeTelling.{told_none, told_put}
use Rattle.go_snap_core.proofs.make.making.make_all.Goals as goal

pub loop-number-init : goal.loop-number-init
loop-number-init c =
    let seen = c.args.seen.now in
    let parts = c.args.parts.now in
    let marks = c.args.marks.now in (
      so_far_none c.args.workspace.now (plan_of [] c.order-number-items.result.now) parts seen.types seen.shown seen.faces c.requires.none c.requires.types c.requires.shown c.requires.faces,
      told_none (length c.args.workspace.now) parts c.args.told.now c.requires.none c.requires.told,
      marks_none c.args.earlier.now (length c.args.workspace.now) parts marks.again.items c.requires.none c.requires.again,
      kept_none c.args.earlier.now (length c.args.workspace.now) parts marks.kept.items c.requires.none c.requires.kept,
    )

pub next_part-requires-clause-next : goal.next_part-requires-clause-next
next_part-requires-clause-next c =
    let ps = c.args.workspace.now in
    let k = c.loop-number.number-index in
    let e = c.order-number-items.ensures in
    let before = c.loop-number.invariant.0 in
    let made = subst (λ l. AreMade ps (take k l) c.loop-number.parts before.summaries) e before.made in
    record {
      place = k;
      within = subst (λ l. k < length l) e c.loop-number-test.true;
      is = ap (λ l. slice_index l k) e;
      before = record { summaries = before.summaries; made = subst (λ parts. AreMade ps (take k c.in_ok-plan.plan.order) parts before.summaries) (sym c.as_slice.ensures) made; seen = before.seen };
    }

pub next_part-requires-clause-told : goal.next_part-requires-clause-told
next_part-requires-clause-told c =
    c.loop-number.invariant.1 ∙ ap told_of (sym c.as_slice.ensures)

pub next_part-requires-clause-again : goal.next_part-requires-clause-again
next_part-requires-clause-again c =
    subst (AreMarked c.args.earlier.now c.as_slice.result.now) (sym c.again.ensures) (subst (λ l. AreMarked c.args.earlier.now l c.loop-number.marks.again.items) (sym c.as_slice.ensures) c.loop-number.invariant.2)

pub learn-requires : goal.learn-requires
learn-requires c =
    let part = c.in_ok-part.part in
    let n : ℕ = get_or c.order-number-items.result.now c.loop-number.number-index 0 in
    let before = c.loop-number.invariant in
    let many : length c.loop-number.told ≡ length c.loop-number.parts = ap length before.1 ∙ length-map c.loop-number.parts (option_map (λ (p : PartModel). p.content.summary)) in
    let lt : n < length c.loop-number.told = omega (arith, slice_get_within c.args.workspace.now n part.input.source c.in_ok-part.ensures.right.numbered, before.0.made.count, many) in
    lt

pub set-requires-clause-again : goal.set-requires-clause-again
set-requires-clause-again c =
    let part = c.in_ok-part.part in
    let n : ℕ = get_or c.order-number-items.result.now c.loop-number.number-index 0 in
    let before = c.loop-number.invariant in
    let lt : n < length c.loop-number.marks.again.items = omega (arith, slice_get_within c.args.workspace.now n part.input.source c.in_ok-part.ensures.right.numbered, before.0.made.count, before.2.many) in
    lt

pub set-requires-clause-kept : goal.set-requires-clause-kept
set-requires-clause-kept c =
    let part = c.in_ok-part.part in
    let n : ℕ = get_or c.order-number-items.result.now c.loop-number.number-index 0 in
    let before = c.loop-number.invariant in
    let lt : n < length c.loop-number.marks.kept.items = omega (arith, slice_get_within c.args.workspace.now n part.input.source c.in_ok-part.ensures.right.numbered, before.0.made.count, before.3.many) in
    lt

pub put-requires : goal.put-requires
put-requires c =
    let part = c.in_ok-part.part in
    let n : ℕ = get_or c.order-number-items.result.now c.loop-number.number-index 0 in
    let lt : n < length c.loop-number.parts = omega (arith, slice_get_within c.args.workspace.now n part.input.source c.in_ok-part.ensures.right.numbered, c.loop-number.invariant.0.made.count) in
    lt

pub loop-number-preserved : goal.loop-number-preserved
loop-number-preserved c =
    let ps = c.args.workspace.now in
    let plan = c.in_ok-plan.plan in
    let k = c.loop-number.number-index in
    let order = c.order-number-items.result.now in
    let e = c.order-number-items.ensures in
    let n : ℕ = get_or order k 0 in
    let parts = c.loop-number.parts in
    let seen = c.loop-number.seen in
    let part = c.in_ok-part.part in
    let after = c.learn.new.seen in
    let before = c.loop-number.invariant.0 in
    let well = c.requires.well in
    let next : IsNext ps plan parts n seen.types seen.shown seen.faces = record {
      place = k;
      within = subst (λ l. k < length l) e c.loop-number-test.true;
      is = ap (λ l. slice_index l k) e;
      before = record { summaries = before.summaries; made = subst (λ l. AreMade ps (take k l) parts before.summaries) e before.made; seen = before.seen };
    } in
    let right : IsRight ps parts n part = subst (λ l. IsRight ps l n part) c.as_slice.ensures c.in_ok-part.ensures.right in
    let more = so_far_more ps plan well c.in_ok-plan.ensures parts n seen.types seen.shown seen.faces next part after.types after.shown after.faces right
    (c.learn.ensures.types ∙ c.in_ok-part.ensures.types)
    (c.in_ok-learn.ensures.shown ∙ ap (λ l. with_shown l part.content.summary.exports) c.next_part.ensures.shown)
    (c.in_ok-learn.ensures.faces ∙ ap (λ l. with_faces l part.content.summary.faces) c.next_part.ensures.faces) in
    let old = c.loop-number.marks in
    let lt : n < length parts = omega (arith, slice_get_within ps n part.input.source right.numbered, before.made.count) in
    let with_it = slice_set parts n (Some part) in
    let marked = c.set.new.self in
    let so_far : SoFar ps (plan_of [] order) (k + 1) with_it after.types after.shown after.faces
    = record { summaries = more.summaries; made = subst (λ l. AreMade ps (take (k + 1) l) with_it more.summaries) (sym e) more.made; seen = more.seen } in
    let told = told_put parts c.loop-number.told c.learn.new.told n part c.loop-number.invariant.1 c.in_ok-learn.ensures.told in
    let earlier = c.args.earlier.now in
    let marks = marks_put earlier parts old.again.items c.loop-number.invariant.2 n part lt c.tells_again-again.result c.tells_again-again.ensures marked.again.items c.set.ensures.again in
    let kept = one_kept earlier parts old.kept.items c.loop-number.invariant.3 n part lt c.in_ok-part.kept c.in_ok-part.ensures.kept marked.kept.items c.set.ensures.kept in (
      subst (λ l. SoFar ps (plan_of [] order) (k + 1) l after.types after.shown after.faces) (sym c.put.ensures) so_far,
      told ∙ ap told_of (sym c.put.ensures),
      subst (λ l. AreMarked earlier l marked.again.items) (sym c.put.ensures) marks,
      subst (λ l. AreKept earlier l marked.kept.items) (sym c.put.ensures) kept,
    )

pub returns-clause-kept : goal.returns-clause-kept
returns-clause-kept c = c.loop-number.invariant.3

pub returns-clause-parts : goal.returns-clause-parts
returns-clause-parts c =
    let before = c.loop-number.invariant.0 in
    let ps = c.args.workspace.now in
    let k = c.loop-number.number-index in
    let e = c.order-number-items.ensures in
    let parts = c.loop-number.parts in
    let seen = c.loop-number.seen in
    let here : SoFar ps c.in_ok-plan.plan k parts seen.types seen.shown seen.faces = record { summaries = before.summaries; made = subst (λ l. AreMade ps (take k l) parts before.summaries) e before.made; seen = before.seen } in
    so_far_all ps c.in_ok-plan.plan k parts seen.types seen.shown seen.faces c.in_ok-plan.ensures (omega (arith, c.loop-number-test.false, ap length e)) here
