use Rattle.std.proofs.Common.{Bor, List, [], ◌∷◌, ℕ, subst, sym, arith}
use Rattle.go_summary_core.specs.shown.mirrors.Adding.{AddsPicked}
use Rattle.go_summary_core.specs.Summaries.{path_of}
use Rattle.go_summary_core.specs.shown.Shown.{MayBeShown, texts}
use Rattle.go_summary_core.proofs.ShownPicking.{adds_at, adds_each, adds_none}
use Rattle.go_summary_core.proofs.shown.paths.deps_shown.Goals as goal

pub loop-number-init : goal.loop-number-init
loop-number-init c = subst (λ (l : List (Bor (List ℕ))). AddsPicked (MayBeShown c.args.from.now) [] [] (texts l)) (sym c.new-paths.ensures.items) (adds_none (MayBeShown c.args.from.now) [])

pub loop-number-preserved : goal.loop-number-preserved
loop-number-preserved c =
    adds_at (MayBeShown c.args.from.now) path_of c.args.reached.now c.loop-number.number c.in-Some.summary.now [] (texts c.loop-number.paths.items) (texts c.add_shown.new.paths.items) (sym c.in-Some.ensures) c.loop-number.invariant
    (subst (λ (p : List ℕ). AddsPicked (MayBeShown c.args.from.now) (p ∷ []) (texts c.loop-number.paths.items) (texts c.add_shown.new.paths.items)) c.path.ensures.value c.in_ok-add_shown-in-Some.ensures)

pub returns : goal.returns
returns c = adds_each (MayBeShown c.args.from.now) path_of c.args.reached.now c.loop-number.number (texts c.loop-number.paths.items) (omega (arith, c.loop-number-test.false, c.len-number-end.ensures.value)) c.loop-number.invariant
