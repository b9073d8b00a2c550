use Rattle.std.proofs.Common.{ℕ, List, ap, ◌∙◌}
use Rattle.std.specs.Prelude.{string_bytes}
use Rattle.go_lsp_core.specs.edits.Changes.{changed, changed_once}
use Rattle.go_lsp_core.proofs.EditsChanging.{change_at, change_end, change_is, change_step}
use Rattle.go_lsp_core.proofs.edits.changes.apply_changes.Goals as goal

pub loop-change-init : goal.loop-change-init
loop-change-init c = ap (λ (t : List ℕ). changed c.args.encoding t c.args.changes.now) c.in_ok-current.ensures.ok

pub loop-change-preserved : goal.loop-change-preserved
loop-change-preserved c =
    let cs = c.args.changes.now in
    let i = c.loop-change.change-index in
    change_step c.args.encoding cs i (change_at cs i) (string_bytes c.loop-change.current) (string_bytes c.in_ok-next.next) _ c.loop-change-test.true (change_is cs i c.loop-change-test.true)
    (c.in_ok-next.ensures ∙ ap (λ (t : List ℕ). changed_once c.args.encoding t (change_at cs i)) c.as_str.ensures.value) c.loop-change.invariant

pub returns : goal.returns
returns c = change_end c.args.encoding c.args.changes.now c.loop-change.change-index (string_bytes c.loop-change.current) _ c.loop-change-test.false c.loop-change.invariant
