use Rattle.std.proofs.Common.{[], map, false, refl, ap, sym, ◌∙◌}
use Rattle.go_term_core.specs.Shapes.{shape, line_shape, line_with, line_shapes}
use Rattle.go_term_core.specs.Terms.{NoType}
use Rattle.go_term_core.proofs.TermShapes.{shape_struct, shape_interface}
use Rattle.go_term_core.proofs.SameLists.{fails, found, missing, unless_met}
use Rattle.go_term_core.specs.Meeting.{IsMet}
use Rattle.go_summary_core.proofs.AlikeEqualLists.{lines_at, no_line_left, no_line_right, as_many_fields, as_many_methods, as_many_terms, same_at, with_path}
use Rattle.go_summary_core.proofs.alike.terms.+equal.Goals as goal

pub are_lines_equal-returns-in-Some-None : goal.are_lines_equal-returns-in-Some-None
are_lines_equal-returns-in-Some-None t c =
    let a = c.args in
    let w = c.in-Some-None in
    unless_met (IsMet a.met a.pair) _ _ _ c.if-is_met.ensures c.is_equal_to_no_line.ensures (lines_at _ _ _ _ _ (found line_shape (line_with false NoType []) c.deref.result.now a.ls.now.items a.pair.one w.l c.deref.ensures.value w.ensures.lookup) (missing line_shape (line_with false NoType []) c.deref-2.result.now a.ks.now.items a.pair.other c.deref-2.ensures.value w.ensures'.lookup) (no_line_right (line_shape w.l.now)))

pub are_lines_equal-returns-in-None-Some : goal.are_lines_equal-returns-in-None-Some
are_lines_equal-returns-in-None-Some t c =
    let a = c.args in
    let w = c.in-None-Some in
    unless_met (IsMet a.met a.pair) _ _ _ c.if-is_met.ensures c.is_equal_to_no_line-in-None-Some.ensures (lines_at _ _ _ _ _ (missing line_shape (line_with false NoType []) c.deref.result.now a.ls.now.items a.pair.one c.deref.ensures.value w.ensures.lookup) (found line_shape (line_with false NoType []) c.deref-2.result.now a.ks.now.items a.pair.other w.k c.deref-2.ensures.value w.ensures'.lookup) (no_line_left (line_shape w.k.now)))

pub is_equal_term-returns-then-is_same : goal.is_equal_term-returns-then-is_same
is_equal_term-returns-then-is_same t c =
    let w = c.in-Struct-Struct in
    same_at _ _ _ _ _ (ap shape w.is-0 ∙ shape_struct w.p w.fs w.ls) (ap shape w.is-1 ∙ shape_struct w.q w.gs w.ks) (with_path _ _ _ _ (c.if-is_same.ensures.0 refl) c.equal_fields.ensures)

pub is_equal_term-returns-then-is_same-2 : goal.is_equal_term-returns-then-is_same-2
is_equal_term-returns-then-is_same-2 t c =
    let w = c.in-Interface-Interface in
    same_at _ _ _ _ _ (ap shape w.is-0 ∙ shape_interface w.p w.ms) (ap shape w.is-1 ∙ shape_interface w.q w.ns) (with_path _ _ _ _ (c.if-is_same-2.ensures.0 refl) c.equal_methods.ensures)

pub equal_fields-returns-then-len : goal.equal_fields-returns-then-len
equal_fields-returns-then-len t c =
    let a = c.args in
    fails (λ h. let e = as_many_fields (line_shapes a.ls.now.items) (line_shapes a.ks.now.items) a.fs.now.items a.gs.now.items h in c.if-len.true (c.len.ensures ∙ (a.fs.now.ok.0 ∙ e ∙ sym a.gs.now.ok.0) ∙ sym c.len-2.ensures))

pub equal_methods-returns-then-len : goal.equal_methods-returns-then-len
equal_methods-returns-then-len t c =
    let a = c.args in
    fails (λ h. let e = as_many_methods a.ms.now.items a.ns.now.items h in c.if-len.true (c.len.ensures ∙ (a.ms.now.ok.0 ∙ e ∙ sym a.ns.now.ok.0) ∙ sym c.len-2.ensures))

pub equal_terms-returns-then-len : goal.equal_terms-returns-then-len
equal_terms-returns-then-len t c =
    let a = c.args in
    fails (λ h. let e = as_many_terms (map shape a.ts.now.items) (map shape a.us.now.items) a.ns.now.items a.ms.now.items h in c.if-len.true (c.len.ensures ∙ (a.ns.now.ok.0 ∙ e ∙ sym a.ms.now.ok.0) ∙ sym c.len-2.ensures))
