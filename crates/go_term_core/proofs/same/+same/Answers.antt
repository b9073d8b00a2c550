use Rattle.std.proofs.Common.{◌≡◌, [], map, false, true, refl, inl, inr, ap, sym, ◌∙◌}
use Rattle.go_term_core.specs.Shapes.{shape, line_shape, line_with, line_shapes, sign_of}
use Rattle.go_term_core.specs.Terms.{NoType}
use Rattle.go_term_core.specs.Meeting.{IsMet}
use Rattle.go_term_core.proofs.TermShapes.{shape_struct, shape_interface}
use Rattle.go_term_core.proofs.SameLists.{fails, alike_passed, alike_nowhere, both_end, AreSameFields, AreSameTerms, found, missing, alike_at, lines_at, terms_at, no_lines, no_terms, no_line_left, no_line_right, nothing_left, nothing_right, unless_met, as_many_fields, as_many_terms, methods_counted, alike_found, alike_in, alike_where, all_step, all_missing, all_end, same_at}
use Rattle.go_term_core.proofs.same.+same.Goals as goal
use Rattle.go_term_core.proofs.same.+same.Goals.{has_alike-else-is_same_name-via-then-is_same_name+else-same_signature, has_alike-else-is_same_name-via-else-is_same_name, same_methods-else-not-has_alike-via-then-not-has_alike+else-not-has_alike-2, same_methods-else-not-has_alike-via-else-not-has_alike}

pub has_alike-returns-then-same_signature : goal.has_alike-returns-then-same_signature
has_alike-returns-then-same_signature t c =
    let a = c.args in
    alike_found a.tags a.p.now a.m.now.name (sign_of a.m.now.signature) a.q.now a.ns.now _ c.n-item.result c.loop-n-test.true c.n-item.is (c.if-is_same_name.ensures.0 refl) (c.if-same_signature.ensures.0 refl) c.loop-n.invariant

pub identical_by-returns-in-Struct-Struct : goal.identical_by-returns-in-Struct-Struct
identical_by-returns-in-Struct-Struct t c =
    let w = c.in-Struct-Struct in
    same_at c.args.tags _ _ _ _ _ (ap shape w.is-0 ∙ shape_struct w.p w.fs w.ls) (ap shape w.is-1 ∙ shape_struct w.q w.gs w.ks) c.same_fields.ensures

pub identical_by-returns-in-Interface-Interface : goal.identical_by-returns-in-Interface-Interface
identical_by-returns-in-Interface-Interface t c =
    let w = c.in-Interface-Interface in
    same_at c.args.tags _ _ _ _ _ (ap shape w.is-0 ∙ shape_interface w.p w.ms) (ap shape w.is-1 ∙ shape_interface w.q w.ns) c.same_methods.ensures

pub same_methods-returns-then-len : goal.same_methods-returns-then-len
same_methods-returns-then-len t c =
    let a = c.args in
    fails (λ h. let e = sym (methods_counted a.ms.now.items) ∙ (h.0 ∙ methods_counted a.ns.now.items) in c.if-len.true (c.len.ensures ∙ (a.ms.now.ok.0 ∙ e ∙ sym a.ns.now.ok.0) ∙ sym c.len-2.ensures))

pub same_methods-returns-then-not-has_alike-2 : goal.same_methods-returns-then-not-has_alike-2
same_methods-returns-then-not-has_alike-2 t c =
    let a = c.args in
    let m = c.m-item.result in
    all_missing a.tags a.p.now a.q.now _ a.ms.now.items a.ns.now.items _ m c.deref-m-items.ensures.value c.loop-i-test.true c.m-item.is
    (λ has.
    elim (alike_where a.tags a.p.now m.name (sign_of m.signature) a.q.now _ _ _ a.ns.now.items _ c.deref.ensures.value c.split_at.ensures.front c.split_at.ensures.back has) [
      | inl h ↦ let k : false ≡ true = c.if-not-has_alike.ensures.1 h in cc
      | inr h ↦ let k : false ≡ true = c.if-not-has_alike-2.ensures.1 h in cc
    ])
    c.loop-i.invariant

pub same_methods-loop-i-preserved : goal.same_methods-loop-i-preserved
same_methods-loop-i-preserved t c =
    let a = c.args in
    let m = c.m-item.result in
    all_step a.tags a.p.now a.q.now _ a.ms.now.items a.ns.now.items _ m c.deref-m-items.ensures.value c.loop-i-test.true c.m-item.is
    (alike_in a.tags a.p.now m.name (sign_of m.signature) a.q.now _ _ _ a.ns.now.items _ c.deref.ensures.value c.split_at.ensures.front c.split_at.ensures.back (
    elim c.else-not-has_alike.branch [
      | same_methods-else-not-has_alike-via-then-not-has_alike+else-not-has_alike-2 w ↦ inr (w.if-not-has_alike-2.ensures.0 refl)
      | same_methods-else-not-has_alike-via-else-not-has_alike w ↦ inl (w.if-not-has_alike.ensures.0 refl)
    ]))
    c.loop-i.invariant

pub same_methods-returns : goal.same_methods-returns
same_methods-returns t c =
    let a = c.args in
    (λ _. (methods_counted a.ms.now.items ∙ (sym a.ms.now.ok.0 ∙ (sym c.len.ensures ∙ c.if-len.false ∙ c.len-2.ensures) ∙ a.ns.now.ok.0) ∙ sym (methods_counted a.ns.now.items), all_end a.tags a.p.now a.q.now _ a.ms.now.items a.ns.now.items _ c.deref-m-items.ensures.value c.loop-i-test.false c.loop-i.invariant), λ _. refl)

pub has_alike-loop-n-preserved : goal.has_alike-loop-n-preserved
has_alike-loop-n-preserved t c =
    let a = c.args in
    alike_passed a.tags a.p.now a.m.now.name (sign_of a.m.now.signature) a.q.now a.ns.now _ c.n-item.result c.loop-n-test.true c.n-item.is
    (elim c.else-is_same_name.branch [
      | has_alike-else-is_same_name-via-then-is_same_name+else-same_signature w ↦ (λ same signs. let k : false ≡ true = w.if-same_signature.ensures.1 signs in cc)
      | has_alike-else-is_same_name-via-else-is_same_name w ↦ (λ same signs. let k : false ≡ true = w.if-is_same_name.ensures.1 same in cc)
    ])
    c.loop-n.invariant

pub has_alike-returns : goal.has_alike-returns
has_alike-returns t c =
    let a = c.args in
    alike_nowhere a.tags a.p.now a.m.now.name (sign_of a.m.now.signature) a.q.now a.ns.now _ c.loop-n-test.false c.loop-n.invariant

pub same_fields-returns-then-len : goal.same_fields-returns-then-len
same_fields-returns-then-len t c =
    let a = c.args in
    fails (λ h. let e = as_many_fields a.tags a.p.now a.q.now (line_shapes a.ls.now.items) (line_shapes a.ks.now.items) a.fs.now.items a.gs.now.items h in c.if-len.true (c.len.ensures ∙ (a.fs.now.ok.0 ∙ e ∙ sym a.gs.now.ok.0) ∙ sym c.len-2.ensures))

pub same_terms-returns-then-len : goal.same_terms-returns-then-len
same_terms-returns-then-len t c =
    let a = c.args in
    fails (λ h. let e = as_many_terms a.tags (map shape a.ts.now.items) (map shape a.us.now.items) a.ns.now.items a.ms.now.items h in c.if-len.true (c.len.ensures ∙ (a.ns.now.ok.0 ∙ e ∙ sym a.ms.now.ok.0) ∙ sym c.len-2.ensures))

pub same_fields-returns : goal.same_fields-returns
same_fields-returns t c =
    let a = c.args in
    let many = sym a.fs.now.ok.0 ∙ (sym c.len.ensures ∙ c.if-len.false ∙ c.len-2.ensures) ∙ a.gs.now.ok.0 in
    both_end (AreSameFields a.tags a.p.now a.q.now (line_shapes a.ls.now.items) (line_shapes a.ks.now.items)) tt _ a.fs.now.items a.gs.now.items _ c.deref-f-items.ensures.value many c.loop-i-test.false c.loop-i.invariant.0

pub same_terms-returns : goal.same_terms-returns
same_terms-returns t c =
    let a = c.args in
    let many = sym a.ns.now.ok.0 ∙ (sym c.len.ensures ∙ c.if-len.false ∙ c.len-2.ensures) ∙ a.ms.now.ok.0 in
    both_end (AreSameTerms a.tags (map shape a.ts.now.items) (map shape a.us.now.items)) tt _ a.ns.now.items a.ms.now.items _ c.deref-n-items.ensures.value many c.loop-i-test.false c.loop-i.invariant.0

pub are_lines_same-returns-in-Some-Some : goal.are_lines_same-returns-in-Some-Some
are_lines_same-returns-in-Some-Some t c =
    let a = c.args in
    let w = c.in-Some-Some in
    unless_met (IsMet a.met a.pair) _ _ _ c.if-is_met.ensures c.is_same_line.ensures (lines_at a.tags _ _ _ _ _ (found line_shape (line_with false NoType []) c.deref.result.now a.ls.now.items a.pair.one w.l c.deref.ensures.value w.ensures.lookup) (found line_shape (line_with false NoType []) c.deref-2.result.now a.ks.now.items a.pair.other w.k c.deref-2.ensures.value w.ensures'.lookup) alike_at)

pub are_lines_same-returns-in-Some-None : goal.are_lines_same-returns-in-Some-None
are_lines_same-returns-in-Some-None t c =
    let a = c.args in
    let w = c.in-Some-None in
    unless_met (IsMet a.met a.pair) _ _ _ c.if-is_met.ensures c.is_no_line.ensures (lines_at a.tags _ _ _ _ _ (found line_shape (line_with false NoType []) c.deref.result.now a.ls.now.items a.pair.one w.l c.deref.ensures.value w.ensures.lookup) (missing line_shape (line_with false NoType []) c.deref-2.result.now a.ks.now.items a.pair.other c.deref-2.ensures.value w.ensures'.lookup) (no_line_right a.tags (line_shape w.l.now)))

pub are_lines_same-returns-in-None-Some : goal.are_lines_same-returns-in-None-Some
are_lines_same-returns-in-None-Some t c =
    let a = c.args in
    let w = c.in-None-Some in
    unless_met (IsMet a.met a.pair) _ _ _ c.if-is_met.ensures c.is_no_line-in-None-Some.ensures (lines_at a.tags _ _ _ _ _ (missing line_shape (line_with false NoType []) c.deref.result.now a.ls.now.items a.pair.one c.deref.ensures.value w.ensures.lookup) (found line_shape (line_with false NoType []) c.deref-2.result.now a.ks.now.items a.pair.other w.k c.deref-2.ensures.value w.ensures'.lookup) (no_line_left a.tags (line_shape w.k.now)))

pub are_lines_same-returns-in-None-None : goal.are_lines_same-returns-in-None-None
are_lines_same-returns-in-None-None t c =
    let a = c.args in
    let w = c.in-None-None in
    unless_met (IsMet a.met a.pair) _ _ _ c.if-is_met.ensures alike_at (lines_at a.tags _ _ _ _ _ (missing line_shape (line_with false NoType []) c.deref.result.now a.ls.now.items a.pair.one c.deref.ensures.value w.ensures.lookup) (missing line_shape (line_with false NoType []) c.deref-2.result.now a.ks.now.items a.pair.other c.deref-2.ensures.value w.ensures'.lookup) (no_lines a.tags))

pub are_terms_same-returns-in-Some-Some : goal.are_terms_same-returns-in-Some-Some
are_terms_same-returns-in-Some-Some t c =
    let a = c.args in
    let w = c.in-Some-Some in
    unless_met (IsMet a.met a.pair) _ _ _ c.if-is_met.ensures c.identical_by.ensures (terms_at a.tags _ _ _ _ _ (found shape NoType c.deref.result.now a.ts.now.items a.pair.one w.t c.deref.ensures.value w.ensures.lookup) (found shape NoType c.deref-2.result.now a.us.now.items a.pair.other w.u c.deref-2.ensures.value w.ensures'.lookup) alike_at)

pub are_terms_same-returns-in-Some-None : goal.are_terms_same-returns-in-Some-None
are_terms_same-returns-in-Some-None t c =
    let a = c.args in
    let w = c.in-Some-None in
    unless_met (IsMet a.met a.pair) _ _ _ c.if-is_met.ensures c.is_no_type.ensures.nothing (terms_at a.tags _ _ _ _ _ (found shape NoType c.deref.result.now a.ts.now.items a.pair.one w.t c.deref.ensures.value w.ensures.lookup) (missing shape NoType c.deref-2.result.now a.us.now.items a.pair.other c.deref-2.ensures.value w.ensures'.lookup) (nothing_right a.tags (shape w.t.now)))

pub are_terms_same-returns-in-None-Some : goal.are_terms_same-returns-in-None-Some
are_terms_same-returns-in-None-Some t c =
    let a = c.args in
    let w = c.in-None-Some in
    unless_met (IsMet a.met a.pair) _ _ _ c.if-is_met.ensures c.is_no_type-in-None-Some.ensures.nothing (terms_at a.tags _ _ _ _ _ (missing shape NoType c.deref.result.now a.ts.now.items a.pair.one c.deref.ensures.value w.ensures.lookup) (found shape NoType c.deref-2.result.now a.us.now.items a.pair.other w.u c.deref-2.ensures.value w.ensures'.lookup) (nothing_left a.tags (shape w.u.now)))

pub are_terms_same-returns-in-None-None : goal.are_terms_same-returns-in-None-None
are_terms_same-returns-in-None-None t c =
    let a = c.args in
    let w = c.in-None-None in
    unless_met (IsMet a.met a.pair) _ _ _ c.if-is_met.ensures alike_at (terms_at a.tags _ _ _ _ _ (missing shape NoType c.deref.result.now a.ts.now.items a.pair.one c.deref.ensures.value w.ensures.lookup) (missing shape NoType c.deref-2.result.now a.us.now.items a.pair.other c.deref-2.ensures.value w.ensures'.lookup) (no_terms a.tags))
