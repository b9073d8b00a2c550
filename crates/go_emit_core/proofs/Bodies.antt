-- The occurrences of a file of the grammar stand one behind another, so those of a body are those between its braces.
use Rattle.std.proofs.Common.{◌≡◌, ℕ, suc, ◌≤◌, List, [], ◌∷◌, map, sym, ap, subst, arith}
use Rattle.go_tree_nodes.specs.Terminals.{Terminal, TerminalKind, InOrder, least_width}
use Rattle.go_tree_nodes.specs.Trees.{FuncTree}
use Rattle.go_tree_nodes.specs.Spelling.{spell_file}
use Rattle.go_tree_core.specs.declared.occurrence.Role.{Role}
use Rattle.go_tree_core.specs.declared.occurrence.Role.TheVariants as roles
use Rattle.go_tree_core.specs.declared.occurrence.Occ.{Occ}
use Rattle.go_tree_core.specs.Laws.{AreWritten, NoneLeft, Passed, Written, IsKindOf, OccurrencesAreWritten}
use Rattle.go_tree_core.specs.Occurrences.{file_occs}
use Rattle.go_expr_core.specs.Laws.{use_place, occurrence_place}
use Rattle.go_package_core.specs.body_core.Notes.{TheUse}
use Rattle.go_package_core.specs.package_part.Laws.{PartHasOccurrences}
use Rattle.go_emit_core.specs.Laws.{BodiesAreBetweenBraces}
use Rattle.go_emit_core.proofs.Between.{RiseFrom, cut_between, rises}

-- an occurrence is written with a byte at least
wide : (r : Role) (spelling : List ℕ) (kind : TerminalKind) → IsKindOf r spelling kind → 1 ≤ least_width kind
wide roles.Import spelling kind h = rw h (omega arith)
wide roles.Call spelling kind h = rw h.1 (omega arith)
wide roles.«Type» spelling kind h = rw h (omega arith)
wide roles.«Value» spelling kind h = rw h (omega arith)
wide roles.Callee spelling kind h = rw h (omega arith)
wide roles.Qualifier spelling kind h = rw h (omega arith)
wide (roles.Selector usage) spelling kind h = rw h (omega arith)
wide roles.Key spelling kind h = rw h (omega arith)

abbrev start_of : Occ → ℕ
start_of o = o.span.start

lower : (os : List Occ) (low high : ℕ) → low ≤ high → RiseFrom start_of high os → RiseFrom start_of low os
lower [] low high le h = tt
lower (o ∷ os) low high le h = ((let up = h.0 in omega (arith, le, up)), h.1)

written_rise : (os : List Occ) (ts : List Terminal) (low high : ℕ) → AreWritten os ts → InOrder low ts high → RiseFrom start_of low os
written_rise [] [] low high NoneLeft h = tt
written_rise (o ∷ os) [] low high w h = elim w [ ]
written_rise os (t ∷ ts) low high (Passed w) h =
    let before = h.0 in
    let long = h.1 in
    lower os low t.span.end (omega (arith, before, long)) (written_rise os ts t.span.end high w h.2)
written_rise (o ∷ os) (t ∷ ts) low high (Written is w) h =
    let before = h.0 in
    let long = h.1 in
    let one = wide o.role o.spelling t.kind is.1 in
    let start : t.span.start ≡ o.span.start = ap (λ s. s.start) is.0 in
    ((omega (arith, before, start)), lower os (suc o.span.start) t.span.end (omega (arith, long, one, start)) (written_rise os ts t.span.end high w h.2))

uses_rise : (us : List TheUse) (os : List Occ) (low : ℕ) → map use_place us ≡ map occurrence_place os → RiseFrom start_of low os → RiseFrom (λ (u : TheUse). u.offset) low us
uses_rise [] os low e h = tt
uses_rise (u ∷ us) [] low e h = cc
uses_rise (u ∷ us) (o ∷ os) low e h =
    let head : use_place u ≡ occurrence_place o = cc in
    let rest : map use_place us ≡ map occurrence_place os = cc in
    let at : u.offset ≡ o.span.start = ap (λ (p : ℕ × Role). p.0) head in
    let up = h.0 in
    ((omega (arith, up, at)), uses_rise us os (suc u.offset) rest (subst (λ (n : ℕ). RiseFrom start_of (suc n) os) (sym at) h.1))

pub bodies_are_between_braces : PartHasOccurrences → OccurrencesAreWritten → BodiesAreBetweenBraces
bodies_are_between_braces occurs written i c well h n t f tree there grammar placed =
    let up = uses_rise f.answers.uses (file_occs t) 0 (occurs i c well h n t f tree there grammar) (written_rise (file_occs t) (spell_file t) 0 placed.0 (written t) placed.1) in
    let rise = rises (λ (u : TheUse). u.offset) f.answers.uses 0 up in
    (rise, (λ (g : FuncTree). cut_between (λ (u : TheUse). u.offset) g.open_brace.start g.close_brace.start f.answers.uses rise))
