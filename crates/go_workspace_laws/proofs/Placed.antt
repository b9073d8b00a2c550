-- Where the calls of a function's body stand: between its braces.
use Rattle.std.proofs.Common.{◌≡◌, ◌<◌, ◌≤◌, ◌+◌, ◌⊎◌, inl, inr, ℕ, suc, List, [], ◌∷◌, ◌++◌, refl, sym, ap, subst, ◌∙◌, arith}
use Rattle.std.specs.Prelude.{None}
use Rattle.go_path_core.specs.text_core.declared.span.Span.{Span}
use Rattle.go_path_core.specs.text_core.Each.{Each, each-append}
use Rattle.go_tree_nodes.specs.token_core.declared.kind.Operator.TheVariants as operators
use Rattle.go_tree_nodes.specs.Spelling.{mark, spell_file, spell_func, spell_ident, spell_lines, spell_receiver, spell_signature}
use Rattle.go_tree_nodes.specs.Terminals.{InOrder, Terminal, least_width}
use Rattle.go_tree_nodes.specs.Trees.{FileTree, Func, FuncTree, Lines, NoParams, NoResult, Signed}
use Rattle.go_tree_nodes.proofs.InOrder.{in_order_ends, in_order_split}
use Rattle.go_tree_core.specs.declared.occurrence.Occ.{Occ}
use Rattle.go_tree_core.specs.Laws.{AreWritten, IsWritten, NoneLeft, OccurrencesAreWritten, Passed, Written}
use Rattle.go_tree_core.specs.Occurrences.{call_at, lines_occs}
use Rattle.go_body_core.specs.typexpr_core.EntryAmong.{Among, among_left}

-- what holds of each

each_own : {A : Type 0} (P : A → Type 0) (xs : List A) → ((x : A) → Among xs x → P x) → Each P xs
each_own P [] f = tt
each_own P (x ∷ xs) f = (f x (inl refl), each_own P xs (λ y a. f y (inr a)))

each_at : {A : Type 0} (P : A → Type 0) (xs : List A) (x : A) → Each P xs → Among xs x → P x
each_at P [] x h a = absurd a
each_at P (y ∷ ys) x h a = elim a [ inl e ↦ subst P e h.0 | inr r ↦ each_at P ys x h.1 r ]

each_written : (P : Terminal → Type 0) (Q : Occ → Type 0) → ((o : Occ) (t : Terminal) → IsWritten o t → P t → Q o) → {os : List Occ} {ts : List Terminal} → AreWritten os ts → Each P ts → Each Q os
each_written P Q step NoneLeft all = tt
each_written P Q step (Passed h) all = each_written P Q step h all.1
each_written P Q step (Written {o = o} {t = t} w h) all = (step o t w all.0, each_written P Q step h all.1)

-- the occurrences of a body are written in it

-- a file that has these lines as the body of its one function, and all else at one place
abbrev func_at : Span → Lines → FuncTree
func_at s ls = record { func = s; receiver = None; name = record { name = []; span = s }; signature = Signed s NoParams s NoResult; open_brace = s; body = ls; close_brace = s }

abbrev file_at : Span → Lines → FileTree
file_at s ls = record { clause = s; name = record { name = []; span = s }; semicolon = s; imports = []; decls = record { decl = Func (func_at s ls); semicolon = s } ∷ [] }

-- a terminal is one of these, or stands at that place
abbrev IsOneOf : Span → List Terminal → Terminal → Type 0
IsOneOf s ts t = (t.span ≡ s) ⊎ Among ts t

each_one : (s : Span) (ls : Lines) → Each (IsOneOf s (spell_lines ls)) (spell_file (file_at s ls))
each_one s ls =
    let P : Terminal → Type 0 = IsOneOf s (spell_lines ls) in
    let lines : Each P (spell_lines ls) = each_own P (spell_lines ls) (λ t a. inr a) in
    let body : Each P (spell_lines ls ++ mark operators.CloseBrace s ∷ []) = each-append P (spell_lines ls) (mark operators.CloseBrace s ∷ []) lines (inl refl, tt) in
    let rest : Each P ((spell_lines ls ++ mark operators.CloseBrace s ∷ []) ++ mark operators.Semicolon s ∷ []) = each-append P (spell_lines ls ++ mark operators.CloseBrace s ∷ []) (mark operators.Semicolon s ∷ []) body (inl refl, tt) in
    (inl refl, (inl refl, (inl refl, (inl refl, (inl refl, (inl refl, (inl refl, (inl refl, rest))))))))

-- another place than that of an occurrence
abbrev apart : Span → Span
apart s = record { start = suc s.start; end = s.end }

abbrev IsWrittenIn : Lines → Occ → Type 0
IsWrittenIn ls o = (t : Terminal) × Among (spell_lines ls) t × IsWritten o t

written_in : OccurrencesAreWritten → (ls : Lines) (o : Occ) → Among (lines_occs ls) o → IsWrittenIn ls o
written_in written ls o a =
    let s : Span = apart o.span in
    let all : Each (λ p. (p.span ≡ s) ⊎ IsWrittenIn ls p) (lines_occs ls ++ []) =
    each_written (IsOneOf s (spell_lines ls)) (λ p. (p.span ≡ s) ⊎ IsWrittenIn ls p) step (written (file_at s ls)) (each_one s ls) in
    by (each_at (λ p. (p.span ≡ s) ⊎ IsWrittenIn ls p) (lines_occs ls ++ []) o all (among_left (lines_occs ls) [] o a))
  where
    step : (p : Occ) (t : Terminal) → IsWritten p t → IsOneOf (apart o.span) (spell_lines ls) t → (p.span ≡ apart o.span) ⊎ IsWrittenIn ls p
    step p t w (inl e) = inl (sym w.0 ∙ e)
    step p t w (inr a) = inr (t, a, w)

    by : (o.span ≡ apart o.span) ⊎ IsWrittenIn ls o → IsWrittenIn ls o
    by (inl e) = (let same : o.span.start ≡ suc o.span.start = ap (λ (s : Span). s.start) e in absurd (omega (arith, same)))
    by (inr w) = w

-- between the braces

in_bounds : (ts : List Terminal) (lo hi : ℕ) → InOrder lo ts hi → (t : Terminal) → Among ts t → (lo ≤ t.span.start) × (t.span.start + least_width t.kind ≤ hi)
in_bounds [] lo hi h t a = absurd a
in_bounds (u ∷ ts) lo hi h t a =
    let begins = h.0 in
    let long = h.1 in
    elim a [
      | inl e ↦ (let ends = in_order_ends ts u.span.end hi h.2 in subst (λ (v : Terminal). (lo ≤ v.span.start) × (v.span.start + least_width v.kind ≤ hi)) e (begins, omega (arith, long, ends)))
      | inr r ↦ (let k = in_bounds ts u.span.end hi h.2 t r in let low = k.0 in (omega (arith, low, begins, long), k.1))
    ]

pub calls_between : OccurrencesAreWritten → (g : FuncTree) (lo hi : ℕ) → InOrder lo (spell_func g) hi → (s : Span) → Among (lines_occs g.body) (call_at s) → (g.open_brace.start ≤ s.start) × (s.start < g.close_brace.start)
calls_between written g lo hi h s at =
    let a = in_order_split (spell_receiver g.receiver) (spell_ident g.name ∷ (spell_signature g.signature ++ (mark operators.OpenBrace g.open_brace ∷ (spell_lines g.body ++ mark operators.CloseBrace g.close_brace ∷ [])))) g.func.end hi h.2 in
    let b = in_order_split (spell_signature g.signature) (mark operators.OpenBrace g.open_brace ∷ (spell_lines g.body ++ mark operators.CloseBrace g.close_brace ∷ [])) g.name.span.end hi a.1.1.2 in
    let c = in_order_split (spell_lines g.body) (mark operators.CloseBrace g.close_brace ∷ []) g.open_brace.end hi b.1.1.2 in
    let w = written_in written g.body (call_at s) at in
    let inside = in_bounds (spell_lines g.body) g.open_brace.end c.0 c.1.0 w.0 w.1 in
    let low = inside.0 in
    let high = inside.1 in
    let wide : least_width w.0.kind ≡ 1 = ap least_width w.2.1.1 in
    let place : w.0.span.start ≡ s.start = ap (λ (t : Span). t.start) w.2.0 in
    let opened : g.open_brace.start + 1 ≤ g.open_brace.end = b.1.1.1 in
    let closed : c.0 ≤ g.close_brace.start = c.1.1.0 in
    (omega (arith, low, place, opened), omega (arith, high, wide, place, closed))
