-- Each `break` and each `continue` that no `for` is around, and its fault.
use Rattle.std.proofs.Common.{◌≡◌, ℕ, zero, suc, ◌+◌, ◌<◌, ◌≤◌, true, false, inl, inr, List, [], ◌∷◌, ◌++◌, map, slice_index, refl, sym, ap, subst, ◌∙◌, arith}
use Rattle.std.specs.Prelude.{Contains}
use Rattle.std.specs.List.Sorted.{IsStrictlyIncreasing}
use Rattle.std.proofs.lemmas.List.Elements.{Contains-append_left, Contains-append_right, Contains-append_cases}
use Rattle.go_denote_core.specs.text_core.declared.span.Span.{Span}
use Rattle.go_tree_nodes.specs.Spelling.{spell_value, spell_simple, spell_some, spell_if, spell_stmt, spell_branch, spell_else, spell_lines, mark}
use Rattle.go_tree_nodes.specs.Terminals.{InOrder}
use Rattle.go_tree_nodes.proofs.InOrder.{in_order_split, in_order_ends}
use Rattle.go_tree_nodes.specs.token_core.declared.kind.Operator.TheVariants as operator
use Rattle.go_tree_nodes.specs.Trees as tree
use Rattle.go_tree_nodes.specs.Trees.{StmtTree, BranchTree, ElseTree, Lines, Empty, Simple, Return, Break, Continue, Block, If, For, Branch, NoElse, ElseBlock, ElseIf, NoLines, Line}
use Rattle.go_local_core.specs.declared.Fault.{Fault}
use Rattle.go_local_core.specs.walks.Ends.{loop_faults, branch_loop_faults, else_loop_faults, lines_loop_faults}
use Rattle.go_spec_laws.specs.ending.Ending.{IsStatementOf, IsFirstStatement, IsLaterStatement, IsElse, IsElseBlock, IsElseIf}
use Rattle.go_spec_laws.specs.ending.Standing.{StandsInFors, IsItself, IsInBlock, IsInThen, IsInElse, IsInFor, IsJump, ABreak, AContinue, stray_at, IsStray}
use Rattle.go_spec_laws.specs.ending.Laws.{StraysAreFaults}

-- in the block of a `for`

none_both : {A : Type 0} (xs ys : List A) → xs ≡ [] → ys ≡ [] → xs ++ ys ≡ []
none_both xs ys h k = ap (λ zs. zs ++ ys) h ∙ k

mutual
  stmt_inside : (s : StmtTree) → loop_faults true s ≡ []
  stmt_inside Empty = refl
  stmt_inside (tree.Declare v) = refl
  stmt_inside (Simple s) = refl
  stmt_inside (Return s es) = refl
  stmt_inside (Break s) = refl
  stmt_inside (Continue s) = refl
  stmt_inside (Block first ls last) = lines_inside ls
  stmt_inside (If b) = branch_inside b
  stmt_inside (For k head first ls last) = lines_inside ls

  branch_inside : (b : BranchTree) → branch_loop_faults true b ≡ []
  branch_inside (Branch k head first ls last otherwise) = none_both (lines_loop_faults true ls) (else_loop_faults true otherwise) (lines_inside ls) (else_inside otherwise)

  else_inside : (o : ElseTree) → else_loop_faults true o ≡ []
  else_inside NoElse = refl
  else_inside (ElseBlock k first ls last) = lines_inside ls
  else_inside (ElseIf k b) = branch_inside b

  lines_inside : (ls : Lines) → lines_loop_faults true ls ≡ []
  lines_inside NoLines = refl
  lines_inside (Line s semicolon more) = none_both (loop_faults true s) (lines_loop_faults true more) (stmt_inside s) (lines_inside more)

-- each fault is that of a stray statement

not_in_none : (f : Fault) → ¬ Contains [] f
not_in_none f h = absurd (omega (arith, h.1))

in_one : (f g : Fault) → Contains (f ∷ []) g → g ≡ f
in_one f g (zero, lt, is) = sym is
in_one f g (suc k, lt, is) = absurd (omega (arith, lt))

one_in : (f : Fault) → Contains (f ∷ []) f
one_in f = (0, omega arith, refl)

-- the fault is that of a stray statement that stands in this one
record Strays (s : StmtTree) (fault : Fault) : Type 0 where
  place : Span
  statement : StmtTree
  jumps : IsJump place statement
  inside : StandsInFors statement 0 s
  here : fault ≡ stray_at place

mutual
  stmt_strays : (s : StmtTree) (f : Fault) → Contains (loop_faults false s) f → Strays s f
  stmt_strays Empty f h = absurd (not_in_none f h)
  stmt_strays (tree.Declare v) f h = absurd (not_in_none f h)
  stmt_strays (Simple s) f h = absurd (not_in_none f h)
  stmt_strays (Return s es) f h = absurd (not_in_none f h)
  stmt_strays (Break s) f h = record { place = s; statement = Break s; jumps = ABreak; inside = IsItself; here = in_one (stray_at s) f h }
  stmt_strays (Continue s) f h = record { place = s; statement = Continue s; jumps = AContinue; inside = IsItself; here = in_one (stray_at s) f h }
  stmt_strays (Block first ls last) f h =
      let r = lines_stray ls f h in
      record { place = r.place; statement = r.statement; jumps = r.jumps; inside = IsInBlock r.stands.among r.stands.inside; here = r.here }
  stmt_strays (If b) f h = branch_strays b f h
  stmt_strays (For k head first ls last) f h = absurd (not_in_none f (subst (λ fs. Contains fs f) (lines_inside ls) h))

  branch_strays : (b : BranchTree) (f : Fault) → Contains (branch_loop_faults false b) f → Strays (If b) f
  branch_strays (Branch k head first ls last otherwise) f h =
      elim (Contains-append_cases (lines_loop_faults false ls) (else_loop_faults false otherwise) f h) [
        | inl x ↦ (let r = lines_stray ls f x in record { place = r.place; statement = r.statement; jumps = r.jumps; inside = IsInThen r.stands.among r.stands.inside; here = r.here })
        | inr y ↦ (let e = else_strays otherwise f y in record { place = e.2.place; statement = e.2.statement; jumps = e.2.jumps; inside = IsInElse e.1 e.2.inside; here = e.2.here })
      ]

  else_strays : (o : ElseTree) (f : Fault) → Contains (else_loop_faults false o) f → (s : StmtTree) × IsElse s o × Strays s f
  else_strays NoElse f h = absurd (not_in_none f h)
  else_strays (ElseBlock k first ls last) f h =
      let r = lines_stray ls f h in
      (Block first ls last, IsElseBlock refl, record { place = r.place; statement = r.statement; jumps = r.jumps; inside = IsInBlock r.stands.among r.stands.inside; here = r.here })
  else_strays (ElseIf k b) f h = (If b, IsElseIf refl, branch_strays b f h)

  lines_stray : (ls : Lines) (f : Fault) → Contains (lines_loop_faults false ls) f → IsStray ls f
  lines_stray NoLines f h = absurd (not_in_none f h)
  lines_stray (Line s semicolon more) f h =
      elim (Contains-append_cases (loop_faults false s) (lines_loop_faults false more) f h) [
        | inl x ↦ (let r = stmt_strays s f x in record { place = r.place; statement = r.statement; jumps = r.jumps; stands = record { outer = s; among = IsFirstStatement; inside = r.inside }; here = r.here })
        | inr y ↦ (let r = lines_stray more f y in record { place = r.place; statement = r.statement; jumps = r.jumps; stands = record { outer = r.stands.outer; among = IsLaterStatement r.stands.among; inside = r.stands.inside }; here = r.here })
      ]

-- each stray statement has its fault

among_has : {s : StmtTree} {ls : Lines} (f : Fault) → IsStatementOf s ls → Contains (loop_faults false s) f → Contains (lines_loop_faults false ls) f
among_has {s} f (IsFirstStatement {more = more}) h = Contains-append_left (loop_faults false s) (lines_loop_faults false more) f h
among_has f (IsLaterStatement {other = t} {more = more} a) h = Contains-append_right (loop_faults false t) (lines_loop_faults false more) f (among_has f a h)

else_has : {s : StmtTree} {o : ElseTree} (f : Fault) → IsElse s o → Contains (loop_faults false s) f → Contains (else_loop_faults false o) f
else_has f (IsElseBlock is) h = subst (λ t. Contains (loop_faults false t) f) is h
else_has f (IsElseIf is) h = subst (λ t. Contains (loop_faults false t) f) is h

jump_has : {place : Span} {s : StmtTree} → IsJump place s → Contains (loop_faults false s) (stray_at place)
jump_has {place} ABreak = one_in (stray_at place)
jump_has {place} AContinue = one_in (stray_at place)

has : {place : Span} {s : StmtTree} {n : ℕ} {t : StmtTree} → IsJump place s → StandsInFors s n t → n ≡ 0 → Contains (loop_faults false t) (stray_at place)
has j IsItself h = jump_has j
has {place} j (IsInBlock a i) h = among_has (stray_at place) a (has j i h)
has {place} j (IsInThen {ls = ls} {otherwise = o} a i) h = Contains-append_left (lines_loop_faults false ls) (else_loop_faults false o) (stray_at place) (among_has (stray_at place) a (has j i h))
has {place} j (IsInElse {ls = ls} {otherwise = o} e i) h = Contains-append_right (lines_loop_faults false ls) (else_loop_faults false o) (stray_at place) (else_has (stray_at place) e (has j i h))
has j (IsInFor a i) h = absurd (omega (arith, h))

stray_has : (ls : Lines) (f : Fault) → IsStray ls f → Contains (lines_loop_faults false ls) f
stray_has ls f r = subst (λ g. Contains (lines_loop_faults false ls) g) (sym r.here) (among_has (stray_at r.place) r.stands.among (has r.jumps r.stands.inside refl))

-- the faults of tokens in order rise

-- they stand one behind another, between two offsets
abbrev Rise : ℕ → List Fault → ℕ → Type 0
Rise low [] high = low ≤ high
Rise low (f ∷ fs) high = (low ≤ f.offset) × Rise (f.offset + 1) fs high

rise_wider : (fs : List Fault) (lower low high higher : ℕ) → lower ≤ low → high ≤ higher → Rise low fs high → Rise lower fs higher
rise_wider [] lower low high higher l k h = omega (arith, l, k, h)
rise_wider (f ∷ fs) lower low high higher l k h = (omega (arith, l, h.0), rise_wider fs (f.offset + 1) (f.offset + 1) high higher (omega arith) k h.1)

rise_both : (fs gs : List Fault) (low middle high : ℕ) → Rise low fs middle → Rise middle gs high → Rise low (fs ++ gs) high
rise_both [] gs low middle high h k = rise_wider gs low middle high high h (omega arith) k
rise_both (f ∷ fs) gs low middle high h k = (h.0, rise_both fs gs (f.offset + 1) middle high h.1 k)

rise_from : (a b : ℕ) (ns : List ℕ) → a < b → IsStrictlyIncreasing (b ∷ ns) → IsStrictlyIncreasing (a ∷ (b ∷ ns))
rise_from a b ns lt h zero below = lt
rise_from a b ns lt h (suc k) below =
    let e : suc k + 1 ≡ suc (suc k) = omega arith in
    let g : k + 1 ≡ suc k = omega arith in
    let r = h k (omega (arith, below)) in
    subst (λ n. slice_index (b ∷ ns) k < slice_index (a ∷ (b ∷ ns)) n) (sym e) (subst (λ n. slice_index (b ∷ ns) k < slice_index (b ∷ ns) n) g r)

increasing : (fs : List Fault) (low high : ℕ) → Rise low fs high → IsStrictlyIncreasing (map (λ f. f.offset) fs)
increasing [] low high h = λ k lt. absurd (omega (arith, lt))
increasing (f ∷ []) low high h = λ k lt. absurd (omega (arith, lt))
increasing (f ∷ (g ∷ fs)) low high h = rise_from f.offset g.offset (map (λ x. x.offset) fs) (omega (arith, h.1.0)) (increasing (g ∷ fs) (f.offset + 1) high h.1)

-- of a block between its braces
block_rises : (ls : Lines) (first last : Span) (low high : ℕ) → ((from to : ℕ) → InOrder from (spell_lines ls) to → Rise from (lines_loop_faults false ls) to)
    → InOrder low (mark operator.OpenBrace first ∷ (spell_lines ls ++ mark operator.CloseBrace last ∷ [])) high → Rise low (lines_loop_faults false ls) high
block_rises ls first last low high rises h =
    let parts = in_order_split (spell_lines ls) (mark operator.CloseBrace last ∷ []) first.end high h.2 in
    rise_wider (lines_loop_faults false ls) low first.end parts.0 high (omega (arith, h.0, h.1)) (in_order_ends (mark operator.CloseBrace last ∷ []) parts.0 high parts.1.1) (rises first.end parts.0 parts.1.0)

mutual
  stmt_rises : (s : StmtTree) (low high : ℕ) → InOrder low (spell_stmt s) high → Rise low (loop_faults false s) high
  stmt_rises Empty low high h = h
  stmt_rises (tree.Declare v) low high h = in_order_ends (spell_value v) low high h
  stmt_rises (Simple s) low high h = in_order_ends (spell_simple s) low high h
  stmt_rises (Return s es) low high h = in_order_ends (spell_stmt (Return s es)) low high h
  stmt_rises (Break s) low high h = (h.0, omega (arith, h.1, h.2))
  stmt_rises (Continue s) low high h = (h.0, omega (arith, h.1, h.2))
  stmt_rises (Block first ls last) low high h = block_rises ls first last low high (λ from to k. lines_rise ls from to k) h
  stmt_rises (If b) low high h = branch_rises b low high h
  stmt_rises (For k head first ls last) low high h = subst (λ fs. Rise low fs high) (sym (lines_inside ls)) (in_order_ends (spell_stmt (For k head first ls last)) low high h)

  branch_rises : (b : BranchTree) (low high : ℕ) → InOrder low (spell_branch b) high → Rise low (branch_loop_faults false b) high
  branch_rises (Branch k head first ls last otherwise) low high h =
      let parts = in_order_split (spell_if head) (mark operator.OpenBrace first ∷ (spell_lines ls ++ (mark operator.CloseBrace last ∷ spell_else otherwise))) k.end high h.2 in
      let inner = in_order_split (spell_lines ls) (mark operator.CloseBrace last ∷ spell_else otherwise) first.end high parts.1.1.2 in
      rise_both (lines_loop_faults false ls) (else_loop_faults false otherwise) low inner.0 high
      (rise_wider (lines_loop_faults false ls) low first.end inner.0 inner.0 (omega (arith, h.0, h.1, in_order_ends (spell_if head) k.end parts.0 parts.1.0, parts.1.1.0, parts.1.1.1)) (omega arith) (lines_rise ls first.end inner.0 inner.1.0))
      (rise_wider (else_loop_faults false otherwise) inner.0 last.end high high (omega (arith, inner.1.1.0, inner.1.1.1)) (omega arith) (else_rises otherwise last.end high inner.1.1.2))

  else_rises : (o : ElseTree) (low high : ℕ) → InOrder low (spell_else o) high → Rise low (else_loop_faults false o) high
  else_rises NoElse low high h = h
  else_rises (ElseBlock k first ls last) low high h = rise_wider (lines_loop_faults false ls) low k.end high high (omega (arith, h.0, h.1)) (omega arith) (block_rises ls first last k.end high (λ from to q. lines_rise ls from to q) h.2)
  else_rises (ElseIf k b) low high h = rise_wider (branch_loop_faults false b) low k.end high high (omega (arith, h.0, h.1)) (omega arith) (branch_rises b k.end high h.2)

  lines_rise : (ls : Lines) (low high : ℕ) → InOrder low (spell_lines ls) high → Rise low (lines_loop_faults false ls) high
  lines_rise NoLines low high h = h
  lines_rise (Line s semicolon more) low high h =
      let parts = in_order_split (spell_stmt s) (spell_some operator.Semicolon semicolon ++ spell_lines more) low high h in
      let rest = in_order_split (spell_some operator.Semicolon semicolon) (spell_lines more) parts.0 high parts.1.1 in
      rise_both (loop_faults false s) (lines_loop_faults false more) low parts.0 high (stmt_rises s low parts.0 parts.1.0)
      (rise_wider (lines_loop_faults false more) parts.0 rest.0 high high (in_order_ends (spell_some operator.Semicolon semicolon) parts.0 rest.0 rest.1.0) (omega arith) (lines_rise more rest.0 high rest.1.1))

pub are_faults : StraysAreFaults
are_faults = record {
  each = λ ls f. (λ h. lines_stray ls f h, λ r. stray_has ls f r);
  in_order = λ ls low high h. increasing (lines_loop_faults false ls) low high (lines_rise ls low high h);
  inside = lines_inside;
}
