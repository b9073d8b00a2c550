-- Reading finds no other statements than those that are spelled.
use Rattle.std.proofs.Common.{◌≡◌, ℕ, zero, suc, ◌+◌, ◌≤◌, Bool, true, false, List, [], ◌∷◌, ◌++◌, length, Option, Some, None, Ok, refl, sym, ap, ◌∙◌, subst, arith, cond, append_assoc}
use Rattle.go_tree_nodes.specs.text_core.declared.span.Span.{Span}
use Rattle.go_tree_nodes.specs.token_core.declared.kind.Keyword.TheVariants as keyword
use Rattle.go_tree_nodes.specs.token_core.declared.kind.Operator.TheVariants as operator
use Rattle.go_tree_nodes.specs.declared.decls.ValueKind.{ValueKind}
use Rattle.go_tree_nodes.specs.Terminals.{Terminal}
use Rattle.go_tree_nodes.specs.Trees.{IfTree, ForTree, StmtTree, BranchTree, ElseTree, Lines, Empty, Declare, Simple, Return, Break, Continue, Block, If, For, Branch, NoElse, ElseBlock, ElseIf, NoLines, Line}
use Rattle.go_tree_nodes.specs.Spelling.{mark, word, spell_if, spell_for, spell_stmt, spell_branch, spell_else, spell_lines}
use Rattle.go_tree_nodes.specs.Rules.{MayEnd, Wf_stmt, Wf_branch, Wf_else, Wf_lines}
use Rattle.go_tree_nodes.specs.Heights.{stmt_height, branch_height, else_height, lines_height}
use Rattle.go_parse_reader.specs.types.mirrors.Marks.{◌>>=◌, Reading, MarkAhead, need, mark_at, keyword_at}
use Rattle.go_parse_reader.specs.exprs.mirrors.ExprReading.{exprs_at}
use Rattle.go_parse_core.specs.stmts.mirrors.StmtReading.{value_at, value_word, simple_at, if_at, for_at, ends_here, returned, Braced, close_braces, braced, else_if, else_block, else_by, branch_by, for_by, by_simple, as_block, by_block, by_for, by_if, by_continue, by_break, by_return, by_value, last_by, line_by, lines_by, lines_go, stmt_at, block_at, branch_at}
use Rattle.go_parse_reader.proofs.TypesMarks.{mark_was, word_was, bind_ok, need_ok}
use Rattle.go_parse_reader.proofs.TypesLists.{ReadsItem}
use Rattle.go_parse_reader.proofs.ExprsExprLists.{exprs_sound}
use Rattle.go_parse_core.proofs.StmtsSpecs.{reads_no_longer}
use Rattle.go_parse_core.proofs.StmtsValues.{value_sound, value_word_was}
use Rattle.go_parse_core.proofs.StmtsSimple.{simple_sound}
use Rattle.go_parse_core.proofs.StmtsHeads.{if_sound, for_sound}

-- what was read is spelled in front, respects the rules and is low enough
abbrev pub ReadsStmt : ℕ → List Terminal → StmtTree × List Terminal → Type 0
ReadsStmt b ts x = ReadsItem StmtTree spell_stmt stmt_height Wf_stmt b ts x

abbrev pub ReadsLines : ℕ → List Terminal → Lines × List Terminal → Type 0
ReadsLines b ts x = ReadsItem Lines spell_lines lines_height Wf_lines b ts x

-- behind its keyword
abbrev pub ReadsBranch : ℕ → Span → List Terminal → BranchTree × List Terminal → Type 0
ReadsBranch b k ts x = ReadsItem BranchTree spell_branch branch_height Wf_branch b (word keyword.If k ∷ ts) x

abbrev ReadsElse : ℕ → List Terminal → ElseTree × List Terminal → Type 0
ReadsElse b ts x = ReadsItem ElseTree spell_else else_height Wf_else b ts x

abbrev spell_braced : Braced → List Terminal
spell_braced x = mark operator.OpenBrace x.0 ∷ (spell_lines x.1 ++ mark operator.CloseBrace x.2 ∷ [])

abbrev pub ReadsBraced : ℕ → List Terminal → Braced × List Terminal → Type 0
ReadsBraced b ts x = ReadsItem Braced spell_braced (λ x. lines_height x.1) (λ x. Wf_lines x.1) b ts x

-- functions that read nothing but such trees
abbrev pub StmtsRead : ℕ → (List Terminal → Reading StmtTree) → Type 0
StmtsRead b stmt = (ts : List Terminal) (x : StmtTree × List Terminal) → stmt ts ≡ Ok x → ReadsStmt b ts x

abbrev pub LinesRead : ℕ → (List Terminal → Reading Lines) → Type 0
LinesRead b lines = (ts : List Terminal) (x : Lines × List Terminal) → lines ts ≡ Ok x → ReadsLines b ts x

-- a block is one node above its statements
abbrev pub BlocksRead : ℕ → (List Terminal → Reading Lines) → Type 0
BlocksRead b block = (ts : List Terminal) (x : Lines × List Terminal) → block ts ≡ Ok x → ReadsLines b ts x × (lines_height x.0 + 1 ≤ b)

abbrev pub BranchesRead : ℕ → (Span → List Terminal → Reading BranchTree) → Type 0
BranchesRead b branch = (k : Span) (ts : List Terminal) (x : BranchTree × List Terminal) → branch k ts ≡ Ok x → ReadsBranch b k ts x

-- Braces.

close_reads : (b : ℕ) (first : Span) (ts : List Terminal) (x : Lines × List Terminal) → ReadsLines b ts x → (m : MarkAhead) → mark_at operator.CloseBrace x.1 ≡ m → (y : Braced × List Terminal) → close_braces first x.0 m ≡ Ok y → ReadsBraced b (mark operator.OpenBrace first ∷ ts) y × (y.0.1 ≡ x.0)
close_reads b first ts x r None at y e = cc
close_reads b first ts x r (Some z) at y e =
    let same : ((first, x.0, z.0), z.1) ≡ y = cc in
    let brace = mark operator.CloseBrace z.0 in
    let front = mark operator.OpenBrace first in
    let path : ts ≡ (spell_lines x.0 ++ (brace ∷ [])) ++ z.1 = r.spelled_as ∙ ap (λ l. spell_lines x.0 ++ l) (mark_was operator.CloseBrace x.1 z at) ∙ sym (append_assoc (spell_lines x.0) (brace ∷ []) z.1) in
    subst (λ (y : Braced × List Terminal). ReadsBraced b (front ∷ ts) y × (y.0.1 ≡ x.0)) same (record { spelled_as = ap (λ l. front ∷ l) path; wf = r.wf; low = r.low }, refl)

braced_reads : (b : ℕ) (lines : List Terminal → Reading Lines) → LinesRead b lines → (ts : List Terminal) (y : Braced × List Terminal) → braced lines ts ≡ Ok y → ReadsBraced b ts y
braced_reads b lines ih ts y e =
    let s = bind_ok (need (mark_at operator.OpenBrace ts)) (λ first. (lines first.1 >>= λ ls. close_braces first.0 ls.0 (mark_at operator.CloseBrace ls.1))) y e in
    let w = bind_ok (lines s.0.1) (λ ls. close_braces s.0.0 ls.0 (mark_at operator.CloseBrace ls.1)) y s.2 in
    let r = close_reads b s.0.0 s.0.1 w.0 (ih s.0.1 w.0 w.1) (mark_at operator.CloseBrace w.0.1) refl y w.2 in
    subst (λ ts. ReadsBraced b ts y) (sym (mark_was operator.OpenBrace ts s.0 (need_ok (mark_at operator.OpenBrace ts) s.0 s.1))) r.0

-- and the block that was read is low enough
pub block_reads : (b : ℕ) (block : List Terminal → Reading Lines) → BlocksRead b block → (ts : List Terminal) (y : Braced × List Terminal) → braced block ts ≡ Ok y → ReadsBraced b ts y × (lines_height y.0.1 + 1 ≤ b)
block_reads b block ih ts y e =
    let s = bind_ok (need (mark_at operator.OpenBrace ts)) (λ first. (block first.1 >>= λ ls. close_braces first.0 ls.0 (mark_at operator.CloseBrace ls.1))) y e in
    let w = bind_ok (block s.0.1) (λ ls. close_braces s.0.0 ls.0 (mark_at operator.CloseBrace ls.1)) y s.2 in
    let q = ih s.0.1 w.0 w.1 in
    let r = close_reads b s.0.0 s.0.1 w.0 q.0 (mark_at operator.CloseBrace w.0.1) refl y w.2 in
    (subst (λ ts. ReadsBraced b ts y) (sym (mark_was operator.OpenBrace ts s.0 (need_ok (mark_at operator.OpenBrace ts) s.0 s.1))) r.0, subst (λ ls. lines_height ls + 1 ≤ b) (sym r.1) q.1)

-- Branches.

else_if_reads : (b : ℕ) (branch : Span → List Terminal → Reading BranchTree) → BranchesRead b branch → (k : Span) (ts : List Terminal) (m : MarkAhead) → keyword_at keyword.If ts ≡ m → (y : ElseTree × List Terminal) → else_if k branch m ≡ Ok y → ReadsElse b (word keyword.Else k ∷ ts) y
else_if_reads b branch ih k ts None at y e = cc
else_if_reads b branch ih k ts (Some i) at y e =
    let w = bind_ok (branch i.0 i.1) (λ x. Ok (ElseIf k x.0, x.1)) y e in
    let r = ih i.0 i.1 w.0 w.1 in
    let same : (ElseIf k w.0.0, w.0.1) ≡ y = cc (w.2) in
    let front = word keyword.Else k in
    subst (ReadsElse b (front ∷ ts)) same (record { spelled_as = ap (λ l. front ∷ l) (word_was keyword.If ts i at ∙ r.spelled_as); wf = r.wf; low = r.low })

else_block_reads : (b : ℕ) (block : List Terminal → Reading Lines) → BlocksRead b block → (branch : Span → List Terminal → Reading BranchTree) → BranchesRead b branch → (k : Span) (ts : List Terminal) (m : MarkAhead) → (y : ElseTree × List Terminal) → else_block block k branch ts m ≡ Ok y → ReadsElse b (word keyword.Else k ∷ ts) y
else_block_reads b block blocks branch ih k ts None y e = else_if_reads b branch ih k ts (keyword_at keyword.If ts) refl y e
else_block_reads b block blocks branch ih k ts (Some a) y e =
    let w = bind_ok (braced block ts) (λ x. Ok (ElseBlock k x.0.0 x.0.1 x.0.2, x.1)) y e in
    let r = block_reads b block blocks ts w.0 w.1 in
    let same : (ElseBlock k w.0.0.0 w.0.0.1 w.0.0.2, w.0.1) ≡ y = cc (w.2) in
    let front = word keyword.Else k in
    subst (ReadsElse b (front ∷ ts)) same (record { spelled_as = ap (λ l. front ∷ l) r.0.spelled_as; wf = r.0.wf; low = r.1 })

else_reads : (b : ℕ) (block : List Terminal → Reading Lines) → BlocksRead b block → (branch : Span → List Terminal → Reading BranchTree) → BranchesRead b branch → (ts : List Terminal) (m : MarkAhead) → keyword_at keyword.Else ts ≡ m → (y : ElseTree × List Terminal) → else_by block branch ts m ≡ Ok y → ReadsElse b ts y
else_reads b block blocks branch ih ts None at y e =
    let same : (NoElse, ts) ≡ y = cc in
    subst (ReadsElse b ts) same (record { spelled_as = refl; wf = tt; low = omega arith })
else_reads b block blocks branch ih ts (Some k) at y e =
    subst (λ ts. ReadsElse b ts y) (sym (word_was keyword.Else ts k at)) (else_block_reads b block blocks branch ih k.0 k.1 (mark_at operator.OpenBrace k.1) y e)

branch_reads : (b : ℕ) (block : List Terminal → Reading Lines) → BlocksRead b block → (branch : Span → List Terminal → Reading BranchTree) → BranchesRead b branch → (k : Span) (ts : List Terminal) (y : BranchTree × List Terminal) → branch_by b block branch k ts ≡ Ok y → ReadsBranch (suc b) k ts y
branch_reads b block blocks branch ih k ts y e =
    let made : IfTree → Braced → ElseTree × List Terminal → Reading BranchTree = λ head x e. Ok (Branch k head x.0 x.1 x.2 e.0, e.1) in
    let more = λ (head : IfTree) (x : Braced × List Terminal). (else_by block branch x.1 (keyword_at keyword.Else x.1) >>= made head x.0) in
    let h = bind_ok (if_at b ts) (λ head. braced block head.1 >>= more head.0) y e in
    let x = bind_ok (braced block h.0.1) (more h.0.0) y h.2 in
    let o = bind_ok (else_by block branch x.0.1 (keyword_at keyword.Else x.0.1)) (made h.0.0 x.0.0) y x.2 in
    let p = if_sound b ts h.0 h.1 in
    let q = block_reads b block blocks h.0.1 x.0 x.1 in
    let r = else_reads b block blocks branch ih x.0.1 (keyword_at keyword.Else x.0.1) refl o.0 o.1 in
    let first = mark operator.OpenBrace x.0.0.0 in
    let last = mark operator.CloseBrace x.0.0.2 in
    let lines = spell_lines x.0.0.1 in
    let otherwise = spell_else o.0.0 in
    let same : (Branch k h.0.0 x.0.0.0 x.0.0.1 x.0.0.2 o.0.0, o.0.1) ≡ y = cc (o.2) in
    let body : h.0.1 ≡ first ∷ ((lines ++ (last ∷ otherwise)) ++ o.0.1) =
    q.0.spelled_as ∙ ap (λ l. first ∷ l) (append_assoc lines (last ∷ []) x.0.1 ∙ ap (λ l. lines ++ (last ∷ l)) r.spelled_as ∙ sym (append_assoc lines (last ∷ otherwise) o.0.1)) in
    let path : ts ≡ (spell_if h.0.0 ++ (first ∷ (lines ++ (last ∷ otherwise)))) ++ o.0.1 =
    p.spelled_as ∙ ap (λ l. spell_if h.0.0 ++ l) body ∙ sym (append_assoc (spell_if h.0.0) (first ∷ (lines ++ (last ∷ otherwise))) o.0.1) in
    subst (ReadsBranch (suc b) k ts) same (record { spelled_as = ap (λ l. word keyword.If k ∷ l) path; wf = (p.wf, q.0.wf, r.wf); low = omega (arith, p.low, q.1, r.low) })

-- Statements.

for_reads : (b : ℕ) (block : List Terminal → Reading Lines) → BlocksRead b block → (k : Span) (ts : List Terminal) (y : StmtTree × List Terminal) → for_by b block k ts ≡ Ok y → ReadsStmt (suc b) (word keyword.For k ∷ ts) y
for_reads b block blocks k ts y e =
    let made : ForTree → Braced × List Terminal → Reading StmtTree = λ head x. Ok (For k head x.0.0 x.0.1 x.0.2, x.1) in
    let h = bind_ok (for_at b ts) (λ head. braced block head.1 >>= made head.0) y e in
    let x = bind_ok (braced block h.0.1) (made h.0.0) y h.2 in
    let p = for_sound b ts h.0 h.1 in
    let q = block_reads b block blocks h.0.1 x.0 x.1 in
    let same : (For k h.0.0 x.0.0.0 x.0.0.1 x.0.0.2, x.0.1) ≡ y = cc (x.2) in
    let path : ts ≡ (spell_for h.0.0 ++ spell_braced x.0.0) ++ x.0.1 = p.spelled_as ∙ ap (λ l. spell_for h.0.0 ++ l) q.0.spelled_as ∙ sym (append_assoc (spell_for h.0.0) (spell_braced x.0.0) x.0.1) in
    subst (ReadsStmt (suc b) (word keyword.For k ∷ ts)) same (record { spelled_as = ap (λ l. word keyword.For k ∷ l) path; wf = (p.wf, q.0.wf); low = omega (arith, p.low, q.1) })

by_simple_reads : (b : ℕ) (ts : List Terminal) (m : MarkAhead) (y : StmtTree × List Terminal) → by_simple b ts m ≡ Ok y → ReadsStmt (suc b) ts y
by_simple_reads b ts (Some s) y e =
    let same : (Empty, ts) ≡ y = cc in
    subst (ReadsStmt (suc b) ts) same (record { spelled_as = refl; wf = tt; low = omega arith })
by_simple_reads b ts None y e =
    let w = bind_ok (simple_at b false ts) (λ x. Ok (Simple x.0, x.1)) y e in
    let r = simple_sound b false ts w.0 w.1 in
    let same : (Simple w.0.0, w.0.1) ≡ y = cc (w.2) in
    subst (ReadsStmt (suc b) ts) same (record { spelled_as = r.spelled_as; wf = r.wf; low = r.low })

by_block_reads : (b : ℕ) (lines : List Terminal → Reading Lines) → LinesRead b lines → (ts : List Terminal) (m : MarkAhead) (y : StmtTree × List Terminal) → by_block b lines ts m ≡ Ok y → ReadsStmt (suc b) ts y
by_block_reads b lines ih ts None y e = by_simple_reads b ts (mark_at operator.Semicolon ts) y e
by_block_reads b lines ih ts (Some a) y e =
    let w = bind_ok (braced lines ts) as_block y e in
    let r = braced_reads b lines ih ts w.0 w.1 in
    let same : (Block w.0.0.0 w.0.0.1 w.0.0.2, w.0.1) ≡ y = cc (w.2) in
    subst (ReadsStmt (suc b) ts) same (record { spelled_as = r.spelled_as; wf = r.wf; low = omega (arith, r.low) })

-- what the parts of a statement are read by
record Parts (b : ℕ) (lines block : List Terminal → Reading Lines) (branch : Span → List Terminal → Reading BranchTree) : Type 0 where
  pub lines_read : LinesRead b lines
  pub blocks_read : BlocksRead b block
  pub branches_read : BranchesRead b branch

by_for_reads : (b : ℕ) (lines block : List Terminal → Reading Lines) (branch : Span → List Terminal → Reading BranchTree) → Parts b lines block branch → (ts : List Terminal) (m : MarkAhead) → keyword_at keyword.For ts ≡ m → (y : StmtTree × List Terminal) → by_for b lines block ts m ≡ Ok y → ReadsStmt (suc b) ts y
by_for_reads b lines block branch ps ts None at y e = by_block_reads b lines ps.lines_read ts (mark_at operator.OpenBrace ts) y e
by_for_reads b lines block branch ps ts (Some k) at y e =
    subst (λ ts. ReadsStmt (suc b) ts y) (sym (word_was keyword.For ts k at)) (for_reads b block ps.blocks_read k.0 k.1 y e)

by_if_reads : (b : ℕ) (lines block : List Terminal → Reading Lines) (branch : Span → List Terminal → Reading BranchTree) → Parts b lines block branch → (ts : List Terminal) (m : MarkAhead) → keyword_at keyword.If ts ≡ m → (y : StmtTree × List Terminal) → by_if b lines block branch ts m ≡ Ok y → ReadsStmt (suc b) ts y
by_if_reads b lines block branch ps ts None at y e = by_for_reads b lines block branch ps ts (keyword_at keyword.For ts) refl y e
by_if_reads b lines block branch ps ts (Some k) at y e =
    let w = bind_ok (branch_by b block branch k.0 k.1) (λ x. Ok (If x.0, x.1)) y e in
    let r = branch_reads b block ps.blocks_read branch ps.branches_read k.0 k.1 w.0 w.1 in
    let same : (If w.0.0, w.0.1) ≡ y = cc (w.2) in
    subst (ReadsStmt (suc b) ts) same (record { spelled_as = word_was keyword.If ts k at ∙ r.spelled_as; wf = r.wf; low = r.low })

by_continue_reads : (b : ℕ) (lines block : List Terminal → Reading Lines) (branch : Span → List Terminal → Reading BranchTree) → Parts b lines block branch → (ts : List Terminal) (m : MarkAhead) → keyword_at keyword.Continue ts ≡ m → (y : StmtTree × List Terminal) → by_continue b lines block branch ts m ≡ Ok y → ReadsStmt (suc b) ts y
by_continue_reads b lines block branch ps ts None at y e = by_if_reads b lines block branch ps ts (keyword_at keyword.If ts) refl y e
by_continue_reads b lines block branch ps ts (Some k) at y e =
    let same : (Continue k.0, k.1) ≡ y = cc in
    subst (ReadsStmt (suc b) ts) same (record { spelled_as = word_was keyword.Continue ts k at; wf = tt; low = omega arith })

by_break_reads : (b : ℕ) (lines block : List Terminal → Reading Lines) (branch : Span → List Terminal → Reading BranchTree) → Parts b lines block branch → (ts : List Terminal) (m : MarkAhead) → keyword_at keyword.Break ts ≡ m → (y : StmtTree × List Terminal) → by_break b lines block branch ts m ≡ Ok y → ReadsStmt (suc b) ts y
by_break_reads b lines block branch ps ts None at y e = by_continue_reads b lines block branch ps ts (keyword_at keyword.Continue ts) refl y e
by_break_reads b lines block branch ps ts (Some k) at y e =
    let same : (Break k.0, k.1) ≡ y = cc in
    subst (ReadsStmt (suc b) ts) same (record { spelled_as = word_was keyword.Break ts k at; wf = tt; low = omega arith })

return_reads : (b : ℕ) (s : Span) (ts : List Terminal) (ends : Bool) (y : StmtTree × List Terminal) → cond ends (Ok (Return s None, ts)) (exprs_at b false ts >>= returned s) ≡ Ok y → ReadsStmt (suc b) (word keyword.Return s ∷ ts) y
return_reads b s ts true y e =
    let same : (Return s None, ts) ≡ y = cc in
    subst (ReadsStmt (suc b) (word keyword.Return s ∷ ts)) same (record { spelled_as = refl; wf = tt; low = omega arith })
return_reads b s ts false y e =
    let w = bind_ok (exprs_at b false ts) (returned s) y e in
    let r = exprs_sound b false ts w.0 w.1 in
    let same : (Return s (Some w.0.0), w.0.1) ≡ y = cc (w.2) in
    subst (ReadsStmt (suc b) (word keyword.Return s ∷ ts)) same (record { spelled_as = ap (λ l. word keyword.Return s ∷ l) r.spelled; wf = r.wf; low = omega (arith, r.low) })

by_return_reads : (b : ℕ) (lines block : List Terminal → Reading Lines) (branch : Span → List Terminal → Reading BranchTree) → Parts b lines block branch → (ts : List Terminal) (m : MarkAhead) → keyword_at keyword.Return ts ≡ m → (y : StmtTree × List Terminal) → by_return b lines block branch ts m ≡ Ok y → ReadsStmt (suc b) ts y
by_return_reads b lines block branch ps ts None at y e = by_break_reads b lines block branch ps ts (keyword_at keyword.Break ts) refl y e
by_return_reads b lines block branch ps ts (Some s) at y e =
    subst (λ ts. ReadsStmt (suc b) ts y) (sym (word_was keyword.Return ts s at)) (return_reads b s.0 s.1 (ends_here s.1) y e)

by_value_reads : (b : ℕ) (lines block : List Terminal → Reading Lines) (branch : Span → List Terminal → Reading BranchTree) → Parts b lines block branch → (ts : List Terminal) (v : Option (ValueKind × Span × List Terminal)) → value_word ts ≡ v → (y : StmtTree × List Terminal) → by_value b lines block branch ts v ≡ Ok y → ReadsStmt (suc b) ts y
by_value_reads b lines block branch ps ts None at y e = by_return_reads b lines block branch ps ts (keyword_at keyword.Return ts) refl y e
by_value_reads b lines block branch ps ts (Some v) at y e =
    let w = bind_ok (value_at b v.0 v.1 v.2) (λ x. Ok (Declare x.0, x.1)) y e in
    let r = value_sound b v.0 v.1 v.2 w.0 w.1 in
    let same : (Declare w.0.0, w.0.1) ≡ y = cc (w.2) in
    subst (ReadsStmt (suc b) ts) same (record { spelled_as = value_word_was ts v at ∙ r.spelled_as; wf = r.wf; low = r.low })

-- Lines, given what the statements are.

last_reads : (b : ℕ) (c : StmtTree) (ts rest : List Terminal) → ReadsStmt b ts (c, rest) → MayEnd c NoLines → (y : Lines × List Terminal) → (Line c None NoLines, rest) ≡ y → ReadsLines b ts y
last_reads b c ts rest r may y same =
    subst (ReadsLines b ts) same (record { spelled_as = r.spelled_as ∙ sym (append_assoc (spell_stmt c) [] rest); wf = (r.wf, may, tt); low = omega (arith, r.low) })

last_was : (c : StmtTree) (rest : List Terminal) (m : MarkAhead) (y : Lines × List Terminal) → last_by c rest m ≡ Ok y → MayEnd c NoLines × ((Line c None NoLines, rest) ≡ y)
last_was Empty rest m y e = cc
last_was (Declare v) rest (Some z) y e = (tt, cc)
last_was (Simple s) rest (Some z) y e = (tt, cc)
last_was (Return s es) rest (Some z) y e = (tt, cc)
last_was (Break s) rest (Some z) y e = (tt, cc)
last_was (Continue s) rest (Some z) y e = (tt, cc)
last_was (Block a ls l) rest (Some z) y e = (tt, cc)
last_was (If t) rest (Some z) y e = (tt, cc)
last_was (For k h a ls l) rest (Some z) y e = (tt, cc)
last_was _ rest None y e = cc

line_reads : (b : ℕ) (more : List Terminal → Reading Lines) → LinesRead b more → (c : StmtTree) (ts rest : List Terminal) → ReadsStmt b ts (c, rest) → (m : MarkAhead) → mark_at operator.Semicolon rest ≡ m → (y : Lines × List Terminal) → line_by more c rest m ≡ Ok y → ReadsLines b ts y
line_reads b more ih c ts rest r None at y e =
    let w = last_was c rest (mark_at operator.CloseBrace rest) y e in
    last_reads b c ts rest r w.0 y w.1
line_reads b more ih c ts rest r (Some s) at y e =
    let w = bind_ok (more s.1) (λ x. Ok (Line c (Some s.0) x.0, x.1)) y e in
    let q = ih s.1 w.0 w.1 in
    let same : (Line c (Some s.0) w.0.0, w.0.1) ≡ y = cc (w.2) in
    let semicolon = mark operator.Semicolon s.0 in
    let path : ts ≡ (spell_stmt c ++ (semicolon ∷ spell_lines w.0.0)) ++ w.0.1 = r.spelled_as ∙ ap (λ l. spell_stmt c ++ l) (mark_was operator.Semicolon rest s at ∙ ap (λ l. semicolon ∷ l) q.spelled_as) ∙ sym (append_assoc (spell_stmt c) (semicolon ∷ spell_lines w.0.0) w.0.1) in
    subst (ReadsLines b ts) same (record { spelled_as = path; wf = (r.wf, tt, q.wf); low = omega (arith, r.low, q.low) })

lines_by_reads : (b : ℕ) (stmt : List Terminal → Reading StmtTree) → StmtsRead b stmt → (more : List Terminal → Reading Lines) → LinesRead b more → (ts : List Terminal) (m : MarkAhead) (y : Lines × List Terminal) → lines_by stmt more ts m ≡ Ok y → ReadsLines b ts y
lines_by_reads b stmt ih more next ts (Some z) y e =
    let same : (NoLines, ts) ≡ y = cc in
    subst (ReadsLines b ts) same (record { spelled_as = refl; wf = tt; low = omega arith })
lines_by_reads b stmt ih more next ts None y e =
    let w = bind_ok (stmt ts) (λ x. line_by more x.0 x.1 (mark_at operator.Semicolon x.1)) y e in
    line_reads b more next w.0.0 ts w.0.1 (ih ts w.0 w.1) (mark_at operator.Semicolon w.0.1) refl y w.2

lines_go_sound : (b : ℕ) (stmt : List Terminal → Reading StmtTree) → StmtsRead b stmt → (turns : ℕ) → LinesRead b (lines_go stmt turns)
unfolding lines_go
lines_go_sound b stmt ih zero ts y e = cc
lines_go_sound b stmt ih (suc turns) ts y e = lines_by_reads b stmt ih (lines_go stmt turns) (lines_go_sound b stmt ih turns) ts (mark_at operator.CloseBrace ts) y e

mutual
  unfolding stmt_at block_at branch_at

  -- a statement that is read is spelled in front
  pub stmt_sound : (b : ℕ) → StmtsRead b (stmt_at b)
  stmt_sound zero ts y e = cc
  stmt_sound (suc b) ts y e =
      let ps : Parts b (λ rest. lines_go (stmt_at b) (suc (length rest)) rest) (block_at b) (branch_at b) = record { lines_read = λ ts x e. lines_go_sound b (stmt_at b) (stmt_sound b) (suc (length ts)) ts x e; blocks_read = block_sound b; branches_read = branch_sound b } in
      by_value_reads b (λ rest. lines_go (stmt_at b) (suc (length rest)) rest) (block_at b) (branch_at b) ps ts (value_word ts) refl y e

  -- and so is a block
  pub block_sound : (b : ℕ) → BlocksRead b (block_at b)
  block_sound zero ts y e = cc
  block_sound (suc b) ts y e =
      let r = lines_go_sound b (stmt_at b) (stmt_sound b) (suc (length ts)) ts y e in
      (record { spelled_as = r.spelled_as; wf = r.wf; low = omega (arith, r.low) }, omega (arith, r.low))

  -- and an `if` behind its keyword
  pub branch_sound : (b : ℕ) → BranchesRead b (branch_at b)
  branch_sound zero k ts y e = cc
  branch_sound (suc b) k ts y e = branch_reads b (block_at b) (block_sound b) (branch_at b) (branch_sound b) k ts y e

-- an empty statement takes no terminal, and none gives any back
pub stmt_no_longer : (b : ℕ) (ts : List Terminal) (y : StmtTree × List Terminal) → stmt_at b ts ≡ Ok y → length y.1 ≤ length ts
stmt_no_longer b ts y e = reads_no_longer StmtTree spell_stmt stmt_height Wf_stmt b ts y (stmt_sound b ts y e)
