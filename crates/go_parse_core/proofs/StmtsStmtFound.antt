-- Reading finds each statement that is spelled.
use Rattle.std.proofs.Common.{◌≡◌, ℕ, zero, suc, ◌+◌, ◌<◌, ◌≤◌, true, false, List, [], ◌∷◌, ◌++◌, length, Option, Some, None, Ok, refl, sym, ap, ◌∙◌, subst, arith, cond, inl, inr, append_assoc, length-append}
use Rattle.std.specs.Prelude.{◌||◌, is_some}
use Rattle.go_tree_nodes.specs.text_core.declared.span.Span.{Span}
use Rattle.go_tree_nodes.specs.token_core.declared.kind.Keyword.TheVariants as keyword
use Rattle.go_tree_nodes.specs.token_core.declared.kind.Operator.TheVariants as operator
use Rattle.go_tree_nodes.specs.Terminals.{Terminal}
use Rattle.go_tree_nodes.specs.Trees.{Separated, ExprTree, ValueTree, SimpleTree, IfTree, ForTree, StmtTree, BranchTree, ElseTree, Lines, Empty, Declare, Simple, Return, Break, Continue, Block, If, For, Branch, NoElse, ElseBlock, ElseIf, NoLines, Line}
use Rattle.go_tree_nodes.specs.Spelling.{mark, spell_some, spell_value_spec, spell_specs, spell_exprs, spell_value, spell_simple, spell_if, spell_for, spell_stmt, spell_else, spell_lines}
use Rattle.go_tree_nodes.specs.Rules.{MayEnd, Wf_stmt, Wf_branch, Wf_else, Wf_lines}
use Rattle.go_tree_nodes.specs.Heights.{exprs_height, value_height, simple_height, if_height, for_height, stmt_height, branch_height, else_height, lines_height}
use Rattle.go_parse_reader.specs.types.mirrors.Marks.{◌>>=◌, Reading, MarkAhead, mark_at, keyword_at}
use Rattle.go_parse_reader.specs.exprs.mirrors.ExprReading.{exprs_at}
use Rattle.go_parse_core.specs.stmts.mirrors.StmtReading.{value_at, simple_at, if_at, for_at, ends_here, returned, Braced, close_braces, braced, else_by, by_simple, as_block, by_block, by_for, by_if, by_continue, by_break, by_return, by_value, last_by, line_by, lines_by, lines_go, stmt_at, block_at, branch_at}
use Rattle.go_parse_reader.proofs.TypesMarks.{mark_was, AgreesAt, bind_agrees, agrees_along}
use Rattle.go_parse_reader.proofs.ExprsExprLists.{exprs_complete}
use Rattle.go_parse_core.proofs.StmtsEnds.{Ends, ends_semicolon, ends_brace, exprs_begin, simple_begins}
use Rattle.go_parse_core.proofs.StmtsValues.{value_complete, value_word_here}
use Rattle.go_parse_core.proofs.StmtsSimple.{front_low, simple_complete}
use Rattle.go_parse_core.proofs.StmtsHeads.{if_complete, for_complete}

-- What stands behind a statement: a semicolon or a closing brace; behind an empty one a semicolon.
abbrev pub Behind : StmtTree → List Terminal → Type 0
Behind Empty rest = is_some (mark_at operator.Semicolon rest) ≡ true
Behind _ rest = Ends false rest × (ends_here rest ≡ true)

pub behind_semicolon : (c : StmtTree) (s : Span) (ts : List Terminal) → Behind c (mark operator.Semicolon s ∷ ts)
behind_semicolon Empty s ts = refl
behind_semicolon _ s ts = (ends_semicolon false s ts, refl)

behind_brace : (c : StmtTree) (z : Span) (ts : List Terminal) → MayEnd c NoLines → Behind c (mark operator.CloseBrace z ∷ ts)
behind_brace Empty z ts may = absurd may
behind_brace _ z ts may = (ends_brace z ts, refl)

not_last : (c d : StmtTree) (s : Option Span) (rest : Lines) → MayEnd c (Line d s rest) → ⊥
not_last Empty d s rest may = may
not_last _ d s rest may = may

last_found : (c : StmtTree) (z : Span) (after : List Terminal) → MayEnd c NoLines → last_by c (mark operator.CloseBrace z ∷ after) (Some (z, after)) ≡ Ok (Line c None NoLines, mark operator.CloseBrace z ∷ after)
last_found Empty z after may = absurd may
last_found (Declare v) z after may = refl
last_found (Simple c) z after may = refl
last_found (Return s es) z after may = refl
last_found (Break s) z after may = refl
last_found (Continue s) z after may = refl
last_found (Block a ls e) z after may = refl
last_found (If b) z after may = refl
last_found (For k h a ls e) z after may = refl

-- the place that a semicolon in front has
semicolon_in_front : (P : List Terminal → Type 0) → ((s : Span) (ts : List Terminal) → P (mark operator.Semicolon s ∷ ts)) → (ts : List Terminal) → is_some (mark_at operator.Semicolon ts) ≡ true → P ts
semicolon_in_front P each ts h = by (mark_at operator.Semicolon ts) refl h
  where
    by : (m : MarkAhead) → mark_at operator.Semicolon ts ≡ m → is_some m ≡ true → P ts
    by None at h = cc
    by (Some m) at h = subst P (sym (mark_was operator.Semicolon ts m at)) (each m.0 m.1)

-- no statement begins with a closing brace
stmt_no_brace : (c : StmtTree) (ts : List Terminal) → Wf_stmt c → Behind c ts → mark_at operator.CloseBrace (spell_stmt c ++ ts) ≡ None
stmt_no_brace Empty ts wf behind = semicolon_in_front (λ ts. mark_at operator.CloseBrace ts ≡ None) (λ s ts. refl) ts behind
stmt_no_brace (Declare v) ts wf behind = refl
stmt_no_brace (Simple c) ts wf behind = (simple_begins false c ts wf).no_brace
stmt_no_brace (Return s es) ts wf behind = refl
stmt_no_brace (Break s) ts wf behind = refl
stmt_no_brace (Continue s) ts wf behind = refl
stmt_no_brace (Block a ls z) ts wf behind = refl
stmt_no_brace (If (Branch k h a ls z e)) ts wf behind = refl
stmt_no_brace (For k h a ls z) ts wf behind = refl

-- What reading finds of each kind of tree.

abbrev pub FoundStmt : StmtTree → Type 0
FoundStmt c = (b : ℕ) (rest : List Terminal) → Wf_stmt c → Behind c rest → AgreesAt (stmt_at b (spell_stmt c ++ rest)) (Ok (c, rest)) b (stmt_height c)

-- the semicolons of the lines
abbrev pub count : Lines → ℕ
count NoLines = 0
count (Line c None rest) = 0
count (Line c (Some s) rest) = count rest + 1

pub count_le : (ls : Lines) → count ls ≤ length (spell_lines ls)
count_le NoLines = omega arith
count_le (Line c None rest) = omega arith
count_le (Line c (Some s) rest) =
    omega (arith, count_le rest, length-append (spell_stmt c) (spell_some operator.Semicolon (Some s) ++ spell_lines rest), length-append (spell_some operator.Semicolon (Some s)) (spell_lines rest))

abbrev pub FoundLines : Lines → Type 0
FoundLines ls = (b turns : ℕ) (z : Span) (after : List Terminal) → Wf_lines ls → count ls < turns → AgreesAt (lines_go (stmt_at b) turns (spell_lines ls ++ (mark operator.CloseBrace z ∷ after))) (Ok (ls, mark operator.CloseBrace z ∷ after)) b (lines_height ls)

abbrev pub if_of : BranchTree → Span
if_of (Branch k head first ls last otherwise) = k

-- what stands behind `if`
abbrev pub behind_if : BranchTree → List Terminal
behind_if (Branch k head first ls last otherwise) = spell_if head ++ (mark operator.OpenBrace first ∷ (spell_lines ls ++ (mark operator.CloseBrace last ∷ spell_else otherwise)))

abbrev pub FoundBranch : BranchTree → Type 0
FoundBranch t = (b : ℕ) (rest : List Terminal) → Wf_branch t → Ends false rest → AgreesAt (branch_at b (if_of t) (behind_if t ++ rest)) (Ok (t, rest)) b (branch_height t)

abbrev pub FoundElse : ElseTree → Type 0
FoundElse e = (b : ℕ) (rest : List Terminal) → Wf_else e → Ends false rest → AgreesAt (else_by (block_at b) (branch_at b) (spell_else e ++ rest) (keyword_at keyword.Else (spell_else e ++ rest))) (Ok (e, rest)) b (else_height e)

-- the statements of a block that is the statement, by reading with this budget
abbrev lines_in : ℕ → List Terminal → Reading Lines
lines_in b rest = lines_go (stmt_at b) (suc (length rest)) rest

lines_in_found : (ls : Lines) → FoundLines ls → (b : ℕ) (z : Span) (after : List Terminal) → Wf_lines ls → AgreesAt (lines_in b (spell_lines ls ++ (mark operator.CloseBrace z ∷ after))) (Ok (ls, mark operator.CloseBrace z ∷ after)) b (lines_height ls)
lines_in_found ls found b z after wf =
    let brace = mark operator.CloseBrace z in
    let ts = spell_lines ls ++ (brace ∷ after) in
    found b (suc (length ts)) z after wf (omega (arith, count_le ls, length-append (spell_lines ls) (brace ∷ after)))

-- a block is one node above its statements
block_found : (ls : Lines) → FoundLines ls → (b : ℕ) (z : Span) (after : List Terminal) → Wf_lines ls → AgreesAt (block_at b (spell_lines ls ++ (mark operator.CloseBrace z ∷ after))) (Ok (ls, mark operator.CloseBrace z ∷ after)) b (lines_height ls + 1)
unfolding block_at
block_found ls found zero z after wf = inr (refl, omega arith)
block_found ls found (suc b) z after wf =
    elim (lines_in_found ls found b z after wf) [ inl e ↦ inl e | inr g ↦ inr (g.0, omega (arith, g.1)) ]

braced_found : (lines : List Terminal → Reading Lines) (ls : Lines) (first last : Span) (b h : ℕ) (rest : List Terminal) → AgreesAt (lines (spell_lines ls ++ (mark operator.CloseBrace last ∷ rest))) (Ok (ls, mark operator.CloseBrace last ∷ rest)) b h → AgreesAt (braced lines (mark operator.OpenBrace first ∷ (spell_lines ls ++ (mark operator.CloseBrace last ∷ rest)))) (Ok ((first, ls, last), rest)) b h
braced_found lines ls first last b h rest found =
    bind_agrees (lines (spell_lines ls ++ (mark operator.CloseBrace last ∷ rest))) (ls, mark operator.CloseBrace last ∷ rest) (λ ls. close_braces first ls.0 (mark_at operator.CloseBrace ls.1)) (Ok ((first, ls, last), rest)) b h b h found (inl refl) (λ h. h)

-- Each kind of statement.

empty_found : FoundStmt Empty
unfolding stmt_at
empty_found zero rest wf behind = inr (refl, omega arith)
empty_found (suc b) rest wf behind =
    semicolon_in_front (λ ts. AgreesAt (stmt_at (suc b) ts) (Ok (Empty, ts)) (suc b) 1) (λ s ts. inl refl) rest behind

declare_found : (v : ValueTree) → FoundStmt (Declare v)
unfolding stmt_at
declare_found v zero rest wf behind = inr (refl, omega arith)
declare_found v (suc b) rest wf behind =
    let goal : Reading StmtTree = Ok (Declare v, rest) in
    agrees_along _ _ _ (suc b) (value_height v) (ap (by_value b (lines_in b) (block_at b) (branch_at b) (spell_value v ++ rest)) (value_word_here v rest))
    (bind_agrees (value_at b v.kind v.keyword (spell_specs spell_value_spec v.specs ++ rest)) (v, rest) (λ x. Ok (Declare x.0, x.1)) goal (suc b) (value_height v) (suc b) (value_height v)
    (value_complete v b rest wf behind.0) (inl refl) (λ h. h))

simple_found : (c : SimpleTree) → FoundStmt (Simple c)
unfolding stmt_at
simple_found c zero rest wf behind = inr (refl, omega (arith, front_low c))
simple_found c (suc b) rest wf behind =
    let ts = spell_simple c ++ rest in
    let begins = simple_begins false c rest wf in
    let lines = lines_in b in
    let block = block_at b in
    let branch = branch_at b in
    let goal : Reading StmtTree = Ok (Simple c, rest) in
    agrees_along _ _ _ (suc b) (simple_height c) (ap (by_value b lines block branch ts) begins.no_value ∙ ap (by_return b lines block branch ts) begins.no_return ∙ ap (by_break b lines block branch ts) begins.no_break ∙ ap (by_continue b lines block branch ts) begins.no_continue ∙ ap (by_if b lines block branch ts) begins.no_if ∙ ap (by_for b lines block ts) begins.no_for ∙ ap (by_block b lines ts) begins.no_block ∙ ap (by_simple b ts) begins.no_semicolon)
    (bind_agrees (simple_at b false ts) (c, rest) (λ x. Ok (Simple x.0, x.1)) goal (suc b) (simple_height c) (suc b) (simple_height c)
    (simple_complete c b false rest wf behind.0) (inl refl) (λ h. h))

return_found : (s : Span) (es : Option (Separated ExprTree)) → FoundStmt (Return s es)
unfolding stmt_at
return_found s es zero rest wf behind = inr (refl, omega arith)
return_found s None (suc b) rest wf behind = inl (ap (λ c. cond c (Ok (Return s None, rest)) (exprs_at b false rest >>= returned s)) behind.1)
return_found s (Some es) (suc b) rest wf behind =
    let ts = spell_exprs es ++ rest in
    let begins = exprs_begin false es rest wf in
    let goal : Reading StmtTree = Ok (Return s (Some es), rest) in
    let goes : ends_here ts ≡ false = ap (λ o. is_some o || is_some (mark_at operator.CloseBrace ts)) begins.no_semicolon ∙ ap is_some begins.no_brace in
    agrees_along _ _ _ (suc b) (exprs_height es + 1) (ap (λ c. cond c (Ok (Return s None, ts)) (exprs_at b false ts >>= returned s)) goes)
    (bind_agrees (exprs_at b false ts) (es, rest) (returned s) goal b (exprs_height es) (suc b) (exprs_height es + 1)
    (exprs_complete es false b rest wf behind.0.stops) (inl refl) (λ h. omega arith))

break_found : (s : Span) → FoundStmt (Break s)
unfolding stmt_at
break_found s zero rest wf behind = inr (refl, omega arith)
break_found s (suc b) rest wf behind = inl refl

continue_found : (s : Span) → FoundStmt (Continue s)
unfolding stmt_at
continue_found s zero rest wf behind = inr (refl, omega arith)
continue_found s (suc b) rest wf behind = inl refl

stmt_block_found : (first : Span) (ls : Lines) (last : Span) → FoundLines ls → FoundStmt (Block first ls last)
unfolding stmt_at
stmt_block_found first ls last found zero rest wf behind = inr (refl, omega arith)
stmt_block_found first ls last found (suc b) rest wf behind =
    let brace = mark operator.CloseBrace last in
    let open_brace = mark operator.OpenBrace first in
    let ts = spell_lines ls ++ (brace ∷ rest) in
    let goal : Reading StmtTree = Ok (Block first ls last, rest) in
    agrees_along _ _ _ (suc b) (lines_height ls + 1) (ap (λ ts. braced (lines_in b) (open_brace ∷ ts) >>= as_block) (append_assoc (spell_lines ls) (brace ∷ []) rest))
    (bind_agrees (braced (lines_in b) (open_brace ∷ ts)) ((first, ls, last), rest) as_block goal b (lines_height ls) (suc b) (lines_height ls + 1)
    (braced_found (lines_in b) ls first last b (lines_height ls) rest (lines_in_found ls found b last rest wf)) (inl refl) (λ h. omega arith))

if_found : (t : BranchTree) → FoundBranch t → FoundStmt (If t)
unfolding stmt_at branch_at
if_found (Branch k head first ls last otherwise) found zero rest wf behind = inr (refl, omega arith)
if_found (Branch k head first ls last otherwise) found (suc b) rest wf behind =
    let t = Branch k head first ls last otherwise in
    bind_agrees (branch_at (suc b) k (behind_if t ++ rest)) (t, rest) (λ x. Ok (If x.0, x.1)) (Ok (If t, rest)) (suc b) (branch_height t) (suc b) (branch_height t)
    (found (suc b) rest wf behind.0) (inl refl) (λ h. h)

for_found : (k : Span) (head : ForTree) (first : Span) (ls : Lines) (last : Span) → FoundLines ls → FoundStmt (For k head first ls last)
unfolding stmt_at
for_found k head first ls last found zero rest wf behind = inr (refl, omega arith)
for_found k head first ls last found (suc b) rest wf behind =
    let brace = mark operator.CloseBrace last in
    let body = mark operator.OpenBrace first ∷ (spell_lines ls ++ (brace ∷ rest)) in
    let t = For k head first ls last in
    let goal : Reading StmtTree = Ok (t, rest) in
    let h = stmt_height t in
    let is = append_assoc (spell_for head) (mark operator.OpenBrace first ∷ (spell_lines ls ++ (brace ∷ []))) rest ∙ ap (λ l. spell_for head ++ (mark operator.OpenBrace first ∷ l)) (append_assoc (spell_lines ls) (brace ∷ []) rest) in
    let made : ForTree → Braced × List Terminal → Reading StmtTree = λ head x. Ok (For k head x.0.0 x.0.1 x.0.2, x.1) in
    let go = λ (head : ForTree × List Terminal). (braced (block_at b) head.1 >>= made head.0) in
    agrees_along _ _ _ (suc b) h (ap (λ ts. for_at b ts >>= go) is)
    (bind_agrees (for_at b (spell_for head ++ body)) (head, body) go goal b (for_height head) (suc b) h
    (for_complete head b first (spell_lines ls ++ (brace ∷ rest)) wf.0)
    (bind_agrees (braced (block_at b) body) ((first, ls, last), rest) (made head) goal b (lines_height ls + 1) (suc b) h
    (braced_found (block_at b) ls first last b (lines_height ls + 1) rest (block_found ls found b last rest wf.1)) (inl refl) (λ g. omega arith))
    (λ g. omega arith))

-- Branches.

no_else_found : FoundElse NoElse
no_else_found b rest wf ends = inl (ap (else_by (block_at b) (branch_at b) rest) ends.otherwise)

else_block_found : (k first : Span) (ls : Lines) (last : Span) → FoundLines ls → FoundElse (ElseBlock k first ls last)
else_block_found k first ls last found b rest wf ends =
    let brace = mark operator.CloseBrace last in
    let open_brace = mark operator.OpenBrace first in
    let ts = spell_lines ls ++ (brace ∷ rest) in
    let goal : Reading ElseTree = Ok (ElseBlock k first ls last, rest) in
    let made : Braced × List Terminal → Reading ElseTree = λ x. Ok (ElseBlock k x.0.0 x.0.1 x.0.2, x.1) in
    let h = lines_height ls + 1 in
    agrees_along _ _ _ b h (ap (λ ts. braced (block_at b) (open_brace ∷ ts) >>= made) (append_assoc (spell_lines ls) (brace ∷ []) rest))
    (bind_agrees (braced (block_at b) (open_brace ∷ ts)) ((first, ls, last), rest) made goal b h b h
    (braced_found (block_at b) ls first last b h rest (block_found ls found b last rest wf)) (inl refl) (λ h. h))

else_if_found : (k : Span) (t : BranchTree) → FoundBranch t → FoundElse (ElseIf k t)
else_if_found k (Branch i head first ls last otherwise) found b rest wf ends =
    let t = Branch i head first ls last otherwise in
    bind_agrees (branch_at b i (behind_if t ++ rest)) (t, rest) (λ x. Ok (ElseIf k x.0, x.1)) (Ok (ElseIf k t, rest)) b (branch_height t) b (branch_height t)
    (found b rest wf ends) (inl refl) (λ h. h)

branch_found : (k : Span) (head : IfTree) (first : Span) (ls : Lines) (last : Span) (otherwise : ElseTree) → FoundLines ls → FoundElse otherwise → FoundBranch (Branch k head first ls last otherwise)
unfolding branch_at
branch_found k head first ls last otherwise lines rest_found zero rest wf ends = inr (refl, omega arith)
branch_found k head first ls last otherwise lines rest_found (suc b) rest wf ends =
    let brace = mark operator.CloseBrace last in
    let tail = spell_else otherwise ++ rest in
    let body = mark operator.OpenBrace first ∷ (spell_lines ls ++ (brace ∷ tail)) in
    let t = Branch k head first ls last otherwise in
    let goal : Reading BranchTree = Ok (t, rest) in
    let h = branch_height t in
    let is = append_assoc (spell_if head) (mark operator.OpenBrace first ∷ (spell_lines ls ++ (brace ∷ spell_else otherwise))) rest ∙ ap (λ l. spell_if head ++ (mark operator.OpenBrace first ∷ l)) (append_assoc (spell_lines ls) (brace ∷ spell_else otherwise) rest) in
    let made : IfTree → Braced → ElseTree × List Terminal → Reading BranchTree = λ head x e. Ok (Branch k head x.0 x.1 x.2 e.0, e.1) in
    let more = λ (head : IfTree) (x : Braced × List Terminal). (else_by (block_at b) (branch_at b) x.1 (keyword_at keyword.Else x.1) >>= made head x.0) in
    let go = λ (head : IfTree × List Terminal). (braced (block_at b) head.1 >>= more head.0) in
    agrees_along _ _ _ (suc b) h (ap (λ ts. if_at b ts >>= go) is)
    (bind_agrees (if_at b (spell_if head ++ body)) (head, body) go goal b (if_height head) (suc b) h
    (if_complete head b first (spell_lines ls ++ (brace ∷ tail)) wf.0)
    (bind_agrees (braced (block_at b) body) ((first, ls, last), tail) (more head) goal b (lines_height ls + 1) (suc b) h
    (braced_found (block_at b) ls first last b (lines_height ls + 1) tail (block_found ls lines b last tail wf.1))
    (bind_agrees (else_by (block_at b) (branch_at b) tail (keyword_at keyword.Else tail)) (otherwise, rest) (made head (first, ls, last)) goal b (else_height otherwise) (suc b) h
    (rest_found b rest wf.2 ends) (inl refl) (λ g. omega arith))
    (λ g. omega arith))
    (λ g. omega arith))

-- Lines.

no_lines_found : FoundLines NoLines
unfolding lines_go
no_lines_found b zero z after wf enough = absurd (omega arith)
no_lines_found b (suc turns) z after wf enough = inl refl

-- one turn, at the terminals of a statement
turn_at : (b turns : ℕ) (c : StmtTree) (ts after : List Terminal) → ts ≡ spell_stmt c ++ after → Wf_stmt c → Behind c after → lines_go (stmt_at b) (suc turns) ts ≡ (stmt_at b (spell_stmt c ++ after) >>= λ x. line_by (lines_go (stmt_at b) turns) x.0 x.1 (mark_at operator.Semicolon x.1))
unfolding lines_go
turn_at b turns c ts after is wf behind =
    ap (λ ts. lines_by (stmt_at b) (lines_go (stmt_at b) turns) ts (mark_at operator.CloseBrace ts)) is ∙ ap (lines_by (stmt_at b) (lines_go (stmt_at b) turns) (spell_stmt c ++ after)) (stmt_no_brace c after wf behind)

line_found : (c : StmtTree) (s : Option Span) (rest : Lines) → FoundStmt c → FoundLines rest → FoundLines (Line c s rest)
line_found c s rest stmt lines b zero z after wf enough = absurd (omega arith)
line_found c None (Line d s rest) stmt lines b (suc turns) z after wf enough = absurd (not_last c d s rest wf.1)
line_found c None NoLines stmt lines b (suc turns) z after wf enough =
    let end = mark operator.CloseBrace z ∷ after in
    let all = Line c None NoLines in
    let goal : Reading Lines = Ok (all, end) in
    let behind = behind_brace c z after wf.1 in
    agrees_along _ _ _ b (lines_height all) (turn_at b turns c (spell_lines all ++ end) end (append_assoc (spell_stmt c) [] end) wf.0 behind)
    (bind_agrees (stmt_at b (spell_stmt c ++ end)) (c, end) (λ x. line_by (lines_go (stmt_at b) turns) x.0 x.1 (mark_at operator.Semicolon x.1)) goal b (stmt_height c) b (lines_height all)
    (stmt b end wf.0 behind) (inl (last_found c z after wf.1)) (λ h. omega arith))
line_found c (Some q) rest stmt lines b (suc turns) z after wf enough =
    let end = mark operator.CloseBrace z ∷ after in
    let semicolon = mark operator.Semicolon q in
    let ts = spell_lines rest ++ end in
    let all = Line c (Some q) rest in
    let goal : Reading Lines = Ok (all, end) in
    let behind = behind_semicolon c q ts in
    let next = bind_agrees (lines_go (stmt_at b) turns ts) (rest, end) (λ x. Ok (Line c (Some q) x.0, x.1)) goal b (lines_height rest) b (lines_height all)
    (lines b turns z after wf.2 (omega arith)) (inl refl) (λ h. omega arith) in
    agrees_along _ _ _ b (lines_height all) (turn_at b turns c (spell_lines all ++ end) (semicolon ∷ ts) (append_assoc (spell_stmt c) (semicolon ∷ spell_lines rest) end) wf.0 behind)
    (bind_agrees (stmt_at b (spell_stmt c ++ (semicolon ∷ ts))) (c, semicolon ∷ ts) (λ x. line_by (lines_go (stmt_at b) turns) x.0 x.1 (mark_at operator.Semicolon x.1)) goal b (stmt_height c) b (lines_height all)
    (stmt b (semicolon ∷ ts) wf.0 behind) next (λ h. omega arith))

mutual
  -- a statement that is spelled before what may stand behind it is read, unless it is too high
  pub stmt_complete : (c : StmtTree) → FoundStmt c
  stmt_complete Empty = empty_found
  stmt_complete (Declare v) = declare_found v
  stmt_complete (Simple c) = simple_found c
  stmt_complete (Return s es) = return_found s es
  stmt_complete (Break s) = break_found s
  stmt_complete (Continue s) = continue_found s
  stmt_complete (Block first ls last) = stmt_block_found first ls last (lines_found ls)
  stmt_complete (If t) = if_found t (branch_complete t)
  stmt_complete (For k head first ls last) = for_found k head first ls last (lines_found ls)

  pub branch_complete : (t : BranchTree) → FoundBranch t
  branch_complete (Branch k head first ls last otherwise) = branch_found k head first ls last otherwise (lines_found ls) (else_found otherwise)

  pub else_found : (e : ElseTree) → FoundElse e
  else_found NoElse = no_else_found
  else_found (ElseBlock k first ls last) = else_block_found k first ls last (lines_found ls)
  else_found (ElseIf k t) = else_if_found k t (branch_complete t)

  -- lines that are spelled before a closing brace are read, in more turns than they have semicolons
  pub lines_found : (ls : Lines) → FoundLines ls
  lines_found NoLines = no_lines_found
  lines_found (Line c s rest) = line_found c s rest (stmt_complete c) (lines_found rest)

-- a block that is spelled is read, unless it is too high
pub block_complete : (ls : Lines) (b : ℕ) (first last : Span) (rest : List Terminal) → Wf_lines ls → AgreesAt (braced (block_at b) (mark operator.OpenBrace first ∷ (spell_lines ls ++ (mark operator.CloseBrace last ∷ rest)))) (Ok ((first, ls, last), rest)) b (lines_height ls + 1)
block_complete ls b first last rest wf =
    braced_found (block_at b) ls first last b (lines_height ls + 1) rest (block_found ls (lines_found ls) b last rest wf)
