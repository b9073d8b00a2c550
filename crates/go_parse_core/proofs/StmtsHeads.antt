-- Reading finds the heads of `if` and `for` that are spelled, and no others.
use Rattle.std.proofs.Common.{◌≡◌, ℕ, ◌≤◌, max, Bool, true, false, List, [], ◌∷◌, ◌++◌, Option, Some, None, Ok, Err, refl, sym, ap, ◌∙◌, subst, arith, cond, inl, inr, append_assoc}
use Rattle.go_tree_nodes.specs.text_core.declared.span.Span.{Span}
use Rattle.go_tree_nodes.specs.token_core.declared.kind.Operator.TheVariants as operator
use Rattle.go_tree_nodes.specs.Terminals.{Terminal}
use Rattle.go_tree_nodes.specs.Trees.{Separated, One, ExprTree, SimpleTree, Alone, Step, Assign, Update, Define, IfTree, ForTree, Forever, While, Clauses}
use Rattle.go_tree_nodes.specs.Spelling.{mark, spell, spell_simple, spell_some_simple, spell_some_expr, spell_init, spell_if, spell_for}
use Rattle.go_tree_nodes.specs.Rules.{Wf, Wf_some_simple, Wf_some_expr, Wf_init, Wf_if, IsPost, Wf_for}
use Rattle.go_tree_nodes.specs.Heights.{height, exprs_height, simple_height, some_simple_height, some_expr_height, init_height, if_height, for_height}
use Rattle.go_parse_reader.specs.types.mirrors.Marks.{Grammar, Reading, MarkAhead, need, mark_at}
use Rattle.go_parse_reader.specs.exprs.mirrors.ExprReading.{expr_at, exprs_at}
use Rattle.go_parse_core.specs.stmts.mirrors.StmtReading.{single, simple_from, if_tree, if_init, if_from, if_first, if_at, is_define, post_by, post_first, for_post, for_second, for_test, for_clauses, for_from, for_begins, for_first, for_at}
use Rattle.go_parse_reader.proofs.TypesMarks.{mark_was, bind_ok, need_ok, AgreesAt, bind_agrees, agrees_along}
use Rattle.go_parse_reader.proofs.TypesLists.{ReadsItem}
use Rattle.go_parse_reader.proofs.ExprsExprFound.{expr_complete}
use Rattle.go_parse_reader.proofs.ExprsExprSound.{expr_sound}
use Rattle.go_parse_reader.proofs.ExprsExprLists.{exprs_complete}
use Rattle.go_parse_core.proofs.StmtsEnds.{ends_semicolon, ends_block, expr_begins, simple_begins}
use Rattle.go_parse_core.proofs.StmtsSimple.{front, behind, front_low, front_found, from_found, behind_no_block, ReadsSimple, ReadsFront, front_sound, from_sound, single_sound}

-- The head of `if`.

condition_found : (init : Option (Option SimpleTree × Span)) (t : ExprTree) (b : ℕ) (a : Span) (after : List Terminal) → Wf_init init → Wf true t → AgreesAt (if_at b ((spell_init init ++ spell t) ++ (mark operator.OpenBrace a ∷ after))) (Ok (if_tree init t, mark operator.OpenBrace a ∷ after)) b (max (init_height init) (height t))
condition_found None t b a after wi wf =
    let rest = mark operator.OpenBrace a ∷ after in
    let h = max 0 (height t) in
    agrees_along _ _ _ b h (ap (if_first b (spell t ++ rest)) (expr_begins true t rest wf).no_semicolon)
    (bind_agrees (exprs_at b true (spell t ++ rest)) (One t, rest) (λ x. if_from b x.0 x.1 (mark_at operator.OpenBrace x.1)) (Ok (if_tree None t, rest)) b (height t) b h
    (exprs_complete (One t) true b rest wf (ends_block a after).stops) (inl refl) (λ h. omega arith))
condition_found (Some (None, s)) t b a after wi wf =
    let rest = mark operator.OpenBrace a ∷ after in
    bind_agrees (expr_at b true 1 (spell t ++ rest)) (t, rest) (λ t. Ok (if_tree (Some (None, s)) t.0, t.1)) (Ok (if_tree (Some (None, s)) t, rest)) b (height t) b (max 0 (height t))
    (expr_complete t true b rest wf (ends_block a after).stops.0) (inl refl) (λ h. omega arith)
condition_found (Some (Some c, s)) t b a after wi wf =
    let rest = mark operator.OpenBrace a ∷ after in
    let semicolon = mark operator.Semicolon s in
    let tail = semicolon ∷ (spell t ++ rest) in
    let goal : Reading IfTree = Ok (if_tree (Some (Some c, s)) t, rest) in
    let h = max (simple_height c) (height t) in
    let ts = spell_simple c ++ tail in
    let ends = ends_semicolon true s (spell t ++ rest) in
    let is : ((spell_simple c ++ (semicolon ∷ [])) ++ spell t) ++ rest ≡ ts = append_assoc (spell_simple c ++ (semicolon ∷ [])) (spell t) rest ∙ append_assoc (spell_simple c) (semicolon ∷ []) (spell t ++ rest) in
    agrees_along _ _ _ b h (ap (if_at b) is ∙ ap (if_first b ts) (simple_begins true c tail wi).no_semicolon)
    (bind_agrees (exprs_at b true ts) (front c, behind c ++ tail) (λ x. if_from b x.0 x.1 (mark_at operator.OpenBrace x.1)) goal b (exprs_height (front c)) b h
    (front_found c b true tail wi ends)
    (agrees_along _ _ _ b h (ap (if_from b (front c) (behind c ++ tail)) (behind_no_block true c s (spell t ++ rest) wi))
    (bind_agrees (simple_from b true (front c) (behind c ++ tail)) (c, tail) (λ i. if_init b i.0 (mark_at operator.Semicolon i.1)) goal b (simple_height c) b h
    (from_found c b true tail wi ends)
    (bind_agrees (expr_at b true 1 (spell t ++ rest)) (t, rest) (λ t. Ok (if_tree (Some (Some c, s)) t.0, t.1)) goal b (height t) b h
    (expr_complete t true b rest wf (ends_block a after).stops.0) (inl refl) (λ g. omega arith))
    (λ g. omega arith)))
    (λ g. omega (arith, front_low c)))

-- a head that is spelled before a block is read, unless it is too high
pub if_complete : (head : IfTree) (b : ℕ) (a : Span) (after : List Terminal) → Wf_if head → AgreesAt (if_at b (spell_if head ++ (mark operator.OpenBrace a ∷ after))) (Ok (head, mark operator.OpenBrace a ∷ after)) b (if_height head)
if_complete head b a after wf = condition_found head.init head.condition b a after wf.0 wf.1

-- The head of `for`, from its last part to its first.

post_allowed : (init : Option SimpleTree) (s : Span) (test : Option ExprTree) (z : Span) (c : SimpleTree) (rest : List Terminal) → IsPost (Some c) → post_by init s test z (c, rest) ≡ Ok (Clauses init s test z (Some c), rest)
post_allowed init s test z (Define xs r es) rest h = absurd h
post_allowed init s test z (Alone t) rest h = refl
post_allowed init s test z (Step t o r) rest h = refl
post_allowed init s test z (Assign es r more) rest h = refl
post_allowed init s test z (Update t o r e) rest h = refl

post_found : (post : Option SimpleTree) (init : Option SimpleTree) (s : Span) (test : Option ExprTree) (z : Span) (n : ℕ) (a : Span) (after : List Terminal) → Wf_some_simple post → IsPost post → AgreesAt (for_post n init s test z (spell_some_simple post ++ (mark operator.OpenBrace a ∷ after)) (mark_at operator.OpenBrace (spell_some_simple post ++ (mark operator.OpenBrace a ∷ after)))) (Ok (Clauses init s test z post, mark operator.OpenBrace a ∷ after)) n (some_simple_height post)
post_found None init s test z n a after wf may = inl refl
post_found (Some c) init s test z n a after wf may =
    let rest = mark operator.OpenBrace a ∷ after in
    let ts = spell_simple c ++ rest in
    let h = simple_height c in
    let ends = ends_block a after in
    agrees_along _ _ _ n h (ap (for_post n init s test z ts) (simple_begins true c rest wf).no_block)
    (bind_agrees (post_first n ts) (c, rest) (post_by init s test z) (Ok (Clauses init s test z (Some c), rest)) n h n h
    (bind_agrees (exprs_at n true ts) (front c, behind c ++ rest) (λ x. simple_from n true x.0 x.1) (Ok (c, rest)) n (exprs_height (front c)) n h
    (front_found c n true rest wf ends) (from_found c n true rest wf ends) (λ g. omega (arith, front_low c)))
    (inl (post_allowed init s test z c rest may)) (λ h. h))

abbrev behind_init : Option ExprTree → Span → Option SimpleTree → List Terminal → List Terminal
behind_init test z post rest = spell_some_expr test ++ (mark operator.Semicolon z ∷ (spell_some_simple post ++ rest))

clauses_found : (test : Option ExprTree) (post : Option SimpleTree) (init : Option SimpleTree) (s z : Span) (n : ℕ) (a : Span) (after : List Terminal) → Wf_some_expr test → Wf_some_simple post → IsPost post → AgreesAt (for_clauses n init (Some (s, behind_init test z post (mark operator.OpenBrace a ∷ after)))) (Ok (Clauses init s test z post, mark operator.OpenBrace a ∷ after)) n (max (some_expr_height test) (some_simple_height post))
clauses_found None post init s z n a after wt wp may =
    elim (post_found post init s None z n a after wp may) [ inl e ↦ inl e | inr g ↦ inr (g.0, omega (arith, g.1)) ]
clauses_found (Some t) post init s z n a after wt wp may =
    let rest = mark operator.OpenBrace a ∷ after in
    let more = spell_some_simple post ++ rest in
    let tail = mark operator.Semicolon z ∷ more in
    let ts = spell t ++ tail in
    let h = max (height t) (some_simple_height post) in
    agrees_along _ _ _ n h (ap (for_test n init s ts) (expr_begins true t tail wt).no_semicolon)
    (bind_agrees (expr_at n true 1 ts) (t, tail) (λ y. for_second n init s (Some y.0) (mark_at operator.Semicolon y.1)) (Ok (Clauses init s (Some t) z post, rest)) n (height t) n h
    (expr_complete t true n tail wt (ends_semicolon true z more).stops.0)
    (elim (post_found post init s (Some t) z n a after wp may) [ inl e ↦ inl e | inr g ↦ inr (g.0, omega (arith, g.1)) ])
    (λ g. omega arith))

behind_assoc : (test : Option ExprTree) (z : Span) (post : Option SimpleTree) (rest : List Terminal) → (spell_some_expr test ++ (mark operator.Semicolon z ∷ spell_some_simple post)) ++ rest ≡ behind_init test z post rest
behind_assoc test z post rest = append_assoc (spell_some_expr test) (mark operator.Semicolon z ∷ spell_some_simple post) rest

-- a head that is spelled before a block is read, unless it is too high
pub for_complete : (head : ForTree) (n : ℕ) (a : Span) (after : List Terminal) → Wf_for head → AgreesAt (for_at n (spell_for head ++ (mark operator.OpenBrace a ∷ after))) (Ok (head, mark operator.OpenBrace a ∷ after)) n (for_height head)
for_complete Forever n a after wf = inl refl
for_complete (While t) n a after wf =
    let rest = mark operator.OpenBrace a ∷ after in
    let ts = spell t ++ rest in
    let begins = expr_begins true t rest wf in
    agrees_along _ _ _ n (height t) (ap (for_first n ts) begins.no_block ∙ ap (for_begins n ts) begins.no_semicolon)
    (bind_agrees (exprs_at n true ts) (One t, rest) (λ x. for_from n x.0 x.1 (mark_at operator.OpenBrace x.1)) (Ok (While t, rest)) n (height t) n (height t)
    (exprs_complete (One t) true n rest wf (ends_block a after).stops) (inl refl) (λ h. h))
for_complete (Clauses None s test z post) n a after wf =
    let rest = mark operator.OpenBrace a ∷ after in
    agrees_along _ _ _ n (for_height (Clauses None s test z post)) (ap (λ l. for_clauses n None (Some (s, l))) (behind_assoc test z post rest))
    (elim (clauses_found test post None s z n a after wf.1 wf.2 wf.3) [ inl e ↦ inl e | inr g ↦ inr (g.0, omega (arith, g.1)) ])
for_complete (Clauses (Some c) s test z post) n a after wf =
    let rest = mark operator.OpenBrace a ∷ after in
    let semicolon = mark operator.Semicolon s in
    let more = behind_init test z post rest in
    let tail = semicolon ∷ more in
    let new = Clauses (Some c) s test z post in
    let h = for_height new in
    let ts = spell_simple c ++ tail in
    let ends = ends_semicolon true s more in
    let begins = simple_begins true c tail wf.0 in
    let is : spell_for new ++ rest ≡ ts = append_assoc (spell_simple c) (semicolon ∷ (spell_some_expr test ++ (mark operator.Semicolon z ∷ spell_some_simple post))) rest ∙ ap (λ l. spell_simple c ++ (semicolon ∷ l)) (behind_assoc test z post rest) in
    agrees_along _ _ _ n h (ap (for_at n) is ∙ ap (for_first n ts) begins.no_block ∙ ap (for_begins n ts) begins.no_semicolon)
    (bind_agrees (exprs_at n true ts) (front c, behind c ++ tail) (λ x. for_from n x.0 x.1 (mark_at operator.OpenBrace x.1)) (Ok (new, rest)) n (exprs_height (front c)) n h
    (front_found c n true tail wf.0 ends)
    (agrees_along _ _ _ n h (ap (for_from n (front c) (behind c ++ tail)) (behind_no_block true c s more wf.0))
    (bind_agrees (simple_from n true (front c) (behind c ++ tail)) (c, tail) (λ y. for_clauses n (Some y.0) (mark_at operator.Semicolon y.1)) (Ok (new, rest)) n (simple_height c) n h
    (from_found c n true tail wf.0 ends)
    (elim (clauses_found test post (Some c) s z n a after wf.1 wf.2 wf.3) [ inl e ↦ inl e | inr g ↦ inr (g.0, omega (arith, g.1)) ])
    (λ g. omega arith)))
    (λ g. omega (arith, front_low c)))

-- Soundness.

abbrev pub ReadsIf : ℕ → List Terminal → IfTree × List Terminal → Type 0
ReadsIf b ts x = ReadsItem IfTree spell_if if_height Wf_if b ts x

abbrev pub ReadsFor : ℕ → List Terminal → ForTree × List Terminal → Type 0
ReadsFor b ts x = ReadsItem ForTree spell_for for_height Wf_for b ts x

if_init_reads : (b : ℕ) (ts : List Terminal) (c : SimpleTree × List Terminal) → ReadsSimple b true ts c → (m : MarkAhead) → mark_at operator.Semicolon c.1 ≡ m → (y : IfTree × List Terminal) → if_init b c.0 m ≡ Ok y → ReadsIf b ts y
if_init_reads b ts c r None at y e = cc
if_init_reads b ts c r (Some s) at y e =
    let w = bind_ok (expr_at b true 1 s.1) (λ t. Ok (if_tree (Some (Some c.0, s.0)) t.0, t.1)) y e in
    let q = expr_sound b true s.1 w.0 w.1 in
    let same : (if_tree (Some (Some c.0, s.0)) w.0.0, w.0.1) ≡ y = cc (w.2) in
    let semicolon = mark operator.Semicolon s.0 in
    let path : ts ≡ ((spell_simple c.0 ++ (semicolon ∷ [])) ++ spell w.0.0) ++ w.0.1 =
    r.spelled_as ∙ ap (λ l. spell_simple c.0 ++ l) (mark_was operator.Semicolon c.1 s at ∙ ap (λ l. semicolon ∷ l) q.spelled) ∙ sym (append_assoc (spell_simple c.0) (semicolon ∷ []) (spell w.0.0 ++ w.0.1)) ∙ sym (append_assoc (spell_simple c.0 ++ (semicolon ∷ [])) (spell w.0.0) w.0.1) in
    subst (ReadsIf b ts) same (record { spelled_as = path; wf = (r.wf, q.wf); low = omega (arith, r.low, q.low) })

if_from_reads : (b : ℕ) (ts : List Terminal) (x : Separated ExprTree × List Terminal) → ReadsFront b true ts x → (m : MarkAhead) → mark_at operator.OpenBrace x.1 ≡ m → (y : IfTree × List Terminal) → if_from b x.0 x.1 m ≡ Ok y → ReadsIf b ts y
if_from_reads b ts x r None at y e =
    let w = bind_ok (simple_from b true x.0 x.1) (λ i. if_init b i.0 (mark_at operator.Semicolon i.1)) y e in
    if_init_reads b ts w.0 (from_sound b true ts x r w.0 w.1) (mark_at operator.Semicolon w.0.1) refl y w.2
if_from_reads b ts x r (Some a) at y e =
    let w = bind_ok (need (single x.0)) (λ t. Ok (if_tree None t, x.1)) y e in
    let q = single_sound b true ts x r w.0 (need_ok (single x.0) w.0 w.1) in
    let same : (if_tree None w.0, x.1) ≡ y = cc (w.2) in
    subst (ReadsIf b ts) same (record { spelled_as = q.spelled_as; wf = (tt, q.wf); low = omega (arith, q.low) })

if_first_reads : (b : ℕ) (ts : List Terminal) (m : MarkAhead) → mark_at operator.Semicolon ts ≡ m → (y : IfTree × List Terminal) → if_first b ts m ≡ Ok y → ReadsIf b ts y
if_first_reads b ts None at y e =
    let w = bind_ok (exprs_at b true ts) (λ x. if_from b x.0 x.1 (mark_at operator.OpenBrace x.1)) y e in
    if_from_reads b ts w.0 (front_sound b true ts w.0 w.1) (mark_at operator.OpenBrace w.0.1) refl y w.2
if_first_reads b ts (Some s) at y e =
    let w = bind_ok (expr_at b true 1 s.1) (λ t. Ok (if_tree (Some (None, s.0)) t.0, t.1)) y e in
    let q = expr_sound b true s.1 w.0 w.1 in
    let same : (if_tree (Some (None, s.0)) w.0.0, w.0.1) ≡ y = cc (w.2) in
    subst (ReadsIf b ts) same (record { spelled_as = mark_was operator.Semicolon ts s at ∙ ap (λ l. mark operator.Semicolon s.0 ∷ l) q.spelled; wf = (tt, q.wf); low = omega (arith, q.low) })

-- a head that is read is spelled in front
pub if_sound : (b : ℕ) (ts : List Terminal) (y : IfTree × List Terminal) → if_at b ts ≡ Ok y → ReadsIf b ts y
if_sound b ts y e = if_first_reads b ts (mark_at operator.Semicolon ts) refl y e

-- what stands behind the first semicolon of a `for`
record ReadsClauses (n : ℕ) (init : Option SimpleTree) (s : Span) (ts : List Terminal) (y : ForTree × List Terminal) : Type 0 where
  pub test : Option ExprTree
  pub z : Span
  pub post : Option SimpleTree
  pub is : Clauses init s test z post ≡ y.0
  pub spelled : ts ≡ behind_init test z post y.1
  pub wt : Wf_some_expr test
  pub wp : Wf_some_simple post
  pub may : IsPost post
  pub low_test : some_expr_height test ≤ n
  pub low_post : some_simple_height post ≤ n

-- what stands behind the second
record ReadsPost (n : ℕ) (init : Option SimpleTree) (s : Span) (test : Option ExprTree) (z : Span) (ts : List Terminal) (y : ForTree × List Terminal) : Type 0 where
  pub post : Option SimpleTree
  pub is : Clauses init s test z post ≡ y.0
  pub spelled : ts ≡ spell_some_simple post ++ y.1
  pub wp : Wf_some_simple post
  pub may : IsPost post
  pub low : some_simple_height post ≤ n

no_define : (c : SimpleTree) → is_define c ≡ false → IsPost (Some c)
no_define (Define xs s es) e = cc
no_define (Alone t) e = tt
no_define (Step t o s) e = tt
no_define (Assign es s more) e = tt
no_define (Update t o s x) e = tt

post_if : (n : ℕ) (init : Option SimpleTree) (s : Span) (test : Option ExprTree) (z : Span) (ts : List Terminal) (c : SimpleTree × List Terminal) → ReadsSimple n true ts c → (bad : Bool) → is_define c.0 ≡ bad → (y : ForTree × List Terminal) → cond bad (Err Grammar) (Ok (Clauses init s test z (Some c.0), c.1)) ≡ Ok y → ReadsPost n init s test z ts y
post_if n init s test z ts c r true bad y e = cc
post_if n init s test z ts c r false bad y e =
    let same : (Clauses init s test z (Some c.0), c.1) ≡ y = cc in
    subst (ReadsPost n init s test z ts) same (record { post = Some c.0; is = refl; spelled = r.spelled_as; wp = r.wf; may = no_define c.0 bad; low = r.low })

post_sound : (n : ℕ) (init : Option SimpleTree) (s : Span) (test : Option ExprTree) (z : Span) (ts : List Terminal) (m : MarkAhead) (y : ForTree × List Terminal) → for_post n init s test z ts m ≡ Ok y → ReadsPost n init s test z ts y
post_sound n init s test z ts (Some a) y e =
    let same : (Clauses init s test z None, ts) ≡ y = cc in
    subst (ReadsPost n init s test z ts) same (record { post = None; is = refl; spelled = refl; wp = tt; may = tt; low = omega arith })
post_sound n init s test z ts None y e =
    let c = bind_ok (post_first n ts) (post_by init s test z) y e in
    let w = bind_ok (exprs_at n true ts) (λ x. simple_from n true x.0 x.1) c.0 c.1 in
    let r = from_sound n true ts w.0 (front_sound n true ts w.0 w.1) c.0 w.2 in
    post_if n init s test z ts c.0 r (is_define c.0.0) refl y c.2

second_sound : (n : ℕ) (init : Option SimpleTree) (s : Span) (test : Option ExprTree) → Wf_some_expr test → some_expr_height test ≤ n → (ts more : List Terminal) → ts ≡ spell_some_expr test ++ more → (m : MarkAhead) → mark_at operator.Semicolon more ≡ m → (y : ForTree × List Terminal) → for_second n init s test m ≡ Ok y → ReadsClauses n init s ts y
second_sound n init s test wt low ts more is None at y e = cc
second_sound n init s test wt low ts more is (Some z) at y e =
    let r = post_sound n init s test z.0 z.1 (mark_at operator.OpenBrace z.1) y e in
    let path : ts ≡ behind_init test z.0 r.post y.1 = is ∙ ap (λ l. spell_some_expr test ++ l) (mark_was operator.Semicolon more z at ∙ ap (λ l. mark operator.Semicolon z.0 ∷ l) r.spelled) in
    record { test = test; z = z.0; post = r.post; is = r.is; spelled = path; wt = wt; wp = r.wp; may = r.may; low_test = low; low_post = r.low }

test_sound : (n : ℕ) (init : Option SimpleTree) (s : Span) (ts : List Terminal) (m : MarkAhead) → mark_at operator.Semicolon ts ≡ m → (y : ForTree × List Terminal) → for_test n init s ts m ≡ Ok y → ReadsClauses n init s ts y
test_sound n init s ts (Some z) at y e = second_sound n init s None tt (omega arith) ts ts refl (Some z) at y e
test_sound n init s ts None at y e =
    let t = bind_ok (expr_at n true 1 ts) (λ t. for_second n init s (Some t.0) (mark_at operator.Semicolon t.1)) y e in
    let r = expr_sound n true ts t.0 t.1 in
    second_sound n init s (Some t.0.0) r.wf r.low ts t.0.1 r.spelled (mark_at operator.Semicolon t.0.1) refl y t.2

clauses_sound : (n : ℕ) (init : Option SimpleTree) → Wf_some_simple init → some_simple_height init ≤ n → (ts more : List Terminal) → ts ≡ spell_some_simple init ++ more → (m : MarkAhead) → mark_at operator.Semicolon more ≡ m → (y : ForTree × List Terminal) → for_clauses n init m ≡ Ok y → ReadsFor n ts y
clauses_sound n init wi low ts more is None at y e = cc
clauses_sound n init wi low ts more is (Some s) at y e =
    let r = test_sound n init s.0 s.1 (mark_at operator.Semicolon s.1) refl y e in
    let made = Clauses init s.0 r.test r.z r.post in
    let semicolon = mark operator.Semicolon s.0 in
    let tail = spell_some_expr r.test ++ (mark operator.Semicolon r.z ∷ spell_some_simple r.post) in
    let path : ts ≡ (spell_some_simple init ++ (semicolon ∷ tail)) ++ y.1 =
    is ∙ ap (λ l. spell_some_simple init ++ l) (mark_was operator.Semicolon more s at ∙ ap (λ l. semicolon ∷ l) (r.spelled ∙ sym (behind_assoc r.test r.z r.post y.1))) ∙ sym (append_assoc (spell_some_simple init) (semicolon ∷ tail) y.1) in
    subst (λ f. ReadsFor n ts (f, y.1)) r.is (record { spelled_as = path; wf = (wi, r.wt, r.wp, r.may); low = omega (arith, low, r.low_test, r.low_post) })

for_from_reads : (n : ℕ) (ts : List Terminal) (x : Separated ExprTree × List Terminal) → ReadsFront n true ts x → (m : MarkAhead) → mark_at operator.OpenBrace x.1 ≡ m → (y : ForTree × List Terminal) → for_from n x.0 x.1 m ≡ Ok y → ReadsFor n ts y
for_from_reads n ts x r None at y e =
    let c = bind_ok (simple_from n true x.0 x.1) (λ i. for_clauses n (Some i.0) (mark_at operator.Semicolon i.1)) y e in
    let q = from_sound n true ts x r c.0 c.1 in
    clauses_sound n (Some c.0.0) q.wf q.low ts c.0.1 q.spelled_as (mark_at operator.Semicolon c.0.1) refl y c.2
for_from_reads n ts x r (Some a) at y e =
    let w = bind_ok (need (single x.0)) (λ t. Ok (While t, x.1)) y e in
    let q = single_sound n true ts x r w.0 (need_ok (single x.0) w.0 w.1) in
    let same : (While w.0, x.1) ≡ y = cc (w.2) in
    subst (ReadsFor n ts) same (record { spelled_as = q.spelled_as; wf = q.wf; low = q.low })

for_begins_reads : (n : ℕ) (ts : List Terminal) (m : MarkAhead) → mark_at operator.Semicolon ts ≡ m → (y : ForTree × List Terminal) → for_begins n ts m ≡ Ok y → ReadsFor n ts y
for_begins_reads n ts (Some s) at y e = clauses_sound n None tt (omega arith) ts ts refl (Some s) at y e
for_begins_reads n ts None at y e =
    let w = bind_ok (exprs_at n true ts) (λ x. for_from n x.0 x.1 (mark_at operator.OpenBrace x.1)) y e in
    for_from_reads n ts w.0 (front_sound n true ts w.0 w.1) (mark_at operator.OpenBrace w.0.1) refl y w.2

for_first_reads : (n : ℕ) (ts : List Terminal) (m : MarkAhead) (y : ForTree × List Terminal) → for_first n ts m ≡ Ok y → ReadsFor n ts y
for_first_reads n ts (Some a) y e =
    let same : (Forever, ts) ≡ y = cc in
    subst (ReadsFor n ts) same (record { spelled_as = refl; wf = tt; low = omega arith })
for_first_reads n ts None y e = for_begins_reads n ts (mark_at operator.Semicolon ts) refl y e

-- a head that is read is spelled in front
pub for_sound : (n : ℕ) (ts : List Terminal) (y : ForTree × List Terminal) → for_at n ts ≡ Ok y → ReadsFor n ts y
for_sound n ts y e = for_first_reads n ts (mark_at operator.OpenBrace ts) y e
