-- Reading finds the simple statements that are spelled, and no others.
use Rattle.std.proofs.Common.{◌≡◌, ℕ, zero, suc, ◌<◌, Bool, true, false, List, [], ◌∷◌, ◌++◌, Option, Some, None, Ok, Err, refl, sym, ap, ◌∙◌, subst, arith, cond, inl, inr, append_assoc}
use Rattle.std.proofs.lemmas.Bool.{lt-ltb, le-ltb, ltb-true, cases_lt}
use Rattle.std.specs.Prelude.{nat_lt}
use Rattle.go_tree_nodes.specs.text_core.declared.span.Span.{Span}
use Rattle.go_tree_nodes.specs.token_core.declared.kind.Operator.{Operator}
use Rattle.go_tree_nodes.specs.token_core.declared.kind.Operator.TheVariants as operator
use Rattle.go_tree_nodes.specs.declared.names.Ident.{Ident}
use Rattle.go_tree_nodes.specs.Terminals.{Terminal}
use Rattle.go_tree_nodes.specs.Trees.{Separated, One, Then, ExprTree, Named, SimpleTree, Alone, Step, Assign, Update, Define}
use Rattle.go_tree_nodes.specs.Spelling.{mark, spell_idents, spell, spell_exprs, spell_simple}
use Rattle.go_tree_nodes.specs.Rules.{is_step, is_update, Wf, Wf_exprs, Wf_simple}
use Rattle.go_tree_nodes.specs.Heights.{height, exprs_height, simple_height}
use Rattle.go_parse_reader.specs.types.mirrors.Marks.{TooHigh, ◌>>=◌, MarkAhead, need, mark_at, mark_that}
use Rattle.go_parse_reader.specs.exprs.mirrors.ExprReading.{expr_at, exprs_at}
use Rattle.go_tree_nodes.specs.Naming.{name_of}
use Rattle.go_parse_core.specs.stmts.mirrors.StmtReading.{single, names_then, names_one, names_more, names_of, alone_by, update_by, step_by, assign_by, define_by, simple_by, simple_at, simple_from}
use Rattle.go_parse_reader.proofs.TypesMarks.{mark_was, mark_that_was, bind_ok, need_ok, AgreesAt, bind_agrees, agrees_along}
use Rattle.go_parse_reader.proofs.TypesLists.{ReadsItem}
use Rattle.go_parse_reader.proofs.ExprsExprFound.{expr_complete}
use Rattle.go_parse_reader.proofs.ExprsExprSound.{expr_sound}
use Rattle.go_parse_reader.proofs.ExprsExprLists.{StopsList, exprs_complete, exprs_sound, exprs_height_some, names_as_exprs, names_spelled, names_wf, names_height}
use Rattle.go_parse_core.proofs.StmtsEnds.{Ends, stops_define, stops_assign, step_behind, update_behind, update_no_step}

-- names as expressions

names_of_names : (xs : Separated Ident) → names_of (names_as_exprs xs) ≡ Some xs
names_of_names (One x) = refl
names_of_names (Then x comma more) = ap (names_then x comma) (names_of_names more)

one_were : (t : ExprTree) (xs : Separated Ident) → names_one (name_of t) ≡ Some xs → One t ≡ names_as_exprs xs
one_were (Named x) xs e = let same : One x ≡ xs = cc in ap names_as_exprs same
one_were _ xs e = cc

then_were : (t : ExprTree) (comma : Span) (more : Separated ExprTree) → ((ys : Separated Ident) → names_of more ≡ Some ys → more ≡ names_as_exprs ys) → (found : Option (Separated Ident)) → names_of more ≡ found → (xs : Separated Ident) → names_more (name_of t) comma found ≡ Some xs → Then t comma more ≡ names_as_exprs xs
then_were (Named x) comma more ih None at xs e = cc
then_were (Named x) comma more ih (Some ys) at xs e =
    let same : Then x comma ys ≡ xs = cc in ap (Then (Named x) comma) (ih ys at) ∙ ap names_as_exprs same
then_were _ comma more ih found at xs e = cc

-- expressions that are names are those names
names_were : (es : Separated ExprTree) (xs : Separated Ident) → names_of es ≡ Some xs → es ≡ names_as_exprs xs
names_were (One t) xs e = one_were t xs e
names_were (Then t comma more) xs e = then_were t comma more (names_were more) (names_of more) refl xs e

single_was : (es : Separated ExprTree) (t : ExprTree) → single es ≡ Some t → es ≡ One t
single_was (One u) t e = let same : u ≡ t = cc in ap One same
single_was (Then u comma more) t e = cc

-- a simple statement is expressions and what follows them
abbrev pub front : SimpleTree → Separated ExprTree
front (Alone t) = One t
front (Step t o s) = One t
front (Assign es s more) = es
front (Update t o s e) = One t
front (Define xs s es) = names_as_exprs xs

abbrev pub behind : SimpleTree → List Terminal
behind (Alone t) = []
behind (Step t o s) = mark o s ∷ []
behind (Assign es s more) = mark operator.Assign s ∷ spell_exprs more
behind (Update t o s e) = mark o s ∷ spell e
behind (Define xs s es) = mark operator.Define s ∷ spell_exprs es

cut : (c : SimpleTree) (rest : List Terminal) → spell_simple c ++ rest ≡ spell_exprs (front c) ++ (behind c ++ rest)
cut (Alone t) rest = refl
cut (Step t o s) rest = append_assoc (spell t) (mark o s ∷ []) rest
cut (Assign es s more) rest = append_assoc (spell_exprs es) (mark operator.Assign s ∷ spell_exprs more) rest
cut (Update t o s e) rest = append_assoc (spell t) (mark o s ∷ spell e) rest
cut (Define xs s es) rest = append_assoc (spell_idents xs) (mark operator.Define s ∷ spell_exprs es) rest ∙ ap (λ l. l ++ (behind (Define xs s es) ++ rest)) (sym (names_spelled xs))

front_wf : (header : Bool) (c : SimpleTree) → Wf_simple header c → Wf_exprs header (front c)
front_wf header (Alone t) wf = wf
front_wf header (Step t o s) wf = wf.1
front_wf header (Assign es s more) wf = wf.0
front_wf header (Update t o s e) wf = wf.1
front_wf header (Define xs s es) wf = names_wf header xs

front_stops : (header : Bool) (c : SimpleTree) (rest : List Terminal) → Wf_simple header c → Ends header rest → StopsList header (behind c ++ rest)
front_stops header (Alone t) rest wf ends = ends.stops
front_stops header (Step t o s) rest wf ends = (step_behind header o s rest wf.0).stops
front_stops header (Assign es s more) rest wf ends = stops_assign header s _
front_stops header (Update t o s e) rest wf ends = (update_behind header o s (spell e ++ rest) wf.0).stops
front_stops header (Define xs s es) rest wf ends = stops_define header s _

pub front_low : (c : SimpleTree) → exprs_height (front c) < simple_height c
front_low (Alone t) = omega arith
front_low (Step t o s) = omega arith
front_low (Assign es s more) = omega arith
front_low (Update t o s e) = omega arith
front_low (Define xs s es) = omega (arith, names_height xs, exprs_height_some es)

-- no block begins behind the first expressions of a statement that a semicolon ends
pub behind_no_block : (header : Bool) (c : SimpleTree) (s : Span) (ts : List Terminal) → Wf_simple header c → mark_at operator.OpenBrace (behind c ++ (mark operator.Semicolon s ∷ ts)) ≡ None
behind_no_block header (Alone t) s ts wf = refl
behind_no_block header (Step t o r) s ts wf = (step_behind header o r (mark operator.Semicolon s ∷ ts) wf.0).no_block
behind_no_block header (Assign es r more) s ts wf = refl
behind_no_block header (Update t o r e) s ts wf = (update_behind header o r (spell e ++ (mark operator.Semicolon s ∷ ts)) wf.0).no_block
behind_no_block header (Define xs r es) s ts wf = refl

-- the first expressions are read
pub front_found : (c : SimpleTree) (b : ℕ) (header : Bool) (rest : List Terminal) → Wf_simple header c → Ends header rest → AgreesAt (exprs_at b header (spell_simple c ++ rest)) (Ok (front c, behind c ++ rest)) b (exprs_height (front c))
front_found c b header rest wf ends =
    agrees_along _ _ _ b (exprs_height (front c)) (ap (exprs_at b header) (cut c rest))
    (exprs_complete (front c) header b (behind c ++ rest) (front_wf header c wf) (front_stops header c rest wf ends))

-- and from there on the statement
by_found : (c : SimpleTree) (b : ℕ) (header : Bool) (rest : List Terminal) → Wf_simple header c → Ends header rest → AgreesAt (simple_by b header (front c) (behind c ++ rest)) (Ok (c, rest)) (suc b) (simple_height c)
by_found (Alone t) b header rest wf ends =
    inl (ap (define_by b header (One t) rest) ends.define ∙ ap (assign_by b header (One t) rest) ends.assign ∙ ap (step_by b header (One t) rest) ends.step ∙ ap (update_by b header (One t) rest) ends.update)
by_found (Step t o s) b header rest wf ends =
    let ts = mark o s ∷ rest in
    let is = step_behind header o s rest wf.0 in
    inl (ap (define_by b header (One t) ts) is.define ∙ ap (assign_by b header (One t) ts) is.assign ∙ ap (λ c. step_by b header (One t) ts (cond c (Some (o, s, rest)) None)) wf.0)
by_found (Assign es s more) b header rest wf ends =
    bind_agrees (exprs_at b header (spell_exprs more ++ rest)) (more, rest) (λ y. Ok (Assign es s y.0, y.1)) (Ok (Assign es s more, rest)) b (exprs_height more) (suc b) (simple_height (Assign es s more))
    (exprs_complete more header b rest wf.1 ends.stops) (inl refl) (λ h. omega arith)
by_found (Update t o s e) b header rest wf ends =
    let right = spell e ++ rest in
    let ts = mark o s ∷ right in
    let is = update_behind header o s right wf.0 in
    let high = simple_height (Update t o s e) in
    agrees_along _ _ _ (suc b) high (ap (define_by b header (One t) ts) is.define ∙ ap (assign_by b header (One t) ts) is.assign ∙ ap (λ c. step_by b header (One t) ts (cond c (Some (o, s, right)) None)) (update_no_step o wf.0) ∙ ap (λ c. update_by b header (One t) ts (cond c (Some (o, s, right)) None)) wf.0)
    (bind_agrees (expr_at b header 1 right) (e, rest) (λ y. Ok (Update t o s y.0, y.1)) (Ok (Update t o s e, rest)) b (height e) (suc b) high
    (expr_complete e header b rest wf.2 ends.stops.0) (inl refl) (λ h. omega arith))
by_found (Define xs s es) b header rest wf ends =
    let right = spell_exprs es ++ rest in
    agrees_along _ _ _ (suc b) (simple_height (Define xs s es)) (ap (λ o. need o >>= λ xs. (exprs_at b header right >>= λ y. Ok (Define xs s y.0, y.1))) (names_of_names xs))
    (bind_agrees (exprs_at b header right) (es, rest) (λ y. Ok (Define xs s y.0, y.1)) (Ok (Define xs s es, rest)) b (exprs_height es) (suc b) (simple_height (Define xs s es))
    (exprs_complete es header b rest wf ends.stops) (inl refl) (λ h. omega arith))

-- a statement whose parts are read at b
pub simple_complete : (c : SimpleTree) (b : ℕ) (header : Bool) (rest : List Terminal) → Wf_simple header c → Ends header rest → AgreesAt (simple_at b header (spell_simple c ++ rest)) (Ok (c, rest)) (suc b) (simple_height c)
simple_complete c b header rest wf ends =
    bind_agrees (exprs_at b header (spell_simple c ++ rest)) (front c, behind c ++ rest) (λ x. simple_by b header x.0 x.1) (Ok (c, rest)) b (exprs_height (front c)) (suc b) (simple_height c)
    (front_found c b header rest wf ends) (by_found c b header rest wf ends) (λ h. omega (arith, front_low c))

-- a statement in a header, from its first expressions on
pub from_found : (c : SimpleTree) (n : ℕ) (header : Bool) (rest : List Terminal) → Wf_simple header c → Ends header rest → AgreesAt (simple_from n header (front c) (behind c ++ rest)) (Ok (c, rest)) n (simple_height c)
from_found c zero header rest wf ends = inr (refl, omega (arith, front_low c))
from_found c (suc b) header rest wf ends =
    let go = simple_by b header (front c) (behind c ++ rest) in
    elim (cases_lt (exprs_height (front c)) (suc b)) [
      | inl low ↦ agrees_along _ _ _ (suc b) (simple_height c) (ap (λ c. cond c go (Err TooHigh)) (lt-ltb _ _ low)) (by_found c b header rest wf ends)
      | inr high ↦ inr (ap (λ c. cond c go (Err TooHigh)) (le-ltb _ _ high), omega (arith, front_low c))
    ]

-- Soundness.

-- what was read is such a statement, at most b high
abbrev pub ReadsSimple : ℕ → Bool → List Terminal → SimpleTree × List Terminal → Type 0
ReadsSimple b header ts x = ReadsItem SimpleTree spell_simple simple_height (Wf_simple header) b ts x

abbrev pub ReadsFront : ℕ → Bool → List Terminal → Separated ExprTree × List Terminal → Type 0
ReadsFront b header ts x = ReadsItem (Separated ExprTree) spell_exprs exprs_height (Wf_exprs header) b ts x

pub front_sound : (b : ℕ) (header : Bool) (ts : List Terminal) (x : Separated ExprTree × List Terminal) → exprs_at b header ts ≡ Ok x → ReadsFront b header ts x
front_sound b header ts x e =
    let r = exprs_sound b header ts x e in
    record { spelled_as = r.spelled; wf = r.wf; low = r.low }

one_reads : (b : ℕ) (header : Bool) (ts : List Terminal) (x : Separated ExprTree × List Terminal) → ReadsFront b header ts x → (t : ExprTree) → single x.0 ≡ Some t → ReadsFront b header ts (One t, x.1)
one_reads b header ts x r t e = subst (λ es. ReadsFront b header ts (es, x.1)) (single_was x.0 t e) r

alone_reads : (b : ℕ) (header : Bool) (ts : List Terminal) (x : Separated ExprTree × List Terminal) → ReadsFront b header ts x → (y : SimpleTree × List Terminal) → alone_by x.0 x.1 ≡ Ok y → ReadsSimple (suc b) header ts y
alone_reads b header ts x r y e =
    let w = bind_ok (need (single x.0)) (λ t. Ok (Alone t, x.1)) y e in
    let q = one_reads b header ts x r w.0 (need_ok (single x.0) w.0 w.1) in
    let same : (Alone w.0, x.1) ≡ y = cc (w.2) in
    subst (ReadsSimple (suc b) header ts) same (record { spelled_as = q.spelled_as; wf = q.wf; low = omega (arith, q.low) })

update_reads : (b : ℕ) (header : Bool) (ts : List Terminal) (x : Separated ExprTree × List Terminal) → ReadsFront b header ts x → (m : Option (Operator × Span × List Terminal)) → mark_that is_update x.1 ≡ m → (y : SimpleTree × List Terminal) → update_by b header x.0 x.1 m ≡ Ok y → ReadsSimple (suc b) header ts y
update_reads b header ts x r None at y e = alone_reads b header ts x r y e
update_reads b header ts x r (Some o) at y e =
    let w = bind_ok (need (single x.0)) (λ t. (expr_at b header 1 o.2 >>= λ e. Ok (Update t o.0 o.1 e.0, e.1))) y e in
    let v = bind_ok (expr_at b header 1 o.2) (λ e. Ok (Update w.0 o.0 o.1 e.0, e.1)) y w.2 in
    let q = one_reads b header ts x r w.0 (need_ok (single x.0) w.0 w.1) in
    let p = expr_sound b header o.2 v.0 v.1 in
    let m = mark_that_was is_update x.1 o at in
    let same : (Update w.0 o.0 o.1 v.0.0, v.0.1) ≡ y = cc (v.2) in
    let sign = mark o.0 o.1 in
    let path : ts ≡ (spell w.0 ++ (sign ∷ spell v.0.0)) ++ v.0.1 = q.spelled_as ∙ ap (λ l. spell w.0 ++ l) (m.0 ∙ ap (λ l. sign ∷ l) p.spelled) ∙ sym (append_assoc (spell w.0) (sign ∷ spell v.0.0) v.0.1) in
    subst (ReadsSimple (suc b) header ts) same (record { spelled_as = path; wf = (m.1, q.wf, p.wf); low = omega (arith, q.low, p.low) })

step_reads : (b : ℕ) (header : Bool) (ts : List Terminal) (x : Separated ExprTree × List Terminal) → ReadsFront b header ts x → (m : Option (Operator × Span × List Terminal)) → mark_that is_step x.1 ≡ m → (y : SimpleTree × List Terminal) → step_by b header x.0 x.1 m ≡ Ok y → ReadsSimple (suc b) header ts y
step_reads b header ts x r None at y e = update_reads b header ts x r (mark_that is_update x.1) refl y e
step_reads b header ts x r (Some o) at y e =
    let w = bind_ok (need (single x.0)) (λ t. Ok (Step t o.0 o.1, o.2)) y e in
    let q = one_reads b header ts x r w.0 (need_ok (single x.0) w.0 w.1) in
    let m = mark_that_was is_step x.1 o at in
    let same : (Step w.0 o.0 o.1, o.2) ≡ y = cc (w.2) in
    let sign = mark o.0 o.1 in
    let path : ts ≡ (spell w.0 ++ (sign ∷ [])) ++ o.2 = q.spelled_as ∙ ap (λ l. spell w.0 ++ l) m.0 ∙ sym (append_assoc (spell w.0) (sign ∷ []) o.2) in
    subst (ReadsSimple (suc b) header ts) same (record { spelled_as = path; wf = (m.1, q.wf); low = omega (arith, q.low) })

assign_reads : (b : ℕ) (header : Bool) (ts : List Terminal) (x : Separated ExprTree × List Terminal) → ReadsFront b header ts x → (m : MarkAhead) → mark_at operator.Assign x.1 ≡ m → (y : SimpleTree × List Terminal) → assign_by b header x.0 x.1 m ≡ Ok y → ReadsSimple (suc b) header ts y
assign_reads b header ts x r None at y e = step_reads b header ts x r (mark_that is_step x.1) refl y e
assign_reads b header ts x r (Some s) at y e =
    let w = bind_ok (exprs_at b header s.1) (λ z. Ok (Assign x.0 s.0 z.0, z.1)) y e in
    let q = exprs_sound b header s.1 w.0 w.1 in
    let same : (Assign x.0 s.0 w.0.0, w.0.1) ≡ y = cc (w.2) in
    let sign = mark operator.Assign s.0 in
    let path : ts ≡ (spell_exprs x.0 ++ (sign ∷ spell_exprs w.0.0)) ++ w.0.1 = r.spelled_as ∙ ap (λ l. spell_exprs x.0 ++ l) (mark_was operator.Assign x.1 s at ∙ ap (λ l. sign ∷ l) q.spelled) ∙ sym (append_assoc (spell_exprs x.0) (sign ∷ spell_exprs w.0.0) w.0.1) in
    subst (ReadsSimple (suc b) header ts) same (record { spelled_as = path; wf = (r.wf, q.wf); low = omega (arith, r.low, q.low) })

define_reads : (b : ℕ) (header : Bool) (ts : List Terminal) (x : Separated ExprTree × List Terminal) → ReadsFront b header ts x → (m : MarkAhead) → mark_at operator.Define x.1 ≡ m → (y : SimpleTree × List Terminal) → define_by b header x.0 x.1 m ≡ Ok y → ReadsSimple (suc b) header ts y
define_reads b header ts x r None at y e = assign_reads b header ts x r (mark_at operator.Assign x.1) refl y e
define_reads b header ts x r (Some s) at y e =
    let n = bind_ok (need (names_of x.0)) (λ xs. (exprs_at b header s.1 >>= λ z. Ok (Define xs s.0 z.0, z.1))) y e in
    let w = bind_ok (exprs_at b header s.1) (λ z. Ok (Define n.0 s.0 z.0, z.1)) y n.2 in
    let q = exprs_sound b header s.1 w.0 w.1 in
    let same : (Define n.0 s.0 w.0.0, w.0.1) ≡ y = cc (w.2) in
    let sign = mark operator.Define s.0 in
    let left : spell_exprs x.0 ≡ spell_idents n.0 = ap spell_exprs (names_were x.0 n.0 (need_ok (names_of x.0) n.0 n.1)) ∙ names_spelled n.0 in
    let path : ts ≡ (spell_idents n.0 ++ (sign ∷ spell_exprs w.0.0)) ++ w.0.1 = r.spelled_as ∙ ap (λ l. l ++ x.1) left ∙ ap (λ l. spell_idents n.0 ++ l) (mark_was operator.Define x.1 s at ∙ ap (λ l. sign ∷ l) q.spelled) ∙ sym (append_assoc (spell_idents n.0) (sign ∷ spell_exprs w.0.0) w.0.1) in
    subst (ReadsSimple (suc b) header ts) same (record { spelled_as = path; wf = q.wf; low = omega (arith, q.low) })

-- a statement that is read is spelled in front
pub simple_sound : (b : ℕ) (header : Bool) (ts : List Terminal) (y : SimpleTree × List Terminal) → simple_at b header ts ≡ Ok y → ReadsSimple (suc b) header ts y
simple_sound b header ts y e =
    let w = bind_ok (exprs_at b header ts) (λ x. simple_by b header x.0 x.1) y e in
    define_reads b header ts w.0 (front_sound b header ts w.0 w.1) (mark_at operator.Define w.0.1) refl y w.2

from_if : (b : ℕ) (header : Bool) (ts : List Terminal) (x : Separated ExprTree × List Terminal) → ReadsFront (suc b) header ts x → (c : Bool) → nat_lt (exprs_height x.0) (suc b) ≡ c → (y : SimpleTree × List Terminal) → cond c (simple_by b header x.0 x.1) (Err TooHigh) ≡ Ok y → ReadsSimple (suc b) header ts y
from_if b header ts x r false test y e = cc
from_if b header ts x r true test y e =
    let lower = ltb-true (exprs_height x.0) (suc b) test in
    let q : ReadsFront b header ts x = record { spelled_as = r.spelled_as; wf = r.wf; low = omega (arith, lower) } in
    define_reads b header ts x q (mark_at operator.Define x.1) refl y e

-- and so is one that is read from its first expressions on
pub from_sound : (n : ℕ) (header : Bool) (ts : List Terminal) (x : Separated ExprTree × List Terminal) → ReadsFront n header ts x → (y : SimpleTree × List Terminal) → simple_from n header x.0 x.1 ≡ Ok y → ReadsSimple n header ts y
from_sound zero header ts x r y e = cc
from_sound (suc b) header ts x r y e = from_if b header ts x r (nat_lt (exprs_height x.0) (suc b)) refl y e

-- one expression, where a block follows
pub single_sound : (b : ℕ) (header : Bool) (ts : List Terminal) (x : Separated ExprTree × List Terminal) → ReadsFront b header ts x → (t : ExprTree) → single x.0 ≡ Some t → ReadsItem ExprTree spell height (Wf header) b ts (t, x.1)
single_sound b header ts x r t e =
    let q = one_reads b header ts x r t e in
    record { spelled_as = q.spelled_as; wf = q.wf; low = q.low }
