-- Reading finds the lists of expressions that are spelled, and no others.
use Rattle.std.proofs.Common.{◌≡◌, ℕ, zero, suc, ◌+◌, ◌<◌, ◌≤◌, max, Bool, true, false, List, ◌∷◌, ◌++◌, length, Some, None, Ok, refl, sym, ap, ◌∙◌, subst, arith, inl, inr, append_assoc, length-append}
use Rattle.go_tree_nodes.specs.text_core.declared.span.Span.{Span}
use Rattle.go_tree_nodes.specs.token_core.declared.kind.Keyword.{Keyword}
use Rattle.go_tree_nodes.specs.token_core.declared.kind.Keyword.TheVariants as keyword
use Rattle.go_tree_nodes.specs.token_core.declared.kind.Operator.{Operator}
use Rattle.go_tree_nodes.specs.token_core.declared.kind.Operator.TheVariants as operator
use Rattle.go_tree_nodes.specs.declared.names.Ident.{Ident}
use Rattle.go_tree_nodes.specs.declared.names.TextLiteral.{TextLiteral}
use Rattle.go_tree_nodes.specs.Terminals.{Number, Terminal, terminal}
use Rattle.go_tree_nodes.specs.Trees.{Separated, One, Then, ExprTree, Named}
use Rattle.go_tree_nodes.specs.Spelling.{mark, word, spell_ident, spell_idents, spell_text, spell, spell_exprs}
use Rattle.go_tree_nodes.specs.Rules.{is_unary, Wf_exprs}
use Rattle.go_tree_nodes.specs.Heights.{height, exprs_height}
use Rattle.go_parse_reader.specs.types.mirrors.Marks.{◌>>=◌, Reading, MarkAhead, same_operator, same_keyword, mark_at, keyword_at}
use Rattle.go_parse_reader.specs.exprs.mirrors.ExprReading.{next_at, expr_at, exprs_by, exprs_go, exprs_at}
use Rattle.go_parse_reader.proofs.TypesMarks.{mark_was, mark_not, word_not, AgreesAt, bind_agrees, agrees_along, bind_ok}
use Rattle.go_parse_reader.proofs.ExprsBehind.{not_unary, Stops, stops_mark}
use Rattle.go_parse_reader.proofs.ExprsFronts.{first_of, spell_some, height_some}
use Rattle.go_parse_reader.proofs.ExprsExprFound.{expr_complete}
use Rattle.go_parse_reader.proofs.ExprsExprSound.{ReadsExpr, expr_sound}

-- what stands in front does not go on with a list of expressions
abbrev pub StopsList : Bool → List Terminal → Type 0
StopsList header ts = Stops header 1 ts × (mark_at operator.Comma ts ≡ None)

abbrev count : Separated ExprTree → ℕ
count (One t) = 0
count (Then t comma more) = count more + 1

count_lt : (es : Separated ExprTree) → count es < length (spell_exprs es)
count_lt (One t) = spell_some t
count_lt (Then t comma more) = omega (arith, count_lt more, length-append (spell t) (mark operator.Comma comma ∷ spell_exprs more))

exprs_found : (es : Separated ExprTree) (header : Bool) (b k : ℕ) (rest : List Terminal) → Wf_exprs header es → StopsList header rest → count es < k → AgreesAt (exprs_go (expr_at b header 1) k (spell_exprs es ++ rest)) (Ok (es, rest)) b (exprs_height es)
unfolding exprs_go
exprs_found es header b zero rest wf stops enough = absurd (omega arith)
exprs_found (One t) header b (suc k) rest wf stops enough =
    bind_agrees (expr_at b header 1 (spell t ++ rest)) (t, rest) (λ x. exprs_by (exprs_go (expr_at b header 1) k) x.0 x.1 (mark_at operator.Comma x.1)) (Ok (One t, rest)) b (height t) b (height t)
    (expr_complete t header b rest wf stops.0) (inl (ap (exprs_by (exprs_go (expr_at b header 1) k) t rest) stops.1)) (λ h. h)
exprs_found (Then t comma more) header b (suc k) rest wf stops enough =
    let behind = mark operator.Comma comma ∷ (spell_exprs more ++ rest) in
    let go = λ (x : ExprTree × List Terminal). exprs_by (exprs_go (expr_at b header 1) k) x.0 x.1 (mark_at operator.Comma x.1) in
    let h = max (height t) (exprs_height more) in
    agrees_along _ _ _ b h (ap (λ ts. expr_at b header 1 ts >>= go) (append_assoc (spell t) (mark operator.Comma comma ∷ spell_exprs more) rest))
    (bind_agrees (expr_at b header 1 (spell t ++ behind)) (t, behind) go (Ok (Then t comma more, rest)) b (height t) b h
    (expr_complete t header b behind wf.0 (stops_mark header operator.Comma comma (spell_exprs more ++ rest) refl refl refl refl))
    (bind_agrees (exprs_go (expr_at b header 1) k (spell_exprs more ++ rest)) (more, rest) (λ x. Ok (Then t comma x.0, x.1)) (Ok (Then t comma more, rest)) b (exprs_height more) b h
    (exprs_found more header b k rest wf.1 stops (omega arith)) (inl refl) (λ g. omega arith))
    (λ g. omega arith))

pub exprs_complete : (es : Separated ExprTree) (header : Bool) (b : ℕ) (rest : List Terminal) → Wf_exprs header es → StopsList header rest → AgreesAt (exprs_at b header (spell_exprs es ++ rest)) (Ok (es, rest)) b (exprs_height es)
exprs_complete es header b rest wf stops =
    exprs_found es header b (suc (length (spell_exprs es ++ rest))) rest wf stops (omega (arith, count_lt es, length-append (spell_exprs es) rest))

-- what was read is spelled in front, respects the rules and is low enough; what is left goes on with no operator, no dot,
-- no opening parenthesis and no comma
pub record ReadsExprs (b : ℕ) (header : Bool) (ts : List Terminal) (x : Separated ExprTree × List Terminal) : Type 0 where
  pub spelled : ts ≡ spell_exprs x.0 ++ x.1
  pub wf : Wf_exprs header x.0
  pub low : exprs_height x.0 ≤ b
  pub stops : next_at 1 x.1 ≡ None
  pub no_comma : mark_at operator.Comma x.1 ≡ None

exprs_by_reads : (b : ℕ) (header : Bool) (more : List Terminal → Reading (Separated ExprTree)) → ((ts : List Terminal) (x : Separated ExprTree × List Terminal) → more ts ≡ Ok x → ReadsExprs b header ts x) → (ts : List Terminal) (y : ExprTree × List Terminal) → ReadsExpr b header ts y → (p : MarkAhead) → mark_at operator.Comma y.1 ≡ p → (x : Separated ExprTree × List Terminal) → exprs_by more y.0 y.1 p ≡ Ok x → ReadsExprs b header ts x
exprs_by_reads b header more ih ts y r None at x e =
    let same : (One y.0, y.1) ≡ x = cc in
    subst (ReadsExprs b header ts) same (record { spelled = r.spelled; wf = r.wf; low = r.low; stops = r.stops; no_comma = at })
exprs_by_reads b header more ih ts y r (Some comma) at x e =
    let w = bind_ok (more comma.1) (λ z. Ok (Then y.0 comma.0 z.0, z.1)) x e in
    let q = ih comma.1 w.0 w.1 in
    let same : (Then y.0 comma.0 w.0.0, w.0.1) ≡ x = cc (w.2) in
    let between = mark operator.Comma comma.0 in
    let path : ts ≡ (spell y.0 ++ (between ∷ spell_exprs w.0.0)) ++ w.0.1 = r.spelled ∙ ap (λ l. spell y.0 ++ l) (mark_was operator.Comma y.1 comma at ∙ ap (λ l. between ∷ l) q.spelled) ∙ sym (append_assoc (spell y.0) (between ∷ spell_exprs w.0.0) w.0.1) in
    subst (ReadsExprs b header ts) same (record { spelled = path; wf = (r.wf, q.wf); low = omega (arith, r.low, q.low); stops = q.stops; no_comma = q.no_comma })

pub exprs_go_sound : (b : ℕ) (header : Bool) (k : ℕ) (ts : List Terminal) (x : Separated ExprTree × List Terminal) → exprs_go (expr_at b header 1) k ts ≡ Ok x → ReadsExprs b header ts x
unfolding exprs_go
exprs_go_sound b header zero ts x e = cc
exprs_go_sound b header (suc k) ts x e =
    let w = bind_ok (expr_at b header 1 ts) (λ y. exprs_by (exprs_go (expr_at b header 1) k) y.0 y.1 (mark_at operator.Comma y.1)) x e in
    exprs_by_reads b header (exprs_go (expr_at b header 1) k) (exprs_go_sound b header k) ts w.0 (expr_sound b header ts w.0 w.1) (mark_at operator.Comma w.0.1) refl x w.2

pub exprs_sound : (b : ℕ) (header : Bool) (ts : List Terminal) (x : Separated ExprTree × List Terminal) → exprs_at b header ts ≡ Ok x → ReadsExprs b header ts x
exprs_sound b header ts x e = exprs_go_sound b header (suc (length ts)) ts x e

-- The first terminal of a list of expressions is that of an expression.

pub exprs_first_of : (P : List Terminal → Type 0) → ((n : ℕ) (s : Span) (ts : List Terminal) → P (terminal (Number n) s ∷ ts)) → ((t : TextLiteral) (ts : List Terminal) → P (spell_text t ∷ ts)) → ((x : Ident) (ts : List Terminal) → P (spell_ident x ∷ ts)) → ((s : Span) (ts : List Terminal) → P (mark operator.OpenParen s ∷ ts)) → ((o : Operator) (s : Span) (ts : List Terminal) → is_unary o ≡ true → P (mark o s ∷ ts)) → ((s : Span) (ts : List Terminal) → P (word keyword.Struct s ∷ ts)) → (header : Bool) (es : Separated ExprTree) (rest : List Terminal) → Wf_exprs header es → P (spell_exprs es ++ rest)
exprs_first_of P number text name paren unary struct header (One t) rest wf = first_of P number text name paren unary struct header t rest wf
exprs_first_of P number text name paren unary struct header (Then t comma more) rest wf =
    subst P (sym (append_assoc (spell t) (mark operator.Comma comma ∷ spell_exprs more) rest)) (first_of P number text name paren unary struct header t (mark operator.Comma comma ∷ (spell_exprs more ++ rest)) wf.0)

pub exprs_no_word : (k : Keyword) → same_keyword keyword.Struct k ≡ false → (header : Bool) (es : Separated ExprTree) (rest : List Terminal) → Wf_exprs header es → keyword_at k (spell_exprs es ++ rest) ≡ None
exprs_no_word k other header es rest wf =
    exprs_first_of (λ ts. keyword_at k ts ≡ None) (λ n s ts. refl) (λ t ts. refl) (λ x ts. refl) (λ s ts. refl) (λ o s ts is. refl) (λ s ts. word_not k keyword.Struct s ts other) header es rest wf

pub exprs_no_mark : (o : Operator) → same_operator operator.OpenParen o ≡ false → is_unary o ≡ false → (header : Bool) (es : Separated ExprTree) (rest : List Terminal) → Wf_exprs header es → mark_at o (spell_exprs es ++ rest) ≡ None
exprs_no_mark o other binary header es rest wf =
    exprs_first_of (λ ts. mark_at o ts ≡ None) (λ n s ts. refl) (λ t ts. refl) (λ x ts. refl) (λ s ts. mark_not o operator.OpenParen s ts other) (λ p s ts is. mark_not o p s ts (not_unary p o is binary)) (λ s ts. refl) header es rest wf

-- a list of expressions takes a terminal
pub spell_exprs_some : (es : Separated ExprTree) → 0 < length (spell_exprs es)
spell_exprs_some es = omega (arith, count_lt es)

pub exprs_height_some : (es : Separated ExprTree) → 0 < exprs_height es
exprs_height_some (One t) = height_some t
exprs_height_some (Then t comma more) = omega (arith, height_some t)

pub exprs_shorter : (b : ℕ) (header : Bool) (ts : List Terminal) (x : Separated ExprTree × List Terminal) → exprs_at b header ts ≡ Ok x → length x.1 < length ts
exprs_shorter b header ts x e =
    omega (arith, ap length (exprs_sound b header ts x e).spelled, spell_exprs_some x.0, length-append (spell_exprs x.0) x.1)

-- Names as expressions.

abbrev pub names_as_exprs : Separated Ident → Separated ExprTree
names_as_exprs (One x) = One (Named x)
names_as_exprs (Then x comma more) = Then (Named x) comma (names_as_exprs more)

pub names_spelled : (xs : Separated Ident) → spell_exprs (names_as_exprs xs) ≡ spell_idents xs
names_spelled (One x) = refl
names_spelled (Then x comma more) = ap (λ l. spell_ident x ∷ (mark operator.Comma comma ∷ l)) (names_spelled more)

pub names_wf : (header : Bool) (xs : Separated Ident) → Wf_exprs header (names_as_exprs xs)
names_wf header (One x) = tt
names_wf header (Then x comma more) = (tt, names_wf header more)

pub names_height : (xs : Separated Ident) → exprs_height (names_as_exprs xs) ≡ 1
names_height (One x) = refl
names_height (Then x comma more) = omega (arith, names_height more)

-- other names are other expressions
pub names_differ : (xs ys : Separated Ident) → names_as_exprs xs ≡ names_as_exprs ys → xs ≡ ys
names_differ (One x) (One y) e = cc
names_differ (One x) (Then y comma more) e = cc
names_differ (Then x comma more) (One y) e = cc
names_differ (Then x comma more) (Then y between rest) e =
    let same : names_as_exprs more ≡ names_as_exprs rest = cc in cc (e, names_differ more rest same)

-- names are read as expressions
pub names_complete : (xs : Separated Ident) (header : Bool) (b : ℕ) (rest : List Terminal) → 0 < b → StopsList header rest → exprs_at b header (spell_idents xs ++ rest) ≡ Ok (names_as_exprs xs, rest)
names_complete xs header b rest some stops =
    let is = ap (λ l. exprs_at b header (l ++ rest)) (sym (names_spelled xs)) in
    elim (exprs_complete (names_as_exprs xs) header b rest (names_wf header xs) stops) [
      | inl e ↦ is ∙ e
      | inr h ↦ absurd (omega (arith, h.1, names_height xs))
    ]
