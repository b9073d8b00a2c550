-- What stands in front: a mark, a keyword, a name or a string literal; and how readings go on.
use Rattle.std.proofs.Common.{◌≡◌, ℕ, ◌<◌, Bool, true, false, List, ◌∷◌, ◌++◌, [], length, Option, Some, None, Result, Ok, Err, refl, sym, ap, ◌∙◌, subst, arith, rules, cond, ◌⊎◌, inl, inr}
use denote.Enum.Bare.{same_true, true_same}
use Rattle.go_tree_nodes.specs.text_core.declared.span.Span.{Span}
use Rattle.go_tree_nodes.specs.token_core.contracts.kind.Keyword as keyword_contracts
use Rattle.go_tree_nodes.specs.token_core.contracts.kind.Operator as operator_contracts
use Rattle.go_tree_nodes.specs.token_core.declared.kind.Keyword.{Keyword}
use Rattle.go_tree_nodes.specs.token_core.declared.kind.Operator.{Operator}
use Rattle.go_tree_nodes.specs.declared.names.Ident.{Ident}
use Rattle.go_tree_nodes.specs.declared.names.TextLiteral.{TextLiteral}
use Rattle.go_tree_nodes.specs.Terminals.{TerminalKind, Spelled, Quoted, Word, Mark, Terminal, terminal}
use Rattle.go_tree_nodes.specs.Spelling.{mark, word, spell_ident, spell_text, spell_some}
use Rattle.go_parse_reader.specs.types.mirrors.Marks.{Stuck, TooHigh, ◌>>=◌, need, same_operator, same_keyword, mark_in, mark_at, keyword_in, keyword_at, name_in, name_at, text_in, text_at, passing, mark_that_in, mark_that, some_mark}

pub some_when : {A : Type 0} (c : Bool) (p o : A) → cond c (Some p) None ≡ Some o → (c ≡ true) × (p ≡ o)
some_when true p o e = (refl, cc)
some_when false p o e = cc

pub none_when : {A : Type 0} (c : Bool) (p : A) → cond c (Some p) None ≡ None → c ≡ false
none_when true p e = cc
none_when false p e = refl

mark_in_was : (want : Operator) (k : TerminalKind) (s : Span) (ts : List Terminal) (m : Span × List Terminal) → mark_in want k s ts ≡ Some m → terminal k s ∷ ts ≡ mark want m.0 ∷ m.1
mark_in_was want (Mark found) s ts m e =
    let w = some_when (same_operator found want) (s, ts) m e in
    let is : found ≡ want = same_true operator_contracts.the_type (search rules) found want w.0 in
    ap (λ f. terminal (Mark f) s ∷ ts) is ∙ ap (λ (m : Span × List Terminal). mark want m.0 ∷ m.1) w.1
mark_in_was want _ s ts m e = cc

-- a mark that is found is in front
pub mark_was : (want : Operator) (ts : List Terminal) (m : Span × List Terminal) → mark_at want ts ≡ Some m → ts ≡ mark want m.0 ∷ m.1
mark_was want [] m e = cc
mark_was want (t ∷ ts) m e = mark_in_was want t.kind t.span ts m e

-- a mark in front is found
pub mark_here : (want : Operator) (s : Span) (ts : List Terminal) → mark_at want (mark want s ∷ ts) ≡ Some (s, ts)
mark_here want s ts = ap (λ c. cond c (Some (s, ts)) None) (true_same operator_contracts.the_type want want refl)

-- and no other
pub mark_not : (want found : Operator) (s : Span) (ts : List Terminal) → same_operator found want ≡ false → mark_at want (mark found s ∷ ts) ≡ None
mark_not want found s ts h = ap (λ c. cond c (Some (s, ts)) None) h

-- a mark takes a terminal
pub mark_shorter : (want : Operator) (ts : List Terminal) (m : Span × List Terminal) → mark_at want ts ≡ Some m → length m.1 < length ts
mark_shorter want ts m e = omega (arith, ap length (mark_was want ts m e))

word_in_was : (want : Keyword) (k : TerminalKind) (s : Span) (ts : List Terminal) (m : Span × List Terminal) → keyword_in want k s ts ≡ Some m → terminal k s ∷ ts ≡ word want m.0 ∷ m.1
word_in_was want (Word found) s ts m e =
    let w = some_when (same_keyword found want) (s, ts) m e in
    let is : found ≡ want = same_true keyword_contracts.the_type (search rules) found want w.0 in
    ap (λ f. terminal (Word f) s ∷ ts) is ∙ ap (λ (m : Span × List Terminal). word want m.0 ∷ m.1) w.1
word_in_was want _ s ts m e = cc

-- a keyword that is found is in front
pub word_was : (want : Keyword) (ts : List Terminal) (m : Span × List Terminal) → keyword_at want ts ≡ Some m → ts ≡ word want m.0 ∷ m.1
word_was want [] m e = cc
word_was want (t ∷ ts) m e = word_in_was want t.kind t.span ts m e

-- a keyword in front is found
pub word_here : (want : Keyword) (s : Span) (ts : List Terminal) → keyword_at want (word want s ∷ ts) ≡ Some (s, ts)
word_here want s ts = ap (λ c. cond c (Some (s, ts)) None) (true_same keyword_contracts.the_type want want refl)

-- and no other
pub word_not : (want found : Keyword) (s : Span) (ts : List Terminal) → same_keyword found want ≡ false → keyword_at want (word found s ∷ ts) ≡ None
word_not want found s ts h = ap (λ c. cond c (Some (s, ts)) None) h

-- a keyword takes a terminal
pub word_shorter : (want : Keyword) (ts : List Terminal) (m : Span × List Terminal) → keyword_at want ts ≡ Some m → length m.1 < length ts
word_shorter want ts m e = omega (arith, ap length (word_was want ts m e))

name_in_was : (k : TerminalKind) (s : Span) (ts : List Terminal) (m : Ident × List Terminal) → name_in k s ts ≡ Some m → terminal k s ∷ ts ≡ spell_ident m.0 ∷ m.1
name_in_was (Spelled x) s ts m e =
    let same : (record { name = x; span = s }, ts) ≡ m = cc in ap (λ (m : Ident × List Terminal). spell_ident m.0 ∷ m.1) same
name_in_was _ s ts m e = cc

-- a name that is found is in front
pub name_was : (ts : List Terminal) (m : Ident × List Terminal) → name_at ts ≡ Some m → ts ≡ spell_ident m.0 ∷ m.1
name_was [] m e = cc
name_was (t ∷ ts) m e = name_in_was t.kind t.span ts m e

-- a name in front is found
pub name_here : (x : Ident) (ts : List Terminal) → name_at (spell_ident x ∷ ts) ≡ Some (x, ts)
name_here x ts = refl

-- a name takes a terminal
pub name_shorter : (ts : List Terminal) (m : Ident × List Terminal) → name_at ts ≡ Some m → length m.1 < length ts
name_shorter ts m e = omega (arith, ap length (name_was ts m e))

text_in_was : (k : TerminalKind) (s : Span) (ts : List Terminal) (m : TextLiteral × List Terminal) → text_in k s ts ≡ Some m → terminal k s ∷ ts ≡ spell_text m.0 ∷ m.1
text_in_was (Quoted spelled) s ts m e =
    let same : (record { spelled = spelled; span = s }, ts) ≡ m = cc in ap (λ (m : TextLiteral × List Terminal). spell_text m.0 ∷ m.1) same
text_in_was _ s ts m e = cc

-- a string literal that is found is in front
pub text_was : (ts : List Terminal) (m : TextLiteral × List Terminal) → text_at ts ≡ Some m → ts ≡ spell_text m.0 ∷ m.1
text_was [] m e = cc
text_was (t ∷ ts) m e = text_in_was t.kind t.span ts m e

-- a string literal in front is found
pub text_here : (t : TextLiteral) (ts : List Terminal) → text_at (spell_text t ∷ ts) ≡ Some (t, ts)
text_here t ts = refl

-- a string literal takes a terminal
pub text_shorter : (ts : List Terminal) (m : TextLiteral × List Terminal) → text_at ts ≡ Some m → length m.1 < length ts
text_shorter ts m e = omega (arith, ap length (text_was ts m e))

that_in_was : (test : Operator → Bool) (k : TerminalKind) (s : Span) (ts : List Terminal) (m : Operator × Span × List Terminal) → mark_that_in test k s ts ≡ Some m → (terminal k s ∷ ts ≡ mark m.0 m.1 ∷ m.2) × (test m.0 ≡ true)
that_in_was test (Mark o) s ts m e =
    let w = some_when (test o) (o, s, ts) m e in
    subst (λ (m : Operator × Span × List Terminal). (mark o s ∷ ts ≡ mark m.0 m.1 ∷ m.2) × (test m.0 ≡ true)) w.1 (refl, w.0)
that_in_was test _ s ts m e = cc

-- a mark that is found by a test is in front, and passes it
pub mark_that_was : (test : Operator → Bool) (ts : List Terminal) (m : Operator × Span × List Terminal) → mark_that test ts ≡ Some m → (ts ≡ mark m.0 m.1 ∷ m.2) × (test m.0 ≡ true)
mark_that_was test [] m e = cc
mark_that_was test (t ∷ ts) m e = that_in_was test t.kind t.span ts m e

-- a mark in front that passes the test is found
pub mark_that_here : (test : Operator → Bool) (o : Operator) (s : Span) (ts : List Terminal) → test o ≡ true → mark_that test (mark o s ∷ ts) ≡ Some (o, s, ts)
mark_that_here test o s ts h = ap (λ c. cond c (Some (o, s, ts)) None) h

-- and no other
pub mark_that_not : (test : Operator → Bool) (o : Operator) (s : Span) (ts : List Terminal) → test o ≡ false → mark_that test (mark o s ∷ ts) ≡ None
mark_that_not test o s ts h = ap (λ c. cond c (Some (o, s, ts)) None) h

-- a mark that passes a test, from any mark
pub mark_that_any : (test : Operator → Bool) (ts : List Terminal) (m : Operator × Span × List Terminal) → mark_that (λ o. true) ts ≡ Some m → mark_that test ts ≡ passing test m.0 m.1 m.2
mark_that_any test ts m e = ap (mark_that test) (mark_that_was (λ o. true) ts m e).0

that_in_none : (test : Operator → Bool) (k : TerminalKind) (s : Span) (ts : List Terminal) → mark_that_in (λ o. true) k s ts ≡ None → mark_that_in test k s ts ≡ None
that_in_none test (Mark o) s ts e = cc
that_in_none test _ s ts e = refl

-- and none where there is no mark
pub mark_that_none : (test : Operator → Bool) (ts : List Terminal) → mark_that (λ o. true) ts ≡ None → mark_that test ts ≡ None
mark_that_none test [] e = refl
mark_that_none test (t ∷ ts) e = that_in_none test t.kind t.span ts e

-- a mark in front, or none
pub some_mark_none : (want : Operator) (ts : List Terminal) → mark_at want ts ≡ None → some_mark want ts ≡ (None, ts)
some_mark_none want ts e = rw e refl

pub some_mark_some : (want : Operator) (ts : List Terminal) (m : Span × List Terminal) → mark_at want ts ≡ Some m → some_mark want ts ≡ (Some m.0, m.1)
some_mark_some want ts m e = rw e refl

pub some_mark_was : (want : Operator) (ts : List Terminal) → ts ≡ spell_some want (some_mark want ts).0 ++ (some_mark want ts).1
some_mark_was want ts = by (mark_at want ts) refl
  where
    by : (o : Option (Span × List Terminal)) → mark_at want ts ≡ o → ts ≡ spell_some want (some_mark want ts).0 ++ (some_mark want ts).1
    by None at = sym (ap (λ (x : Option Span × List Terminal). spell_some want x.0 ++ x.1) (some_mark_none want ts at))
    by (Some m) at = mark_was want ts m at ∙ sym (ap (λ (x : Option Span × List Terminal). spell_some want x.0 ++ x.1) (some_mark_some want ts m at))

pub some_mark_here : (want : Operator) (o : Option Span) (ts : List Terminal) → mark_at want ts ≡ None → some_mark want (spell_some want o ++ ts) ≡ (o, ts)
some_mark_here want None ts e = some_mark_none want ts e
some_mark_here want (Some s) ts e = some_mark_some want (mark want s ∷ ts) (s, ts) (mark_here want s ts)

-- how readings go on

pub bind_ok : {A B : Type 0} (r : Result A Stuck) (f : A → Result B Stuck) (y : B) → (r >>= f) ≡ Ok y → (x : A) × (r ≡ Ok x) × (f x ≡ Ok y)
bind_ok (Ok x) f y e = (x, refl, e)
bind_ok (Err d) f y e = cc

pub need_ok : {A : Type 0} (o : Option A) (x : A) → need o ≡ Ok x → o ≡ Some x
need_ok None x e = cc
need_ok (Some y) x e = cc

-- r is s, or it stopped at what is too high
abbrev pub AgreesAt : {A : Type 0} → Result A Stuck → Result A Stuck → ℕ → ℕ → Type 0
AgreesAt r s b h = (r ≡ s) ⊎ ((r ≡ Err TooHigh) × (b < h))

pub bind_agrees : {A B : Type 0} (r : Result A Stuck) (x : A) (f : A → Result B Stuck) (y : Result B Stuck) (b h c k : ℕ) → AgreesAt r (Ok x) b h → AgreesAt (f x) y c k → (b < h → c < k) → AgreesAt (r >>= f) y c k
bind_agrees r x f y b h c k (inl e) (inl g) imp = inl (ap (λ r. r >>= f) e ∙ g)
bind_agrees r x f y b h c k (inl e) (inr g) imp = inr (ap (λ r. r >>= f) e ∙ g.0, g.1)
bind_agrees r x f y b h c k (inr g) next imp = inr (ap (λ r. r >>= f) g.0, imp g.1)

pub agrees_along : {A : Type 0} (q r s : Result A Stuck) (b h : ℕ) → q ≡ r → AgreesAt r s b h → AgreesAt q s b h
agrees_along q r s b h is (inl e) = inl (is ∙ e)
agrees_along q r s b h is (inr g) = inr (is ∙ g.0, g.1)

-- two of a kind: what is not ok stays so
pub ok_same : {A E : Type 0} (x y : A) (r : Result A E) → r ≡ Ok x → r ≡ Ok y → x ≡ y
ok_same x y r e d = cc
