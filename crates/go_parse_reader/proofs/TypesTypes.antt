-- Reading finds the types that are spelled, and no others.
use Rattle.std.proofs.Common.{◌≡◌, ℕ, zero, suc, ◌+◌, ◌<◌, ◌≤◌, List, [], ◌∷◌, ◌++◌, length, Some, None, Ok, refl, sym, ap, ◌∙◌, subst, arith, inl, inr, append_assoc, length-append}
use Rattle.go_tree_nodes.specs.text_core.declared.span.Span.{Span}
use Rattle.go_tree_nodes.specs.token_core.declared.kind.Keyword.TheVariants as keyword
use Rattle.go_tree_nodes.specs.token_core.declared.kind.Operator.TheVariants as operator
use Rattle.go_tree_nodes.specs.declared.types.TypeName.{TypeName}
use Rattle.go_tree_nodes.specs.declared.types.TypeName.TheVariants as type_name
use Rattle.go_tree_nodes.specs.Terminals.{Terminal}
use Rattle.go_tree_nodes.specs.Trees.{TypeTree, NamedType, Pointer, ParenType, Struct, Interface, FieldTrees, MethodTrees, ParamTrees, SignatureTree}
use Rattle.go_tree_nodes.specs.Spelling.{mark, word, spell_type_name, spell_type, spell_fields, spell_methods, spell_params, spell_signature}
use Rattle.go_tree_nodes.specs.Rules.{IsAliasOfName, is_grouped, Wf_type, Wf_fields, Wf_methods, Wf_params, Wf_signature}
use Rattle.go_tree_nodes.specs.Heights.{type_height, fields_height, methods_height, params_height, signature_height}
use Rattle.go_parse_reader.specs.types.mirrors.Marks.{◌>>=◌, Reading, MarkAhead, need, mark_at, keyword_at, list_go}
use Rattle.go_parse_reader.specs.types.mirrors.TypeReading.{type_name_at, params_at, signature_at, line_at, method_at, as_fields, as_methods, struct_by, struct_at, interface_by, interface_at, named_at, by_interface, by_struct, paren_by, by_paren, by_star, type_by, type_at, named_type_at}
use Rattle.go_parse_reader.proofs.TypesMarks.{mark_was, word_was, bind_ok, need_ok, AgreesAt, bind_agrees, agrees_along}
use Rattle.go_parse_reader.proofs.TypesTypeFacts.{FindsTypes, ReadsType, ReadsTypes, spell_type_some, type_height_some, type_name_complete, type_name_sound}
use Rattle.go_parse_reader.proofs.TypesParams.{params_complete, ReadsParams, params_sound}
use Rattle.go_parse_reader.proofs.TypesSignatures.{StopsSignature, signature_complete, ReadsSignature, signature_sound}
use Rattle.go_parse_reader.proofs.TypesTypeLines.{lines_of, fields_back, fields_complete, fields_sound, methods_of, methods_back, methods_complete, methods_sound}

-- Completeness, one node up.

name_is : (inner : List Terminal → Reading TypeTree) (n : TypeName) (rest : List Terminal) → type_by inner (spell_type_name n ++ rest) ≡ (type_name_at (spell_type_name n ++ rest) >>= λ n. Ok (NamedType n.0, n.1))
name_is inner (type_name.Plain x) rest = refl
name_is inner (type_name.Qualified p dot x) rest = refl

name_found : (b : ℕ) (inner : List Terminal → Reading TypeTree) (n : TypeName) (rest : List Terminal) → mark_at operator.Dot rest ≡ None → type_by inner (spell_type_name n ++ rest) ≡ Ok (NamedType n, rest)
name_found b inner n rest free =
    name_is inner n rest ∙ ap (λ r. r >>= λ n. Ok (NamedType n.0, n.1)) (type_name_complete n rest free)

pointer_found : (b : ℕ) (inner : List Terminal → Reading TypeTree) → FindsTypes b inner → (s : Span) (t : TypeTree) (rest : List Terminal) → Wf_type t → mark_at operator.Dot rest ≡ None → AgreesAt (type_by inner (spell_type (Pointer s t) ++ rest)) (Ok (Pointer s t, rest)) (suc b) (type_height t + 1)
pointer_found b inner finds s t rest wf free =
    bind_agrees (inner (spell_type t ++ rest)) (t, rest) (λ t. Ok (Pointer s t.0, t.1)) (Ok (Pointer s t, rest)) b (type_height t) (suc b) (type_height t + 1)
    (finds t rest wf free) (inl refl) (λ h. omega arith)

paren_found : (b : ℕ) (inner : List Terminal → Reading TypeTree) → FindsTypes b inner → (first : Span) (t : TypeTree) (last : Span) (rest : List Terminal) → Wf_type t → AgreesAt (type_by inner (spell_type (ParenType first t last) ++ rest)) (Ok (ParenType first t last, rest)) (suc b) (type_height t + 1)
paren_found b inner finds first t last rest wf =
    let close = mark operator.CloseParen last in
    let go = λ (t : TypeTree × List Terminal). paren_by first t.0 (mark_at operator.CloseParen t.1) in
    agrees_along _ _ _ (suc b) (type_height t + 1) (ap (λ ts. inner ts >>= go) (append_assoc (spell_type t) (close ∷ []) rest))
    (bind_agrees (inner (spell_type t ++ (close ∷ rest))) (t, close ∷ rest) go (Ok (ParenType first t last, rest)) b (type_height t) (suc b) (type_height t + 1)
    (finds t (close ∷ rest) wf refl) (inl refl) (λ h. omega arith))

struct_found : (b : ℕ) (inner : List Terminal → Reading TypeTree) → FindsTypes b inner → (k first : Span) (fs : FieldTrees) (last : Span) (rest : List Terminal) → Wf_fields fs → AgreesAt (type_by inner (spell_type (Struct k first fs last) ++ rest)) (Ok (Struct k first fs last, rest)) (suc b) (fields_height fs + 1)
struct_found b inner finds k first fs last rest wf =
    let close = mark operator.CloseBrace last in
    let end = close ∷ rest in
    let h = fields_height fs + 1 in
    let list = λ (ts : List Terminal). list_go (line_at inner) operator.Semicolon operator.CloseBrace (suc (length ts)) ts in
    agrees_along _ _ _ (suc b) h (ap (λ ts. list ts >>= λ ls. struct_by k first (as_fields ls.0) (mark_at operator.CloseBrace ls.1)) (append_assoc (spell_fields fs) (close ∷ []) rest))
    (bind_agrees (list (spell_fields fs ++ end)) (lines_of fs, end) (λ ls. struct_by k first (as_fields ls.0) (mark_at operator.CloseBrace ls.1)) (Ok (Struct k first fs last, rest)) b (fields_height fs) (suc b) h
    (fields_complete b inner finds fs last rest wf) (inl (ap (λ fs. Ok (Struct k first fs last, rest)) (fields_back fs))) (λ g. omega arith))

interface_found : (b : ℕ) (inner : List Terminal → Reading TypeTree) → FindsTypes b inner → (k first : Span) (ms : MethodTrees) (last : Span) (rest : List Terminal) → Wf_methods ms → AgreesAt (type_by inner (spell_type (Interface k first ms last) ++ rest)) (Ok (Interface k first ms last, rest)) (suc b) (methods_height ms + 1)
interface_found b inner finds k first ms last rest wf =
    let close = mark operator.CloseBrace last in
    let end = close ∷ rest in
    let h = methods_height ms + 1 in
    let list = λ (ts : List Terminal). list_go (method_at inner) operator.Semicolon operator.CloseBrace (suc (length ts)) ts in
    agrees_along _ _ _ (suc b) h (ap (λ ts. list ts >>= λ ms. interface_by k first (as_methods ms.0) (mark_at operator.CloseBrace ms.1)) (append_assoc (spell_methods ms) (close ∷ []) rest))
    (bind_agrees (list (spell_methods ms ++ end)) (methods_of ms, end) (λ ms. interface_by k first (as_methods ms.0) (mark_at operator.CloseBrace ms.1)) (Ok (Interface k first ms last, rest)) b (methods_height ms) (suc b) h
    (methods_complete b inner finds ms last rest wf) (inl (ap (λ ms. Ok (Interface k first ms last, rest)) (methods_back ms))) (λ g. omega arith))

by_found : (b : ℕ) (inner : List Terminal → Reading TypeTree) → FindsTypes b inner → FindsTypes (suc b) (type_by inner)
by_found b inner finds (NamedType n) rest wf free = inl (name_found b inner n rest free)
by_found b inner finds (Pointer s t) rest wf free = pointer_found b inner finds s t rest wf free
by_found b inner finds (ParenType first t last) rest wf free = paren_found b inner finds first t last rest wf
by_found b inner finds (Struct k first fs last) rest wf free = struct_found b inner finds k first fs last rest wf
by_found b inner finds (Interface k first ms last) rest wf free = interface_found b inner finds k first ms last rest wf

types_found : (b : ℕ) → FindsTypes b (type_at b)
unfolding type_at
types_found zero t rest wf free = inr (refl, type_height_some t)
types_found (suc b) t rest wf free = by_found b (type_at b) (types_found b) t rest wf free

-- a type that is spelled before anything but a dot is read, unless it is too high
pub type_complete : (t : TypeTree) (b : ℕ) (rest : List Terminal) → Wf_type t → mark_at operator.Dot rest ≡ None → AgreesAt (type_at b (spell_type t ++ rest)) (Ok (t, rest)) b (type_height t)
type_complete t b rest wf free = types_found b t rest wf free

-- the name of a type that is spelled before anything but a dot is read as a type, unless it is too high
pub named_type_complete : (n : TypeName) (b : ℕ) (rest : List Terminal) → mark_at operator.Dot rest ≡ None → AgreesAt (named_type_at b (spell_type_name n ++ rest)) (Ok (NamedType n, rest)) b 1
named_type_complete n zero rest free = inr (refl, omega arith)
named_type_complete n (suc b) rest free = inl (ap (λ r. r >>= λ n. Ok (NamedType n.0, n.1)) (type_name_complete n rest free))

-- Soundness, one node up.

named_reads : (b : ℕ) (ts : List Terminal) (y : TypeTree × List Terminal) → named_at ts ≡ Ok y → ReadsType (suc b) ts y
named_reads b ts y e =
    let w = bind_ok (type_name_at ts) (λ n. Ok (NamedType n.0, n.1)) y e in
    let same : (NamedType w.0.0, w.0.1) ≡ y = cc (w.2) in
    subst (ReadsType (suc b) ts) same (record { spelled = type_name_sound ts w.0 w.1; wf = tt; low = omega arith })

interface_by_reads : (b : ℕ) (k first : Span) (ts : List Terminal) (ms : MethodTrees) (rest : List Terminal) → ts ≡ spell_methods ms ++ rest → Wf_methods ms → methods_height ms ≤ b → (m : MarkAhead) → mark_at operator.CloseBrace rest ≡ m → (y : TypeTree × List Terminal) → interface_by k first ms m ≡ Ok y → ReadsType (suc b) (word keyword.Interface k ∷ (mark operator.OpenBrace first ∷ ts)) y
interface_by_reads b k first ts ms rest is wf low None at y e = cc
interface_by_reads b k first ts ms rest is wf low (Some z) at y e =
    let same : (Interface k first ms z.0, z.1) ≡ y = cc in
    let close = mark operator.CloseBrace z.0 in
    let path : ts ≡ (spell_methods ms ++ (close ∷ [])) ++ z.1 = is ∙ ap (λ l. spell_methods ms ++ l) (mark_was operator.CloseBrace rest z at) ∙ sym (append_assoc (spell_methods ms) (close ∷ []) z.1) in
    subst (ReadsType (suc b) (word keyword.Interface k ∷ (mark operator.OpenBrace first ∷ ts))) same (record { spelled = ap (λ l. word keyword.Interface k ∷ (mark operator.OpenBrace first ∷ l)) path; wf = wf; low = omega arith })

interface_reads : (b : ℕ) (inner : List Terminal → Reading TypeTree) → ReadsTypes b inner → (k : Span) (ts : List Terminal) (y : TypeTree × List Terminal) → interface_at inner k ts ≡ Ok y → ReadsType (suc b) (word keyword.Interface k ∷ ts) y
interface_reads b inner reads k ts y e =
    let v = bind_ok (need (mark_at operator.OpenBrace ts)) (λ first. list_go (method_at inner) operator.Semicolon operator.CloseBrace (suc (length first.1)) first.1 >>= λ ms. interface_by k first.0 (as_methods ms.0) (mark_at operator.CloseBrace ms.1)) y e in
    let first = v.0 in
    let w = bind_ok (list_go (method_at inner) operator.Semicolon operator.CloseBrace (suc (length first.1)) first.1) (λ ms. interface_by k first.0 (as_methods ms.0) (mark_at operator.CloseBrace ms.1)) y v.2 in
    let r = methods_sound b inner reads (suc (length first.1)) first.1 w.0 w.1 in
    subst (λ ts. ReadsType (suc b) (word keyword.Interface k ∷ ts) y) (sym (mark_was operator.OpenBrace ts first (need_ok (mark_at operator.OpenBrace ts) first v.1)))
    (interface_by_reads b k first.0 first.1 (as_methods w.0.0) w.0.1 r.spelled r.wf r.low (mark_at operator.CloseBrace w.0.1) refl y w.2)

struct_by_reads : (b : ℕ) (k first : Span) (ts : List Terminal) (fs : FieldTrees) (rest : List Terminal) → ts ≡ spell_fields fs ++ rest → Wf_fields fs → fields_height fs ≤ b → (m : MarkAhead) → mark_at operator.CloseBrace rest ≡ m → (y : TypeTree × List Terminal) → struct_by k first fs m ≡ Ok y → ReadsType (suc b) (word keyword.Struct k ∷ (mark operator.OpenBrace first ∷ ts)) y
struct_by_reads b k first ts fs rest is wf low None at y e = cc
struct_by_reads b k first ts fs rest is wf low (Some z) at y e =
    let same : (Struct k first fs z.0, z.1) ≡ y = cc in
    let close = mark operator.CloseBrace z.0 in
    let path : ts ≡ (spell_fields fs ++ (close ∷ [])) ++ z.1 = is ∙ ap (λ l. spell_fields fs ++ l) (mark_was operator.CloseBrace rest z at) ∙ sym (append_assoc (spell_fields fs) (close ∷ []) z.1) in
    subst (ReadsType (suc b) (word keyword.Struct k ∷ (mark operator.OpenBrace first ∷ ts))) same (record { spelled = ap (λ l. word keyword.Struct k ∷ (mark operator.OpenBrace first ∷ l)) path; wf = wf; low = omega arith })

struct_reads : (b : ℕ) (inner : List Terminal → Reading TypeTree) → ReadsTypes b inner → (k : Span) (ts : List Terminal) (y : TypeTree × List Terminal) → struct_at inner k ts ≡ Ok y → ReadsType (suc b) (word keyword.Struct k ∷ ts) y
struct_reads b inner reads k ts y e =
    let v = bind_ok (need (mark_at operator.OpenBrace ts)) (λ first. list_go (line_at inner) operator.Semicolon operator.CloseBrace (suc (length first.1)) first.1 >>= λ ls. struct_by k first.0 (as_fields ls.0) (mark_at operator.CloseBrace ls.1)) y e in
    let first = v.0 in
    let w = bind_ok (list_go (line_at inner) operator.Semicolon operator.CloseBrace (suc (length first.1)) first.1) (λ ls. struct_by k first.0 (as_fields ls.0) (mark_at operator.CloseBrace ls.1)) y v.2 in
    let r = fields_sound b inner reads (suc (length first.1)) first.1 w.0 w.1 in
    subst (λ ts. ReadsType (suc b) (word keyword.Struct k ∷ ts) y) (sym (mark_was operator.OpenBrace ts first (need_ok (mark_at operator.OpenBrace ts) first v.1)))
    (struct_by_reads b k first.0 first.1 (as_fields w.0.0) w.0.1 r.spelled r.wf r.low (mark_at operator.CloseBrace w.0.1) refl y w.2)

paren_by_reads : (b : ℕ) (first : Span) (ts : List Terminal) (t : TypeTree × List Terminal) → ReadsType b ts t → (m : MarkAhead) → mark_at operator.CloseParen t.1 ≡ m → (y : TypeTree × List Terminal) → paren_by first t.0 m ≡ Ok y → ReadsType (suc b) (mark operator.OpenParen first ∷ ts) y
paren_by_reads b first ts t r None at y e = cc
paren_by_reads b first ts t r (Some z) at y e =
    let same : (ParenType first t.0 z.0, z.1) ≡ y = cc in
    let front = mark operator.OpenParen first in
    let close = mark operator.CloseParen z.0 in
    let path : ts ≡ (spell_type t.0 ++ (close ∷ [])) ++ z.1 = r.spelled ∙ ap (λ l. spell_type t.0 ++ l) (mark_was operator.CloseParen t.1 z at) ∙ sym (append_assoc (spell_type t.0) (close ∷ []) z.1) in
    subst (ReadsType (suc b) (front ∷ ts)) same (record { spelled = ap (λ l. front ∷ l) path; wf = r.wf; low = omega (arith, r.low) })

by_interface_reads : (b : ℕ) (inner : List Terminal → Reading TypeTree) → ReadsTypes b inner → (ts : List Terminal) (m : MarkAhead) → keyword_at keyword.Interface ts ≡ m → (y : TypeTree × List Terminal) → by_interface inner ts m ≡ Ok y → ReadsType (suc b) ts y
by_interface_reads b inner reads ts None at y e = named_reads b ts y e
by_interface_reads b inner reads ts (Some k) at y e =
    subst (λ ts. ReadsType (suc b) ts y) (sym (word_was keyword.Interface ts k at)) (interface_reads b inner reads k.0 k.1 y e)

by_struct_reads : (b : ℕ) (inner : List Terminal → Reading TypeTree) → ReadsTypes b inner → (ts : List Terminal) (m : MarkAhead) → keyword_at keyword.Struct ts ≡ m → (y : TypeTree × List Terminal) → by_struct inner ts m ≡ Ok y → ReadsType (suc b) ts y
by_struct_reads b inner reads ts None at y e = by_interface_reads b inner reads ts (keyword_at keyword.Interface ts) refl y e
by_struct_reads b inner reads ts (Some k) at y e =
    subst (λ ts. ReadsType (suc b) ts y) (sym (word_was keyword.Struct ts k at)) (struct_reads b inner reads k.0 k.1 y e)

by_paren_reads : (b : ℕ) (inner : List Terminal → Reading TypeTree) → ReadsTypes b inner → (ts : List Terminal) (m : MarkAhead) → mark_at operator.OpenParen ts ≡ m → (y : TypeTree × List Terminal) → by_paren inner ts m ≡ Ok y → ReadsType (suc b) ts y
by_paren_reads b inner reads ts None at y e = by_struct_reads b inner reads ts (keyword_at keyword.Struct ts) refl y e
by_paren_reads b inner reads ts (Some first) at y e =
    let w = bind_ok (inner first.1) (λ t. paren_by first.0 t.0 (mark_at operator.CloseParen t.1)) y e in
    subst (λ ts. ReadsType (suc b) ts y) (sym (mark_was operator.OpenParen ts first at)) (paren_by_reads b first.0 first.1 w.0 (reads first.1 w.0 w.1) (mark_at operator.CloseParen w.0.1) refl y w.2)

by_star_reads : (b : ℕ) (inner : List Terminal → Reading TypeTree) → ReadsTypes b inner → (ts : List Terminal) (m : MarkAhead) → mark_at operator.Star ts ≡ m → (y : TypeTree × List Terminal) → by_star inner ts m ≡ Ok y → ReadsType (suc b) ts y
by_star_reads b inner reads ts None at y e = by_paren_reads b inner reads ts (mark_at operator.OpenParen ts) refl y e
by_star_reads b inner reads ts (Some star) at y e =
    let w = bind_ok (inner star.1) (λ t. Ok (Pointer star.0 t.0, t.1)) y e in
    let r = reads star.1 w.0 w.1 in
    let same : (Pointer star.0 w.0.0, w.0.1) ≡ y = cc (w.2) in
    let front = mark operator.Star star.0 in
    subst (ReadsType (suc b) ts) same (record { spelled = mark_was operator.Star ts star at ∙ ap (λ l. front ∷ l) r.spelled; wf = r.wf; low = omega (arith, r.low) })

-- a type that is read is spelled in front
pub type_sound : (b : ℕ) → ReadsTypes b (type_at b)
unfolding type_at
type_sound zero ts x e = cc
type_sound (suc b) ts x e = by_star_reads b (type_at b) (type_sound b) ts (mark_at operator.Star ts) refl x e

-- the name of a type that is read as a type is spelled in front, and no other type is read
pub named_type_sound : (b : ℕ) (s : Span) (ts : List Terminal) (x : TypeTree × List Terminal) → named_type_at b ts ≡ Ok x → ReadsType b ts x × IsAliasOfName (Some s) x.0
named_type_sound zero s ts x e = cc
named_type_sound (suc b) s ts x e =
    let w = bind_ok (type_name_at ts) (λ n. Ok (NamedType n.0, n.1)) x e in
    let same : (NamedType w.0.0, w.0.1) ≡ x = cc (w.2) in
    (named_reads b ts x e, subst (λ (x : TypeTree × List Terminal). IsAliasOfName (Some s) x.0) same tt)

-- a type takes a terminal
pub type_shorter : (b : ℕ) (ts : List Terminal) (x : TypeTree × List Terminal) → type_at b ts ≡ Ok x → length x.1 < length ts
type_shorter b ts x e =
    let r = type_sound b ts x e in
    omega (arith, ap length r.spelled, length-append (spell_type x.0) x.1, spell_type_some x.0)

-- Parameters and signatures of such types.

pub type_params_complete : (p : ParamTrees) (b : ℕ) (z : Span) (after : List Terminal) → Wf_params (is_grouped p) p → AgreesAt (params_at (type_at b) (spell_params p ++ (mark operator.CloseParen z ∷ after))) (Ok (p, mark operator.CloseParen z ∷ after)) b (params_height p)
type_params_complete p b z after wf = params_complete b (type_at b) (types_found b) p z after wf

pub type_params_sound : (b : ℕ) (ts : List Terminal) (x : ParamTrees × List Terminal) → params_at (type_at b) ts ≡ Ok x → ReadsParams b ts x
type_params_sound b ts x e = params_sound b (type_at b) (type_sound b) ts x e

pub type_signature_complete : (s : SignatureTree) (b : ℕ) (rest : List Terminal) → Wf_signature s → StopsSignature rest → AgreesAt (signature_at (type_at b) (spell_signature s ++ rest)) (Ok (s, rest)) b (signature_height s)
type_signature_complete s b rest wf stops = signature_complete b (type_at b) (types_found b) s rest wf stops

pub type_signature_sound : (b : ℕ) (ts : List Terminal) (x : SignatureTree × List Terminal) → signature_at (type_at b) ts ≡ Ok x → ReadsSignature b ts x
type_signature_sound b ts x e = signature_sound b (type_at b) (type_sound b) ts x e
