-- Reading finds the fields and the methods that are spelled, and no others.
use Rattle.std.proofs.Common.{◌≡◌, ℕ, suc, ◌<◌, ◌≤◌, max, Bool, true, false, List, [], ◌∷◌, ◌++◌, length, Option, Some, None, Ok, refl, sym, ap, ◌∙◌, subst, arith, inl, append_assoc, length-append}
use Rattle.go_tree_nodes.specs.text_core.declared.span.Span.{Span}
use Rattle.go_tree_nodes.specs.token_core.declared.kind.Operator.TheVariants as operator
use Rattle.go_tree_nodes.specs.declared.names.Ident.{Ident}
use Rattle.go_tree_nodes.specs.declared.names.TextLiteral.{TextLiteral}
use Rattle.go_tree_nodes.specs.declared.types.TypeName.{TypeName}
use Rattle.go_tree_nodes.specs.declared.types.TypeName.TheVariants as type_name
use Rattle.go_tree_nodes.specs.Terminals.{Terminal}
use Rattle.go_tree_nodes.specs.Trees.{Separated, One, Then, TypeTree, FieldTrees, MethodTrees, SignatureTree, NamedType, Pointer, ParenType, Struct, Interface, NoFields, NamedFields, EmbeddedField, NoMethods, Method}
use Rattle.go_tree_nodes.specs.Spelling.{mark, spell_ident, spell_idents, spell_some, spell_type_name, spell_tag, spell_type, spell_fields, spell_methods, spell_signature}
use Rattle.go_tree_nodes.specs.Rules.{IsKept, IsNothing, IsLastField, IsLastMethod, Wf_type, Wf_fields, Wf_methods, Wf_signature, Wf_group}
use Rattle.go_tree_nodes.specs.Heights.{type_height, fields_height, methods_height, signature_height, group_height}
use Rattle.go_parse_reader.specs.types.mirrors.Marks.{◌>>=◌, Reading, MarkAhead, need, mark_at, name_at, text_at, list_go, idents_go}
use Rattle.go_parse_reader.specs.types.mirrors.TypeReading.{tag_by, LineTree, NamedLine, EmbeddedLine, tagged, embedded_by, embedded, ends_embedded, named_line, line_of_name, line_by_name, line_by_star, line_at, as_fields, signature_at, method_at, as_methods}
use Rattle.go_parse_reader.proofs.TypesMarks.{mark_was, name_was, text_was, bind_ok, need_ok, AgreesAt, bind_agrees, agrees_along}
use Rattle.go_parse_reader.proofs.TypesLists.{spell_list, FoundItem, list_complete, ReadsItem, list_sound, idents_complete, idents_sound, idents_some}
use Rattle.go_parse_reader.proofs.TypesTypeFacts.{FindsTypes, ReadsTypes, type_no_mark, type_goes_on, type_name_some}
use Rattle.go_parse_reader.proofs.TypesSignatures.{StopsSignature, signature_complete, signature_sound}

-- fields

abbrev pub spell_line : LineTree → List Terminal
spell_line (NamedLine xs t tag) = spell_idents xs ++ (spell_type t ++ spell_tag tag)
spell_line (EmbeddedLine star n tag) = spell_some operator.Star star ++ (spell_type_name n ++ spell_tag tag)

abbrev pub Wf_line : LineTree → Type 0
Wf_line (NamedLine xs t tag) = Wf_type t
Wf_line (EmbeddedLine star n tag) = Unit {0}

abbrev pub line_height : LineTree → ℕ
line_height (NamedLine xs t tag) = type_height t
line_height (EmbeddedLine star n tag) = 1

-- what may stand behind a line
pub record EndsLine (ts : List Terminal) : Type 0 where
  pub dot : mark_at operator.Dot ts ≡ None
  pub text : text_at ts ≡ None
  pub ends : ends_embedded ts ≡ true

tagged_found : (line : Option TextLiteral → LineTree) (tag : Option TextLiteral) (rest : List Terminal) → text_at rest ≡ None → tagged line (spell_tag tag ++ rest) ≡ Ok (line tag, rest)
tagged_found line None rest free = ap (λ o. Ok (line (tag_by rest o).0, (tag_by rest o).1)) free
tagged_found line (Some t) rest free = refl

tag_no_dot : (tag : Option TextLiteral) (rest : List Terminal) → mark_at operator.Dot rest ≡ None → mark_at operator.Dot (spell_tag tag ++ rest) ≡ None
tag_no_dot None rest free = free
tag_no_dot (Some t) rest free = refl

tag_ends : (tag : Option TextLiteral) (rest : List Terminal) → ends_embedded rest ≡ true → ends_embedded (spell_tag tag ++ rest) ≡ true
tag_ends None rest ends = ends
tag_ends (Some t) rest ends = refl

embedded_found : (b : ℕ) (type : List Terminal → Reading TypeTree) → FindsTypes b type → (star : Option Span) (n : TypeName) (tag : Option TextLiteral) (rest : List Terminal) → EndsLine rest → AgreesAt (embedded type star ((spell_type_name n ++ spell_tag tag) ++ rest)) (Ok (EmbeddedLine star n tag, rest)) b 1
embedded_found b type finds star n tag rest ends =
    let behind = spell_tag tag ++ rest in
    let go = λ (t : TypeTree × List Terminal). embedded_by star t.0 t.1 in
    agrees_along _ _ _ b 1 (ap (λ ts. type ts >>= go) (append_assoc (spell_type_name n) (spell_tag tag) rest))
    (bind_agrees (type (spell_type_name n ++ behind)) (NamedType n, behind) go (Ok (EmbeddedLine star n tag, rest)) b 1 b 1
    (finds (NamedType n) behind tt (tag_no_dot tag rest ends.dot)) (inl (tagged_found (EmbeddedLine star n) tag rest ends.text)) (λ h. h))

-- a name and what ends an embedded field
name_ends : (type : List Terminal → Reading TypeTree) (n : TypeName) (rest : List Terminal) → ends_embedded rest ≡ true → line_at type (spell_type_name n ++ rest) ≡ embedded type None (spell_type_name n ++ rest)
name_ends type (type_name.Plain x) rest ends = ap (line_of_name type (spell_ident x ∷ rest)) ends
name_ends type (type_name.Qualified p dot x) rest ends = refl

-- a name and what does not end one
names_go_on : (type : List Terminal → Reading TypeTree) (xs : Separated Ident) (rest : List Terminal) → ends_embedded rest ≡ false → line_at type (spell_idents xs ++ rest) ≡ named_line type (spell_idents xs ++ rest)
names_go_on type (One x) rest goes = ap (line_of_name type (spell_ident x ∷ rest)) goes
names_go_on type (Then x comma more) rest goes = refl

named_found : (b : ℕ) (type : List Terminal → Reading TypeTree) → FindsTypes b type → (xs : Separated Ident) (t : TypeTree) (tag : Option TextLiteral) (rest : List Terminal) → Wf_type t → EndsLine rest → AgreesAt (named_line type (spell_idents xs ++ (spell_type t ++ (spell_tag tag ++ rest)))) (Ok (NamedLine xs t tag, rest)) b (type_height t)
named_found b type finds xs t tag rest wf ends =
    let last = spell_tag tag ++ rest in
    let behind = spell_type t ++ last in
    let h = type_height t in
    let names = idents_complete xs behind (type_no_mark operator.Comma refl refl t last) in
    agrees_along _ (type behind >>= λ t. tagged (NamedLine xs t.0) t.1) _ b h (ap (λ r. r >>= λ xs. (type xs.1 >>= λ t. tagged (NamedLine xs.0 t.0) t.1)) names)
    (bind_agrees (type behind) (t, last) (λ t. tagged (NamedLine xs t.0) t.1) (Ok (NamedLine xs t tag, rest)) b h b h
    (finds t last wf (tag_no_dot tag rest ends.dot)) (inl (tagged_found (NamedLine xs t) tag rest ends.text)) (λ g. g))

line_found : (b : ℕ) (type : List Terminal → Reading TypeTree) → FindsTypes b type → (l : LineTree) (rest : List Terminal) → Wf_line l → EndsLine rest → AgreesAt (line_at type (spell_line l ++ rest)) (Ok (l, rest)) b (line_height l)
line_found b type finds (NamedLine xs t tag) rest wf ends =
    let last = spell_tag tag ++ rest in
    let behind = spell_type t ++ last in
    let is : spell_line (NamedLine xs t tag) ++ rest ≡ spell_idents xs ++ behind = append_assoc (spell_idents xs) (spell_type t ++ spell_tag tag) rest ∙ ap (λ l. spell_idents xs ++ l) (append_assoc (spell_type t) (spell_tag tag) rest) in
    agrees_along _ _ _ b (type_height t) (ap (line_at type) is ∙ names_go_on type xs behind (type_goes_on t last)) (named_found b type finds xs t tag rest wf ends)
line_found b type finds (EmbeddedLine (Some star) n tag) rest wf ends = embedded_found b type finds (Some star) n tag rest ends
line_found b type finds (EmbeddedLine None n tag) rest wf ends =
    let is = append_assoc (spell_type_name n) (spell_tag tag) rest in
    agrees_along _ _ _ b 1 (ap (line_at type) is ∙ name_ends type n (spell_tag tag ++ rest) (tag_ends tag rest ends.ends) ∙ ap (embedded type None) (sym is)) (embedded_found b type finds None n tag rest ends)

name_opens : (n : TypeName) (ts : List Terminal) → mark_at operator.CloseBrace (spell_type_name n ++ ts) ≡ None
name_opens (type_name.Plain x) ts = refl
name_opens (type_name.Qualified p dot x) ts = refl

line_opens : (l : LineTree) (ts : List Terminal) → mark_at operator.CloseBrace (spell_line l ++ ts) ≡ None
line_opens (NamedLine (One x) t tag) ts = refl
line_opens (NamedLine (Then x comma more) t tag) ts = refl
line_opens (EmbeddedLine (Some star) n tag) ts = refl
line_opens (EmbeddedLine None n tag) ts = ap (mark_at operator.CloseBrace) (append_assoc (spell_type_name n) (spell_tag tag) ts) ∙ name_opens n (spell_tag tag ++ ts)

pub line_some : (l : LineTree) → 0 < length (spell_line l)
line_some (NamedLine xs t tag) = omega (arith, idents_some xs, length-append (spell_idents xs) (spell_type t ++ spell_tag tag))
line_some (EmbeddedLine star n tag) = omega (arith, type_name_some n, length-append (spell_some operator.Star star) (spell_type_name n ++ spell_tag tag), length-append (spell_type_name n) (spell_tag tag))

line_item : (b : ℕ) (type : List Terminal → Reading TypeTree) → FindsTypes b type → (l : LineTree) → Wf_line l → FoundItem LineTree (line_at type) spell_line operator.Semicolon operator.CloseBrace b (line_height l) l
line_item b type finds l wf =
    record { before_mark = λ s ts. line_found b type finds l (mark operator.Semicolon s ∷ ts) wf (record { dot = refl; text = refl; ends = refl }); before_end = λ z ts. line_found b type finds l (mark operator.CloseBrace z ∷ ts) wf (record { dot = refl; text = refl; ends = refl }); opens = line_opens l }

-- fields as lines

abbrev pub lines_of : FieldTrees → List (LineTree × Option Span)
lines_of NoFields = []
lines_of (NamedFields xs t tag s rest) = (NamedLine xs t tag, s) ∷ lines_of rest
lines_of (EmbeddedField star n tag s rest) = (EmbeddedLine star n tag, s) ∷ lines_of rest

pub fields_back : (fs : FieldTrees) → as_fields (lines_of fs) ≡ fs
fields_back NoFields = refl
fields_back (NamedFields xs t tag s rest) = ap (NamedFields xs t tag s) (fields_back rest)
fields_back (EmbeddedField star n tag s rest) = ap (EmbeddedField star n tag s) (fields_back rest)

pub lines_back : (ls : List (LineTree × Option Span)) → lines_of (as_fields ls) ≡ ls
lines_back [] = refl
lines_back ((NamedLine xs t tag, s) ∷ ls) = ap (λ l. (NamedLine xs t tag, s) ∷ l) (lines_back ls)
lines_back ((EmbeddedLine star n tag, s) ∷ ls) = ap (λ l. (EmbeddedLine star n tag, s) ∷ l) (lines_back ls)

pub lines_spelled : (fs : FieldTrees) → spell_list spell_line operator.Semicolon (lines_of fs) ≡ spell_fields fs
lines_spelled NoFields = refl
lines_spelled (NamedFields xs t tag s rest) =
    let more = spell_list spell_line operator.Semicolon (lines_of rest) in
    let behind = spell_some operator.Semicolon s ++ more in
    append_assoc (spell_idents xs) (spell_type t ++ spell_tag tag) behind
    ∙ ap (λ l. spell_idents xs ++ l) (append_assoc (spell_type t) (spell_tag tag) behind)
    ∙ ap (λ l. spell_idents xs ++ (spell_type t ++ (spell_tag tag ++ (spell_some operator.Semicolon s ++ l)))) (lines_spelled rest)
lines_spelled (EmbeddedField star n tag s rest) =
    let more = spell_list spell_line operator.Semicolon (lines_of rest) in
    let behind = spell_some operator.Semicolon s ++ more in
    append_assoc (spell_some operator.Star star) (spell_type_name n ++ spell_tag tag) behind
    ∙ ap (λ l. spell_some operator.Star star ++ l) (append_assoc (spell_type_name n) (spell_tag tag) behind)
    ∙ ap (λ l. spell_some operator.Star star ++ (spell_type_name n ++ (spell_tag tag ++ (spell_some operator.Semicolon s ++ l)))) (lines_spelled rest)

pub lines_high : (fs : FieldTrees) → group_height line_height (lines_of fs) ≡ fields_height fs
lines_high NoFields = refl
lines_high (NamedFields xs t tag s rest) = ap (max (type_height t)) (lines_high rest)
lines_high (EmbeddedField star n tag s rest) = ap (max 1) (lines_high rest)

kept_lines : (s : Option Span) (rest : FieldTrees) → IsKept s (IsLastField rest) → IsKept s (IsNothing (lines_of rest))
kept_lines (Some s) rest kept = tt
kept_lines None NoFields kept = tt
kept_lines None (NamedFields xs t tag s rest) kept = absurd kept
kept_lines None (EmbeddedField star n tag s rest) kept = absurd kept

lines_wf : (fs : FieldTrees) → Wf_fields fs → Wf_group Wf_line (lines_of fs)
lines_wf NoFields wf = tt
lines_wf (NamedFields xs t tag s rest) wf = (wf.0, kept_lines s rest wf.1, lines_wf rest wf.2)
lines_wf (EmbeddedField star n tag s rest) wf = (tt, kept_lines s rest wf.0, lines_wf rest wf.1)

kept_fields : (s : Option Span) (ls : List (LineTree × Option Span)) → IsKept s (IsNothing ls) → IsKept s (IsLastField (as_fields ls))
kept_fields (Some s) ls kept = tt
kept_fields None [] kept = tt
kept_fields None (l ∷ ls) kept = absurd kept

fields_wf : (ls : List (LineTree × Option Span)) → Wf_group Wf_line ls → Wf_fields (as_fields ls)
fields_wf [] wf = tt
fields_wf ((NamedLine xs t tag, s) ∷ ls) wf = (wf.0, kept_fields s ls wf.1, fields_wf ls wf.2)
fields_wf ((EmbeddedLine star n tag, s) ∷ ls) wf = (kept_fields s ls wf.1, fields_wf ls wf.2)

-- the lines of fields that are spelled before the closing brace are read, unless one is too high
pub fields_complete : (b : ℕ) (type : List Terminal → Reading TypeTree) → FindsTypes b type → (fs : FieldTrees) (z : Span) (after : List Terminal) → Wf_fields fs → AgreesAt (list_go (line_at type) operator.Semicolon operator.CloseBrace (suc (length (spell_fields fs ++ (mark operator.CloseBrace z ∷ after)))) (spell_fields fs ++ (mark operator.CloseBrace z ∷ after))) (Ok (lines_of fs, mark operator.CloseBrace z ∷ after)) b (fields_height fs)
fields_complete b type finds fs z after wf =
    let end = mark operator.CloseBrace z ∷ after in
    let ls = lines_of fs in
    let list = list_complete LineTree (line_at type) spell_line operator.Semicolon operator.CloseBrace b line_height Wf_line refl (line_item b type finds) line_some ls z after (lines_wf fs wf) in
    subst (λ l. AgreesAt (list_go (line_at type) operator.Semicolon operator.CloseBrace (suc (length (l ++ end))) (l ++ end)) (Ok (ls, end)) b (fields_height fs)) (lines_spelled fs)
    (subst (λ h. AgreesAt (list_go (line_at type) operator.Semicolon operator.CloseBrace (suc (length (spell_list spell_line operator.Semicolon ls ++ end))) (spell_list spell_line operator.Semicolon ls ++ end)) (Ok (ls, end)) b h) (lines_high fs) list)

tag_was : (ts : List Terminal) (o : Option (TextLiteral × List Terminal)) → text_at ts ≡ o → ts ≡ spell_tag (tag_by ts o).0 ++ (tag_by ts o).1
tag_was ts None at = refl
tag_was ts (Some t) at = text_was ts t at

abbrev LineReads : ℕ → List Terminal → LineTree × List Terminal → Type 0
LineReads b ts y = ReadsItem LineTree spell_line line_height Wf_line b ts y

embedded_by_reads : (b : ℕ) (star : Option Span) (ts : List Terminal) (t : TypeTree) (rest : List Terminal) → ts ≡ spell_type t ++ rest → type_height t ≤ b → (y : LineTree × List Terminal) → embedded_by star t rest ≡ Ok y → LineReads b (spell_some operator.Star star ++ ts) y
embedded_by_reads b star ts (NamedType n) rest is low y e =
    let t = tag_by rest (text_at rest) in
    let same : (EmbeddedLine star n t.0, t.1) ≡ y = cc in
    let path : ts ≡ (spell_type_name n ++ spell_tag t.0) ++ t.1 = is ∙ ap (λ l. spell_type_name n ++ l) (tag_was rest (text_at rest) refl) ∙ sym (append_assoc (spell_type_name n) (spell_tag t.0) t.1) in
    subst (LineReads b (spell_some operator.Star star ++ ts)) same (record { spelled_as = ap (λ l. spell_some operator.Star star ++ l) path ∙ sym (append_assoc (spell_some operator.Star star) (spell_type_name n ++ spell_tag t.0) t.1); wf = tt; low = low })
embedded_by_reads b star ts (Pointer s t) rest is low y e = cc
embedded_by_reads b star ts (ParenType first t last) rest is low y e = cc
embedded_by_reads b star ts (Struct k first fs last) rest is low y e = cc
embedded_by_reads b star ts (Interface k first ms last) rest is low y e = cc

embedded_reads : (b : ℕ) (type : List Terminal → Reading TypeTree) → ReadsTypes b type → (star : Option Span) (ts : List Terminal) (y : LineTree × List Terminal) → embedded type star ts ≡ Ok y → LineReads b (spell_some operator.Star star ++ ts) y
embedded_reads b type reads star ts y e =
    let w = bind_ok (type ts) (λ t. embedded_by star t.0 t.1) y e in
    let r = reads ts w.0 w.1 in
    embedded_by_reads b star ts w.0.0 w.0.1 r.spelled r.low y w.2

named_reads : (b : ℕ) (type : List Terminal → Reading TypeTree) → ReadsTypes b type → (ts : List Terminal) (y : LineTree × List Terminal) → named_line type ts ≡ Ok y → LineReads b ts y
named_reads b type reads ts y e =
    let v = bind_ok (idents_go (suc (length ts)) ts) (λ xs. type xs.1 >>= λ t. tagged (NamedLine xs.0 t.0) t.1) y e in
    let xs = v.0 in
    let w = bind_ok (type xs.1) (λ t. tagged (NamedLine xs.0 t.0) t.1) y v.2 in
    let t = w.0 in
    let r = reads xs.1 t w.1 in
    let last = tag_by t.1 (text_at t.1) in
    let same : (NamedLine xs.0 t.0 last.0, last.1) ≡ y = cc (w.2) in
    let front = spell_idents xs.0 in
    let path : xs.1 ≡ (spell_type t.0 ++ spell_tag last.0) ++ last.1 = r.spelled ∙ ap (λ l. spell_type t.0 ++ l) (tag_was t.1 (text_at t.1) refl) ∙ sym (append_assoc (spell_type t.0) (spell_tag last.0) last.1) in
    subst (LineReads b ts) same (record { spelled_as = (idents_sound (suc (length ts)) ts xs v.1).spelled ∙ ap (λ l. front ++ l) path ∙ sym (append_assoc front (spell_type t.0 ++ spell_tag last.0) last.1); wf = r.wf; low = r.low })

line_of_name_reads : (b : ℕ) (type : List Terminal → Reading TypeTree) → ReadsTypes b type → (ts : List Terminal) (c : Bool) (y : LineTree × List Terminal) → line_of_name type ts c ≡ Ok y → LineReads b ts y
line_of_name_reads b type reads ts true y e = embedded_reads b type reads None ts y e
line_of_name_reads b type reads ts false y e = named_reads b type reads ts y e

line_by_name_reads : (b : ℕ) (type : List Terminal → Reading TypeTree) → ReadsTypes b type → (ts : List Terminal) (o : Option (Ident × List Terminal)) (y : LineTree × List Terminal) → line_by_name type ts o ≡ Ok y → LineReads b ts y
line_by_name_reads b type reads ts None y e = cc
line_by_name_reads b type reads ts (Some x) y e = line_of_name_reads b type reads ts (ends_embedded x.1) y e

line_by_star_reads : (b : ℕ) (type : List Terminal → Reading TypeTree) → ReadsTypes b type → (ts : List Terminal) (m : MarkAhead) → mark_at operator.Star ts ≡ m → (y : LineTree × List Terminal) → line_by_star type ts m ≡ Ok y → LineReads b ts y
line_by_star_reads b type reads ts None at y e = line_by_name_reads b type reads ts (name_at ts) y e
line_by_star_reads b type reads ts (Some star) at y e =
    subst (λ ts. LineReads b ts y) (sym (mark_was operator.Star ts star at)) (embedded_reads b type reads (Some star.0) star.1 y e)

-- a line that is read is spelled in front
pub line_sound : (b : ℕ) (type : List Terminal → Reading TypeTree) → ReadsTypes b type → (ts : List Terminal) (y : LineTree × List Terminal) → line_at type ts ≡ Ok y → ReadsItem LineTree spell_line line_height Wf_line b ts y
line_sound b type reads ts y e = line_by_star_reads b type reads ts (mark_at operator.Star ts) refl y e

-- lines that were read are fields that are spelled in front, respect the rules and are low enough
pub record ReadsFields (b : ℕ) (ts : List Terminal) (fs : FieldTrees) (rest : List Terminal) : Type 0 where
  pub spelled : ts ≡ spell_fields fs ++ rest
  pub wf : Wf_fields fs
  pub low : fields_height fs ≤ b

pub fields_sound : (b : ℕ) (type : List Terminal → Reading TypeTree) → ReadsTypes b type → (k : ℕ) (ts : List Terminal) (x : List (LineTree × Option Span) × List Terminal) → list_go (line_at type) operator.Semicolon operator.CloseBrace k ts ≡ Ok x → ReadsFields b ts (as_fields x.0) x.1
fields_sound b type reads k ts x e =
    let r = list_sound LineTree (line_at type) spell_line operator.Semicolon operator.CloseBrace line_height Wf_line b (line_sound b type reads) k ts x e in
    let back = lines_back x.0 in
    let fs = as_fields x.0 in
    let spelled : spell_list spell_line operator.Semicolon x.0 ≡ spell_fields fs = ap (spell_list spell_line operator.Semicolon) (sym back) ∙ lines_spelled fs in
    let high : fields_height fs ≡ group_height line_height x.0 = sym (lines_high fs) ∙ ap (group_height line_height) back in
    record { spelled = r.spelled_as ∙ ap (λ l. l ++ x.1) spelled; wf = fields_wf x.0 r.wf; low = omega (arith, high, r.low) }

-- methods

abbrev pub MethodTree : Type 0
MethodTree = Ident × SignatureTree

abbrev pub spell_method : MethodTree → List Terminal
spell_method m = spell_ident m.0 ∷ spell_signature m.1

abbrev pub Wf_method : MethodTree → Type 0
Wf_method m = Wf_signature m.1

abbrev pub method_height : MethodTree → ℕ
method_height m = signature_height m.1

method_found : (b : ℕ) (type : List Terminal → Reading TypeTree) → FindsTypes b type → (m : MethodTree) (rest : List Terminal) → Wf_method m → StopsSignature rest → AgreesAt (method_at type (spell_method m ++ rest)) (Ok (m, rest)) b (method_height m)
method_found b type finds m rest wf stops =
    let h = method_height m in
    bind_agrees (signature_at type (spell_signature m.1 ++ rest)) (m.1, rest) (λ y. Ok ((m.0, y.0), y.1)) (Ok (m, rest)) b h b h
    (signature_complete b type finds m.1 rest wf stops) (inl refl) (λ g. g)

pub method_some : (m : MethodTree) → 0 < length (spell_method m)
method_some m = omega arith

method_item : (b : ℕ) (type : List Terminal → Reading TypeTree) → FindsTypes b type → (m : MethodTree) → Wf_method m → FoundItem MethodTree (method_at type) spell_method operator.Semicolon operator.CloseBrace b (method_height m) m
method_item b type finds m wf =
    record { before_mark = λ s ts. method_found b type finds m (mark operator.Semicolon s ∷ ts) wf (refl, refl); before_end = λ z ts. method_found b type finds m (mark operator.CloseBrace z ∷ ts) wf (refl, refl); opens = λ ts. refl }

abbrev pub methods_of : MethodTrees → List (MethodTree × Option Span)
methods_of NoMethods = []
methods_of (Method x signature s rest) = ((x, signature), s) ∷ methods_of rest

pub methods_back : (ms : MethodTrees) → as_methods (methods_of ms) ≡ ms
methods_back NoMethods = refl
methods_back (Method x signature s rest) = ap (Method x signature s) (methods_back rest)

pub method_list_back : (ms : List (MethodTree × Option Span)) → methods_of (as_methods ms) ≡ ms
method_list_back [] = refl
method_list_back (m ∷ ms) = ap (λ l. m ∷ l) (method_list_back ms)

pub methods_spelled : (ms : MethodTrees) → spell_list spell_method operator.Semicolon (methods_of ms) ≡ spell_methods ms
methods_spelled NoMethods = refl
methods_spelled (Method x signature s rest) =
    ap (λ l. spell_ident x ∷ (spell_signature signature ++ (spell_some operator.Semicolon s ++ l))) (methods_spelled rest)

pub methods_high : (ms : MethodTrees) → group_height method_height (methods_of ms) ≡ methods_height ms
methods_high NoMethods = refl
methods_high (Method x signature s rest) = ap (max (signature_height signature)) (methods_high rest)

kept_methods : (s : Option Span) (rest : MethodTrees) → IsKept s (IsLastMethod rest) → IsKept s (IsNothing (methods_of rest))
kept_methods (Some s) rest kept = tt
kept_methods None NoMethods kept = tt
kept_methods None (Method x signature s rest) kept = absurd kept

methods_wf : (ms : MethodTrees) → Wf_methods ms → Wf_group Wf_method (methods_of ms)
methods_wf NoMethods wf = tt
methods_wf (Method x signature s rest) wf = (wf.0, kept_methods s rest wf.1, methods_wf rest wf.2)

kept_method_trees : (s : Option Span) (ms : List (MethodTree × Option Span)) → IsKept s (IsNothing ms) → IsKept s (IsLastMethod (as_methods ms))
kept_method_trees (Some s) ms kept = tt
kept_method_trees None [] kept = tt
kept_method_trees None (m ∷ ms) kept = absurd kept

method_trees_wf : (ms : List (MethodTree × Option Span)) → Wf_group Wf_method ms → Wf_methods (as_methods ms)
method_trees_wf [] wf = tt
method_trees_wf (m ∷ ms) wf = (wf.0, kept_method_trees m.1 ms wf.1, method_trees_wf ms wf.2)

-- methods that are spelled before the closing brace are read, unless one is too high
pub methods_complete : (b : ℕ) (type : List Terminal → Reading TypeTree) → FindsTypes b type → (ms : MethodTrees) (z : Span) (after : List Terminal) → Wf_methods ms → AgreesAt (list_go (method_at type) operator.Semicolon operator.CloseBrace (suc (length (spell_methods ms ++ (mark operator.CloseBrace z ∷ after)))) (spell_methods ms ++ (mark operator.CloseBrace z ∷ after))) (Ok (methods_of ms, mark operator.CloseBrace z ∷ after)) b (methods_height ms)
methods_complete b type finds ms z after wf =
    let end = mark operator.CloseBrace z ∷ after in
    let l = methods_of ms in
    let list = list_complete MethodTree (method_at type) spell_method operator.Semicolon operator.CloseBrace b method_height Wf_method refl (method_item b type finds) method_some l z after (methods_wf ms wf) in
    subst (λ t. AgreesAt (list_go (method_at type) operator.Semicolon operator.CloseBrace (suc (length (t ++ end))) (t ++ end)) (Ok (l, end)) b (methods_height ms)) (methods_spelled ms)
    (subst (λ h. AgreesAt (list_go (method_at type) operator.Semicolon operator.CloseBrace (suc (length (spell_list spell_method operator.Semicolon l ++ end))) (spell_list spell_method operator.Semicolon l ++ end)) (Ok (l, end)) b h) (methods_high ms) list)

-- a method that is read is spelled in front
pub method_sound : (b : ℕ) (type : List Terminal → Reading TypeTree) → ReadsTypes b type → (ts : List Terminal) (y : MethodTree × List Terminal) → method_at type ts ≡ Ok y → ReadsItem MethodTree spell_method method_height Wf_method b ts y
method_sound b type reads ts y e =
    let v = bind_ok (need (name_at ts)) (λ x. signature_at type x.1 >>= λ y. Ok ((x.0, y.0), y.1)) y e in
    let x = v.0 in
    let w = bind_ok (signature_at type x.1) (λ y. Ok ((x.0, y.0), y.1)) y v.2 in
    let r = signature_sound b type reads x.1 w.0 w.1 in
    let same : ((x.0, w.0.0), w.0.1) ≡ y = cc (w.2) in
    subst (ReadsItem MethodTree spell_method method_height Wf_method b ts) same (record { spelled_as = name_was ts x (need_ok (name_at ts) x v.1) ∙ ap (λ l. spell_ident x.0 ∷ l) r.spelled; wf = r.wf; low = r.low })

-- methods that were read are spelled in front, respect the rules and are low enough
pub record ReadsMethods (b : ℕ) (ts : List Terminal) (ms : MethodTrees) (rest : List Terminal) : Type 0 where
  pub spelled : ts ≡ spell_methods ms ++ rest
  pub wf : Wf_methods ms
  pub low : methods_height ms ≤ b

pub methods_sound : (b : ℕ) (type : List Terminal → Reading TypeTree) → ReadsTypes b type → (k : ℕ) (ts : List Terminal) (x : List (MethodTree × Option Span) × List Terminal) → list_go (method_at type) operator.Semicolon operator.CloseBrace k ts ≡ Ok x → ReadsMethods b ts (as_methods x.0) x.1
methods_sound b type reads k ts x e =
    let r = list_sound MethodTree (method_at type) spell_method operator.Semicolon operator.CloseBrace method_height Wf_method b (method_sound b type reads) k ts x e in
    let back = method_list_back x.0 in
    let ms = as_methods x.0 in
    let spelled : spell_list spell_method operator.Semicolon x.0 ≡ spell_methods ms = ap (spell_list spell_method operator.Semicolon) (sym back) ∙ methods_spelled ms in
    let high : methods_height ms ≡ group_height method_height x.0 = sym (methods_high ms) ∙ ap (group_height method_height) back in
    record { spelled = r.spelled_as ∙ ap (λ l. l ++ x.1) spelled; wf = method_trees_wf x.0 r.wf; low = omega (arith, high, r.low) }
