-- Reading finds no other files than those that are spelled.
use Rattle.std.proofs.Common.{◌≡◌, ℕ, zero, suc, ◌+◌, ◌<◌, ◌≤◌, Bool, true, false, List, [], ◌∷◌, ◌++◌, length, Option, Some, None, Result, Ok, refl, sym, ap, ◌∙◌, subst, arith, append_assoc, length-append}
use Rattle.go_tree_nodes.specs.text_core.declared.span.Span.{Span}
use Rattle.go_tree_nodes.specs.token_core.declared.kind.Keyword.TheVariants as keyword
use Rattle.go_tree_nodes.specs.token_core.declared.kind.Operator.TheVariants as operator
use Rattle.go_tree_nodes.specs.declared.names.Ident.{Ident}
use Rattle.go_tree_nodes.specs.declared.decls.ValueKind.{ValueKind}
use Rattle.go_tree_nodes.specs.declared.files.Receiver.{Receiver}
use Rattle.go_tree_nodes.specs.Terminals.{Terminal}
use Rattle.go_tree_nodes.specs.Trees.{FuncTree, DeclTree, Value, Types, Func, TopTree, ImportSpecTree, ImportTree, FileTree}
use Rattle.go_tree_nodes.specs.Spelling.{mark, word, spell_ident, spell_text, spell_some, spell_type_name, spell_specs, spell_lines, spell_signature, spell_receiver_name, spell_receiver, spell_func, spell_decl, spell_tops, spell_import_name, spell_import, spell_imports, spell_file}
use Rattle.go_tree_nodes.specs.Rules.{Wf_decl, Wf_tops, Wf_imports}
use Rattle.go_tree_nodes.specs.Heights.{receiver_height, decl_height, tops_height, file_height}
use Rattle.go_parse_reader.specs.types.mirrors.Marks.{Stuck, ◌>>=◌, Reading, MarkAhead, need, mark_at, keyword_at, name_at, text_at, some_mark}
use Rattle.go_parse_reader.specs.types.mirrors.TypeReading.{type_name_at, type_at, signature_at}
use Rattle.go_parse_reader.proofs.TypesMarks.{mark_was, word_was, name_was, text_was, some_mark_was, bind_ok}
use Rattle.go_parse_reader.proofs.TypesLists.{ReadsItem, ItemsRead}
use Rattle.go_parse_reader.proofs.TypesTypeFacts.{type_name_sound}
use Rattle.go_parse_reader.proofs.TypesTypes.{type_signature_sound}
use Rattle.go_parse_core.specs.stmts.mirrors.StmtReading.{specs_at, value_at, value_word, types_at, braced, block_at}
use Rattle.go_parse_core.proofs.StmtsSpecs.{specs_sound}
use Rattle.go_parse_core.proofs.StmtsValues.{value_sound, types_sound, value_word_was}
use Rattle.go_parse_core.proofs.StmtsStmtSound.{block_reads, block_sound}
use Rattle.go_parse_core.specs.Correct.{IsTreeOf}
use Rattle.go_parse_core.specs.mirrors.FileReading.{import_spec, named_import, dotted_import, import_spec_at, imports_by, imports_go, is_receiver_name, named_receiver, receiver_name, receiver, receiver_at, receiver_by, func_tree, func_at, by_func, by_types, by_values, decl_at, top_at, tops_go, file_at}

need_then : {A B : Type 0} (o : Option A) (f : A → Result B Stuck) (y : B) → (need o >>= f) ≡ Ok y → (x : A) × (o ≡ Some x) × (f x ≡ Ok y)
need_then (Some x) f y e = (x, refl, e)
need_then None f y e = cc

abbrev done : {A : Type 0} → A → Result A Stuck
done x = Ok x

ok_is : {A : Type 0} (x y : A) → done x ≡ done y → x ≡ y
ok_is x y e = cc

-- Imports.

named_was : (ts : List Terminal) (m : Option (Ident × List Terminal)) → name_at ts ≡ m → ts ≡ spell_import_name (named_import ts m).0 ++ (named_import ts m).1
named_was ts None at = refl
named_was ts (Some x) at = name_was ts x at

dotted_was : (ts : List Terminal) (m : MarkAhead) → mark_at operator.Dot ts ≡ m → ts ≡ spell_import_name (dotted_import ts m).0 ++ (dotted_import ts m).1
dotted_was ts None at = named_was ts (name_at ts) refl
dotted_was ts (Some dot) at = mark_was operator.Dot ts dot at

pub import_spec_sound : ItemsRead ImportSpecTree spell_import (λ i. 0) (λ i. Unit {0}) 0 import_spec_at
import_spec_sound ts y e =
    let n = dotted_import ts (mark_at operator.Dot ts) in
    let p = need_then (text_at n.1) (λ path. Ok (import_spec n.0 path.0, path.1)) y e in
    let made : ImportSpecTree × List Terminal = (import_spec n.0 p.0.0, p.0.1) in
    let path : ts ≡ (spell_import_name n.0 ++ (spell_text p.0.0 ∷ [])) ++ p.0.1 =
    dotted_was ts (mark_at operator.Dot ts) refl ∙ ap (λ l. spell_import_name n.0 ++ l) (text_was n.1 p.0 p.1) ∙ sym (append_assoc (spell_import_name n.0) (spell_text p.0.0 ∷ []) p.0.1) in
    subst (ReadsItem ImportSpecTree spell_import (λ i. 0) (λ i. Unit {0}) 0 ts) (ok_is made y p.2) (record { spelled_as = path; wf = tt; low = omega arith })

pub record ReadsImports (ts : List Terminal) (x : List ImportTree × List Terminal) : Type 0 where
  pub spelled : ts ≡ spell_imports x.0 ++ x.1
  pub wf : Wf_imports x.0

imports_by_reads : (more : List Terminal → Reading (List ImportTree)) → ((ts : List Terminal) (y : List ImportTree × List Terminal) → more ts ≡ Ok y → ReadsImports ts y) → (ts : List Terminal) (m : MarkAhead) → keyword_at keyword.Import ts ≡ m → (y : List ImportTree × List Terminal) → imports_by more ts m ≡ Ok y → ReadsImports ts y
imports_by_reads more ih ts None at y e =
    let same : ([], ts) ≡ y = cc in
    subst (ReadsImports ts) same (record { spelled = refl; wf = tt })
imports_by_reads more ih ts (Some k) at y e =
    let xs = bind_ok (specs_at import_spec_at k.1) _ y e in
    let s = need_then (mark_at operator.Semicolon xs.0.1) _ y xs.2 in
    let w = bind_ok (more s.0.1) _ y s.2 in
    let r = specs_sound ImportSpecTree import_spec_at spell_import (λ i. 0) (λ i. Unit {0}) 0 import_spec_sound k.1 xs.0 xs.1 in
    let q = ih s.0.1 w.0 w.1 in
    let front = word keyword.Import k.0 in
    let semicolon = mark operator.Semicolon s.0.0 in
    let made : List ImportTree × List Terminal = (record { keyword = k.0; specs = xs.0.0; semicolon = s.0.0 } ∷ w.0.0, w.0.1) in
    let tail : k.1 ≡ (spell_specs spell_import xs.0.0 ++ (semicolon ∷ spell_imports w.0.0)) ++ w.0.1 =
    r.spelled_as ∙ ap (λ l. spell_specs spell_import xs.0.0 ++ l) (mark_was operator.Semicolon xs.0.1 s.0 s.1 ∙ ap (λ l. semicolon ∷ l) q.spelled) ∙ sym (append_assoc (spell_specs spell_import xs.0.0) (semicolon ∷ spell_imports w.0.0) w.0.1) in
    subst (ReadsImports ts) (ok_is made y w.2) (record { spelled = word_was keyword.Import ts k at ∙ ap (λ l. front ∷ l) tail; wf = (r.wf, q.wf) })

pub imports_sound : (turns : ℕ) (ts : List Terminal) (y : List ImportTree × List Terminal) → imports_go turns ts ≡ Ok y → ReadsImports ts y
unfolding imports_go
imports_sound zero ts y e = cc
imports_sound (suc turns) ts y e = imports_by_reads (imports_go turns) (imports_sound turns) ts (keyword_at keyword.Import ts) refl y e

-- Functions.

named_receiver_was : (ts : List Terminal) (x : Ident × List Terminal) → ts ≡ spell_ident x.0 ∷ x.1 → (c : Bool) → ts ≡ spell_receiver_name (named_receiver ts x.0 x.1 c).0 ++ (named_receiver ts x.0 x.1 c).1
named_receiver_was ts x is true = is
named_receiver_was ts x is false = refl

receiver_name_was : (ts : List Terminal) (m : Option (Ident × List Terminal)) → name_at ts ≡ m → ts ≡ spell_receiver_name (receiver_name ts m).0 ++ (receiver_name ts m).1
receiver_name_was ts None at = refl
receiver_name_was ts (Some x) at = named_receiver_was ts x (name_was ts x at) (is_receiver_name x.1)

pub receiver_sound : (first : Span) (ts : List Terminal) (y : Receiver × List Terminal) → receiver_at first ts ≡ Ok y → mark operator.OpenParen first ∷ ts ≡ spell_receiver (Some y.0) ++ y.1
receiver_sound first ts y e =
    let n = receiver_name ts (name_at ts) in
    let star = some_mark operator.Star n.1 in
    let base = bind_ok (type_name_at star.1) _ y e in
    let comma = some_mark operator.Comma base.0.1 in
    let close = need_then (mark_at operator.CloseParen comma.1) _ y base.2 in
    let made : Receiver × List Terminal = (receiver first n.0 star.0 base.0.0 comma.0 close.0.0, close.0.1) in
    let last = mark operator.CloseParen close.0.0 in
    let rest = close.0.1 in
    let a = spell_receiver_name n.0 in
    let s = spell_some operator.Star star.0 in
    let t = spell_type_name base.0.0 in
    let c = spell_some operator.Comma comma.0 in
    let from_comma : base.0.1 ≡ (c ++ (last ∷ [])) ++ rest = some_mark_was operator.Comma base.0.1 ∙ ap (λ l. c ++ l) (mark_was operator.CloseParen comma.1 close.0 close.1) ∙ sym (append_assoc c (last ∷ []) rest) in
    let from_base : star.1 ≡ (t ++ (c ++ (last ∷ []))) ++ rest = type_name_sound star.1 base.0 base.1 ∙ ap (λ l. t ++ l) from_comma ∙ sym (append_assoc t (c ++ (last ∷ [])) rest) in
    let from_star : n.1 ≡ (s ++ (t ++ (c ++ (last ∷ [])))) ++ rest = some_mark_was operator.Star n.1 ∙ ap (λ l. s ++ l) from_base ∙ sym (append_assoc s (t ++ (c ++ (last ∷ []))) rest) in
    let path : ts ≡ (a ++ (s ++ (t ++ (c ++ (last ∷ []))))) ++ rest = receiver_name_was ts (name_at ts) refl ∙ ap (λ l. a ++ l) from_star ∙ sym (append_assoc a (s ++ (t ++ (c ++ (last ∷ [])))) rest) in
    subst (λ (y : Receiver × List Terminal). mark operator.OpenParen first ∷ ts ≡ spell_receiver (Some y.0) ++ y.1) (ok_is made y close.2) (ap (λ l. mark operator.OpenParen first ∷ l) path)

receiver_by_was : (ts : List Terminal) (m : MarkAhead) → mark_at operator.OpenParen ts ≡ m → (y : Option Receiver × List Terminal) → receiver_by ts m ≡ Ok y → ts ≡ spell_receiver y.0 ++ y.1
receiver_by_was ts None at y e =
    let same : (None, ts) ≡ y = cc in
    subst (λ (y : Option Receiver × List Terminal). ts ≡ spell_receiver y.0 ++ y.1) same refl
receiver_by_was ts (Some first) at y e =
    let w = bind_ok (receiver_at first.0 first.1) (λ r. Ok (Some r.0, r.1)) y e in
    let same : (Some w.0.0, w.0.1) ≡ y = cc (w.2) in
    subst (λ (y : Option Receiver × List Terminal). ts ≡ spell_receiver y.0 ++ y.1) same (mark_was operator.OpenParen ts first at ∙ receiver_sound first.0 first.1 w.0 w.1)

receiver_low : (r : Option Receiver) → receiver_height r ≤ 1
receiver_low None = omega arith
receiver_low (Some r) = omega arith

-- what was read behind `func` is spelled there, respects the rules and is low enough
abbrev pub ReadsFunc : ℕ → Span → List Terminal → FuncTree × List Terminal → Type 0
ReadsFunc b func ts x = ReadsItem FuncTree spell_func (λ f. decl_height (Func f)) (λ f. Wf_decl (Func f)) (b + 1) (word keyword.Func func ∷ ts) x

pub func_sound : (b : ℕ) (func : Span) (ts : List Terminal) (y : FuncTree × List Terminal) → func_at b func ts ≡ Ok y → ReadsFunc b func ts y
unfolding func_at
func_sound b func ts y e =
    let r = bind_ok (receiver_by ts (mark_at operator.OpenParen ts)) _ y e in
    let x = need_then (name_at r.0.1) _ y r.2 in
    let g = bind_ok (signature_at (type_at b) x.0.1) _ y x.2 in
    let body = bind_ok (braced (block_at b) g.0.1) _ y g.2 in
    let made : FuncTree × List Terminal = (func_tree func r.0.0 x.0.0 g.0.0 body.0.0, body.0.1) in
    let p = receiver_by_was ts (mark_at operator.OpenParen ts) refl r.0 r.1 in
    let q = type_signature_sound b x.0.1 g.0 g.1 in
    let z = block_reads b (block_at b) (block_sound b) g.0.1 body.0 body.1 in
    let a = spell_receiver r.0.0 in
    let s = spell_signature g.0.0 in
    let block = mark operator.OpenBrace body.0.0.0 ∷ (spell_lines body.0.0.1 ++ mark operator.CloseBrace body.0.0.2 ∷ []) in
    let rest = body.0.1 in
    let from_signature : x.0.1 ≡ (s ++ block) ++ rest = q.spelled ∙ ap (λ l. s ++ l) z.0.spelled_as ∙ sym (append_assoc s block rest) in
    let path : ts ≡ (a ++ (spell_ident x.0.0 ∷ (s ++ block))) ++ rest = p ∙ ap (λ l. a ++ l) (name_was r.0.1 x.0 x.1 ∙ ap (λ l. spell_ident x.0.0 ∷ l) from_signature) ∙ sym (append_assoc a (spell_ident x.0.0 ∷ (s ++ block)) rest) in
    subst (ReadsFunc b func ts) (ok_is made y body.2) (record { spelled_as = ap (λ l. word keyword.Func func ∷ l) path; wf = (q.wf, z.0.wf); low = omega (arith, receiver_low r.0.0, q.low, z.1) })

-- Declarations.

abbrev pub ReadsDecl : ℕ → List Terminal → DeclTree × List Terminal → Type 0
ReadsDecl b ts x = ReadsItem DeclTree spell_decl decl_height Wf_decl (b + 1) ts x

by_func_reads : (b : ℕ) (ts : List Terminal) (m : MarkAhead) → keyword_at keyword.Func ts ≡ m → (y : DeclTree × List Terminal) → by_func b m ≡ Ok y → ReadsDecl b ts y
by_func_reads b ts None at y e = cc
by_func_reads b ts (Some k) at y e =
    let w = bind_ok (func_at b k.0 k.1) (λ x. Ok (Func x.0, x.1)) y e in
    let r = func_sound b k.0 k.1 w.0 w.1 in
    let same : (Func w.0.0, w.0.1) ≡ y = cc (w.2) in
    subst (ReadsDecl b ts) same (record { spelled_as = word_was keyword.Func ts k at ∙ r.spelled_as; wf = r.wf; low = r.low })

by_types_reads : (b : ℕ) (ts : List Terminal) (m : MarkAhead) → keyword_at keyword.«Type» ts ≡ m → (y : DeclTree × List Terminal) → by_types b ts m ≡ Ok y → ReadsDecl b ts y
by_types_reads b ts None at y e = by_func_reads b ts (keyword_at keyword.Func ts) refl y e
by_types_reads b ts (Some k) at y e =
    let w = bind_ok (types_at b k.0 k.1) (λ x. Ok (Types x.0, x.1)) y e in
    let r = types_sound b k.0 k.1 w.0 w.1 in
    let same : (Types w.0.0, w.0.1) ≡ y = cc (w.2) in
    subst (ReadsDecl b ts) same (record { spelled_as = word_was keyword.«Type» ts k at ∙ r.spelled_as; wf = r.wf; low = omega (arith, r.low) })

by_values_reads : (b : ℕ) (ts : List Terminal) (v : Option (ValueKind × Span × List Terminal)) → value_word ts ≡ v → (y : DeclTree × List Terminal) → by_values b ts v ≡ Ok y → ReadsDecl b ts y
by_values_reads b ts None at y e = by_types_reads b ts (keyword_at keyword.«Type» ts) refl y e
by_values_reads b ts (Some v) at y e =
    let w = bind_ok (value_at b v.0 v.1 v.2) (λ x. Ok (Value x.0, x.1)) y e in
    let r = value_sound b v.0 v.1 v.2 w.0 w.1 in
    let same : (Value w.0.0, w.0.1) ≡ y = cc (w.2) in
    subst (ReadsDecl b ts) same (record { spelled_as = value_word_was ts v at ∙ r.spelled_as; wf = r.wf; low = omega (arith, r.low) })

-- a declaration that is read is spelled in front
pub decl_sound : (b : ℕ) (ts : List Terminal) (y : DeclTree × List Terminal) → decl_at b ts ≡ Ok y → ReadsDecl b ts y
unfolding decl_at
decl_sound b ts y e = by_values_reads b ts (value_word ts) refl y e

-- and so is one with its semicolon
pub record ReadsTop (b : ℕ) (ts : List Terminal) (x : TopTree × List Terminal) : Type 0 where
  pub spelled : ts ≡ spell_decl x.0.decl ++ (mark operator.Semicolon x.0.semicolon ∷ x.1)
  pub wf : Wf_decl x.0.decl
  pub low : decl_height x.0.decl ≤ b + 1

pub top_sound : (b : ℕ) (ts : List Terminal) (y : TopTree × List Terminal) → top_at b ts ≡ Ok y → ReadsTop b ts y
unfolding top_at
top_sound b ts y e =
    let d = bind_ok (decl_at b ts) _ y e in
    let s = need_then (mark_at operator.Semicolon d.0.1) _ y d.2 in
    let r = decl_sound b ts d.0 d.1 in
    let made : TopTree × List Terminal = (record { decl = d.0.0; semicolon = s.0.0 }, s.0.1) in
    let path = r.spelled_as ∙ ap (λ l. spell_decl d.0.0 ++ l) (mark_was operator.Semicolon d.0.1 s.0 s.1) in
    subst (ReadsTop b ts) (ok_is made y s.2) (record { spelled = path; wf = r.wf; low = r.low })

-- a declaration with its semicolon takes terminals
pub top_shorter : (b : ℕ) (ts : List Terminal) (y : TopTree × List Terminal) → top_at b ts ≡ Ok y → length y.1 < length ts
top_shorter b ts y e =
    omega (arith, ap length (top_sound b ts y e).spelled, length-append (spell_decl y.0.decl) (mark operator.Semicolon y.0.semicolon ∷ y.1))

record ReadsTops (b : ℕ) (ts : List Terminal) (ds : List TopTree) : Type 0 where
  pub spelled : ts ≡ spell_tops ds
  pub wf : Wf_tops ds
  pub low : tops_height ds ≤ b + 1

-- declarations that are read are spelled
tops_sound : (b turns : ℕ) (ts : List Terminal) (ds : List TopTree) → tops_go b turns ts ≡ Ok ds → ReadsTops b ts ds
unfolding tops_go
tops_sound b turns [] ds e = subst (ReadsTops b []) (ok_is [] ds e) (record { spelled = refl; wf = tt; low = omega arith })
tops_sound b zero (t ∷ ts) ds e = cc
tops_sound b (suc turns) (t ∷ ts) ds e =
    let d = bind_ok (top_at b (t ∷ ts)) _ ds e in
    let g = bind_ok (tops_go b turns d.0.1) _ ds d.2 in
    let one = top_sound b (t ∷ ts) d.0 d.1 in
    let more = tops_sound b turns d.0.1 g.0 g.1 in
    let made : List TopTree = d.0.0 ∷ g.0 in
    subst (ReadsTops b (t ∷ ts)) (ok_is made ds g.2) (record { spelled = one.spelled ∙ ap (λ l. spell_decl d.0.0.decl ++ (mark operator.Semicolon d.0.0.semicolon ∷ l)) more.spelled; wf = (one.wf, more.wf); low = omega (arith, one.low, more.low) })

-- a file that is read is spelled by all the terminals, and low enough
pub file_sound : (b : ℕ) (ts : List Terminal) (f : FileTree) → file_at b ts ≡ Ok f → IsTreeOf f ts × (file_height f ≤ b + 1)
unfolding file_at
file_sound b ts f e =
    let p = need_then (keyword_at keyword.Package ts) _ f e in
    let x = need_then (name_at p.0.1) _ f p.2 in
    let s = need_then (mark_at operator.Semicolon x.0.1) _ f x.2 in
    let is = bind_ok (imports_go (suc (length s.0.1)) s.0.1) _ f s.2 in
    let ds = bind_ok (tops_go b (length is.0.1) is.0.1) _ f is.2 in
    let i = imports_sound (suc (length s.0.1)) s.0.1 is.0 is.1 in
    let all = tops_sound b (length is.0.1) is.0.1 ds.0 ds.1 in
    let made : FileTree = record { clause = p.0.0; name = x.0.0; semicolon = s.0.0; imports = is.0.0; decls = ds.0 } in
    let path : ts ≡ spell_file made = word_was keyword.Package ts p.0 p.1 ∙ ap (λ l. word keyword.Package p.0.0 ∷ l) (name_was p.0.1 x.0 x.1 ∙ ap (λ l. spell_ident x.0.0 ∷ l) (mark_was operator.Semicolon x.0.1 s.0 s.1 ∙ ap (λ l. mark operator.Semicolon s.0.0 ∷ l) (i.spelled ∙ ap (λ l. spell_imports is.0.0 ++ l) all.spelled))) in
    subst (λ f. IsTreeOf f ts × (file_height f ≤ b + 1)) (ok_is made f ds.2) (record { wf = (i.wf, all.wf); spelled = sym path }, all.low)
