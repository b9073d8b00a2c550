-- Reading finds each file that is spelled.
use Rattle.std.proofs.Common.{◌≡◌, ℕ, zero, suc, ◌+◌, ◌<◌, ◌≤◌, false, List, [], ◌∷◌, ◌++◌, length, Option, Some, None, Result, Ok, refl, ap, ◌∙◌, subst, arith, inl, inr, append_assoc, length-append}
use Rattle.go_tree_nodes.specs.text_core.declared.span.Span.{Span}
use Rattle.go_tree_nodes.specs.token_core.declared.kind.Keyword.TheVariants as keyword
use Rattle.go_tree_nodes.specs.token_core.declared.kind.Operator.{Operator}
use Rattle.go_tree_nodes.specs.token_core.declared.kind.Operator.TheVariants as operator
use Rattle.go_tree_nodes.specs.declared.names.Ident.{Ident}
use Rattle.go_tree_nodes.specs.declared.names.TextLiteral.{TextLiteral}
use Rattle.go_tree_nodes.specs.declared.types.TypeName.{TypeName}
use Rattle.go_tree_nodes.specs.declared.types.TypeName.TheVariants as type_name
use Rattle.go_tree_nodes.specs.declared.decls.ValueKind.{ValueKind}
use Rattle.go_tree_nodes.specs.declared.decls.ValueKind.TheVariants as kinds
use Rattle.go_tree_nodes.specs.declared.files.ImportName.{ImportName}
use Rattle.go_tree_nodes.specs.declared.files.ImportName.TheVariants as import_name
use Rattle.go_tree_nodes.specs.declared.files.Receiver.{Receiver}
use Rattle.go_tree_nodes.specs.Terminals.{Terminal}
use Rattle.go_tree_nodes.specs.Trees.{SignatureTree, Specs, FuncTree, DeclTree, Value, Types, Func, TopTree, ImportSpecTree, ImportTree, FileTree}
use Rattle.go_tree_nodes.specs.Spelling.{mark, word, spell_ident, spell_text, spell_some, spell_type_name, spell_value_spec, spell_specs, keyword_of, spell_value, spell_type_spec, spell_lines, spell_signature, spell_receiver_name, spell_receiver, spell_decl, spell_tops, spell_import_name, spell_import, spell_imports, spell_file}
use Rattle.go_tree_nodes.specs.Rules.{Wf_specs, Wf_decl, Wf_tops, Wf_imports}
use Rattle.go_tree_nodes.specs.Heights.{specs_height, value_height, types_height, signature_height, lines_height, decl_height, tops_height, file_height}
use Rattle.go_parse_reader.specs.types.mirrors.Marks.{Stuck, ◌>>=◌, Reading, need, mark_at, keyword_at, name_at}
use Rattle.go_parse_reader.specs.types.mirrors.TypeReading.{type_at, signature_at}
use Rattle.go_parse_reader.proofs.TypesMarks.{AgreesAt, bind_agrees, agrees_along}
use Rattle.go_parse_reader.proofs.TypesTypes.{type_signature_complete}
use Rattle.go_parse_core.specs.stmts.mirrors.StmtReading.{specs_at, value_at, types_at, Braced, braced, block_at}
use Rattle.go_parse_core.proofs.StmtsEnds.{Ends, ends_semicolon}
use Rattle.go_parse_core.proofs.StmtsSpecs.{FoundSpec, specs_complete}
use Rattle.go_parse_core.proofs.StmtsValues.{value_complete, types_complete, value_word_here}
use Rattle.go_parse_core.proofs.StmtsStmtFound.{block_complete}
use Rattle.go_parse_core.specs.Correct.{IsTreeOf}
use Rattle.go_parse_core.specs.mirrors.FileReading.{import_spec, import_spec_at, imports_by, imports_go, receiver, receiver_at, receiver_by, func_tree, func_at, by_values, decl_at, top_at, tops_go, file_at}

-- Imports.

import_spec_found : (i : ImportSpecTree) (rest : List Terminal) → import_spec_at (spell_import i ++ rest) ≡ Ok (i, rest)
import_spec_found i rest = of i.name i.path
  where
    of : (n : ImportName) (path : TextLiteral) → import_spec_at ((spell_import_name n ++ (spell_text path ∷ [])) ++ rest) ≡ Ok (import_spec n path, rest)
    of import_name.Own path = refl
    of (import_name.Named x) path = refl
    of (import_name.Dot s) path = refl

import_no_mark : (i : ImportSpecTree) (o : Operator) → ((s : Span) (ts : List Terminal) → mark_at o (mark operator.Dot s ∷ ts) ≡ None) → (rest : List Terminal) → mark_at o (spell_import i ++ rest) ≡ None
import_no_mark i o no_dot rest = of i.name
  where
    of : (n : ImportName) → mark_at o ((spell_import_name n ++ (spell_text i.path ∷ [])) ++ rest) ≡ None
    of import_name.Own = refl
    of (import_name.Named x) = refl
    of (import_name.Dot s) = no_dot s _

import_specs_found : (xs : Specs ImportSpecTree) (rest : List Terminal) → Wf_specs (λ s. Unit {0}) xs → specs_at import_spec_at (spell_specs spell_import xs ++ rest) ≡ Ok (xs, rest)
import_specs_found xs rest wf =
    let high = λ (i : ImportSpecTree). zero in
    let b = specs_height high xs in
    let found : FoundSpec ImportSpecTree import_spec_at spell_import b high (λ s. Unit {0}) rest =
    record { grouped = λ i w. record { before_mark = λ s ts. inl (import_spec_found i (mark operator.Semicolon s ∷ ts)); before_end = λ z ts. inl (import_spec_found i (mark operator.CloseParen z ∷ ts)); opens = import_no_mark i operator.CloseParen (λ s ts. refl) }; alone = λ i w. inl (import_spec_found i rest); some = λ i. omega (arith, length-append (spell_import_name i.name) (spell_text i.path ∷ [])); no_group = λ i. import_no_mark i operator.OpenParen (λ s ts. refl) } in
    elim (specs_complete ImportSpecTree import_spec_at spell_import b high (λ s. Unit {0}) rest found xs wf) [ inl e ↦ e | inr g ↦ absurd (omega (arith, g.1)) ]

imports_found : (is : List ImportTree) (turns : ℕ) (rest : List Terminal) → Wf_imports is → keyword_at keyword.Import rest ≡ None → length is < turns → imports_go turns (spell_imports is ++ rest) ≡ Ok (is, rest)
unfolding imports_go
imports_found is zero rest wf free enough = absurd (omega arith)
imports_found [] (suc turns) rest wf free enough = ap (imports_by (imports_go turns) rest) free
imports_found (i ∷ is) (suc turns) rest wf free enough =
    let more = spell_imports is ++ rest in
    let semicolon = mark operator.Semicolon i.semicolon in
    let last : Specs ImportSpecTree → List ImportTree × List Terminal → Reading (List ImportTree) = λ xs rest. Ok (record { keyword = i.keyword; specs = xs; semicolon = i.semicolon } ∷ rest.0, rest.1) in
    let go : Specs ImportSpecTree × List Terminal → Reading (List ImportTree) = λ xs. (need (mark_at operator.Semicolon xs.1) >>= λ s. (imports_go turns s.1 >>= λ rest. Ok (record { keyword = i.keyword; specs = xs.0; semicolon = s.0 } ∷ rest.0, rest.1))) in
    ap (λ ts. specs_at import_spec_at ts >>= go) (append_assoc (spell_specs spell_import i.specs) (semicolon ∷ spell_imports is) rest)
    ∙ ap (λ r. r >>= go) (import_specs_found i.specs (semicolon ∷ more) wf.0)
    ∙ ap (λ r. r >>= last i.specs) (imports_found is turns rest wf.1 free (omega arith))

imports_le : (is : List ImportTree) → length is ≤ length (spell_imports is)
imports_le [] = omega arith
imports_le (i ∷ is) =
    omega (arith, imports_le is, length-append (word keyword.Import i.keyword ∷ spell_specs spell_import i.specs) (mark operator.Semicolon i.semicolon ∷ spell_imports is))

-- Functions.

receiver_here : (first : Span) (name : Option Ident) (star : Option Span) (base : TypeName) (comma : Option Span) (last : Span) (rest : List Terminal) → receiver_at first ((spell_receiver_name name ++ (spell_some operator.Star star ++ (spell_type_name base ++ (spell_some operator.Comma comma ++ mark operator.CloseParen last ∷ [])))) ++ rest) ≡ Ok (receiver first name star base comma last, rest)
receiver_here first None None (type_name.Plain x) None last rest = refl
receiver_here first None None (type_name.Plain x) (Some c) last rest = refl
receiver_here first None None (type_name.Qualified p d x) None last rest = refl
receiver_here first None None (type_name.Qualified p d x) (Some c) last rest = refl
receiver_here first None (Some s) (type_name.Plain x) None last rest = refl
receiver_here first None (Some s) (type_name.Plain x) (Some c) last rest = refl
receiver_here first None (Some s) (type_name.Qualified p d x) None last rest = refl
receiver_here first None (Some s) (type_name.Qualified p d x) (Some c) last rest = refl
receiver_here first (Some n) None (type_name.Plain x) None last rest = refl
receiver_here first (Some n) None (type_name.Plain x) (Some c) last rest = refl
receiver_here first (Some n) None (type_name.Qualified p d x) None last rest = refl
receiver_here first (Some n) None (type_name.Qualified p d x) (Some c) last rest = refl
receiver_here first (Some n) (Some s) (type_name.Plain x) None last rest = refl
receiver_here first (Some n) (Some s) (type_name.Plain x) (Some c) last rest = refl
receiver_here first (Some n) (Some s) (type_name.Qualified p d x) None last rest = refl
receiver_here first (Some n) (Some s) (type_name.Qualified p d x) (Some c) last rest = refl

receiver_found : (r : Option Receiver) (x : Ident) (rest : List Terminal) → receiver_by (spell_receiver r ++ (spell_ident x ∷ rest)) (mark_at operator.OpenParen (spell_receiver r ++ (spell_ident x ∷ rest))) ≡ Ok (r, spell_ident x ∷ rest)
receiver_found None x rest = refl
receiver_found (Some r) x rest = ap (λ q. q >>= λ r. Ok (Some r.0, r.1)) (receiver_here r.open_paren r.name r.star r.base r.comma r.close_paren (spell_ident x ∷ rest))

-- what stands behind `func`
abbrev pub behind_func : FuncTree → List Terminal
behind_func f =
    spell_receiver f.receiver ++ (spell_ident f.name ∷ (spell_signature f.signature ++ (mark operator.OpenBrace f.open_brace ∷ (spell_lines f.body ++ mark operator.CloseBrace f.close_brace ∷ []))))

-- a function that is spelled is read, unless it is too high
pub func_complete : (f : FuncTree) (b : ℕ) (rest : List Terminal) → Wf_decl (Func f) → AgreesAt (func_at b f.func (behind_func f ++ rest)) (Ok (f, rest)) (b + 1) (decl_height (Func f))
unfolding func_at
func_complete f b rest wf =
    let brace = mark operator.CloseBrace f.close_brace in
    let open_brace = mark operator.OpenBrace f.open_brace in
    let body = open_brace ∷ (spell_lines f.body ++ (brace ∷ rest)) in
    let signed = spell_signature f.signature ++ body in
    let goal : Reading FuncTree = Ok (f, rest) in
    let h = decl_height (Func f) in
    let made : Option Receiver → Ident → SignatureTree → Braced × List Terminal → Reading FuncTree = λ r x g body. Ok (func_tree f.func r x g body.0, body.1) in
    let more = λ (r : Option Receiver) (x : Ident) (g : SignatureTree × List Terminal). (braced (block_at b) g.1 >>= made r x g.0) in
    let go = λ (r : Option Receiver × List Terminal). (need (name_at r.1) >>= λ x. (signature_at (type_at b) x.1 >>= more r.0 x.0)) in
    let is : behind_func f ++ rest ≡ spell_receiver f.receiver ++ (spell_ident f.name ∷ signed) =
    append_assoc (spell_receiver f.receiver) (spell_ident f.name ∷ (spell_signature f.signature ++ (open_brace ∷ (spell_lines f.body ++ brace ∷ [])))) rest
    ∙ ap (λ l. spell_receiver f.receiver ++ (spell_ident f.name ∷ l)) (append_assoc (spell_signature f.signature) (open_brace ∷ (spell_lines f.body ++ brace ∷ [])) rest ∙ ap (λ l. spell_signature f.signature ++ (open_brace ∷ l)) (append_assoc (spell_lines f.body) (brace ∷ []) rest)) in
    agrees_along _ _ _ (b + 1) h (ap (func_at b f.func) is ∙ ap (λ r. r >>= go) (receiver_found f.receiver f.name signed))
    (bind_agrees (signature_at (type_at b) signed) (f.signature, body) (more f.receiver f.name) goal b (signature_height f.signature) (b + 1) h
    (type_signature_complete f.signature b body wf.0 (refl, refl))
    (bind_agrees (braced (block_at b) body) ((f.open_brace, f.body, f.close_brace), rest) (made f.receiver f.name f.signature) goal b (lines_height f.body + 1) (b + 1) h
    (block_complete f.body b f.open_brace f.close_brace rest wf.1) (inl refl) (λ g. omega arith))
    (λ g. omega arith))

-- Declarations.

-- a declaration that is spelled is read, unless it is too high
pub decl_complete : (d : DeclTree) (b : ℕ) (rest : List Terminal) → Wf_decl d → Ends false rest → AgreesAt (decl_at b (spell_decl d ++ rest)) (Ok (d, rest)) (b + 1) (decl_height d)
unfolding decl_at
decl_complete (Value v) b rest wf ends =
    agrees_along _ _ _ (b + 1) (value_height v) (ap (by_values b (spell_value v ++ rest)) (value_word_here v rest))
    (bind_agrees (value_at b v.kind v.keyword (spell_specs spell_value_spec v.specs ++ rest)) (v, rest) (λ x. Ok (Value x.0, x.1)) (Ok (Value v, rest)) (suc b) (value_height v) (b + 1) (value_height v)
    (value_complete v b rest wf ends) (inl refl) (λ h. omega arith))
decl_complete (Types t) b rest wf ends =
    bind_agrees (types_at b t.keyword (spell_specs spell_type_spec t.specs ++ rest)) (t, rest) (λ x. Ok (Types x.0, x.1)) (Ok (Types t, rest)) (suc b) (types_height t) (b + 1) (types_height t)
    (types_complete t b rest wf ends) (inl refl) (λ h. omega arith)
decl_complete (Func f) b rest wf ends =
    bind_agrees (func_at b f.func (behind_func f ++ rest)) (f, rest) (λ x. Ok (Func x.0, x.1)) (Ok (Func f, rest)) (b + 1) (decl_height (Func f)) (b + 1) (decl_height (Func f))
    (func_complete f b rest wf) (inl refl) (λ h. h)

-- and so is a declaration with its semicolon
pub top_complete : (d : TopTree) (b : ℕ) (rest : List Terminal) → Wf_decl d.decl → AgreesAt (top_at b (spell_decl d.decl ++ (mark operator.Semicolon d.semicolon ∷ rest))) (Ok (d, rest)) (b + 1) (decl_height d.decl)
unfolding top_at
top_complete d b rest wf =
    let tail = mark operator.Semicolon d.semicolon ∷ rest in
    let go = λ (x : DeclTree × List Terminal). (need (mark_at operator.Semicolon x.1) >>= λ s. Ok (record { decl = x.0; semicolon = s.0 }, s.1)) in
    bind_agrees (decl_at b (spell_decl d.decl ++ tail)) (d.decl, tail) go (Ok (d, rest)) (b + 1) (decl_height d.decl) (b + 1) (decl_height d.decl)
    (decl_complete d.decl b tail wf (ends_semicolon false d.semicolon rest)) (inl refl) (λ h. h)

-- one turn, where a terminal is left
pub tops_turn : (b turns : ℕ) (ts : List Terminal) → 0 < length ts → tops_go b (suc turns) ts ≡ (top_at b ts >>= λ d. (tops_go b turns d.1 >>= λ ds. Ok (d.0 ∷ ds)))
unfolding tops_go
tops_turn b turns [] some = absurd (omega arith)
tops_turn b turns (t ∷ ts) some = refl

-- declarations that are spelled are read, unless one is too high
pub tops_complete : (ds : List TopTree) (b turns : ℕ) → Wf_tops ds → length ds ≤ turns → AgreesAt (tops_go b turns (spell_tops ds)) (Ok ds) (b + 1) (tops_height ds)
unfolding tops_go
tops_complete [] b turns wf enough = inl refl
tops_complete (d ∷ ds) b zero wf enough = absurd (omega arith)
tops_complete (d ∷ ds) b (suc turns) wf enough =
    let goal : Result (List TopTree) Stuck = Ok (d ∷ ds) in
    let h = tops_height (d ∷ ds) in
    let tail = mark operator.Semicolon d.semicolon ∷ spell_tops ds in
    let next = bind_agrees (tops_go b turns (spell_tops ds)) ds (λ ds. Ok (d ∷ ds)) goal (b + 1) (tops_height ds) (b + 1) h
    (tops_complete ds b turns wf.1 (omega arith)) (inl refl) (λ h. omega arith) in
    agrees_along _ _ _ (b + 1) h (tops_turn b turns (spell_tops (d ∷ ds)) (omega (arith, length-append (spell_decl d.decl) tail)))
    (bind_agrees (top_at b (spell_tops (d ∷ ds))) (d, spell_tops ds) (λ d. (tops_go b turns d.1 >>= λ ds. Ok (d.0 ∷ ds))) goal (b + 1) (decl_height d.decl) (b + 1) h
    (top_complete d b (spell_tops ds) wf.0) next (λ h. omega arith))

tops_le : (ds : List TopTree) → length ds ≤ length (spell_tops ds)
tops_le [] = omega arith
tops_le (d ∷ ds) = omega (arith, tops_le ds, length-append (spell_decl d.decl) (mark operator.Semicolon d.semicolon ∷ spell_tops ds))

-- no declaration begins as an import
decl_no_import : (d : DeclTree) (ts : List Terminal) → keyword_at keyword.Import (spell_decl d ++ ts) ≡ None
decl_no_import (Types t) ts = refl
decl_no_import (Func f) ts = refl
decl_no_import (Value v) ts = of v.kind
  where
    of : (kind : ValueKind) → keyword_at keyword.Import (word (keyword_of kind) v.keyword ∷ (spell_specs spell_value_spec v.specs ++ ts)) ≡ None
    of kinds.Const = refl
    of kinds.Var = refl

tops_no_import : (ds : List TopTree) → keyword_at keyword.Import (spell_tops ds) ≡ None
tops_no_import [] = refl
tops_no_import (d ∷ ds) = decl_no_import d.decl (mark operator.Semicolon d.semicolon ∷ spell_tops ds)

-- a file is read where it is spelled, unless it is too high
pub file_complete : (b : ℕ) (ts : List Terminal) (f : FileTree) → IsTreeOf f ts → AgreesAt (file_at b ts) (Ok f) (b + 1) (file_height f)
unfolding file_at
file_complete b ts f is =
    let front = spell_tops f.decls in
    let whole = spell_imports f.imports ++ front in
    let made : List ImportTree → List TopTree → Result FileTree Stuck = λ is ds. Ok (record { clause = f.clause; name = f.name; semicolon = f.semicolon; imports = is; decls = ds }) in
    let go = λ (is : List ImportTree × List Terminal). (tops_go b (length is.1) is.1 >>= made is.0) in
    let read = imports_found f.imports (suc (length whole)) front is.wf.0 (tops_no_import f.decls) (omega (arith, imports_le f.imports, length-append (spell_imports f.imports) front)) in
    let found : AgreesAt (file_at b (spell_file f)) (Ok f) (b + 1) (file_height f) =
    agrees_along _ _ _ (b + 1) (file_height f) (ap (λ r. r >>= go) read)
    (bind_agrees (tops_go b (length front) front) f.decls (made f.imports) (Ok f) (b + 1) (file_height f) (b + 1) (file_height f)
    (tops_complete f.decls b (length front) is.wf.1 (tops_le f.decls)) (inl refl) (λ h. h)) in
    subst (λ ts. AgreesAt (file_at b ts) (Ok f) (b + 1) (file_height f)) is.spelled found
