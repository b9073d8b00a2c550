-- A function among the declarations of a file is one that the file declares.
use Rattle.std.proofs.Common.{◌≡◌, ◌⊎◌, ℕ, ◌+◌, ◌&&◌, Bool, true, false, not, List, [], ◌∷◌, ◌++◌, length, inl, inr, refl, sym, ap, subst, ◌∙◌}
use Rattle.std.proofs.lemmas.Bool.{true≢false, and_from, and_parts}
use Rattle.go_tree_nodes.specs.token_core.declared.kind.Operator.TheVariants as operators
use Rattle.go_tree_nodes.specs.declared.names.Ident.{Ident}
use Rattle.go_tree_nodes.specs.declared.decls.ValueKind.{ValueKind}
use Rattle.go_tree_nodes.specs.Spelling.{mark, spell_decl, spell_func, spell_imports, spell_tops, IsPlaced}
use Rattle.go_tree_nodes.specs.Terminals.{InOrder}
use Rattle.go_tree_nodes.specs.Trees.{DeclTree, FileTree, Func, FuncTree, Group, One, Separated, Single, Specs, Then, TopTree, Types, Value, ValueSpecTree}
use Rattle.go_tree_nodes.proofs.InOrder.{in_order_split}
use Rattle.go_tree_core.specs.declared.occurrence.Occ.{Occ}
use Rattle.go_tree_core.specs.Occurrences.{decl_occs, file_occs, imports_occs, lines_occs, receiver_occs, signature_occs, tops_occs}
use Rattle.go_term_core.specs.decl_core.Outer.{Outer, decl_outers, type_spec_outers, value_spec_outers}
use Rattle.go_term_core.specs.decl_core.TopDecls.{FormTree, FuncForm, TopDeclTree, TypeForm, ValueForm, decl_decls, named_decls, numbered, specs_decls, top_decls, tops_decls, type_spec_decls, value_spec_decls}
use Rattle.go_body_core.specs.typexpr_core.EntryAmong.{Among, among_cases, among_left, among_right}

-- declarations that are no functions

abbrev is_function : FormTree → Bool
is_function (FuncForm g) = true
is_function (ValueForm k v i) = false
is_function (TypeForm t) = false

abbrev no_functions : List TopDeclTree → Bool
no_functions [] = true
no_functions (d ∷ ds) = not (is_function d.form) && no_functions ds

no_functions_in : (ds es : List TopDeclTree) → no_functions ds ≡ true → no_functions es ≡ true → no_functions (ds ++ es) ≡ true
no_functions_in [] es h k = k
no_functions_in (d ∷ ds) es h k = (let p = and_parts (not (is_function d.form)) (no_functions ds) h in and_from (not (is_function d.form)) (no_functions (ds ++ es)) p.0 (no_functions_in ds es p.1 k))

none_among : (ds : List TopDeclTree) → no_functions ds ≡ true → (d : TopDeclTree) (g : FuncTree) → Among ds d → d.form ≡ FuncForm g → ⊥
none_among [] h d g a e = a
none_among (c ∷ ds) h d g a e =
    let p = and_parts (not (is_function c.form)) (no_functions ds) h in
    elim a [
      | inl same ↦ (let no : not (is_function c.form) ≡ false = ap (λ f. not (is_function f)) (ap (λ (x : TopDeclTree). x.form) same ∙ e) in true≢false (sym p.0 ∙ no))
      | inr r ↦ none_among ds p.1 d g r e
    ]

named_none : (k : ValueKind) (v : ValueSpecTree) (n i : ℕ) (xs : Separated Ident) → no_functions (named_decls k v n i xs) ≡ true
named_none k v n i (One x) = refl
named_none k v n i (Then x comma xs) = named_none k v n (i + 1) xs

numbered_none : {A : Type 0} (names : A → List Outer) (decls : ℕ → A → List TopDeclTree) → ((n : ℕ) (x : A) → no_functions (decls n x) ≡ true) → (n : ℕ) (xs : List A) → no_functions (numbered names decls n xs) ≡ true
numbered_none names decls none n [] = refl
numbered_none names decls none n (x ∷ xs) = no_functions_in (decls n x) (numbered names decls (n + length (names x)) xs) (none n x) (numbered_none names decls none (n + length (names x)) xs)

specs_none : {A : Type 0} (names : A → List Outer) (decls : ℕ → A → List TopDeclTree) → ((n : ℕ) (x : A) → no_functions (decls n x) ≡ true) → (n : ℕ) (s : Specs A) → no_functions (specs_decls names decls n s) ≡ true
specs_none names decls none n (Single x) = none n x
specs_none names decls none n (Group first ls last) = numbered_none (λ l. names l.0) (λ m l. decls m l.0) (λ m l. none m l.0) n ls

-- functions

decl_is : (n : ℕ) (t : DeclTree) (d : TopDeclTree) (g : FuncTree) → Among (decl_decls n t) d → d.form ≡ FuncForm g → (t ≡ Func g) × (d.ident ≡ g.name)
decl_is n (Value v) d g a e = absurd (none_among (decl_decls n (Value v)) (specs_none (value_spec_outers v.kind) (value_spec_decls v.kind) (λ m s. named_none v.kind s m 0 s.names) n v.specs) d g a e)
decl_is n (Types t) d g a e = absurd (none_among (decl_decls n (Types t)) (specs_none type_spec_outers type_spec_decls (λ m s. refl) n t.specs) d g a e)
decl_is n (Func f) d g a e = elim a [
  | inl same ↦ (let form : FuncForm f ≡ FuncForm g = ap (λ (x : TopDeclTree). x.form) same ∙ e in let both : f ≡ g = cc in (ap Func both, sym (ap (λ (x : TopDeclTree). x.ident) same) ∙ ap (λ (x : FuncTree). x.name) both))
  | inr none ↦ absurd none
]

abbrev pub Declares : List TopTree → FuncTree → Type 0
Declares [] g = ⊥
Declares (t ∷ ts) g = (t.decl ≡ Func g) ⊎ Declares ts g

tops_declare : (n : ℕ) (ts : List TopTree) (d : TopDeclTree) (g : FuncTree) → Among (tops_decls n ts) d → d.form ≡ FuncForm g → Declares ts g × (d.ident ≡ g.name)
tops_declare n [] d g a e = absurd a
tops_declare n (t ∷ ts) d g a e = elim (among_cases (decl_decls n t.decl) (tops_decls (n + length (decl_outers t.decl)) ts) d a) [
  | inl l ↦ (let k = decl_is n t.decl d g l e in (inl k.0, k.1))
  | inr r ↦ (let k = tops_declare (n + length (decl_outers t.decl)) ts d g r e in (inr k.0, k.1))
]

pub declared_in : (t : FileTree) (d : TopDeclTree) (g : FuncTree) → Among (top_decls t) d → d.form ≡ FuncForm g → Declares t.decls g × (d.ident ≡ g.name)
declared_in t d g a e = tops_declare 0 t.decls d g a e

-- the occurrences of its body are occurrences of the file

tops_have : (ts : List TopTree) (g : FuncTree) → Declares ts g → (o : Occ) → Among (lines_occs g.body) o → Among (tops_occs ts) o
tops_have [] g h o a = absurd h
tops_have (t ∷ ts) g h o a = elim h [
  | inl e ↦ among_left (decl_occs t.decl) (tops_occs ts) o
      (subst (λ d. Among (decl_occs d) o) (sym e) (among_right (receiver_occs g.receiver) (signature_occs g.signature ++ lines_occs g.body) o (among_right (signature_occs g.signature) (lines_occs g.body) o a)))
  | inr r ↦ among_right (decl_occs t.decl) (tops_occs ts) o (tops_have ts g r o a)
]

pub file_has : (t : FileTree) (g : FuncTree) → Declares t.decls g → (o : Occ) → Among (lines_occs g.body) o → Among (file_occs t) o
file_has t g h o a = among_right (imports_occs t.imports) (tops_occs t.decls) o (tops_have t.decls g h o a)

-- and its tokens follow one another, where those of the file do

abbrev pub IsPlacedFunc : FuncTree → Type 0
IsPlacedFunc g = (lo : ℕ) × ((hi : ℕ) × InOrder lo (spell_func g) hi)

tops_place : (ts : List TopTree) (g : FuncTree) (lo hi : ℕ) → Declares ts g → InOrder lo (spell_tops ts) hi → IsPlacedFunc g
tops_place [] g lo hi h k = absurd h
tops_place (t ∷ ts) g lo hi h k =
    let a = in_order_split (spell_decl t.decl) (mark operators.Semicolon t.semicolon ∷ spell_tops ts) lo hi k in
    elim h [
      | inl e ↦ (lo, (a.0, subst (λ d. InOrder lo (spell_decl d) a.0) e a.1.0))
      | inr r ↦ tops_place ts g t.semicolon.end hi r a.1.1.2
    ]

pub file_places : (t : FileTree) (g : FuncTree) → Declares t.decls g → IsPlaced t → IsPlacedFunc g
file_places t g h placed =
    let rest = placed.1.2.2.2 in
    let a = in_order_split (spell_imports t.imports) (spell_tops t.decls) t.semicolon.end placed.0 rest in
    tops_place t.decls g a.0 placed.0 h a.1.1
