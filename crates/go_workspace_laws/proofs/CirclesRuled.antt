-- The type declarations of a file keep the rules of the grammar, where the file does.
use Rattle.std.proofs.Common.{◌≡◌, ℕ, ◌+◌, List, [], ◌∷◌, length, Option, inl, inr, ap, subst, ◌∙◌}
use Rattle.go_path_core.specs.text_core.declared.span.Span.{Span}
use Rattle.go_tree_nodes.specs.declared.names.Ident.{Ident}
use Rattle.go_tree_nodes.specs.declared.decls.ValueKind.{ValueKind}
use Rattle.go_tree_nodes.specs.Rules.{Wf_decl, Wf_file, Wf_group, Wf_specs, Wf_tops, Wf_type_spec, Wf_value_spec}
use Rattle.go_tree_nodes.specs.Trees.{DeclTree, FileTree, Func, Group, One, Separated, Single, Specs, Then, TopTree, TypeSpecTree, Types, Value, ValueSpecTree}
use Rattle.go_term_core.specs.decl_core.Outer.{Outer, decl_outers, type_spec_outers, value_spec_outers}
use Rattle.go_term_core.specs.decl_core.TopDecls.{FuncForm, TopDeclTree, TypeForm, ValueForm, decl_decls, named_decls, numbered, specs_decls, top_decls, tops_decls, type_spec_decls, value_spec_decls}
use Rattle.go_body_core.specs.typexpr_core.EntryAmong.{Among, among_cases}

-- it keeps them, if it declares a type
abbrev IsRuled : TopDeclTree → Type 0
IsRuled d = (t : TypeSpecTree) → d.form ≡ TypeForm t → Wf_type_spec t

named_ruled : (k : ValueKind) (v : ValueSpecTree) (n i : ℕ) (xs : Separated Ident) (d : TopDeclTree) → Among (named_decls k v n i xs) d → IsRuled d
named_ruled k v n i (One x) d (inl same) t e = absurd (let no : ValueForm k v i ≡ TypeForm t = ap (λ (y : TopDeclTree). y.form) same ∙ e in cc no)
named_ruled k v n i (One x) d (inr none) t e = absurd none
named_ruled k v n i (Then x comma xs) d (inl same) t e = absurd (let no : ValueForm k v i ≡ TypeForm t = ap (λ (y : TopDeclTree). y.form) same ∙ e in cc no)
named_ruled k v n i (Then x comma xs) d (inr a) t e = named_ruled k v n (i + 1) xs d a t e

spec_ruled : (n : ℕ) (s : TypeSpecTree) (d : TopDeclTree) → Wf_type_spec s → Among (type_spec_decls n s) d → IsRuled d
spec_ruled n s d wf (inl same) t e = (let forms : TypeForm s ≡ TypeForm t = ap (λ (y : TopDeclTree). y.form) same ∙ e in let one : s ≡ t = cc forms in subst Wf_type_spec one wf)
spec_ruled n s d wf (inr none) t e = absurd none

module _ {A : Type 0} (names : A → List Outer) (decls : ℕ → A → List TopDeclTree) (Wf : A → Type 0) (each : (n : ℕ) (x : A) (d : TopDeclTree) → Wf x → Among (decls n x) d → IsRuled d) where
  group_ruled : (n : ℕ) (ls : List (A × Option Span)) (d : TopDeclTree) → Wf_group Wf ls → Among (numbered (λ l. names l.0) (λ m l. decls m l.0) n ls) d → IsRuled d
  group_ruled n [] d wf a = absurd a
  group_ruled n (l ∷ ls) d wf a = elim (among_cases (decls n l.0) (numbered (λ l. names l.0) (λ m l. decls m l.0) (n + length (names l.0)) ls) d a) [
    | inl x ↦ each n l.0 d wf.0 x
    | inr x ↦ group_ruled (n + length (names l.0)) ls d wf.2 x
  ]

  specs_ruled : (n : ℕ) (s : Specs A) (d : TopDeclTree) → Wf_specs Wf s → Among (specs_decls names decls n s) d → IsRuled d
  specs_ruled n (Single x) d wf a = each n x d wf a
  specs_ruled n (Group first ls last) d wf a = group_ruled n ls d wf a

decl_ruled : (n : ℕ) (w : DeclTree) (d : TopDeclTree) → Wf_decl w → Among (decl_decls n w) d → IsRuled d
decl_ruled n (Value v) d wf a t e = specs_ruled (value_spec_outers v.kind) (value_spec_decls v.kind) (Wf_value_spec v.kind) (λ m s b w x. named_ruled v.kind s m 0 s.names b x) n v.specs d wf a t e
decl_ruled n (Types w) d wf a t e = specs_ruled type_spec_outers type_spec_decls Wf_type_spec spec_ruled n w.specs d wf a t e
decl_ruled n (Func f) d wf (inl same) t e = absurd (let no : FuncForm f ≡ TypeForm t = ap (λ (y : TopDeclTree). y.form) same ∙ e in cc no)
decl_ruled n (Func f) d wf (inr none) t e = absurd none

tops_ruled : (n : ℕ) (ts : List TopTree) (d : TopDeclTree) → Wf_tops ts → Among (tops_decls n ts) d → IsRuled d
tops_ruled n [] d wf a = absurd a
tops_ruled n (t ∷ ts) d wf a = elim (among_cases (decl_decls n t.decl) (tops_decls (n + length (decl_outers t.decl)) ts) d a) [
  | inl x ↦ decl_ruled n t.decl d wf.0 x
  | inr x ↦ tops_ruled (n + length (decl_outers t.decl)) ts d wf.1 x
]

pub file_ruled : (t : FileTree) (d : TopDeclTree) (s : TypeSpecTree) → Wf_file t → Among (top_decls t) d → d.form ≡ TypeForm s → Wf_type_spec s
file_ruled t d s wf a e = tops_ruled 0 t.decls d wf.1 a s e
