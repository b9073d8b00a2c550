-- What holds of each declaration that the outline of a file lists.
use Rattle.std.proofs.Common.{ℕ, ◌+◌, List, [], ◌∷◌, ◌++◌, length}
use Rattle.std.specs.Prelude.{Option}
use Rattle.std.specs.List.{AllByRecursion}
use Rattle.go_path_core.specs.text_core.declared.span.Span.{Span}
use Rattle.go_tree_nodes.specs.declared.names.Ident.{Ident}
use Rattle.go_tree_nodes.specs.declared.decls.ValueKind.{ValueKind}
use Rattle.go_tree_nodes.specs.Trees.{Separated, One, Then, ValueSpecTree, TypeSpecTree, Specs, Single, Group, DeclTree, Value, Types, Func, TopTree, FileTree}
use Rattle.go_term_core.specs.decl_core.Outer.{Outer, value_spec_outers, type_spec_outers, decl_outers}
use Rattle.go_term_core.specs.decl_core.TopDecls.{TopDeclTree, FormTree, ValueForm, TypeForm, FuncForm, numbered, named_decls, value_spec_decls, type_spec_decls, specs_decls, decl_decls, top_decls}

-- it holds of each specification
abbrev pub SpecsHold : {A : Type 0} → (A → Type 0) → Specs A → Type 0
SpecsHold P (Single x) = P x
SpecsHold P (Group first xs last) = AllByRecursion (λ x. P x.0) xs

module _ (Q : FormTree → Type 0) where
  abbrev pub Forms : List TopDeclTree → Type 0
  Forms ds = AllByRecursion (λ d. Q d.form) ds

  -- it holds of each form that a declaration of a file has
  abbrev pub DeclHolds : DeclTree → Type 0
  DeclHolds (Value v) = SpecsHold (λ s. (i : ℕ) → Q (ValueForm v.kind s i)) v.specs
  DeclHolds (Types t) = SpecsHold (λ s. Q (TypeForm s)) t.specs
  DeclHolds (Func f) = Q (FuncForm f)

  both_hold : (a b : List TopDeclTree) → Forms a → Forms b → Forms (a ++ b)
  both_hold [] b h k = k
  both_hold (d ∷ a) b h k = (h.0, both_hold a b h.1 k)

  numbered_hold : {A : Type 0} (P : A → Type 0) (names : A → List Outer) (decls : ℕ → A → List TopDeclTree) → ((n : ℕ) (x : A) → P x → Forms (decls n x)) → (n : ℕ) (xs : List A) → AllByRecursion P xs → Forms (numbered names decls n xs)
  numbered_hold P names decls each n [] h = tt
  numbered_hold P names decls each n (x ∷ xs) h = both_hold (decls n x) (numbered names decls (n + length (names x)) xs) (each n x h.0) (numbered_hold P names decls each (n + length (names x)) xs h.1)

  named_hold : (k : ValueKind) (v : ValueSpecTree) (n i : ℕ) (xs : Separated Ident) → ((i : ℕ) → Q (ValueForm k v i)) → Forms (named_decls k v n i xs)
  named_hold k v n i (One x) h = (h i, tt)
  named_hold k v n i (Then x comma xs) h = (h i, named_hold k v n (i + 1) xs h)

  values_hold : (k : ValueKind) (n : ℕ) (s : Specs ValueSpecTree) → SpecsHold (λ v. (i : ℕ) → Q (ValueForm k v i)) s → Forms (specs_decls (value_spec_outers k) (value_spec_decls k) n s)
  values_hold k n (Single v) h = named_hold k v n 0 v.names h
  values_hold k n (Group first vs last) h =
      numbered_hold (λ l. (i : ℕ) → Q (ValueForm k l.0 i)) (λ l. value_spec_outers k l.0) (λ n l. value_spec_decls k n l.0) (λ n l each. named_hold k l.0 n 0 l.0.names each) n vs h

  types_hold : (n : ℕ) (s : Specs TypeSpecTree) → SpecsHold (λ t. Q (TypeForm t)) s → Forms (specs_decls type_spec_outers type_spec_decls n s)
  types_hold n (Single t) h = (h, tt)
  types_hold n (Group first ts last) h = numbered_hold (λ l. Q (TypeForm l.0)) (λ l. type_spec_outers l.0) (λ n l. type_spec_decls n l.0) (λ n l one. (one, tt)) n ts h

  decl_holds : (n : ℕ) (d : DeclTree) → DeclHolds d → Forms (decl_decls n d)
  decl_holds n (Value v) h = values_hold v.kind n v.specs h
  decl_holds n (Types t) h = types_hold n t.specs h
  decl_holds n (Func f) h = (h, tt)

  pub file_holds : (f : FileTree) → AllByRecursion (λ (t : TopTree). DeclHolds t.decl) f.decls → Forms (top_decls f)
  file_holds f h = numbered_hold (λ t. DeclHolds t.decl) (λ t. decl_outers t.decl) (λ n t. decl_decls n t.decl) (λ n t one. decl_holds n t.decl one) 0 f.decls h

-- it holds of all
pub specs_all : {A : Type 0} (P : A → Type 0) → ((x : A) → P x) → (s : Specs A) → SpecsHold P s
specs_all P each (Single x) = each x
specs_all {A} P each (Group first xs last) = lines xs
  where
    lines : (xs : List (A × Option Span)) → AllByRecursion (λ x. P x.0) xs
    lines [] = tt
    lines (x ∷ xs) = (each x.0, lines xs)
