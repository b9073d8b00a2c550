-- The names of a package block are declared in its files, as what they are there.
use Rattle.std.proofs.Common.{◌≡◌, ◌⊎◌, inl, inr, ℕ, suc, ◌+◌, Bool, true, false, List, [], ◌∷◌, ◌++◌, Some, None, slice_get, cond, refl, sym, ap, ◌∙◌, arith, if◌then◌else◌}
use Rattle.std.specs.Str.{bytes_eq}
use Rattle.go_tree_nodes.specs.Trees.{FileTree}
use Rattle.go_term_core.specs.decl_core.declared.keys.DeclRef.{DeclRef}
use Rattle.go_term_core.specs.decl_core.TopDecls.{TopDeclTree, kind_of_form, top_decls}
use Rattle.go_graph_core.specs.Packages.{Trees}
use Rattle.go_names_core.specs.block_core.Declarations.{PackageDeclaration, decl_ref, declaration, file_declared, files_declared, is_bindable, is_method_form, package_declared, top_declared, unless_method}
use Rattle.go_names_core.specs.block_core.Holding.{declared_block, package_block, with_declared}
use Rattle.go_names_core.specs.block_core.Tables.{has, in_block, with_first}
use Rattle.go_typexpr_core.proofs.EntryAmong.{Among, among_cases, among_flat}

abbrev Named : Type 0
Named = List ℕ × DeclRef

first_from : (ns : List Named) (name : List ℕ) (d : DeclRef) (e : Named) → Among (with_first ns name d) e → Among ns e ⊎ (e ≡ (name, d))
first_from ns name d e h = by (has ns name) h
  where
    last : Among ((name, d) ∷ []) e → e ≡ (name, d)
    last (inl is) = sym is
    last (inr none) = absurd none

    by : (b : Bool) → Among (if b then ns else ns ++ (name, d) ∷ []) e → Among ns e ⊎ (e ≡ (name, d))
    by true h = inl h
    by false h = elim (among_cases ns ((name, d) ∷ []) e h) [ inl a ↦ inl a | inr a ↦ inr (last a) ]

-- one of some declarations has the declaration of a name
abbrev IsOf : List PackageDeclaration → Named → Type 0
IsOf ds e = (x : PackageDeclaration) × Among ds x × (e.1 ≡ x.decl)

with_from : (ns : List Named) (d : PackageDeclaration) (e : Named) → Among (with_declared ns d) e → Among ns e ⊎ (e.1 ≡ d.decl)
with_from ns d e h = by (is_bindable d.name) h
  where
    by : (b : Bool) → Among (if b then with_first ns d.name d.decl else ns) e → Among ns e ⊎ (e.1 ≡ d.decl)
    by true h = elim (first_from ns d.name d.decl e h) [ inl a ↦ inl a | inr is ↦ inr (ap (λ (x : Named). x.1) is) ]
    by false h = inl h

declared_from : (ns : List Named) (ds : List PackageDeclaration) (e : Named) → Among (declared_block ns ds) e → Among ns e ⊎ IsOf ds e
declared_from ns [] e h = inl h
declared_from ns (d ∷ ds) e h = elim (declared_from (with_declared ns d) ds e h) [
  | inl a ↦ elim (with_from ns d e a) [ inl b ↦ inl b | inr is ↦ inr (d, inl refl, is) ]
  | inr x ↦ inr (x.0, inr x.1, x.2)
]

-- a declaration of the file of a number, as what it is there
pub record IsDeclOf (ts : Trees) (d : DeclRef) : Type 0 where
  pub file : ℕ
  pub tree : List ℕ × FileTree
  pub there : slice_get ts file ≡ Some tree
  pub decl : TopDeclTree
  pub among : Among (top_decls tree.1) decl
  pub is : d ≡ decl_ref file decl.number (kind_of_form decl.form)

abbrev IsFrom : ℕ → Trees → PackageDeclaration → Type 0
IsFrom n ts x = (k : ℕ) × (t : List ℕ × FileTree) × (slice_get ts k ≡ Some t) × (d : TopDeclTree) × Among (top_decls t.1) d × (x.decl ≡ decl_ref (n + k) d.number (kind_of_form d.form))

top_from : (n : ℕ) (d : TopDeclTree) (x : PackageDeclaration) → Among (top_declared n d) x → x.decl ≡ decl_ref n d.number (kind_of_form d.form)
top_from n d x h = by (is_method_form d.form) h
  where
    by : (b : Bool) → Among (unless_method b (declaration n d)) x → x.decl ≡ decl_ref n d.number (kind_of_form d.form)
    by true h = absurd h
    by false (inl is) = ap (λ (y : PackageDeclaration). y.decl) (sym is)
    by false (inr none) = absurd none

files_from : (n : ℕ) (ts : Trees) (x : PackageDeclaration) → Among (files_declared n ts) x → IsFrom n ts x
files_from n [] x h = absurd h
files_from n (t ∷ ts) x h = elim (among_cases (file_declared n t.1) (files_declared (n + 1) ts) x h) [
  | inl a ↦
      let d = among_flat (top_declared n) (top_decls t.1) x a in
      let e : n ≡ n + 0 = omega arith in
      (0, t, refl, d.0, d.1, top_from n d.0 x d.2 ∙ ap (λ m. decl_ref m d.0.number (kind_of_form d.0.form)) e)
  | inr b ↦
      let r = files_from (n + 1) ts x b in
      let e : n + 1 + r.0 ≡ n + suc r.0 = omega arith in
      (suc r.0, r.1, r.2, r.3, r.4, r.5 ∙ ap (λ m. decl_ref m r.3.number (kind_of_form r.3.form)) e)
]

block_from : (ns : List Named) (name : List ℕ) (d : DeclRef) → in_block ns name ≡ Some d → (e : Named) × Among ns e × (e.1 ≡ d)
block_from [] name d h = (let none : None ≡ Some d = h in cc)
block_from (e ∷ es) name d h = by (bytes_eq name e.0) h (λ k. block_from es name d k)
  where
    by : (b : Bool) → cond b (Some e.1) (in_block es name) ≡ Some d → (in_block es name ≡ Some d → (x : Named) × Among es x × (x.1 ≡ d)) → (x : Named) × Among (e ∷ es) x × (x.1 ≡ d)
    by true h rest = (e, inl refl, (let is : Some e.1 ≡ Some d = h in cc))
    by false h rest = (let r = rest h in (r.0, inr r.1, r.2))

pub block_declares : (ts : Trees) (name : List ℕ) (d : DeclRef) → in_block (package_block ts) name ≡ Some d → IsDeclOf ts d
block_declares ts name d h =
    let e = block_from (package_block ts) name d h in
    elim (declared_from [] (package_declared ts) e.0 e.1) [
      | inl none ↦ absurd none
      | inr x ↦
          let f = files_from 0 ts x.0 x.1 in
          let zero : 0 + f.0 ≡ f.0 = omega arith in
          record {
            file = f.0;
            tree = f.1;
            there = f.2;
            decl = f.3;
            among = f.4;
            is = sym e.2 ∙ (x.2 ∙ (f.5 ∙ ap (λ m. decl_ref m f.3.number (kind_of_form f.3.form)) zero));
          }
    ]
