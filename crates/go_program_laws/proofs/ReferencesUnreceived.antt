-- A name of a package's block leads to a declaration that has no receiver.
use Rattle.std.proofs.Common.{◌≡◌, ◌⊎◌, inl, inr, ℕ, suc, ◌+◌, ◌≤◌, Bool, true, false, cond, List, [], ◌∷◌, ◌++◌, map, Option, Some, None, refl, sym, ap, subst, ◌∙◌, arith, if◌then◌else◌}
use Rattle.std.specs.Prelude.{slice_get}
use Rattle.std.specs.Str.{bytes_eq}
use Rattle.go_tree_nodes.specs.declared.files.Receiver.{Receiver}
use Rattle.go_tree_nodes.specs.Trees.{FileTree, FuncTree}
use Rattle.go_term_core.specs.decl_core.declared.keys.DeclRef.{DeclRef}
use Rattle.go_term_core.specs.decl_core.TopDecls.{FormTree, FuncForm, TopDeclTree, kind_of_form, top_decls}
use Rattle.go_graph_core.specs.Packages.{Trees, tree_shown}
use Rattle.go_names_core.specs.block_core.Declarations.{PackageDeclaration, decl_ref, declaration, file_declared, files_declared, has_receiver, is_bindable, is_method_form, package_declared, top_declared, unless_method}
use Rattle.go_names_core.specs.block_core.Holding.{declared_block, with_declared}
use Rattle.go_names_core.specs.block_core.Tables.{has, in_block, with_first}
use Rattle.go_body_core.specs.typexpr_core.EntryAmong.{Among, among_cases, among_flat}
use Rattle.go_body_core.specs.typexpr_core.EntryOrdered.{NumbersFrom, outline_rises}
use Rattle.go_body_core.specs.typexpr_core.EntryOutlines.{outline_of}

-- a name of a block of declarations is that of one of them

named_in : (block : List (List ℕ × DeclRef)) (name : List ℕ) (d : DeclRef) → in_block block name ≡ Some d → (n : List ℕ) × Among block (n, d)
named_in [] name d h = absurd (let no : None ≡ Some d = h in cc)
named_in (x ∷ xs) name d h = by (bytes_eq name x.0) h (λ k. named_in xs name d k)
  where
    by : (b : Bool) → cond b (Some x.1) (in_block xs name) ≡ Some d → (in_block xs name ≡ Some d → (n : List ℕ) × Among xs (n, d)) → (n : List ℕ) × Among (x ∷ xs) (n, d)
    by true h rest = (let some : Some x.1 ≡ Some d = h in let same : x.1 ≡ d = cc some in (x.0, inl (ap (λ (e : DeclRef). (x.0, e)) same)))
    by false h rest = (let r = rest h in (r.0, inr r.1))

last_from : (block : List (List ℕ × DeclRef)) (x e : List ℕ × DeclRef) → Among (x ∷ []) e → Among block e ⊎ (e ≡ x)
last_from block x e (inl s) = inr (sym s)
last_from block x e (inr none) = absurd none

first_from : (block : List (List ℕ × DeclRef)) (name : List ℕ) (d : DeclRef) (e : List ℕ × DeclRef) → Among (with_first block name d) e → Among block e ⊎ (e ≡ (name, d))
first_from block name d e h = by (has block name) h
  where
    by : (b : Bool) → Among (if b then block else block ++ (name, d) ∷ []) e → Among block e ⊎ (e ≡ (name, d))
    by true h = inl h
    by false h = elim (among_cases block ((name, d) ∷ []) e h) [
      | inl k ↦ inl k
      | inr k ↦ last_from block (name, d) e k
    ]

record IsDeclaredBy (ds : List PackageDeclaration) (d : DeclRef) : Type 0 where
  declaration : PackageDeclaration
  among : Among ds declaration
  is : declaration.decl ≡ d

declared_from : (block : List (List ℕ × DeclRef)) (ds : List PackageDeclaration) (e : List ℕ × DeclRef) → Among (declared_block block ds) e → Among block e ⊎ IsDeclaredBy ds e.1
declared_from block [] e h = inl h
declared_from block (d ∷ ds) e h = elim (declared_from (with_declared block d) ds e h) [
  | inl k ↦ here (is_bindable d.name) k
  | inr r ↦ inr (record { declaration = r.declaration; among = inr r.among; is = r.is })
]
  where
    here : (b : Bool) → Among (if b then with_first block d.name d.decl else block) e → Among block e ⊎ IsDeclaredBy (d ∷ ds) e.1
    here true k = elim (first_from block d.name d.decl e k) [
      | inl old ↦ inl old
      | inr new ↦ inr (record { declaration = d; among = inl refl; is = sym (ap (λ (x : List ℕ × DeclRef). x.1) new) })
    ]
    here false k = inl k

-- a declaration of a package block is that of a file, and no method

top_from : (file : ℕ) (x : TopDeclTree) (b : Bool) (d : PackageDeclaration) → is_method_form x.form ≡ b → Among (unless_method b (declaration file x)) d → (is_method_form x.form ≡ false) × (declaration file x ≡ d)
top_from file x true d e h = absurd h
top_from file x false d e (inl s) = (e, s)
top_from file x false d e (inr none) = absurd none

record IsOfFile (k : ℕ) (ts : Trees) (d : PackageDeclaration) : Type 0 where
  place : ℕ
  tree : FileTree
  in_package : slice_get (map tree_shown ts) place ≡ Some tree
  decl : TopDeclTree
  among : Among (top_decls tree) decl
  none : is_method_form decl.form ≡ false
  is : declaration (k + place) decl ≡ d

files_from : (k : ℕ) (ts : Trees) (d : PackageDeclaration) → Among (files_declared k ts) d → IsOfFile k ts d
files_from k [] d h = absurd h
files_from k (t ∷ ts) d h = elim (among_cases (file_declared k t.1) (files_declared (k + 1) ts) d h) [
  | inl here ↦ (
      let r = among_flat (top_declared k) (top_decls t.1) d here in
      let x = top_from k r.0 (is_method_form r.0.form) d refl r.2 in
      let sum : k + 0 ≡ k = omega arith in
      record { place = 0; tree = t.1; in_package = refl; decl = r.0; among = r.1; none = x.0; is = ap (λ m. declaration m r.0) sum ∙ x.1 }
      )
  | inr later ↦ (
      let r = files_from (k + 1) ts d later in
      let sum : k + suc r.place ≡ k + 1 + r.place = omega arith in
      record { place = suc r.place; tree = r.tree; in_package = r.in_package; decl = r.decl; among = r.among; none = r.none; is = ap (λ m. declaration m r.decl) sum ∙ r.is }
      )
]

record IsNoMethodAt (ts : List FileTree) (d : DeclRef) : Type 0 where
  tree : FileTree
  in_package : slice_get ts d.file ≡ Some tree
  decl : TopDeclTree
  among : Among (top_decls tree) decl
  number : decl.number ≡ d.number
  none : is_method_form decl.form ≡ false

named_no_method : (ts : Trees) (name : List ℕ) (d : DeclRef) → in_block (declared_block [] (package_declared ts)) name ≡ Some d → IsNoMethodAt (map tree_shown ts) d
named_no_method ts name d h = by (let e = named_in (declared_block [] (package_declared ts)) name d h in declared_from [] (package_declared ts) (e.0, d) e.1)
  where
    by : ⊥ ⊎ IsDeclaredBy (package_declared ts) d → IsNoMethodAt (map tree_shown ts) d
    by (inl none) = absurd none
    by (inr r) =
        let x = files_from 0 ts r.declaration r.among in
        let ref : decl_ref (0 + x.place) x.decl.number (kind_of_form x.decl.form) ≡ d = ap (λ (y : PackageDeclaration). y.decl) x.is ∙ r.is in
        let at : 0 + x.place ≡ d.file = ap (λ (y : DeclRef). y.file) ref in
        let file : x.place ≡ d.file = omega (arith, at) in
        record { tree = x.tree; in_package = subst (λ m. slice_get (map tree_shown ts) m ≡ Some x.tree) file x.in_package; decl = x.decl; among = x.among; number = ap (λ (y : DeclRef). y.number) ref; none = x.none }

-- of a file one declaration has a number

number_from : (ds : List TopDeclTree) (n : ℕ) (a : TopDeclTree) → NumbersFrom n ds → Among ds a → n ≤ a.number
number_from [] n a h k = absurd k
number_from (d ∷ ds) n a h (inl e) = (let low = h.0 in let same : d.number ≡ a.number = ap (λ (x : TopDeclTree). x.number) e in omega (arith, low, same))
number_from (d ∷ ds) n a h (inr k) = (let low = h.0 in let rest = number_from ds (d.number + 1) a h.1 k in omega (arith, low, rest))

pub one_number : (ds : List TopDeclTree) (n : ℕ) (a b : TopDeclTree) → NumbersFrom n ds → Among ds a → Among ds b → a.number ≡ b.number → a ≡ b
one_number [] n a b h i j e = absurd i
one_number (d ∷ ds) n a b h (inl i) (inl j) e = sym i ∙ j
one_number (d ∷ ds) n a b h (inl i) (inr j) e = (let low = number_from ds (d.number + 1) b h.1 j in let same : d.number ≡ a.number = ap (λ (x : TopDeclTree). x.number) i in absurd (omega (arith, low, same, e)))
one_number (d ∷ ds) n a b h (inr i) (inl j) e = (let low = number_from ds (d.number + 1) a h.1 i in let same : d.number ≡ b.number = ap (λ (x : TopDeclTree). x.number) j in absurd (omega (arith, low, same, e)))
one_number (d ∷ ds) n a b h (inr i) (inr j) e = one_number ds (d.number + 1) a b h.1 i j e

unreceived : (r : Option Receiver) → has_receiver r ≡ false → r ≡ None
unreceived None e = refl
unreceived (Some r) e = absurd (cc e)

pub no_receiver : (ts : Trees) (name : List ℕ) (d : DeclRef) → in_block (declared_block [] (package_declared ts)) name ≡ Some d → (t : FileTree) → slice_get (map tree_shown ts) d.file ≡ Some t
    → (decl : TopDeclTree) → Among (top_decls t) decl → decl.number ≡ d.number → (g : FuncTree) → decl.form ≡ FuncForm g → g.receiver ≡ None
no_receiver ts name d named t tree decl among number g form =
    let x = named_no_method ts name d named in
    let some : Some x.tree ≡ Some t = sym x.in_package ∙ tree in
    let one : x.tree ≡ t = cc some in
    let same : x.decl ≡ decl = one_number (top_decls t) 0 x.decl decl (outline_rises (outline_of t) (t, refl)) (subst (λ (y : FileTree). Among (top_decls y) x.decl) one x.among) among (x.number ∙ sym number) in
    unreceived g.receiver (sym (ap (λ (f : FormTree). is_method_form f) (ap (λ (y : TopDeclTree). y.form) same ∙ form)) ∙ x.none)
