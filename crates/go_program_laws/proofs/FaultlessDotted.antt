-- What an import with a dot binds is what the package shows to which it comes.
use Rattle.std.proofs.Common.{◌≡◌, ℕ, zero, suc, Bool, true, false, List, [], ◌∷◌, ◌++◌, inl, inr, if◌then◌else◌, cond, refl, sym, ap, subst, ◌∙◌}
use Rattle.std.specs.Prelude.{Option, Some, None, is_some, slice_get}
use Rattle.std.specs.Str.{bytes_eq, chars}
use Rattle.std.proofs.lemmas.Slice.Eq.{bytes_eq-Decides}
use Rattle.go_constant_core.specs.text_core.Text.{exported, is_blank}
use Rattle.go_tree_nodes.specs.Trees.{ImportSpecTree}
use Rattle.go_term_core.specs.decl_core.declared.keys.DeclKey.{DeclKey}
use Rattle.go_term_core.specs.decl_core.declared.keys.DeclRef.{DeclRef}
use Rattle.go_graph_core.specs.declared.imports.ImportAt.{ImportAt}
use Rattle.go_graph_core.specs.Lists.{AllNumbered}
use Rattle.go_graph_core.specs.Packages.{Trees}
use Rattle.go_names_core.specs.block_core.declared.binding.Binding.{Binding}
use Rattle.go_names_core.specs.block_core.declared.binding.Target.{Target}
use Rattle.go_names_core.specs.block_core.declared.binding.Target.TheVariants as targets
use Rattle.go_names_core.specs.block_core.declared.imports.Imported.{Imported}
use Rattle.go_names_core.specs.block_core.declared.imports.Imported.TheVariants as given
use Rattle.go_names_core.specs.block_core.declared.imports.ImportForm.{ImportForm}
use Rattle.go_names_core.specs.block_core.declared.imports.ImportForm.TheVariants as forms
use Rattle.go_names_core.specs.block_core.declared.imports.NamedImport.{NamedImport}
use Rattle.go_names_core.specs.block_core.Bindings.{Bound, bound_as, bound_if, dot_bound, exported_bound, file_bound, form_bound, import_bound, import_target}
use Rattle.go_names_core.specs.block_core.Blocks.{AreBlocks, BlocksModel, file_binding}
use Rattle.go_names_core.specs.block_core.Declarations.{PackageDeclaration, is_bindable}
use Rattle.go_names_core.specs.block_core.Exports.{ExportsModel, exported_names}
use Rattle.go_names_core.specs.block_core.Holding.{declared_block, file_block, with_declared}
use Rattle.go_names_core.specs.block_core.Laws.{HasBinding}
use Rattle.go_names_core.specs.block_core.Naming.{AreInFile, AreInPackage, file_named, file_specs, import_at, package_named, specs_named}
use Rattle.go_names_core.specs.block_core.Tables.{in_block, with_first}
use Rattle.go_names_core.specs.block_core.BindingLemmas.{imports_list}
use Rattle.go_names_core.specs.block_core.HoldingLaws.{file_answers, file_holds}
use Rattle.go_body_core.specs.typexpr_core.EntryAmong.{Among, among_cases, among_flat, among_map, among_right}
use Rattle.go_emit_core.specs.package_core.PrepareLists.{mapped_at}

-- a name of a block is bound to the one declaration that the block has under it

module _ (block : List (List ℕ × DeclRef)) where
  abbrev pub IsUnique : Type 0
  IsUnique = (e : List ℕ × DeclRef) → Among block e → in_block block e.0 ≡ Some e.1

in_both : (xs ys : List (List ℕ × DeclRef)) (name : List ℕ) (d : DeclRef) → in_block xs name ≡ Some d → in_block (xs ++ ys) name ≡ Some d
in_both [] ys name d h = absurd (let no : None ≡ Some d = h in cc)
in_both (x ∷ xs) ys name d h = by (bytes_eq name x.0) h (λ k. in_both xs ys name d k)
  where
    by : (b : Bool) → cond b (Some x.1) (in_block xs name) ≡ Some d → (in_block xs name ≡ Some d → in_block (xs ++ ys) name ≡ Some d) → cond b (Some x.1) (in_block (xs ++ ys) name) ≡ Some d
    by true h rest = h
    by false h rest = rest h

in_last : (xs : List (List ℕ × DeclRef)) (name : List ℕ) (d : DeclRef) → in_block xs name ≡ None → in_block (xs ++ (name, d) ∷ []) name ≡ Some d
in_last [] name d h = ap (λ (b : Bool). cond b (Some d) None) ((bytes_eq-Decides name name).1 refl)
in_last (x ∷ xs) name d h = by (bytes_eq name x.0) h (λ k. in_last xs name d k)
  where
    by : (b : Bool) → cond b (Some x.1) (in_block xs name) ≡ None → (in_block xs name ≡ None → in_block (xs ++ (name, d) ∷ []) name ≡ Some d) → cond b (Some x.1) (in_block (xs ++ (name, d) ∷ []) name) ≡ Some d
    by true h rest = absurd (let no : Some x.1 ≡ None = h in cc)
    by false h rest = rest h

first_unique : (block : List (List ℕ × DeclRef)) (name : List ℕ) (d : DeclRef) → IsUnique block → IsUnique (with_first block name d)
first_unique block name d u = by (in_block block name) refl
  where
    by : (o : Option DeclRef) → in_block block name ≡ o → IsUnique (if is_some o then block else block ++ (name, d) ∷ [])
    by (Some x) k e a = u e a
    by None k e a = elim (among_cases block ((name, d) ∷ []) e a) [
      | inl b ↦ in_both block ((name, d) ∷ []) e.0 e.1 (u e b)
      | inr b ↦ last e b
    ]
      where
        last : (e : List ℕ × DeclRef) → Among ((name, d) ∷ []) e → in_block (block ++ (name, d) ∷ []) e.0 ≡ Some e.1
        last e (inl same) = subst (λ (x : List ℕ × DeclRef). in_block (block ++ (name, d) ∷ []) x.0 ≡ Some x.1) same (in_last block name d k)
        last e (inr none) = absurd none

declared_unique : (block : List (List ℕ × DeclRef)) (d : PackageDeclaration) → IsUnique block → IsUnique (with_declared block d)
declared_unique block d u = by (is_bindable d.name)
  where
    by : (b : Bool) → IsUnique (if b then with_first block d.name d.decl else block)
    by true = first_unique block d.name d.decl u
    by false = u

pub block_unique : (block : List (List ℕ × DeclRef)) (ds : List PackageDeclaration) → IsUnique block → IsUnique (declared_block block ds)
block_unique block [] u = u
block_unique block (d ∷ ds) u = block_unique (with_declared block d) ds (declared_unique block d u)

pub exported_among : (ns : List (List ℕ × DeclRef)) (e : List ℕ × DeclRef) → Among (exported_names ns) e → Among ns e
exported_among [] e h = absurd h
exported_among (n ∷ ns) e h = by (exported (chars n.0)) h (λ k. exported_among ns e k)
  where
    by : (b : Bool) → Among (cond b (n ∷ exported_names ns) (exported_names ns)) e → (Among (exported_names ns) e → Among ns e) → Among (n ∷ ns) e
    by true (inl same) rest = inl same
    by true (inr k) rest = inr (rest k)
    by false k rest = inr (rest k)

-- what an import binds

-- what a name is bound to is shown by a package to which one of these imports comes, if it is a declaration
pub record IsShownBy (imports : List (List Imported)) (k : DeclKey) : Type 0 where
  pub of_file : List Imported
  pub file : Among imports of_file
  pub shown : ExportsModel
  pub there : Among of_file (given.«Package» shown)
  pub path : k.path ≡ shown.path
  pub name : List ℕ
  pub among : Among shown.names (name, k.decl)

abbrev IsTargetShown : List (List Imported) → Target → Type 0
IsTargetShown imports (targets.«Package» path) = Unit {0}
IsTargetShown imports (targets.Refused rule) = Unit {0}
IsTargetShown imports (targets.Exported k) = IsShownBy imports k

module _ (imports : List (List Imported)) where
  plain : (i : Imported) → IsTargetShown imports (import_target i)
  plain (given.«Package» e) = tt
  plain (given.Refused rule) = tt

  abbrev IsBoundShown : Bound → Type 0
  IsBoundShown b = IsTargetShown imports b.binding.target

  lone : (at : ℕ) (name : List ℕ) (i : Imported) (b : Bound) → Among (bound_as at name (import_target i) ∷ []) b → IsBoundShown b
  lone at name i b h = elim h [
    | inl e ↦ subst IsBoundShown e (plain i)
    | inr none ↦ absurd none
  ]

  own_bound : (at : ℕ) (o : Option (List ℕ)) (i : Imported) (b : Bound) → Among (bound_if at o (import_target i)) b → IsBoundShown b
  own_bound at None i b h = absurd h
  own_bound at (Some name) i b h = lone at name i b h

  other_bound : (blank : Bool) (at : ℕ) (name : List ℕ) (i : Imported) (b : Bound) → Among (if blank then [] else bound_as at name (import_target i) ∷ []) b → IsBoundShown b
  other_bound true at name i b h = absurd h
  other_bound false at name i b h = lone at name i b h

  dotted : (of_file : List Imported) → Among imports of_file → (at : ℕ) (i : Imported) → Among of_file i → (b : Bound) → Among (dot_bound at i) b → IsBoundShown b
  dotted of_file file at (given.«Package» e) there b h =
      let x = among_map (exported_bound at e.path) e.names b h in
      subst IsBoundShown x.2 (record { of_file = of_file; file = file; shown = e; there = there; path = refl; name = x.0.0; among = x.1 })
  dotted of_file file at (given.Refused rule) there b h = absurd h

  in_form : (of_file : List Imported) → Among imports of_file → (at : ℕ) (i : Imported) → Among of_file i → (form : ImportForm) (b : Bound) → Among (form_bound at i form) b → IsBoundShown b
  in_form of_file file at i there (forms.Own name) b h = own_bound at name i b h
  in_form of_file file at i there (forms.Named name) b h = other_bound (is_blank name) at name i b h
  in_form of_file file at i there forms.Dot b h = dotted of_file file at i there b h

  in_specs : (ss : List ImportSpecTree) (is : List Imported) (i : NamedImport) → Among (specs_named ss is) i → Among is i.imported
  in_specs [] is i h = absurd h
  in_specs (s ∷ ss) [] i h = absurd h
  in_specs (s ∷ ss) (x ∷ is) i h = elim h [
    | inl e ↦ inl (ap (λ (n : NamedImport). n.imported) e)
    | inr r ↦ inr (in_specs ss is i r)
  ]

  in_file : (of_file : List Imported) (ss : List ImportSpecTree) (b : Bound) → Among imports of_file → Among (file_bound (specs_named ss of_file)) b → IsBoundShown b
  in_file of_file ss b h at =
      let x = among_flat import_bound (specs_named ss of_file) b (subst (λ (l : List Bound). Among l b) (imports_list (specs_named ss of_file)) at) in
      in_form of_file h x.0.at x.0.imported (in_specs ss of_file x.0 x.1) x.0.form b x.2

-- the imports of the file of a number
of_number : (trees : Trees) (files : List (List Imported)) (n : ℕ) (is : List NamedImport) → slice_get (package_named trees files) n ≡ Some is
    → (ss : List ImportSpecTree) × (of_file : List Imported) × Among files of_file × (is ≡ specs_named ss of_file)
of_number [] files n is h = absurd (let no : None ≡ Some is = h in cc)
of_number (t ∷ ts) [] n is h = absurd (let no : None ≡ Some is = h in cc)
of_number (t ∷ ts) (x ∷ files) zero is h = (file_specs t.1, x, inl refl, (let s : Some (file_named t.1 x) ≡ Some is = h in let e : is ≡ file_named t.1 x = cc in e))
of_number (t ∷ ts) (x ∷ files) (suc n) is h = (let r = of_number ts files n is h in (r.0, r.1, inr r.2, r.3))

pub bound_shown : (trees : Trees) (imports : List (List Imported)) (b : BlocksModel) → AreBlocks trees (package_named trees imports) b → (file : ℕ) (name : List ℕ) (x : Binding) (k : DeclKey) → file_binding b file name ≡ Some x → x.target ≡ targets.Exported k
    → IsShownBy imports k
bound_shown trees imports b blocks file name x k is target =
    let has : HasBinding b.files file name x = ((file_answers b file name x).0 is).1 in
    let at = mapped_at file_block (package_named trees imports) file has.block (ap (λ (fs : List (List (List ℕ × Binding))). slice_get fs file) (sym blocks.file_names) ∙ has.of_file) in
    let first = (file_holds at.0 name x).0 (ap (λ (l : List (List ℕ × Binding)). in_block l name) at.2 ∙ has.holds) in
    let of_file = of_number trees imports file at.0 at.1 in
    let among : Among (file_bound at.0) first.first = subst (λ (l : List Bound). Among l first.first) (sym first.split) (among_right first.before (first.first ∷ first.after) first.first (inl refl)) in
    let bound = in_file imports of_file.1 of_file.0 first.first of_file.2 (subst (λ (l : List NamedImport). Among (file_bound l) first.first) of_file.3 among) in
    subst (λ (y : Target). IsTargetShown imports y) target (subst (λ (y : Binding). IsTargetShown imports y.target) first.is bound)

-- where an import stands that comes to a package

numbered_among : {A B : Type 0} (R : ℕ → A → B → Type 0) (k : ℕ) (xs : List A) (ys : List B) (y : B) → AllNumbered R k xs ys → Among ys y → (n : ℕ) × (x : A) × R n x y
numbered_among R k [] [] y h a = absurd a
numbered_among R k [] (b ∷ ys) y h a = absurd h
numbered_among R k (x ∷ xs) [] y h a = absurd h
numbered_among R k (x ∷ xs) (b ∷ ys) y h a = elim a [
  | inl e ↦ (k, x, subst (R k x) e h.0)
  | inr r ↦ numbered_among R (suc k) xs ys y h.1 r
]

pub record IsImportOf (P : ImportAt → Imported → Type 0) (number : ℕ) (i : Imported) : Type 0 where
  pub at : ImportAt
  pub from : at.«package» ≡ number
  pub come : P at i

pub import_stands : (P : ImportAt → Imported → Type 0) (number : ℕ) (ts : Trees) (imports : List (List Imported)) → AreInPackage P number ts imports → (of_file : List Imported) → Among imports of_file → (i : Imported) → Among of_file i → IsImportOf P number i
import_stands P number ts imports h of_file a i b =
    let file = numbered_among (λ file t is. AreInFile P number file t.1 is) 0 ts imports of_file h a in
    let spec = numbered_among (λ n spec x. P (import_at number file.0 n) x) 0 (file_specs file.1.1) of_file i file.2 b in
    record { at = import_at number file.0 spec.0; from = refl; come = spec.2 }
