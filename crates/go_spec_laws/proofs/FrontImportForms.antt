-- What imports bind is what the table of their forms says.
use Rattle.std.proofs.Common.{◌≡◌, ◌≢◌, ℕ, zero, suc, ◌<◌, Bool, true, false, cond, ◌⊎◌, inl, inr, List, [], ◌∷◌, map, Option, Some, None, refl, sym, ap, ◌∙◌, subst, arith}
use lib.Utf8.{encode}
use Rattle.std.specs.Prelude.{Contains, filter, slice_get}
use Rattle.std.specs.Str.{chars, is_utf8}
use Rattle.std.specs.Str.Lossy.{utf8_valid_len}
use Rattle.std.proofs.lemmas.List.Elements.{All-contains, All-contains_itself, All-filter, Contains-append_cases, Contains-append_left, Contains-append_right, filter_passes}
use Rattle.unicode.specs.GeneralCategory.{general_category}
use Rattle.unicode.specs.Rows.{value_in}
use Rattle.ucd_category.specs.GeneralCategoryRows.{general_category_rows}
use Rattle.go_denote_core.specs.text_core.Text.{digit, exported, is_blank, letter, uppercase}
use Rattle.go_denote_core.specs.text_core.Each.{true_or_false}
use Rattle.go_tree_nodes.specs.token_core.Spelling.{keyword_spelling}
use Rattle.go_tree_nodes.specs.token_core.Values.{meaning_at, quoted_value}
use Rattle.go_tree_nodes.specs.declared.files.ImportName.{ImportName}
use Rattle.go_tree_nodes.specs.declared.files.ImportName.TheVariants as written
use Rattle.go_tree_nodes.specs.Terminals.{value_of}
use Rattle.go_tree_nodes.specs.Trees.{FileTree, ImportSpecTree}
use Rattle.go_term_core.specs.decl_core.declared.keys.DeclRef.{DeclRef}
use Rattle.go_block_core.specs.graph_core.Packages.{IsPackageName, Trees, blank, trees_of}
use Rattle.go_block_core.specs.graph_core.Workspaces.{PackageModel}
use Rattle.go_block_core.specs.graph_core.Assemblies.{name_of}
use Rattle.go_block_core.specs.declared.binding.Target.{Target}
use Rattle.go_block_core.specs.declared.binding.Target.TheVariants as targets
use Rattle.go_block_core.specs.declared.imports.ImportForm.{ImportForm}
use Rattle.go_block_core.specs.declared.imports.ImportForm.TheVariants as forms
use Rattle.go_block_core.specs.declared.imports.Imported.{Imported}
use Rattle.go_block_core.specs.declared.imports.Imported.TheVariants as given
use Rattle.go_block_core.specs.declared.imports.NamedImport.{NamedImport}
use Rattle.go_block_core.specs.Bindings.{Bound, bound_as, bound_if, exported_bound, file_bound, form_bound, import_bound, import_target, named_bound}
use Rattle.go_block_core.specs.Blocks.{BlocksModel, exports_of}
use Rattle.go_block_core.specs.Declarations.{init}
use Rattle.go_block_core.specs.Exports.{exported_names}
use Rattle.go_block_core.specs.Holding.{file_block}
use Rattle.go_block_core.specs.Naming.{file_named, file_specs, form_named, named_import, own_name, package_named, specs_named}
use Rattle.go_block_core.specs.Words.{last_name}
use Rattle.go_block_core.proofs.BlockLemmas.{clause_of_name}
use Rattle.go_spec_laws.specs.front.ImportLaws.{ImportBinds, BindsClauseName, BindsGivenName, BindsNothing, BindsRefusedElement, BindsRefusedName, BindsShownName, ImportsBindByForm, IsBoundIn, IsExportedName, AreImportsOfFile, IsForm, IsOwnName, IsRefusedName, IsShownBy, import_place, sample_block, sample_file, sample_imported}
use Rattle.go_spec_laws.proofs.FrontImportElements.{blank_not, is_refused, not_blank, refused_is}

-- ---- what lists have

module _ {X : Type 0} where
  first_has : (x y : X) (xs : List X) → x ≡ y → Contains (x ∷ xs) y
  first_has x y xs same = (0, omega arith, same)

  one_has : (x y : X) → Contains (x ∷ []) y → x ≡ y
  one_has x y (zero, below, same) = same
  one_has x y (suc k, below, same) = absurd (omega arith)

  none_has : (y : X) → Contains [] y → ⊥
  none_has y h = let below : h.0 < 0 = h.1 in omega arith

  is_first_or_more : (x y : X) (xs : List X) → Contains (x ∷ xs) y → (x ≡ y) ⊎ Contains xs y
  is_first_or_more x y xs h = elim (Contains-append_cases (x ∷ []) xs y h) [ inl a ↦ inl (one_has x y a) | inr a ↦ inr a ]

  more_has : (x y : X) (xs : List X) → Contains xs y → Contains (x ∷ xs) y
  more_has x y xs h = Contains-append_right (x ∷ []) xs y h

  filter_has : (p : X → Bool) (xs : List X) (y : X) → Contains xs y → p y ≡ true → Contains (filter p xs) y
  filter_has p [] y h passes = absurd (none_has y h)
  filter_has p (x ∷ xs) y h passes = elim (is_first_or_more x y xs h) [
    | inl same ↦ (let here : p x ≡ true = ap p same ∙ passes in rw here (first_has x y (filter p xs) same))
    | inr more ↦ kept (p x) (filter_has p xs y more passes)
  ]
    where
      kept : (b : Bool) → Contains (filter p xs) y → Contains (cond b (x ∷ filter p xs) (filter p xs)) y
      kept true c = more_has x y (filter p xs) c
      kept false c = c

  filter_had : (p : X → Bool) (xs : List X) (y : X) → Contains (filter p xs) y → Contains xs y × (p y ≡ true)
  filter_had p xs y h = (
    All-contains (Contains xs) (filter p xs) y (All-filter p (Contains xs) xs (All-contains_itself xs)) h,
    All-contains (λ x. p x ≡ true) (filter p xs) y (filter_passes p xs) h,
  )

map_had : {X Y : Type 0} (f : X → Y) (xs : List X) (y : Y) → Contains (map f xs) y → (x : X) × Contains xs x × (f x ≡ y)
map_had f [] y h = absurd (none_has y h)
map_had f (x ∷ xs) y h = elim (is_first_or_more (f x) y (map f xs) h) [
  | inl same ↦ (x, first_has x x xs refl, same)
  | inr more ↦ (let rest = map_had f xs y more in (rest.0, more_has x rest.0 xs rest.1, rest.2))
]

map_has : {X Y : Type 0} (f : X → Y) (xs : List X) (x : X) → Contains xs x → Contains (map f xs) (f x)
map_has f [] x h = absurd (none_has x h)
map_has f (z ∷ xs) x h = elim (is_first_or_more z x xs h) [
  | inl same ↦ first_has (f z) (f x) (map f xs) (ap f same)
  | inr more ↦ more_has (f z) (f x) (map f xs) (map_has f xs x more)
]

-- ---- the name of an import that is written without one

own_is : (text : List ℕ) (i : Imported) (name : List ℕ) → own_name text i ≡ Some name → IsOwnName text i name
own_is text (given.«Package» e) name h = let same : name ≡ e.name = cc in inl (e, refl, same)
own_is text (given.Refused rule) name h = inr ((rule, refl), refused_is text name h)

is_own : (text : List ℕ) (i : Imported) (name : List ℕ) → IsOwnName text i name → own_name text i ≡ Some name
is_own text i name h = elim h [
  | inl shown ↦ ap (own_name text) shown.1 ∙ ap Some (sym shown.2)
  | inr refused ↦ ap (own_name text) refused.0.1 ∙ is_refused text name refused.1
]

-- ---- the form of an import

own_form : (text : List ℕ) (i : Imported) (form : ImportForm) (o : Option (List ℕ)) → own_name text i ≡ o → form ≡ forms.Own o → IsForm text written.Own i form
own_form text i form None none h = inr (inl (refl, (λ name own. (let e : None ≡ Some name = sym none ∙ is_own text i name own in cc)), h))
own_form text i form (Some name) own h = inl (name, refl, own_is text i name own, h)

form_is : (text : List ℕ) (n : ImportName) (i : Imported) (form : ImportForm) → form ≡ form_named text n i → IsForm text n i form
form_is text written.Own i form h = own_form text i form (own_name text i) refl h
form_is text (written.Named id) i form h = inr (inr (inl (id, refl, h)))
form_is text (written.Dot dot) i form h = inr (inr (inr (dot, refl, h)))

no_name : (o : Option (List ℕ)) → ((name : List ℕ) → o ≡ Some name → ⊥) → o ≡ None
no_name None h = refl
no_name (Some name) h = absurd (h name refl)

is_form : (text : List ℕ) (n : ImportName) (i : Imported) (form : ImportForm) → IsForm text n i form → form ≡ form_named text n i
is_form text n i form h = elim h [
  | inl own ↦ own.3 ∙ (ap forms.Own (sym (is_own text i own.0 own.2)) ∙ sym (ap (λ x. form_named text x i) own.1))
  | inr other ↦ elim other [
    | inl nameless ↦ nameless.2 ∙ (ap forms.Own (sym (no_name (own_name text i) (λ name e. nameless.1 name (own_is text i name e)))) ∙ sym (ap (λ x. form_named text x i) nameless.0))
    | inr more ↦ elim more [
      | inl named ↦ named.2 ∙ sym (ap (λ x. form_named text x i) named.1)
      | inr dotted ↦ dotted.2 ∙ sym (ap (λ x. form_named text x i) dotted.1)
    ]
  ]
]

-- ---- what an import binds

-- what is bound, by the parts of its binding
module _ (b : Bound) (name : List ℕ) (at : ℕ) (target : Target) where
  same_bound : b.name ≡ name → b.binding.at ≡ at → b.binding.target ≡ target → bound_as at name target ≡ b
  same_bound named stands denotes =
      sym (ap (λ x. bound_as b.binding.at x b.binding.target) named ∙ (ap (λ x. bound_as x name b.binding.target) stands ∙ ap (λ x. bound_as at name x) denotes))

if_bound : (at : ℕ) (o : Option (List ℕ)) (target : Target) (b : Bound) → Contains (bound_if at o target) b → (name : List ℕ) × (o ≡ Some name) × (bound_as at name target ≡ b)
if_bound at None target b h = absurd (none_has b h)
if_bound at (Some name) target b h = (name, refl, one_has (bound_as at name target) b h)

name_bound : (at : ℕ) (name : List ℕ) (target : Target) (b : Bound) → Contains (named_bound at name target) b → (name ≢ blank) × (bound_as at name target ≡ b)
name_bound at name target b h = elim (true_or_false (is_blank name)) [
  | inl same ↦ absurd (none_has b (rw same at h))
  | inr other ↦ (not_blank name other, one_has (bound_as at name target) b (rw other at h))
]

bound_name : (at : ℕ) (name : List ℕ) (target : Target) (b : Bound) → name ≢ blank → bound_as at name target ≡ b → Contains (named_bound at name target) b
bound_name at name target b other same = rw (blank_not name other) (first_has (bound_as at name target) b [] same)

abbrev IsFormBound : ImportSpecTree → ImportName → Imported → Bound → Type 0
IsFormBound s n i b = Contains (form_bound (import_place s) i (form_named (value_of s.path) n i)) b

-- what an import has bound that is written with this name and comes to this
bound_is : (s : ImportSpecTree) (n : ImportName) (i : Imported) (b : Bound) → s.name ≡ n → IsFormBound s n i b → ImportBinds s i b
bound_is s written.Own (given.«Package» e) b w h =
    let same = one_has (bound_as (import_place s) e.name (targets.«Package» e.path)) b h in
    inl (record { unnamed = w; shown = e; comes = refl; named = sym (ap (λ x. x.name) same); stands = sym (ap (λ x. x.binding.at) same); denotes = sym (ap (λ x. x.binding.target) same) })
bound_is s written.Own (given.Refused rule) b w h =
    let own = if_bound (import_place s) (last_name (value_of s.path)) (targets.Refused rule) b h in
    let named : own.0 ≡ b.name = ap (λ x. x.name) own.2 in
    inr (inr (inr (inl (record { unnamed = w; rule = rule; refused = refl; named = subst (IsRefusedName (value_of s.path)) named (refused_is (value_of s.path) own.0 own.1); stands = sym (ap (λ x. x.binding.at) own.2); denotes = sym (ap (λ x. x.binding.target) own.2) }))))
bound_is s (written.Named id) (given.«Package» e) b w h =
    let is = name_bound (import_place s) id.name (targets.«Package» e.path) b h in
    let named : id.name ≡ b.name = ap (λ x. x.name) is.1 in
    inr (inl (record { named = (id, w, named); other = subst (λ x. x ≢ blank) named is.0; shown = e; comes = refl; stands = sym (ap (λ x. x.binding.at) is.1); denotes = sym (ap (λ x. x.binding.target) is.1) }))
bound_is s (written.Named id) (given.Refused rule) b w h =
    let is = name_bound (import_place s) id.name (targets.Refused rule) b h in
    let named : id.name ≡ b.name = ap (λ x. x.name) is.1 in
    inr (inr (inr (inr (record { named = (id, w, named); other = subst (λ x. x ≢ blank) named is.0; rule = rule; refused = refl; stands = sym (ap (λ x. x.binding.at) is.1); denotes = sym (ap (λ x. x.binding.target) is.1) }))))
bound_is s (written.Dot dot) (given.«Package» e) b w h =
    let had = map_had (exported_bound (import_place s) e.path) e.names b h in
    let named : ◌≡◌ {A = List ℕ × DeclRef} had.0 (b.name, had.0.1) = ap (λ (x : Bound). (x.name, had.0.1)) had.2 in
    inr (inr (inl (record { dotted = (dot, w); shown = e; comes = refl; decl = had.0.1; named = subst (Contains e.names) named had.1; stands = sym (ap (λ x. x.binding.at) had.2); denotes = sym (ap (λ x. x.binding.target) had.2) })))
bound_is s (written.Dot dot) (given.Refused rule) b w h = absurd (none_has b h)

-- the bindings of an import, by how it is written and what it comes to
as_written : (s : ImportSpecTree) (i j : Imported) (n : ImportName) → s.name ≡ n → i ≡ j → import_bound (named_import s i) ≡ form_bound (import_place s) j (form_named (value_of s.path) n j)
as_written s i j n w comes =
    ap (λ x. form_bound (import_place s) i (form_named (value_of s.path) x i)) w
    ∙ ap (λ x. form_bound (import_place s) x (form_named (value_of s.path) n x)) comes

abbrev HasBound : ImportSpecTree → Imported → Bound → Type 0
HasBound s i b = Contains (import_bound (named_import s i)) b

has_listed : (xs ys : List Bound) (b : Bound) → xs ≡ ys → Contains ys b → Contains xs b
has_listed xs ys b same h = subst (λ l. Contains l b) (sym same) h

clause_bound : (s : ImportSpecTree) (i : Imported) (b : Bound) → BindsClauseName s i b → HasBound s i b
clause_bound s i b r =
    let target = targets.«Package» r.shown.path in
    has_listed _ _ b (as_written s i (given.«Package» r.shown) written.Own r.unnamed r.comes)
    (first_has (bound_as (import_place s) r.shown.name target) b [] (same_bound b r.shown.name (import_place s) target r.named r.stands r.denotes))

given_bound : (s : ImportSpecTree) (i : Imported) (b : Bound) → BindsGivenName s i b → HasBound s i b
given_bound s i b r =
    let target = targets.«Package» r.shown.path in
    let id = r.named.0 in
    has_listed _ _ b (as_written s i (given.«Package» r.shown) (written.Named id) r.named.1 r.comes)
    (bound_name (import_place s) id.name target b (subst (λ x. x ≢ blank) (sym r.named.2) r.other) (same_bound b id.name (import_place s) target (sym r.named.2) r.stands r.denotes))

shown_bound : (s : ImportSpecTree) (i : Imported) (b : Bound) → BindsShownName s i b → HasBound s i b
shown_bound s i b r =
    let e = r.shown in
    let show = exported_bound (import_place s) e.path in
    let here : Contains (map show e.names) (show (b.name, r.decl)) = map_has show e.names (b.name, r.decl) r.named in
    let target : Target = (show (b.name, r.decl)).binding.target in
    has_listed _ _ b (as_written s i (given.«Package» e) (written.Dot r.dotted.0) r.dotted.1 r.comes)
    (subst (Contains (map show e.names)) (same_bound b b.name (import_place s) target refl r.stands r.denotes) here)

element_bound : (s : ImportSpecTree) (i : Imported) (b : Bound) → BindsRefusedElement s i b → HasBound s i b
element_bound s i b r =
    let target = targets.Refused r.rule in
    let has : bound_if (import_place s) (last_name (value_of s.path)) target ≡ bound_as (import_place s) b.name target ∷ [] = ap (λ o. bound_if (import_place s) o target) (is_refused (value_of s.path) b.name r.named) in
    has_listed _ _ b (as_written s i (given.Refused r.rule) written.Own r.unnamed r.refused ∙ has)
    (first_has (bound_as (import_place s) b.name target) b [] (same_bound b b.name (import_place s) target refl r.stands r.denotes))

refused_bound : (s : ImportSpecTree) (i : Imported) (b : Bound) → BindsRefusedName s i b → HasBound s i b
refused_bound s i b r =
    let target = targets.Refused r.rule in
    let id = r.named.0 in
    has_listed _ _ b (as_written s i (given.Refused r.rule) (written.Named id) r.named.1 r.refused)
    (bound_name (import_place s) id.name target b (subst (λ x. x ≢ blank) (sym r.named.2) r.other) (same_bound b id.name (import_place s) target (sym r.named.2) r.stands r.denotes))

is_bound : (s : ImportSpecTree) (i : Imported) (b : Bound) → ImportBinds s i b → HasBound s i b
is_bound s i b h = elim h [
  | inl r ↦ clause_bound s i b r
  | inr h ↦ elim h [
    | inl r ↦ given_bound s i b r
    | inr h ↦ elim h [
      | inl r ↦ shown_bound s i b r
      | inr h ↦ elim h [ inl r ↦ element_bound s i b r | inr r ↦ refused_bound s i b r ]
    ]
  ]
]

-- ---- what binds nothing

nothing_bound : (s : ImportSpecTree) (i : Imported) → BindsNothing s i → import_bound (named_import s i) ≡ []
nothing_bound s i h = elim h [
  | inl blank_one ↦ as_written s i i (written.Named blank_one.0) blank_one.1 refl ∙ ap (λ x. named_bound (import_place s) x (import_target i)) blank_one.2
  | inr other ↦ elim other [
    | inl dotted ↦ as_written s i (given.Refused dotted.0.0) (written.Dot dotted.1.0) dotted.1.1 dotted.0.1
    | inr nameless ↦ (
        let text = value_of s.path in
        let none : last_name text ≡ None = no_name (last_name text) (λ name e. nameless.2 name (refused_is text name e)) in
        as_written s i (given.Refused nameless.0.0) written.Own nameless.1 nameless.0.1
        ∙ ap (λ o. bound_if (import_place s) o (targets.Refused nameless.0.0)) none)
  ]
]

-- ---- the imports of a file

record IsOfSpecs (ss : List ImportSpecTree) (is : List Imported) (b : Bound) : Type 0 where
  number : ℕ
  spec : ImportSpecTree
  there : slice_get ss number ≡ Some spec
  imported : Imported
  comes : slice_get is number ≡ Some imported
  binds : ImportBinds spec imported b

specs_are : (ss : List ImportSpecTree) (is : List Imported) (b : Bound) → Contains (file_bound (specs_named ss is)) b → IsOfSpecs ss is b
specs_are [] is b h = absurd (none_has b h)
specs_are (s ∷ ss) [] b h = absurd (none_has b h)
specs_are (s ∷ ss) (i ∷ is) b h = elim (Contains-append_cases (import_bound (named_import s i)) (file_bound (specs_named ss is)) b h) [
  | inl here ↦ record { number = 0; spec = s; there = refl; imported = i; comes = refl; binds = bound_is s s.name i b refl here }
  | inr more ↦ (let rest = specs_are ss is b more in record { number = suc rest.number; spec = rest.spec; there = rest.there; imported = rest.imported; comes = rest.comes; binds = rest.binds })
]

are_specs : (ss : List ImportSpecTree) (is : List Imported) (n : ℕ) (s : ImportSpecTree) (i : Imported) (b : Bound) → slice_get ss n ≡ Some s → slice_get is n ≡ Some i → ImportBinds s i b → Contains (file_bound (specs_named ss is)) b
are_specs [] is n s i b there comes h = cc
are_specs (t ∷ ss) [] n s i b there comes h = cc
are_specs (t ∷ ss) (j ∷ is) zero s i b there comes h =
    let same : s ≡ t = cc in
    let alike : i ≡ j = cc in
    let here : ImportBinds t j b = subst (λ x. ImportBinds x j b) same (subst (λ x. ImportBinds s x b) alike h) in
    Contains-append_left (import_bound (named_import t j)) (file_bound (specs_named ss is)) b (is_bound t j b here)
are_specs (t ∷ ss) (j ∷ is) (suc n) s i b there comes h =
    Contains-append_right (import_bound (named_import t j)) (file_bound (specs_named ss is)) b (are_specs ss is n s i b there comes h)

bound_in : (f : FileTree) (is : List Imported) (b : Bound) → Contains (file_bound (file_named f is)) b → IsBoundIn f is b
bound_in f is b h =
    let r = specs_are (file_specs f) is b h in
    record { number = r.number; spec = r.spec; there = r.there; imported = r.imported; comes = r.comes; binds = r.binds }

is_bound_in : (f : FileTree) (is : List Imported) (b : Bound) → IsBoundIn f is b → Contains (file_bound (file_named f is)) b
is_bound_in f is b r = are_specs (file_specs f) is r.number r.spec r.imported b r.there r.comes r.binds

-- ---- the files of a package

file_is : (ts : Trees) (files : List (List Imported)) (number : ℕ) (imports : List NamedImport) → slice_get (package_named ts files) number ≡ Some imports → AreImportsOfFile ts files number imports
file_is [] files number imports h = cc
file_is (t ∷ ts) [] number imports h = cc
file_is (t ∷ ts) (is ∷ files) zero imports h = let same : imports ≡ file_named t.1 is = cc in record { file = t; there = refl; imported = is; comes = refl; imports_are = same }
file_is (t ∷ ts) (is ∷ files) (suc number) imports h =
    let r = file_is ts files number imports h in
    record { file = r.file; there = r.there; imported = r.imported; comes = r.comes; imports_are = r.imports_are }

file_at : (ts : Trees) (files : List (List Imported)) (number : ℕ) (file : List ℕ × FileTree) (is : List Imported) → slice_get ts number ≡ Some file → slice_get files number ≡ Some is → slice_get (package_named ts files) number ≡ Some (file_named file.1 is)
file_at [] files number file is there comes = cc
file_at (t ∷ ts) [] number file is there comes = cc
file_at (t ∷ ts) (js ∷ files) zero file is there comes =
    let same : t ≡ file = cc in
    let alike : js ≡ is = cc in
    ap (λ (x : List ℕ × FileTree). Some (file_named x.1 js)) same ∙ ap (λ x. Some (file_named file.1 x)) alike
file_at (t ∷ ts) (js ∷ files) (suc number) file is there comes = file_at ts files number file is there comes

is_file : (ts : Trees) (files : List (List Imported)) (number : ℕ) (imports : List NamedImport) → AreImportsOfFile ts files number imports → slice_get (package_named ts files) number ≡ Some imports
is_file ts files number imports r = file_at ts files number r.file r.imported r.there r.comes ∙ ap Some (sym r.imports_are)

-- ---- what a package shows

begins : (cs : List ℕ) → exported cs ≡ true → (first : ℕ) × (rest : List ℕ) × (cs ≡ first ∷ rest) × (uppercase first ≡ true)
begins [] h = cc
begins (c ∷ cs) h = (c, cs, refl, h)

shown_is : (block : List (List ℕ × DeclRef)) (name : List ℕ) (decl : DeclRef) → Contains (exported_names block) (name, decl) → Contains block (name, decl) × IsExportedName name
shown_is block name decl h =
    let had = filter_had (λ e. exported (chars e.0)) block (name, decl) h in
    (had.0, begins (chars name) had.1)

is_shown : (block : List (List ℕ × DeclRef)) (name : List ℕ) (decl : DeclRef) → Contains block (name, decl) × IsExportedName name → Contains (exported_names block) (name, decl)
is_shown block name decl h = filter_has (λ e. exported (chars e.0)) block (name, decl) h.0 (ap exported h.1.2 ∙ h.1.3)

shown_by : (p : PackageModel) (b : BlocksModel) → IsShownBy p b (exports_of p b)
shown_by p b = record {
  path = refl;
  clause = λ assembled. (let named = name_of p.1 assembled.name assembled assembled.is_name in subst (IsPackageName (trees_of p.1)) (clause_of_name (trees_of p.1) assembled.name named) named);
  names = λ name decl. (shown_is b.names name decl, is_shown b.names name decl);
}

-- a name whose first letter is none of the exported ones
hidden : (name : List ℕ) → exported (chars name) ≡ false → IsExportedName name → ⊥
hidden name h shown = let no : true ≡ false = sym (ap exported shown.2 ∙ shown.3) ∙ h in cc

init_hidden : exported (chars init) ≡ false
unfolding chars uppercase general_category value_in general_category_rows
init_hidden = refl

blank_hidden : exported (chars blank) ≡ false
unfolding chars uppercase general_category value_in general_category_rows
blank_hidden = refl

-- ---- the file with an import of each form

sample_is : file_block (file_named sample_file sample_imported) ≡ sample_block
unfolding chars encode utf8_valid_len is_utf8 keyword_spelling letter digit uppercase general_category value_in general_category_rows quoted_value meaning_at
sample_is = refl

-- ---- the law

pub imports_bind_by_form : ImportsBindByForm
imports_bind_by_form = record {
  each_file = λ ts files number imports. (file_is ts files number imports, is_file ts files number imports);
  bindings = λ f is b. (bound_in f is b, is_bound_in f is b);
  nothing = nothing_bound;
  names = λ text i name. (own_is text i name, is_own text i name);
  each_form = λ text n i form. (form_is text n i form, is_form text n i form);
  shows = shown_by;
  init_is_hidden = hidden init init_hidden;
  blank_is_hidden = hidden blank blank_hidden;
  sample = sample_is;
}
