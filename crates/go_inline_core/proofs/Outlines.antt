-- The outline of a file lists the types of its specifications, and members stand where their identifiers stand.
use Rattle.std.proofs.Common.{◌≡◌, ℕ, zero, suc, ◌+◌, ◌<◌, nat_eq, Bool, true, false, List, [], ◌∷◌, ◌++◌, map, length, Option, Some, None, is_some, slice_get, refl, ap, sym, ◌∙◌, append_assoc, append-nil, true≢false, arith}
use Rattle.std.specs.Prelude.{if◌then◌else◌}
use Rattle.std.specs.List.{flat_map}
use Rattle.std.proofs.lemmas.Bool.{eqb-true}
use Rattle.go_tree_nodes.specs.declared.names.Ident.{Ident}
use Rattle.go_tree_nodes.specs.declared.decls.ValueKind.{ValueKind}
use Rattle.go_tree_nodes.specs.Trees.{Separated, One, Then, TypeTree, ValueSpecTree, TypeSpecTree, Specs, Single, Group, DeclTree, Value, Types, Func, FileTree}
use Rattle.go_tree_nodes.specs.WrittenTypes.{spec_types, specs_types}
use Rattle.go_term_core.specs.decl_core.declared.places.DeclKind.{DeclKind}
use Rattle.go_term_core.specs.decl_core.declared.places.Place.{Place}
use Rattle.go_term_core.specs.decl_core.declared.tops.TopDecl.{TopDecl}
use Rattle.go_term_core.specs.decl_core.Shown.{decl_shown, form_shown}
use Rattle.go_term_core.specs.decl_core.Outer.{Outer, value_spec_outers, type_spec_outers, decl_outers}
use Rattle.go_term_core.specs.decl_core.TopDecls.{TopDeclTree, ValueForm, numbered, named_decls, value_spec_decls, type_spec_decls, specs_decls, decl_decls, top_decls}
use Rattle.go_typexpr_core.specs.written.Written.{InFile, number_from, written_member_place, member_place}
use Rattle.go_inline_core.specs.Trees.{form_types, outline_types, decl_types, file_types}
use Rattle.go_inline_core.specs.Inline.{at_place, member_offset}

-- outlines

listed_both : (a b : List TopDeclTree) → outline_types (a ++ b) ≡ outline_types a ++ outline_types b
listed_both [] b = refl
listed_both (d ∷ a) b = ap (λ l. form_types d.form ++ l) (listed_both a b) ∙ sym (append_assoc (form_types d.form) (outline_types a) (outline_types b))

numbered_types : {A : Type 0} (names : A → List Outer) (decls : ℕ → A → List TopDeclTree) (types : A → List TypeTree) → ((n : ℕ) (x : A) → outline_types (decls n x) ≡ types x) → (n : ℕ) (xs : List A) → outline_types (numbered names decls n xs) ≡ flat_map types xs
numbered_types names decls types each n [] = refl
numbered_types names decls types each n (x ∷ xs) =
    listed_both (decls n x) (numbered names decls (n + length (names x)) xs)
    ∙ (ap (λ l. l ++ outline_types (numbered names decls (n + length (names x)) xs)) (each n x) ∙ ap (λ l. types x ++ l) (numbered_types names decls types each (n + length (names x)) xs))

later_form : (k : ValueKind) (v : ValueSpecTree) (i : ℕ) → 0 < i → form_types (ValueForm k v i) ≡ []
later_form k v zero h = absurd (omega (arith, h))
later_form k v (suc i) h = refl

-- a specification counts at its first name alone
later_names : (k : ValueKind) (v : ValueSpecTree) (n i : ℕ) (xs : Separated Ident) → 0 < i → outline_types (named_decls k v n i xs) ≡ []
later_names k v n i (One x) h = ap (λ l. l ++ []) (later_form k v i h)
later_names k v n i (Then x comma xs) h = ap (λ l. l ++ outline_types (named_decls k v n (i + 1) xs)) (later_form k v i h) ∙ later_names k v n (i + 1) xs (omega arith)

named_types : (k : ValueKind) (v : ValueSpecTree) (n : ℕ) (xs : Separated Ident) → outline_types (named_decls k v n 0 xs) ≡ spec_types v
named_types k v n (One x) = append-nil (spec_types v)
named_types k v n (Then x comma xs) = ap (λ l. spec_types v ++ l) (later_names k v n (0 + 1) xs (omega arith)) ∙ append-nil (spec_types v)

value_specs : (k : ValueKind) (n : ℕ) (s : Specs ValueSpecTree) → outline_types (specs_decls (value_spec_outers k) (value_spec_decls k) n s) ≡ specs_types s
value_specs k n (Single v) = named_types k v n v.names
value_specs k n (Group first vs last) = numbered_types (λ l. value_spec_outers k l.0) (λ n l. value_spec_decls k n l.0) (λ l. spec_types l.0) (λ n l. named_types k l.0 n l.0.names) n vs

abbrev no_types : {A : Type 0} → A → List TypeTree
no_types x = []

nothing : {A : Type 0} (xs : List A) → flat_map no_types xs ≡ []
nothing [] = refl
nothing (x ∷ xs) = nothing xs

type_specs : (n : ℕ) (s : Specs TypeSpecTree) → outline_types (specs_decls type_spec_outers type_spec_decls n s) ≡ []
type_specs n (Single t) = refl
type_specs n (Group first ts last) = numbered_types (λ l. type_spec_outers l.0) (λ n l. type_spec_decls n l.0) no_types (λ n l. refl) n ts ∙ nothing ts

decl_all : (n : ℕ) (d : DeclTree) → outline_types (decl_decls n d) ≡ decl_types d
decl_all n (Value v) = value_specs v.kind n v.specs
decl_all n (Types t) = type_specs n t.specs
decl_all n (Func f) = refl

pub outline_all : (f : FileTree) → outline_types (top_decls f) ≡ file_types f
outline_all f = numbered_types (λ t. decl_outers t.decl) (λ n t. decl_decls n t.decl) (λ t. decl_types t.decl) (λ n t. decl_all n t.decl) 0 f.decls

-- the types that a declaration of the outline lists
abbrev pub decl_lists : TopDecl → List TypeTree
decl_lists d = form_types (form_shown d.form)

pub decls_listed : (ds : List TopDecl) → outline_types (map decl_shown ds) ≡ flat_map decl_lists ds
decls_listed [] = refl
decls_listed (d ∷ ds) = ap (λ l. decl_lists d ++ l) (decls_listed ds)

-- members

abbrev some_of : Option ℕ → ℕ
some_of None = 0
some_of (Some n) = n

number_is : (n : ℕ) (ps : List Place) (offset m : ℕ) → number_from n ps offset ≡ Some m → (k : ℕ) × (m ≡ n + k) × (at_place (slice_get ps k) ≡ offset)
number_is n [] offset m h = absurd (true≢false (sym (ap is_some h)))
number_is n (p ∷ ps) offset m h = by (nat_eq p.at offset) refl (number_is (suc n) ps offset m)
  where
    by : (b : Bool) → nat_eq p.at offset ≡ b → (number_from (suc n) ps offset ≡ Some m → (k : ℕ) × (m ≡ suc n + k) × (at_place (slice_get ps k) ≡ offset)) → (k : ℕ) × (m ≡ n + k) × (at_place (slice_get (p ∷ ps) k) ≡ offset)
    by true e rest =
        let here : n ≡ m = ap some_of (sym (ap (λ b. if b then Some n else number_from (suc n) ps offset) e) ∙ h) in
        (0, (omega (arith, here)), eqb-true p.at offset e)
    by false e rest =
        let there = rest (sym (ap (λ b. if b then Some n else number_from (suc n) ps offset) e) ∙ h) in
        (suc there.0, (let same = there.1 in omega (arith, same)), there.2)

pub offsets_kept : (f : InFile) (kind : DeclKind) (offset : ℕ) → member_offset f.places (member_place f kind offset) ≡ offset
offsets_kept f kind offset = by (number_from 0 f.places offset) refl
  where
    by : (r : Option ℕ) → number_from 0 f.places offset ≡ r → member_offset f.places (written_member_place f kind offset r) ≡ offset
    by None e = refl
    by (Some m) e =
        let there = number_is 0 f.places offset m e in
        let same : m ≡ there.0 = (let s = there.1 in omega (arith, s)) in
        ap (λ k. at_place (slice_get f.places k)) same ∙ there.2
