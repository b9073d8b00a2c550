-- The functions that the outline of a file lists are those of the file.
use Rattle.std.proofs.Common.{◌≡◌, ℕ, ◌+◌, List, [], ◌∷◌, ◌++◌, length, refl, sym, ap, ◌∙◌, append_assoc, append-nil}
use Rattle.std.specs.List.{flat_map}
use Rattle.go_tree_nodes.specs.declared.names.Ident.{Ident}
use Rattle.go_tree_nodes.specs.declared.decls.ValueKind.{ValueKind}
use Rattle.go_tree_nodes.specs.Trees.{Separated, One, Then, ValueSpecTree, TypeSpecTree, Specs, Single, Group, DeclTree, Value, Types, Func, FuncTree, FileTree}
use Rattle.go_term_core.specs.decl_core.Outer.{Outer, value_spec_outers, type_spec_outers, decl_outers}
use Rattle.go_term_core.specs.decl_core.TopDecls.{TopDeclTree, numbered, named_decls, value_spec_decls, type_spec_decls, specs_decls, decl_decls, top_decls}
use Rattle.go_body_core.specs.file.Stands.{decl_funcs, file_funcs}
use Rattle.go_package_core.specs.prepare.Inlines.{form_funcs, outline_funcs}

listed_both : (a b : List TopDeclTree) → outline_funcs (a ++ b) ≡ outline_funcs a ++ outline_funcs b
listed_both [] b = refl
listed_both (d ∷ a) b = ap (λ l. form_funcs d.form ++ l) (listed_both a b) ∙ sym (append_assoc (form_funcs d.form) (outline_funcs a) (outline_funcs b))

numbered_funcs : {A : Type 0} (names : A → List Outer) (decls : ℕ → A → List TopDeclTree) (funcs : A → List FuncTree) → ((n : ℕ) (x : A) → outline_funcs (decls n x) ≡ funcs x) → (n : ℕ) (xs : List A) → outline_funcs (numbered names decls n xs) ≡ flat_map funcs xs
numbered_funcs names decls funcs each n [] = refl
numbered_funcs names decls funcs each n (x ∷ xs) =
    listed_both (decls n x) (numbered names decls (n + length (names x)) xs)
    ∙ (ap (λ l. l ++ outline_funcs (numbered names decls (n + length (names x)) xs)) (each n x) ∙ ap (λ l. funcs x ++ l) (numbered_funcs names decls funcs each (n + length (names x)) xs))

abbrev no_funcs : {A : Type 0} → A → List FuncTree
no_funcs x = []

nothing : {A : Type 0} (xs : List A) → flat_map no_funcs xs ≡ []
nothing [] = refl
nothing (x ∷ xs) = nothing xs

named_funcs : (k : ValueKind) (v : ValueSpecTree) (n i : ℕ) (xs : Separated Ident) → outline_funcs (named_decls k v n i xs) ≡ []
named_funcs k v n i (One x) = refl
named_funcs k v n i (Then x comma xs) = named_funcs k v n (i + 1) xs

value_funcs : (k : ValueKind) (n : ℕ) (s : Specs ValueSpecTree) → outline_funcs (specs_decls (value_spec_outers k) (value_spec_decls k) n s) ≡ []
value_funcs k n (Single v) = named_funcs k v n 0 v.names
value_funcs k n (Group first vs last) = numbered_funcs (λ l. value_spec_outers k l.0) (λ n l. value_spec_decls k n l.0) no_funcs (λ n l. named_funcs k l.0 n 0 l.0.names) n vs ∙ nothing vs

type_funcs : (n : ℕ) (s : Specs TypeSpecTree) → outline_funcs (specs_decls type_spec_outers type_spec_decls n s) ≡ []
type_funcs n (Single t) = refl
type_funcs n (Group first ts last) = numbered_funcs (λ l. type_spec_outers l.0) (λ n l. type_spec_decls n l.0) no_funcs (λ n l. refl) n ts ∙ nothing ts

decl_all : (n : ℕ) (d : DeclTree) → outline_funcs (decl_decls n d) ≡ decl_funcs d
decl_all n (Value v) = value_funcs v.kind n v.specs
decl_all n (Types t) = type_funcs n t.specs
decl_all n (Func f) = refl

pub funcs_all : (f : FileTree) → outline_funcs (top_decls f) ≡ file_funcs f
funcs_all f = numbered_funcs (λ t. decl_outers t.decl) (λ n t. decl_decls n t.decl) (λ t. decl_funcs t.decl) (λ n t. decl_all n t.decl) 0 f.decls
