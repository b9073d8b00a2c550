-- The declarations of a file outside functions, each with its number and its tree.
use Rattle.std.specs.Prelude.{ℕ, ◌+◌, List, [], ◌∷◌, ◌++◌, length}
use Rattle.go_tree_nodes.specs.declared.names.Ident.{Ident}
use Rattle.go_tree_nodes.specs.declared.decls.ValueKind.{ValueKind}
use Rattle.go_tree_nodes.specs.Trees.{Separated, One, Then, ValueSpecTree, Specs, Single, Group, TypeSpecTree, FuncTree, DeclTree, Value, Types, Func, TopTree, FileTree}
use Rattle.go_decl_core.specs.declared.places.DeclKind.{DeclKind}
use Rattle.go_decl_core.specs.declared.places.DeclKind.TheVariants as kinds
use Rattle.go_decl_core.specs.Outer.{Outer, kind_of_value, kind_of_func, value_spec_outers, type_spec_outers, receiver_outers, decl_outers}

-- what a declaration is: a constant or a variable, with its specification and its place among the names there, from 0; a type; a
-- function or a method
pub data FormTree : Type 0 where
  ValueForm : ValueKind → ValueSpecTree → ℕ → FormTree
  TypeForm : TypeSpecTree → FormTree
  FuncForm : FuncTree → FormTree

-- a declaration, with its number among the identifiers that the file declares outside function bodies
pub record TopDeclTree : Type 0 where
  pub ident : Ident
  pub number : ℕ
  pub form : FormTree

abbrev pub top_decl : Ident → ℕ → FormTree → TopDeclTree
top_decl x n form = record { ident = x; number = n; form = form }

abbrev pub kind_of_form : FormTree → DeclKind
kind_of_form (ValueForm k v i) = kind_of_value k
kind_of_form (TypeForm t) = kinds.«Type»
kind_of_form (FuncForm f) = kind_of_func f.receiver

-- the declarations of pieces of a tree that stand one behind another, by the number of the first identifier: the numbers of each
-- piece go on behind the identifiers that the pieces before it declare
abbrev pub numbered : {A : Type 0} → (A → List Outer) → (ℕ → A → List TopDeclTree) → ℕ → List A → List TopDeclTree
numbered names decls n [] = []
numbered names decls n (x ∷ xs) = decls n x ++ numbered names decls (n + length (names x)) xs

-- the names of a specification, the first of which has the number n, from the i-th on
abbrev pub named_decls : ValueKind → ValueSpecTree → ℕ → ℕ → Separated Ident → List TopDeclTree
named_decls k v n i (One x) = top_decl x (n + i) (ValueForm k v i) ∷ []
named_decls k v n i (Then x comma xs) = top_decl x (n + i) (ValueForm k v i) ∷ named_decls k v n (i + 1) xs

abbrev pub value_spec_decls : ValueKind → ℕ → ValueSpecTree → List TopDeclTree
value_spec_decls k n v = named_decls k v n 0 v.names

abbrev pub type_spec_decls : ℕ → TypeSpecTree → List TopDeclTree
type_spec_decls n t = top_decl t.name n (TypeForm t) ∷ []

abbrev pub specs_decls : {A : Type 0} → (A → List Outer) → (ℕ → A → List TopDeclTree) → ℕ → Specs A → List TopDeclTree
specs_decls names decls n (Single x) = decls n x
specs_decls names decls n (Group first ls last) = numbered (λ l. names l.0) (λ n l. decls n l.0) n ls

-- the name stands behind the receiver
abbrev pub func_decls : ℕ → FuncTree → List TopDeclTree
func_decls n f = top_decl f.name (n + length (receiver_outers f.receiver)) (FuncForm f) ∷ []

abbrev pub decl_decls : ℕ → DeclTree → List TopDeclTree
decl_decls n (Value v) = specs_decls (value_spec_outers v.kind) (value_spec_decls v.kind) n v.specs
decl_decls n (Types t) = specs_decls type_spec_outers type_spec_decls n t.specs
decl_decls n (Func f) = func_decls n f

abbrev pub tops_decls : ℕ → List TopTree → List TopDeclTree
tops_decls n ts = numbered (λ t. decl_outers t.decl) (λ n t. decl_decls n t.decl) n ts

-- the declarations of a file, in order
abbrev pub top_decls : FileTree → List TopDeclTree
top_decls f = tops_decls 0 f.decls
