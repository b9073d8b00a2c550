-- The entries that are no members are the declarations of a file outside functions.
use Rattle.std.proofs.Common.{◌≡◌, ℕ, ◌+◌, true, false, not, List, [], ◌∷◌, ◌++◌, length, map, refl, ap, sym, ◌∙◌}
use Rattle.std.specs.List.{filter, flat_map}
use Rattle.std.specs.Prelude.{Option}
use Rattle.std.proofs.lemmas.List.{map-append}
use Rattle.std.proofs.lemmas.List.Elements.{filter-append}
use Rattle.go_path_core.specs.text_core.declared.span.Span.{Span}
use Rattle.go_tree_nodes.specs.declared.names.Ident.{Ident}
use Rattle.go_tree_nodes.specs.declared.decls.ValueKind.{ValueKind}
use Rattle.go_tree_nodes.specs.Trees.{Separated, One, Then, TypeTree, FieldTrees, MethodTrees, NamedType, Pointer, ParenType, Struct, Interface, NoFields, NamedFields, EmbeddedField, NoMethods, Method, ValueSpecTree, Specs, Single, Group, TypeSpecTree, DeclTree, Value, Types, Func, TopTree}
use Rattle.go_term_core.specs.decl_core.Outer.{Outer, decl_outers, type_spec_outers, value_spec_outers}
use Rattle.go_term_core.specs.decl_core.TopDecls.{TopDeclTree, decl_decls, named_decls, numbered, specs_decls, tops_decls, type_spec_decls, value_spec_decls}
use Rattle.go_reference_core.specs.declared.outline.items.EntryKind.{EntryKind}
use Rattle.go_reference_core.specs.declared.outline.items.EntryKind.TheVariants as kinds
use Rattle.go_reference_core.specs.outline.Laws.{NamesAreDeclared}
use Rattle.go_reference_core.specs.outline.Outlines.{EntryTree, decl_entries, fields_entries, first_ident, idents_entries, kind_of_value, line_end, members_of, methods_entries, named_entries, specs_entries, top_entries, type_spec_entries, value_spec_entries}

abbrev own : List EntryTree → List Ident
own es = map (λ e. e.ident) (filter (λ e. not e.is_member) es)

abbrev idents_of : List TopDeclTree → List Ident
idents_of ds = map (λ d. d.ident) ds

own_both : (es fs : List EntryTree) → own (es ++ fs) ≡ own es ++ own fs
own_both es fs = ap (map (λ e. e.ident)) (filter-append (λ e. not e.is_member) es fs) ∙ map-append (λ e. e.ident) (filter (λ e. not e.is_member) es) (filter (λ e. not e.is_member) fs)

-- pieces that follow one another
both : (es fs : List EntryTree) (ds gs : List TopDeclTree) → own es ≡ idents_of ds → own fs ≡ idents_of gs → own (es ++ fs) ≡ idents_of (ds ++ gs)
both es fs ds gs h g = own_both es fs ∙ (ap (λ (l : List Ident). l ++ own fs) h ∙ (ap (λ (l : List Ident). idents_of ds ++ l) g ∙ sym (map-append (λ (d : TopDeclTree). d.ident) ds gs)))

-- members are left out

members_out : (kind : EntryKind) (start end : ℕ) (xs : Separated Ident) → own (idents_entries kind true start end xs) ≡ []
members_out kind start end (One x) = refl
members_out kind start end (Then x comma xs) = members_out kind start end xs

fields_out : (close : ℕ) (ls : FieldTrees) → own (fields_entries close ls) ≡ []
fields_out close NoFields = refl
fields_out close (NamedFields xs t tag s rest) =
    own_both (named_entries xs (line_end s close)) (fields_entries close rest)
    ∙ (ap (λ (l : List Ident). l ++ own (fields_entries close rest)) (members_out kinds.Field (first_ident xs).span.start (line_end s close) xs) ∙ fields_out close rest)
fields_out close (EmbeddedField star n tag s rest) = fields_out close rest

methods_out : (close : ℕ) (ms : MethodTrees) → own (methods_entries close ms) ≡ []
methods_out close NoMethods = refl
methods_out close (Method x signature s rest) = methods_out close rest

type_out : (t : TypeTree) → own (members_of t) ≡ []
type_out (NamedType n) = refl
type_out (Pointer star t) = refl
type_out (ParenType first t last) = refl
type_out (Struct k first ls last) = fields_out last.start ls
type_out (Interface k first ms last) = methods_out last.start ms

-- the other entries

names_own : (kind : EntryKind) (start end : ℕ) (k : ValueKind) (v : ValueSpecTree) (n i : ℕ) (xs : Separated Ident) → own (idents_entries kind false start end xs) ≡ idents_of (named_decls k v n i xs)
names_own kind start end k v n i (One x) = refl
names_own kind start end k v n i (Then x comma xs) = ap (λ (l : List Ident). x ∷ l) (names_own kind start end k v n (i + 1) xs)

value_own : (k : ValueKind) (start end n : ℕ) (v : ValueSpecTree) → own (value_spec_entries k start end v) ≡ idents_of (value_spec_decls k n v)
value_own k start end n v = names_own (kind_of_value k) start end k v n 0 v.names

type_own : (start end n : ℕ) (t : TypeSpecTree) → own (type_spec_entries start end t) ≡ idents_of (type_spec_decls n t)
type_own start end n t = ap (λ (l : List Ident). t.name ∷ l) (type_out t.type_expr)

module _ {A : Type 0} (f : ℕ → ℕ → A → List EntryTree) (first : A → ℕ) (names : A → List Outer) (decls : ℕ → A → List TopDeclTree) (each : (start end n : ℕ) (x : A) → own (f start end x) ≡ idents_of (decls n x)) where
  group_own : (close n : ℕ) (ls : List (A × Option Span)) → own (flat_map (λ l. f (first l.0) (line_end l.1 close) l.0) ls) ≡ idents_of (numbered (λ l. names l.0) (λ n l. decls n l.0) n ls)
  group_own close n [] = refl
  group_own close n (l ∷ ls) =
      both (f (first l.0) (line_end l.1 close) l.0) (flat_map (λ l. f (first l.0) (line_end l.1 close) l.0) ls) (decls n l.0) (numbered (λ l. names l.0) (λ n l. decls n l.0) (n + length (names l.0)) ls)
      (each (first l.0) (line_end l.1 close) n l.0) (group_own close (n + length (names l.0)) ls)

  specs_own : (start end n : ℕ) (s : Specs A) → own (specs_entries f first start end s) ≡ idents_of (specs_decls names decls n s)
  specs_own start end n (Single x) = each start end n x
  specs_own start end n (Group begins ls close) = group_own close.start n ls

decl_own : (end n : ℕ) (d : DeclTree) → own (decl_entries end d) ≡ idents_of (decl_decls n d)
decl_own end n (Value v) = specs_own (value_spec_entries v.kind) (λ s. (first_ident s.names).span.start) (value_spec_outers v.kind) (value_spec_decls v.kind) (value_own v.kind) v.keyword.start end n v.specs
decl_own end n (Types t) = specs_own type_spec_entries (λ s. s.name.span.start) type_spec_outers type_spec_decls type_own t.keyword.start end n t.specs
decl_own end n (Func f) = refl

tops_own : (n : ℕ) (ts : List TopTree) → own (flat_map top_entries ts) ≡ idents_of (tops_decls n ts)
tops_own n [] = refl
tops_own n (t ∷ ts) =
    both (top_entries t) (flat_map top_entries ts) (decl_decls n t.decl) (tops_decls (n + length (decl_outers t.decl)) ts) (decl_own t.semicolon.start n t.decl) (tops_own (n + length (decl_outers t.decl)) ts)

pub names_are_declared : NamesAreDeclared
names_are_declared f = tops_own 0 f.decls
