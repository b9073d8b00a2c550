-- What a file declares outside functions, with the members of its types, and where each declaration stands.
--
-- The Go specification, "Declarations and scope", "Struct types", "Interface types".
use Rattle.std.specs.Prelude.{ℕ, Bool, true, false, List, [], ◌∷◌, ◌++◌, Option, Some, None}
use Rattle.std.specs.List.{flat_map}
use Rattle.go_path_core.specs.text_core.declared.span.Span.{Span}
use Rattle.go_tree_nodes.specs.declared.names.Ident.{Ident}
use Rattle.go_tree_nodes.specs.declared.decls.ValueKind.{ValueKind}
use Rattle.go_tree_nodes.specs.declared.decls.ValueKind.TheVariants as value_kinds
use Rattle.go_tree_nodes.specs.declared.files.Receiver.{Receiver}
use Rattle.go_tree_nodes.specs.declared.types.Fields.{Fields}
use Rattle.go_tree_nodes.specs.declared.types.Fields.TheVariants as fields
use Rattle.go_tree_nodes.specs.declared.types.TypeName.{TypeName}
use Rattle.go_tree_nodes.specs.Trees.{Separated, One, Then, TypeTree, FieldTrees, MethodTrees, NamedType, Pointer, ParenType, Struct, Interface, NoFields, NamedFields, EmbeddedField, NoMethods, Method, Specs, Single, Group, ValueSpecTree, ValueTree, TypeSpecTree, TypeDeclTree, FuncTree, DeclTree, Value, Types, Func, TopTree, FileTree}
use Rattle.go_tree_nodes.specs.TypeShapes.{shape_idents}
use Rattle.go_term_core.specs.decl_core.Outer.{last_ident}
use Rattle.go_reference_core.specs.declared.outline.items.Entry.{Entry}
use Rattle.go_reference_core.specs.declared.outline.items.EntryKind.{EntryKind}
use Rattle.go_reference_core.specs.declared.outline.items.EntryKind.TheVariants as kinds

-- a declared name, with the offsets between which its declaration stands, and the one at which its head ends
pub record EntryTree : Type 0 where
  pub ident : Ident
  pub kind : EntryKind
  pub is_member : Bool
  pub start : ℕ
  pub end : ℕ
  pub head_end : ℕ

abbrev pub entry : Ident → EntryKind → Bool → ℕ → ℕ → ℕ → EntryTree
entry ident kind is_member start end head_end = record { ident = ident; kind = kind; is_member = is_member; start = start; end = end; head_end = head_end }

abbrev pub entry_shown : Entry → EntryTree
entry_shown e = entry e.ident.now e.kind e.is_member e.start e.end e.head_end

abbrev pub idents_entries : EntryKind → Bool → ℕ → ℕ → Separated Ident → List EntryTree
idents_entries kind is_member start end (One x) = entry x kind is_member start end end ∷ []
idents_entries kind is_member start end (Then x comma xs) = entry x kind is_member start end end ∷ idents_entries kind is_member start end xs

-- a line of a group ends at its semicolon, or else where the group ends
abbrev pub line_end : Option Span → ℕ → ℕ
line_end None end = end
line_end (Some s) end = s.start

abbrev pub first_ident : Separated Ident → Ident
first_ident (One x) = x
first_ident (Then x comma xs) = x

-- members

abbrev pub named_entries : Separated Ident → ℕ → List EntryTree
named_entries xs end = idents_entries kinds.Field true (first_ident xs).span.start end xs

abbrev pub embedded_entry : TypeName → ℕ → EntryTree
embedded_entry n end = entry (last_ident n) kinds.Field true (last_ident n).span.start end end

abbrev pub field_entries : Fields → ℕ → List EntryTree
field_entries (fields.Named xs t) end = named_entries (shape_idents xs) end
field_entries (fields.Embedded star n) end = embedded_entry n end ∷ []

abbrev pub fields_entries : ℕ → FieldTrees → List EntryTree
fields_entries close NoFields = []
fields_entries close (NamedFields xs t tag s rest) = named_entries xs (line_end s close) ++ fields_entries close rest
fields_entries close (EmbeddedField star n tag s rest) = embedded_entry n (line_end s close) ∷ fields_entries close rest

abbrev pub methods_entries : ℕ → MethodTrees → List EntryTree
methods_entries close NoMethods = []
methods_entries close (Method x signature s rest) = entry x kinds.Method true x.span.start (line_end s close) (line_end s close) ∷ methods_entries close rest

-- the fields of a struct type, the methods of an interface type
abbrev pub members_of : TypeTree → List EntryTree
members_of (NamedType n) = []
members_of (Pointer star t) = []
members_of (ParenType first t last) = []
members_of (Struct k first ls last) = fields_entries last.start ls
members_of (Interface k first ms last) = methods_entries last.start ms

-- declarations

abbrev pub kind_of_type : TypeTree → EntryKind
kind_of_type (NamedType n) = kinds.Named
kind_of_type (Pointer star t) = kinds.Named
kind_of_type (ParenType first t last) = kinds.Named
kind_of_type (Struct k first ls last) = kinds.Struct
kind_of_type (Interface k first ms last) = kinds.Interface

abbrev pub kind_of_value : ValueKind → EntryKind
kind_of_value value_kinds.Const = kinds.Constant
kind_of_value value_kinds.Var = kinds.Variable

abbrev pub kind_of_func : Option Receiver → EntryKind
kind_of_func None = kinds.Function
kind_of_func (Some r) = kinds.Method

abbrev pub value_spec_entries : ValueKind → ℕ → ℕ → ValueSpecTree → List EntryTree
value_spec_entries k start end v = idents_entries (kind_of_value k) false start end v.names

abbrev pub type_spec_entries : ℕ → ℕ → TypeSpecTree → List EntryTree
type_spec_entries start end t = entry t.name (kind_of_type t.type_expr) false start end end ∷ members_of t.type_expr

-- one that stands alone begins at its keyword; one of a group where its first name does
abbrev pub specs_entries : {A : Type 0} → (ℕ → ℕ → A → List EntryTree) → (A → ℕ) → ℕ → ℕ → Specs A → List EntryTree
specs_entries f first start end (Single x) = f start end x
specs_entries f first start end (Group begins ls close) = flat_map (λ l. f (first l.0) (line_end l.1 close.start) l.0) ls

abbrev pub values_entries : ℕ → ValueTree → List EntryTree
values_entries end v = specs_entries (value_spec_entries v.kind) (λ s. (first_ident s.names).span.start) v.keyword.start end v.specs

abbrev pub types_entries : ℕ → TypeDeclTree → List EntryTree
types_entries end t = specs_entries type_spec_entries (λ s. s.name.span.start) t.keyword.start end t.specs

abbrev pub func_entries : ℕ → FuncTree → List EntryTree
func_entries end f = entry f.name (kind_of_func f.receiver) false f.func.start end f.open_brace.start ∷ []

abbrev pub decl_entries : ℕ → DeclTree → List EntryTree
decl_entries end (Value v) = values_entries end v
decl_entries end (Types t) = types_entries end t
decl_entries end (Func f) = func_entries end f

abbrev pub top_entries : TopTree → List EntryTree
top_entries t = decl_entries t.semicolon.start t.decl

abbrev pub outline_of : FileTree → List EntryTree
outline_of f = flat_map top_entries f.decls
