-- Where the doc comments of the declarations of a file outside functions stand.
use Rattle.std.specs.Prelude.{◌≡◌, ℕ, List, [], ◌∷◌, ◌++◌, length, Option}
use Rattle.go_path_core.specs.text_core.declared.span.Span.{Span}
use Rattle.go_tree_nodes.specs.declared.names.Ident.{Ident}
use Rattle.go_tree_nodes.specs.Trees.{Separated, One, Then, ValueSpecTree, Specs, Single, Group, TypeSpecTree, DeclTree, Value, Types, Func, TopTree, FileTree}
use Rattle.go_decl_core.specs.declared.anchoring.Anchor.{Anchor}
use Rattle.go_decl_core.specs.TopDecls.{top_decls}

-- a comment that begins at the second offset or behind it, and ends on the line above that of the first
abbrev pub anchor : ℕ → ℕ → Anchor
anchor at behind = record { at = at; behind = behind }

abbrev pub first_name : Separated Ident → Ident
first_name (One x) = x
first_name (Then x comma xs) = x

-- the names of a specification share the comment
abbrev pub named_anchors : Anchor → Separated Ident → List Anchor
named_anchors a (One x) = a ∷ []
named_anchors a (Then x comma xs) = a ∷ named_anchors a xs

-- in parentheses each specification has its own comment, above its first name and behind the keyword
abbrev pub value_lines_anchors : ℕ → List (ValueSpecTree × Option Span) → List Anchor
value_lines_anchors keyword [] = []
value_lines_anchors keyword (l ∷ ls) = named_anchors (anchor (first_name l.0.names).span.start keyword) l.0.names ++ value_lines_anchors keyword ls

abbrev pub type_lines_anchors : ℕ → List (TypeSpecTree × Option Span) → List Anchor
type_lines_anchors keyword [] = []
type_lines_anchors keyword (l ∷ ls) = anchor l.0.name.span.start keyword ∷ type_lines_anchors keyword ls

-- without parentheses it stands above the keyword
abbrev pub value_anchors : ℕ → Specs ValueSpecTree → List Anchor
value_anchors keyword (Single v) = named_anchors (anchor keyword 0) v.names
value_anchors keyword (Group first ls last) = value_lines_anchors keyword ls

abbrev pub type_anchors : ℕ → Specs TypeSpecTree → List Anchor
type_anchors keyword (Single t) = anchor keyword 0 ∷ []
type_anchors keyword (Group first ls last) = type_lines_anchors keyword ls

abbrev pub decl_anchors : DeclTree → List Anchor
decl_anchors (Value v) = value_anchors v.keyword.start v.specs
decl_anchors (Types t) = type_anchors t.keyword.start t.specs
decl_anchors (Func f) = anchor f.func.start 0 ∷ []

abbrev pub tops_anchors : List TopTree → List Anchor
tops_anchors [] = []
tops_anchors (t ∷ ts) = decl_anchors t.decl ++ tops_anchors ts

-- one for each declaration of a file, in order
abbrev pub anchors_of : FileTree → List Anchor
anchors_of f = tops_anchors f.decls

abbrev pub AnchorsAreOfDeclarations : Type 0
AnchorsAreOfDeclarations = (f : FileTree) → length (anchors_of f) ≡ length (top_decls f)
