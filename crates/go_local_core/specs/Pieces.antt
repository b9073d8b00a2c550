-- What a piece of a function declares, and the types that it writes.
use Rattle.std.specs.Prelude.{ℕ, zero, suc, List, [], ◌∷◌, Option}
use Rattle.go_tree_nodes.specs.text_core.declared.span.Span.{Span}
use Rattle.go_tree_nodes.specs.declared.names.Ident.{Ident}
use Rattle.go_tree_nodes.specs.Trees.{Separated, TypeTree, SimpleTree, Alone, Step, Assign, Update, Define}
use Rattle.go_tree_nodes.specs.WrittenTypes.{expr_types, some_exprs_types, signature_types, spec_types, simple_types}
use Rattle.go_local_core.specs.Outline.{idents, header_idents}
use Rattle.go_local_core.specs.Steps.{Piece, Header, Spec, Act, Condition, Given}

-- the identifiers that it declares

abbrev pub simple_declares : SimpleTree → List Ident
simple_declares (Alone t) = []
simple_declares (Step t op s) = []
simple_declares (Assign ts s es) = []
simple_declares (Update t op s e) = []
simple_declares (Define xs s es) = idents xs

abbrev pub piece_declares : Piece → List Ident
piece_declares (Header r s) = header_idents r s
piece_declares (Spec k v) = idents v.names
piece_declares (Act s) = simple_declares s
piece_declares (Condition t) = []
piece_declares (Given place es) = []

-- the place of the n-th of some names
abbrev pub ident_place : List Ident → ℕ → ℕ
ident_place [] n = 0
ident_place (x ∷ xs) zero = x.span.start
ident_place (x ∷ xs) (suc n) = ident_place xs n

-- the types that it writes: those of signatures and specifications, and struct types before literals
abbrev pub piece_types : Piece → List TypeTree
piece_types (Header r s) = signature_types s
piece_types (Spec k v) = spec_types v
piece_types (Act s) = simple_types s
piece_types (Condition t) = expr_types t
piece_types (Given place es) = some_exprs_types es
