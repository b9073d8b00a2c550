-- The names that a piece of a function uses, and what each denotes where it stands.
use Rattle.std.specs.Prelude.{ℕ, List, ◌++◌, map, Option}
use Rattle.go_tree_nodes.specs.declared.names.Ident.{Ident}
use Rattle.go_tree_nodes.specs.Trees.{SimpleTree, Alone, Step, Assign, Update, Define}
use Rattle.go_local_core.specs.Steps.{Piece, Header, Spec, Act, Condition, Given}
use Rattle.go_local_core.specs.Pieces.{piece_declares, ident_place}
use Rattle.go_local_core.specs.Binding.{NameLook}
use Rattle.go_local_core.specs.Law.{Rules}
use Rattle.go_names_core.specs.declared.meaning.Outside.{Outside}
use Rattle.go_tree_nodes.specs.Idents.{expr_idents, list_idents, receiver_type_idents, returned_idents, signature_type_idents}
use Rattle.go_local_core.specs.walks.PieceIdents.{targets_idents, value_spec_idents}

-- pieces

abbrev pub simple_used_idents : SimpleTree → List Ident
simple_used_idents (Alone t) = expr_idents t
simple_used_idents (Step t op span) = expr_idents t
simple_used_idents (Assign ts span es) = targets_idents ts ++ list_idents es
simple_used_idents (Update t op span e) = expr_idents t ++ expr_idents e
simple_used_idents (Define xs span es) = list_idents es

abbrev pub piece_used_idents : Piece → List Ident
piece_used_idents (Header r s) = receiver_type_idents r ++ signature_type_idents s
piece_used_idents (Spec k v) = value_spec_idents v
piece_used_idents (Act s) = simple_used_idents s
piece_used_idents (Condition t) = expr_idents t
piece_used_idents (Given place es) = returned_idents es

-- what a name denotes in a function: a local, by the offset of its declared identifier, or what is declared outside
pub data NameMeaning : Type 0 where
  LocalAt : ℕ → NameMeaning
  Beyond : Outside → NameMeaning

-- a use of a name: the offset of an identifier that is looked up in scope, and what it denotes there, if anything declares it
pub record NameUse : Type 0 where
  pub offset : ℕ
  pub denoted : Option NameMeaning

-- what a name denotes where it stands
abbrev pub name_use : NameLook NameMeaning → Ident → NameUse
name_use look x = record { offset = x.span.start; denoted = look x.name x.span.start }

-- each use is noted with what it denotes, and a local is known by the place of its declared identifier
abbrev pub name_use_rules : Rules NameMeaning NameUse
name_use_rules = record { notes = λ look firsts p. map (name_use look) (piece_used_idents p); means = λ look firsts p n. LocalAt (ident_place (piece_declares p) n) }

-- what is declared outside the function is known as what it is
abbrev pub denoted_outside : Outside → NameMeaning
denoted_outside o = Beyond o
