-- What holds of the pieces of functions.
--
-- docs/RULES.md, "Occurrences", "Expressions: roles, order, faults of parts", "Assignments, declarations, returns, statements". The Go
-- specification, "Declarations and scope".
use Rattle.std.specs.Prelude.{◌≡◌, ℕ, ⊤, Bool, List, [], ◌++◌, length, map, Option}
use Rattle.go_tree_nodes.specs.declared.names.Ident.{Ident}
use Rattle.go_tree_nodes.specs.declared.decls.ValueKind.{ValueKind}
use Rattle.go_tree_nodes.specs.Trees.{ValueSpecTree, SimpleTree, Alone, Step, Assign, Update, Define, FuncTree}
use Rattle.go_tree_nodes.specs.Rules.{Wf, Wf_values, Wf_simple, Wf_some_exprs}
use Rattle.go_tree_core.specs.declared.occurrence.Context.TheVariants as contexts
use Rattle.go_tree_core.specs.declared.occurrence.Occ.{Occ}
use Rattle.go_tree_core.specs.Occurrences.{receiver_occs, signature_occs, value_spec_occs, simple_occs, expr_occs, some_exprs_occs, func_occs}
use Rattle.go_expr_core.specs.local_core.Steps.{Piece, Header, Spec, Act, Condition, Given, Steps, Done, Check, Declare, Inner, spell_piece}
use Rattle.go_expr_core.specs.local_core.Outline.{func_steps}
use Rattle.go_expr_core.specs.local_core.Outline as outline
use Rattle.go_expr_core.specs.local_core.Binding.{NameLook}
use Rattle.go_expr_core.specs.local_core.Law.{Rules}
use Rattle.go_expr_core.specs.local_core.Alike.{Alike, LookAtNames}
use Rattle.go_expr_core.specs.operand_core.declared.types.Operand.{Operand}
use Rattle.go_expr_core.specs.denote_core.declared.things.Found.{Found}
use Rattle.go_expr_core.specs.declared.things.Use.{Use}
use Rattle.go_expr_core.specs.local_core.declared.Fault.{Fault}
use Rattle.go_expr_core.specs.Looks.{Looks, WrittenRules}
use Rattle.go_expr_core.specs.Laws as expressions
use Rattle.go_expr_core.specs.Locality.{SameWritten, seeing}
use Rattle.go_stmt_core.specs.piece.Pieces.{piece_uses, piece_faults, piece_values}
use Rattle.go_stmt_core.specs.piece.Specifications.{outer_faults, outer_values}
use Rattle.go_expr_core.specs.local_core.Pieces.{piece_declares, piece_types}
use Rattle.go_tree_nodes.specs.Idents.{expr_idents, list_idents, receiver_type_idents, returned_idents, signature_type_idents, some_type_idents}
use Rattle.go_expr_core.specs.local_core.WalksPieceIdents.{targets_idents, values_idents}

-- each occurrence has exactly one outcome, and no other place has one

-- the occurrences of a piece
abbrev pub piece_occs : Piece → List Occ
piece_occs (Header r s) = receiver_occs r ++ signature_occs s
piece_occs (Spec kind v) = value_spec_occs v
piece_occs (Act s) = simple_occs s
piece_occs (Condition e) = expr_occs contexts.«Value» e
piece_occs (Given place es) = some_exprs_occs es

-- its expressions respect the grammar, in a header or not
abbrev pub IsWellFormedPiece : Bool → Piece → Type 0
IsWellFormedPiece header (Header r s) = ⊤
IsWellFormedPiece header (Spec kind v) = Wf_values v.values
IsWellFormedPiece header (Act s) = Wf_simple header s
IsWellFormedPiece header (Condition e) = Wf header e
IsWellFormedPiece header (Given place es) = Wf_some_exprs es

-- the occurrences of steps
abbrev pub steps_occs : Steps → List Occ
steps_occs Done = []
steps_occs (Check p rest) = piece_occs p ++ steps_occs rest
steps_occs (Declare m from p xs rest) = piece_occs p ++ steps_occs rest
steps_occs (Inner o c steps rest) = steps_occs steps ++ steps_occs rest

pub record PiecesHaveOccurrences (T S D P : Type 0) : Type 0 where
  -- what is noted of a piece stands where its occurrences stand, with their roles and in their order
  pub pieces : (looks : Looks T S D P) (header : Bool) (p : Piece) → IsWellFormedPiece header p → map expressions.use_place (piece_uses looks p) ≡ map expressions.occurrence_place (piece_occs p)
  -- the occurrences of a function are those of its pieces
  pub functions : (f : FuncTree) → func_occs f ≡ steps_occs (func_steps f)

-- each name that is declared stands for one thing

abbrev pub NamesHaveValues : (T S D P : Type 0) → Type 0
NamesHaveValues T S D P = (looks : Looks T S D P) (firsts : List Bool) (p : Piece) → length (piece_values looks firsts p) ≡ length (piece_declares p)

-- a piece looks at the names in it alone, each where it stands

abbrev pub simple_idents : SimpleTree → List Ident
simple_idents (Alone e) = expr_idents e
simple_idents (Step e op span) = expr_idents e
simple_idents (Assign ts span es) = targets_idents ts ++ list_idents es
simple_idents (Update e op span v) = expr_idents e ++ expr_idents v
simple_idents (Define xs span es) = outline.idents xs ++ list_idents es

-- the identifiers of a piece that are looked up
abbrev pub piece_idents : Piece → List Ident
piece_idents (Header r s) = receiver_type_idents r ++ signature_type_idents s
piece_idents (Spec kind v) = some_type_idents v.type_expr ++ values_idents v.values
piece_idents (Act s) = simple_idents s
piece_idents (Condition e) = expr_idents e
piece_idents (Given place es) = returned_idents es

-- the same is noted, and the names stand for the same
pub record SamePiece (T S D P : Type 0) (looks other : Looks T S D P) (p : Piece) : Type 0 where
  pub uses : piece_uses looks p ≡ piece_uses other p
  pub faults : (results : List (Option T)) (has_names : Bool) (firsts : List Bool) → piece_faults looks results has_names firsts p ≡ piece_faults other results has_names firsts p
  pub values : (firsts : List Bool) → piece_values looks firsts p ≡ piece_values other firsts p

-- look-ups that agree on each name of a piece, where it stands, and make the same of each type that it writes, make the same of it
abbrev pub PiecesAreLocal : (T S D P : Type 0) → Type 0
PiecesAreLocal T S D P = (looks : Looks T S D P) (find : List ℕ → ℕ → Found T S D) (written : WrittenRules T) (p : Piece)
    → expressions.AgreeOnIdents looks.find find (piece_idents p) → SameWritten looks (seeing find written looks) (piece_types p) → SamePiece T S D P looks (seeing find written looks) p

-- so it is of a specification outside functions
pub record SameOuter (T S D P : Type 0) (looks other : Looks T S D P) (kind : ValueKind) (v : ValueSpecTree) : Type 0 where
  pub faults : outer_faults looks kind v ≡ outer_faults other kind v
  pub values : outer_values looks kind v ≡ outer_values other kind v

abbrev pub OuterIsLocal : (T S D P : Type 0) → Type 0
OuterIsLocal T S D P = (looks : Looks T S D P) (find : List ℕ → ℕ → Found T S D) (written : WrittenRules T) (kind : ValueKind) (v : ValueSpecTree)
    → expressions.AgreeOnIdents looks.find find (piece_idents (Spec kind v)) → SameWritten looks (seeing find written looks) (piece_types (Spec kind v)) → SameOuter T S D P looks (seeing find written looks) kind v

-- rules that are made of what pieces have, break and declare, by look-ups that are made of what names mean

abbrev pub piece_rules : {X N T S D P : Type 0} → (NameLook X → Looks T S D P) → List (Option T) → Bool → (Piece → List (Use D P) → List Fault → List N) → (Piece → List (Option (Operand T)) → ℕ → X) → Rules X N
piece_rules looks results has_names note mean = record {
  notes = λ look firsts p. note p (piece_uses (looks look) p) (piece_faults (looks look) results has_names firsts p);
  means = λ look firsts p. mean p (piece_values (looks look) firsts p);
}

-- what a name stands for rests on what it means where it stands, and the rest of the look-ups on nothing
pub record FindByNames (X T S D P : Type 0) (looks : NameLook X → Looks T S D P) : Type 0 where
  pub rest : (look other : NameLook X) → looks other ≡ seeing (looks other).find (looks other).written (looks look)
  pub find : (look other : NameLook X) (name : List ℕ) (offset : ℕ) → look name offset ≡ other name offset → (looks look).find name offset ≡ (looks other).find name offset
  -- each type that a piece writes is the same where its names mean the same
  pub written : (look other : NameLook X) (p : Piece) → Alike look other (spell_piece p) → SameWritten (looks look) (looks other) (piece_types p)

abbrev pub PiecesLookAtNames : (X N T S D P : Type 0) → Type 0
PiecesLookAtNames X N T S D P = (looks : NameLook X → Looks T S D P) (results : List (Option T)) (has_names : Bool) (note : Piece → List (Use D P) → List Fault → List N) (mean : Piece → List (Option (Operand T)) → ℕ → X)
    → FindByNames X T S D P looks → LookAtNames X N (piece_rules looks results has_names note mean)
