-- A function in which one identifier is spelled anew.
--
-- docs/RULES.md, "Bodies of functions", "Occurrences". The Go specification, "Blocks", "Declarations and scope".
use Rattle.std.specs.Prelude.{◌≡◌, ℕ, false, List, [], ◌++◌, map, Option}
use Rattle.go_tree_nodes.specs.declared.names.Ident.{Ident}
use Rattle.go_tree_nodes.specs.Trees.{FuncTree}
use Rattle.go_names_core.specs.local_core.Binding.{NameLook}
use Rattle.go_names_core.specs.local_core.Law.{Rules}
use Rattle.go_names_core.specs.local_core.Outline.{func_steps}
use Rattle.go_names_core.specs.local_core.Steps.{Piece, Steps}
use Rattle.go_names_core.specs.local_core.Tables.{walked}
use Rattle.go_names_core.specs.local_core.mirrors.Walk.{Names, look_in, with_names, news, names_of}
use Rattle.go_cursor_core.specs.operand_core.declared.types.Operand.{Operand}
use Rattle.go_stmt_core.specs.expr_core.declared.things.Use.{Use}
use Rattle.go_stmt_core.specs.expr_core.Looks.{Looks}
use Rattle.go_stmt_core.specs.expr_core.Uses.{Spot, use_of}
use Rattle.go_stmt_core.specs.piece.Laws.{piece_rules}
use Rattle.go_stmt_core.specs.piece.Pieces.{piece_uses, piece_values}
use Rattle.go_complete_core.specs.spelling.Contexts.{ContextStays}
use Rattle.go_complete_core.specs.spelling.PieceSpots.{piece_spots}
use Rattle.go_complete_core.specs.spelling.Trees.{RespellsPiece, RespellsSteps, AtCheck, AtDeclare, BehindCheck, BehindDeclare, InBlock, BehindBlock, RespellsFunc}

-- the rules by which what the identifiers and calls of a function have is noted, and those by which their contexts are: by look-ups that are made of what
-- names mean, and by what a name means that a piece declares
abbrev pub use_rules : {X T S D P : Type 0} → (NameLook X → Looks T S D P) → (Piece → List (Option (Operand T)) → ℕ → X) → Rules X (Use D P)
use_rules looks mean = piece_rules looks [] false (λ p us fs. us) mean

abbrev pub spot_rules : {X T S D P : Type 0} → (NameLook X → Looks T S D P) → (Piece → List (Option (Operand T)) → ℕ → X) → Rules X (Spot T D P)
spot_rules looks mean = record { notes = λ look firsts p. piece_spots (looks look) p; means = λ look firsts p. mean p (piece_values (looks look) firsts p) }

-- what names mean where the piece of the identifier stands, on the way through the steps: by the steps in front of it alone
abbrev pub names_there : {X N : Type 0} (x : Ident) (name : List ℕ) → Rules X N → (List ℕ → Option X) → Names X → Names X → (s t : Steps) → RespellsSteps x name s t → NameLook X
names_there x name rules beyond outer block s t (AtCheck r) = look_in beyond (outer ++ block)
names_there x name rules beyond outer block s t (AtDeclare r) = look_in beyond (outer ++ block)
names_there x name rules beyond outer block s t (BehindCheck {rest = rest} {more = more} r) = names_there x name rules beyond outer block rest more r
names_there x name rules beyond outer block s t (BehindDeclare {p = p} {xs = xs} {rest = rest} {more = more} r) =
    names_there x name rules beyond outer (with_names block (rules.means (look_in beyond (outer ++ block)) (news (names_of block) xs) p) 0 xs) rest more r
names_there x name rules beyond outer block s t (InBlock {inner = inner} {other = other} r) = names_there x name rules beyond (outer ++ block) [] inner other r
names_there x name rules beyond outer block s t (BehindBlock {rest = rest} {more = more} r) = names_there x name rules beyond outer block rest more r

-- The identifier stands in one piece of the function, in a context; and under its new spelling it has what this context's rule gives for that, where names
-- mean what they mean in front of the piece.
pub record FunctionStays (X T S D P : Type 0) (looks : NameLook X → Looks T S D P) (mean : Piece → List (Option (Operand T)) → ℕ → X) (beyond : List ℕ → Option X) (x : Ident) (name : List ℕ) (f g : FuncTree) : Type 0 where
  pub respells : RespellsSteps x name (func_steps f) (func_steps g)
  pub stays : ContextStays T S D P (looks (names_there x name (use_rules looks mean) beyond [] [] (func_steps f) (func_steps g) respells)) x name
      (walked (spot_rules looks mean) beyond f).notes (walked (use_rules looks mean) beyond g).notes

-- by any look-ups that are made of what names mean, whatever these mean outside the function
abbrev pub FunctionContextsStay : (X T S D P : Type 0) → Type 0
FunctionContextsStay X T S D P =
    (looks : NameLook X → Looks T S D P) (mean : Piece → List (Option (Operand T)) → ℕ → X) (beyond : List ℕ → Option X) (x : Ident) (name : List ℕ) (f g : FuncTree)
    → RespellsFunc x name f g → FunctionStays X T S D P looks mean beyond x name f g

pub record PieceContextsStay (T S D P : Type 0) : Type 0 where
  -- what is noted of a piece is what its identifiers have in their contexts, and its calls
  pub uses : (looks : Looks T S D P) (p : Piece) → piece_uses looks p ≡ map (use_of looks) (piece_spots looks p)
  -- in a piece an identifier under another spelling stands in the context in which it stood
  pub stays : (looks : Looks T S D P) (x : Ident) (name : List ℕ) (p q : Piece) → RespellsPiece x name p q → ContextStays T S D P looks x name (piece_spots looks p) (piece_uses looks q)
