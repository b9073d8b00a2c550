-- The pieces of a function with what is open in front of each: on a walk by rules, and by the tree alone.
--
-- docs/RULES.md, "Bodies of functions". The Go specification, "Blocks", "Declarations and scope".
use Rattle.std.specs.Prelude.{◌≡◌, ℕ, Bool, List, [], ◌∷◌, ◌++◌, map, All, Option}
use Rattle.std.specs.List.{flat_map}
use Rattle.go_tree_nodes.specs.declared.names.Ident.{Ident}
use Rattle.go_tree_nodes.specs.Trees.{FuncTree}
use Rattle.go_expr_core.specs.local_core.Steps.{Piece, Steps, Done, Check, Declare, Inner}
use Rattle.go_expr_core.specs.local_core.Law.{Rules}
use Rattle.go_expr_core.specs.local_core.Outline.{func_steps}
use Rattle.go_expr_core.specs.local_core.Tables.{walked}
use Rattle.go_expr_core.specs.local_core.mirrors.Walk.{Names, look_in, with_names, news, names_of}
use Rattle.go_cursor_core.specs.Opened.{piece_opened, func_opened, with_idents}

-- a piece: with the names that are open in front of it and what they mean, with the locals that are open there, and with which of the names that it
-- declares are new
pub record PieceAt (X : Type 0) : Type 0 where
  pub names : Names X
  pub locals : List Ident
  pub firsts : List Bool
  pub piece : Piece

abbrev pub piece_at : {X : Type 0} → Names X → List Ident → List Bool → Piece → PieceAt X
piece_at ns xs bs p = record { names = ns; locals = xs; firsts = bs; piece = p }

module _ {X N : Type 0} (rules : Rules X N) (beyond : List ℕ → Option X) where
  -- those of the steps of a block: with the names of the blocks around it and its own, and so with the locals
  abbrev pub pieces_at : Names X → Names X → List Ident → List Ident → Steps → List (PieceAt X)
  pieces_at outer block xs ys Done = []
  pieces_at outer block xs ys (Check p rest) = piece_at (outer ++ block) (xs ++ ys) [] p ∷ pieces_at outer block xs ys rest
  pieces_at outer block xs ys (Declare m from p zs rest) =
      piece_at (outer ++ block) (xs ++ ys) (news (names_of block) zs) p
      ∷ pieces_at outer (with_names block (rules.means (look_in beyond (outer ++ block)) (news (names_of block) zs) p) 0 zs) xs (with_idents ys zs) rest
  pieces_at outer block xs ys (Inner o c steps rest) = pieces_at (outer ++ block) [] (xs ++ ys) [] steps ++ pieces_at outer block xs ys rest

  abbrev pub func_pieces : FuncTree → List (PieceAt X)
  func_pieces f = pieces_at [] [] [] [] (func_steps f)

-- By any rules: what is noted on the walk through a function is what is noted of its pieces under the names that are open there; the identifiers that are
-- used are those of its pieces under the locals that are open there; and these are the same names, in the same order.
pub record OpenNamesAreWalked (X N : Type 0) : Type 0 where
  pub notes : (rules : Rules X N) (beyond : List ℕ → Option X) (f : FuncTree) → (walked rules beyond f).notes ≡ flat_map (λ a. rules.notes (look_in beyond a.names) a.firsts a.piece) (func_pieces rules beyond f)
  pub used : (rules : Rules X N) (beyond : List ℕ → Option X) (f : FuncTree) → func_opened f ≡ flat_map (λ (a : PieceAt X). piece_opened a.locals a.piece) (func_pieces rules beyond f)
  pub same : (rules : Rules X N) (beyond : List ℕ → Option X) (f : FuncTree) → All (λ a. names_of a.names ≡ map (λ x. x.name) a.locals) (func_pieces rules beyond f)
