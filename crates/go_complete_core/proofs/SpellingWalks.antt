-- An identifier of a function that is spelled anew, on the way through the function.
use Rattle.std.proofs.Common.{◌≡◌, ℕ, List, [], ◌++◌, refl}
use Rattle.std.specs.Prelude.{Option}
use Rattle.go_tree_nodes.specs.declared.names.Ident.{Ident}
use Rattle.go_names_core.specs.local_core.Binding.{NameLook}
use Rattle.go_names_core.specs.local_core.Outline.{func_steps, func_opens, func_closes}
use Rattle.go_names_core.specs.local_core.Steps.{Piece, Steps, Done, Check, Declare, Inner}
use Rattle.go_names_core.specs.local_core.mirrors.Walk.{Names, look_in, with_names, news, names_of, walk_out}
use Rattle.go_cursor_core.specs.operand_core.declared.types.Operand.{Operand}
use Rattle.go_stmt_core.specs.expr_core.declared.things.Use.{Use}
use Rattle.go_stmt_core.specs.expr_core.Looks.{Looks}
use Rattle.go_stmt_core.specs.expr_core.Uses.{Spot}
use Rattle.go_stmt_core.specs.expr_core.Independence.{len}
use Rattle.go_stmt_core.specs.piece.Pieces.{piece_uses, piece_values}
use Rattle.go_complete_core.specs.spelling.Contexts.{ContextStays}
use Rattle.go_complete_core.specs.spelling.PieceContexts.{use_rules, spot_rules, names_there, FunctionContextsStay}
use Rattle.go_complete_core.specs.spelling.PieceSpots.{piece_spots}
use Rattle.go_complete_core.specs.spelling.Trees.{RespellsSteps, AtCheck, AtDeclare, BehindCheck, BehindDeclare, InBlock, BehindBlock}
use Rattle.go_complete_core.proofs.SpellingSplits.{len_app, behind, before}
use Rattle.go_complete_core.proofs.SpellingPieces.{piece_long, piece_stays}
use Rattle.go_complete_core.proofs.SpellingTreading.{func_respelled}

module _ {X T S D P : Type 0} (looks : NameLook X → Looks T S D P) (mean : Piece → List (Option (Operand T)) → ℕ → X) (beyond : List ℕ → Option X) where
  abbrev pub spot_walk : Names X → Names X → ℕ → ℕ → Steps → List (Spot T D P)
  spot_walk outer block o c s = (walk_out (spot_rules looks mean) beyond outer block o c s).notes

  abbrev pub use_walk : Names X → Names X → ℕ → ℕ → Steps → List (Use D P)
  use_walk outer block o c s = (walk_out (use_rules looks mean) beyond outer block o c s).notes

  -- all that a piece is judged by behind these names
  abbrev there : Names X → Names X → Looks T S D P
  there outer block = looks (look_in beyond (outer ++ block))

  abbrev pub block_after : Names X → Names X → Piece → List Ident → Names X
  block_after outer block p xs = with_names block (mean p (piece_values (there outer block) (news (names_of block) xs) p)) 0 xs

  pub walk_long : (s : Steps) (outer block : Names X) (o c : ℕ) → len (spot_walk outer block o c s) ≡ len (use_walk outer block o c s)
  walk_long Done outer block o c = refl
  walk_long (Check p rest) outer block o c =
      len_app (piece_spots (there outer block) p) (spot_walk outer block o c rest) (piece_uses (there outer block) p) (use_walk outer block o c rest) (piece_long (there outer block) p) (walk_long rest outer block o c)
  walk_long (Declare m a p xs rest) outer block o c =
      let more = block_after outer block p xs in
      len_app (piece_spots (there outer block) p) (spot_walk outer more o c rest) (piece_uses (there outer block) p) (use_walk outer more o c rest) (piece_long (there outer block) p) (walk_long rest outer more o c)
  walk_long (Inner a b inner rest) outer block o c =
      len_app (spot_walk (outer ++ block) [] a b inner) (spot_walk outer block o c rest) (use_walk (outer ++ block) [] a b inner) (use_walk outer block o c rest)
      (walk_long inner (outer ++ block) [] a b) (walk_long rest outer block o c)

  module _ (x : Ident) (name : List ℕ) where
    steps_stay : (s t : Steps) (r : RespellsSteps x name s t) (outer block : Names X) (o c o' c' : ℕ)
        → ContextStays T S D P (looks (names_there x name (use_rules looks mean) beyond outer block s t r)) x name (spot_walk outer block o c s) (use_walk outer block o' c' t)
    steps_stay s t (AtCheck {p = p} {q = q} {rest = rest} r) outer block o c o' c' =
        behind (there outer block) x name (piece_spots (there outer block) p) (spot_walk outer block o c rest) (piece_uses (there outer block) q) (use_walk outer block o' c' rest)
        (piece_stays (there outer block) x name p q r)
    steps_stay s t (AtDeclare {p = p} {q = q} {xs = xs} {rest = rest} r) outer block o c o' c' =
        behind (there outer block) x name (piece_spots (there outer block) p) (spot_walk outer (block_after outer block p xs) o c rest) (piece_uses (there outer block) q) (use_walk outer (block_after outer block q xs) o' c' rest)
        (piece_stays (there outer block) x name p q r)
    steps_stay s t (BehindCheck {p = p} {rest = rest} {more = more} r) outer block o c o' c' =
        before _ x name (piece_spots (there outer block) p) (spot_walk outer block o c rest) (piece_uses (there outer block) p) (use_walk outer block o' c' more)
        (piece_long (there outer block) p) (steps_stay rest more r outer block o c o' c')
    steps_stay s t (BehindDeclare {p = p} {xs = xs} {rest = rest} {more = more} r) outer block o c o' c' =
        let open_names = block_after outer block p xs in
        before _ x name (piece_spots (there outer block) p) (spot_walk outer open_names o c rest) (piece_uses (there outer block) p) (use_walk outer open_names o' c' more)
        (piece_long (there outer block) p) (steps_stay rest more r outer open_names o c o' c')
    steps_stay s t (InBlock {o = a} {c = b} {d = d} {inner = inner} {other = other} {rest = rest} r) outer block o c o' c' =
        behind _ x name (spot_walk (outer ++ block) [] a b inner) (spot_walk outer block o c rest) (use_walk (outer ++ block) [] a d other) (use_walk outer block o' c' rest)
        (steps_stay inner other r (outer ++ block) [] a b a d)
    steps_stay s t (BehindBlock {o = a} {c = b} {inner = inner} {rest = rest} {more = more} r) outer block o c o' c' =
        before _ x name (spot_walk (outer ++ block) [] a b inner) (spot_walk outer block o c rest) (use_walk (outer ++ block) [] a b inner) (use_walk outer block o' c' more)
        (walk_long inner (outer ++ block) [] a b) (steps_stay rest more r outer block o c o' c')

pub functions_stay : (X T S D P : Type 0) → FunctionContextsStay X T S D P
functions_stay X T S D P looks mean beyond x name f g r =
    let steps = func_respelled x name f g r in
    record { respells = steps; stays = steps_stay looks mean beyond x name (func_steps f) (func_steps g) steps [] [] (func_opens f) (func_closes f) (func_opens g) (func_closes g) }
