-- An identifier of the body of a function that is spelled anew: it stands in its context among all that the declarations of its file have, and names mean
-- what they mean in front of its piece.
use Rattle.std.proofs.Common.{◌≡◌, ℕ, ◌+◌, List, [], ◌++◌, map, length, sym, ap, ◌∙◌}
use Rattle.std.specs.Prelude.{Some, slice_get}
use Rattle.std.proofs.lemmas.List.{map-append, length-map}
use Rattle.go_tree_nodes.specs.declared.names.Ident.{Ident}
use Rattle.go_tree_nodes.specs.Trees.{FuncTree, Lines, TopTree}
use Rattle.go_term_core.specs.Terms.{Term}
use Rattle.go_candidate_core.specs.handle_core.Declarations.{Declaration}
use Rattle.go_names_core.specs.local_core.Binding.{NameLook}
use Rattle.go_names_core.specs.local_core.Outline.{func_steps, func_opens, func_closes}
use Rattle.go_names_core.specs.local_core.Steps.{Piece, Steps}
use Rattle.go_names_core.specs.local_core.mirrors.Walk.{Names}
use Rattle.go_stmt_core.specs.expr_core.Uses.{Context, Identifier, rule, role_of, made_use}
use Rattle.go_package_core.specs.env_core.declared.meaning.Meaning.{Meaning}
use Rattle.go_package_core.specs.body_core.FunctionStands.{FileStand, looks_where}
use Rattle.go_complete_core.specs.spelling.PieceSpots.{piece_spots}
use Rattle.go_complete_core.specs.spelling.Trees.{RespellsPiece, RespellsSteps, AtCheck, AtDeclare, BehindCheck, BehindDeclare, InBlock, BehindBlock, RespellsLines, InFuncBody, with_body}
use Rattle.go_complete_core.proofs.SpellingPieces.{piece_stays}
use Rattle.go_complete_core.proofs.SpellingTreading.{func_respelled}
use Rattle.go_complete_core.specs.spelling.Files.{WritesBody, InFunc, BehindTop}
use Rattle.go_complete_core.specs.spelling.Places.{PlacedSpot, placed_spot, placed_use, piece_places, func_places, decl_places, tops_places}
use Rattle.go_complete_core.proofs.SpellingListed.{get_mapped, get_front, get_behind}
use Rattle.go_complete_core.proofs.SpellingNoted.{piece_noted, there, block_after, place_walk}

module _ (st : FileStand) (x : Ident) (name : List ℕ) where
  -- at one number of both lists, where names mean the same
  pub record PlaceStays (ps qs : List PlacedSpot) : Type 0 where
    pub number : ℕ
    pub context : Context Term Declaration
    pub names : NameLook Meaning
    pub stands : slice_get ps number ≡ Some (placed_spot names (Identifier context x))
    pub has : slice_get (map (placed_use st) qs) number ≡ Some (made_use x.span.start (role_of context) (rule (looks_where st names) context x.span.start name))

  behind : (ps qs more others : List PlacedSpot) → PlaceStays ps qs → PlaceStays (ps ++ more) (qs ++ others)
  behind ps qs more others h = record {
    number = h.number;
    context = h.context;
    names = h.names;
    stands = get_front ps more h.number _ h.stands;
    has = ap (λ l. slice_get l h.number) (map-append (placed_use st) qs others) ∙ get_front (map (placed_use st) qs) (map (placed_use st) others) h.number _ h.has;
  }

  before : (front ps qs : List PlacedSpot) → PlaceStays ps qs → PlaceStays (front ++ ps) (front ++ qs)
  before front ps qs h =
      let uses = map (placed_use st) front in
      let others = map (placed_use st) qs in
      record {
        number = length front + h.number;
        context = h.context;
        names = h.names;
        stands = get_behind front ps h.number ∙ h.stands;
        has =
            ap (λ l. slice_get l (length front + h.number)) (map-append (placed_use st) front qs)
            ∙ (ap (λ (k : ℕ). slice_get (uses ++ others) (k + h.number)) (sym (length-map front (placed_use st))) ∙ (get_behind uses others h.number ∙ h.has));
      }

  in_piece : (names : NameLook Meaning) (p q : Piece) → RespellsPiece x name p q → PlaceStays (piece_places st names p) (piece_places st names q)
  in_piece names p q r =
      let c = piece_stays (looks_where st names) x name p q r in
      record {
        number = c.number;
        context = c.context;
        names = names;
        stands = get_mapped (placed_spot names) (piece_spots (looks_where st names) p) c.number (Identifier c.context x) c.stands;
        has = ap (λ l. slice_get l c.number) (sym (piece_noted st names q)) ∙ c.has;
      }

  -- on the way through a function

  in_steps : (s t : Steps) → RespellsSteps x name s t → (outer block : Names Meaning) (o c o' c' : ℕ) → PlaceStays (place_walk st outer block o c s) (place_walk st outer block o' c' t)
  in_steps s t (AtCheck {p = p} {q = q} {rest = rest} r) outer block o c o' c' =
      let names = there st outer block in
      behind (piece_places st names p) (piece_places st names q) (place_walk st outer block o c rest) (place_walk st outer block o' c' rest) (in_piece names p q r)
  in_steps s t (AtDeclare {p = p} {q = q} {xs = xs} {rest = rest} r) outer block o c o' c' =
      let names = there st outer block in
      behind (piece_places st names p) (piece_places st names q) (place_walk st outer (block_after st outer block p xs) o c rest) (place_walk st outer (block_after st outer block q xs) o' c' rest) (in_piece names p q r)
  in_steps s t (BehindCheck {p = p} {rest = rest} {more = more} r) outer block o c o' c' =
      before (piece_places st (there st outer block) p) (place_walk st outer block o c rest) (place_walk st outer block o' c' more) (in_steps rest more r outer block o c o' c')
  in_steps s t (BehindDeclare {p = p} {xs = xs} {rest = rest} {more = more} r) outer block o c o' c' =
      let later = block_after st outer block p xs in
      before (piece_places st (there st outer block) p) (place_walk st outer later o c rest) (place_walk st outer later o' c' more) (in_steps rest more r outer later o c o' c')
  in_steps s t (InBlock {o = a} {c = b} {d = d} {inner = inner} {other = other} {rest = rest} r) outer block o c o' c' =
      behind (place_walk st (outer ++ block) [] a b inner) (place_walk st (outer ++ block) [] a d other) (place_walk st outer block o c rest) (place_walk st outer block o' c' rest)
      (in_steps inner other r (outer ++ block) [] a b a d)
  in_steps s t (BehindBlock {o = a} {c = b} {inner = inner} {rest = rest} {more = more} r) outer block o c o' c' =
      before (place_walk st (outer ++ block) [] a b inner) (place_walk st outer block o c rest) (place_walk st outer block o' c' more) (in_steps rest more r outer block o c o' c')

  -- among the declarations of the file

  module _ (f : FuncTree) (body : Lines) (r : RespellsLines x name f.body body) where
    in_func : PlaceStays (func_places st f) (func_places st (with_body f body))
    in_func =
        let g = with_body f body in
        in_steps (func_steps f) (func_steps g) (func_respelled x name f g (InFuncBody r)) [] [] (func_opens f) (func_closes f) (func_opens g) (func_closes g)

    pub in_tops : (ds es : List TopTree) → WritesBody f body ds es → PlaceStays (tops_places st ds) (tops_places st es)
    in_tops ds es (InFunc {more = more}) = behind (func_places st f) (func_places st (with_body f body)) (tops_places st more) (tops_places st more) in_func
    in_tops ds es (BehindTop {d = d} {more = more} {rest = rest} s) = before (decl_places st d.decl) (tops_places st more) (tops_places st rest) (in_tops more rest s)
