-- What is noted of a function is what is noted of its pieces, in order.
use Rattle.std.proofs.Common.{◌≡◌, ℕ, Bool, List, [], ◌++◌, map, Option, refl, ap, ◌∙◌}
use Rattle.std.specs.List.{flat_map}
use Rattle.std.proofs.lemmas.Grind.{flat_map-append}
use Rattle.go_local_core.specs.Steps.{Piece, Steps, Done, Check, Declare, Inner}
use Rattle.go_local_core.specs.Binding.{Local, NameLook, bound, is_first}
use Rattle.go_local_core.specs.Law.{Rules, law_out}
use Rattle.go_local_core.specs.mirrors.Walk.{Names, look_in, news, with_names, names_of, walk_out}
use Rattle.go_body_core.specs.Pieces.{of_pieces, AllPieces}

-- whatever names mean, the rules note of a piece what stands there
abbrev pub NotesOfPieces : {X N A : Type 0} → Rules X N → (Piece → Type 0) → (N → List A) → (Piece → List A) → Type 0
NotesOfPieces {X} rules P g of_piece = (look : NameLook X) (firsts : List Bool) (p : Piece) → P p → flat_map g (rules.notes look firsts p) ≡ of_piece p

module _ (X N A : Type 0) (rules : Rules X N) (P : Piece → Type 0) (g : N → List A) (of_piece : Piece → List A) (each : NotesOfPieces rules P g of_piece) (beyond : List ℕ → Option X) where
  joined : (ns ms : List N) (ys zs : List A) → flat_map g ns ≡ ys → flat_map g ms ≡ zs → flat_map g (ns ++ ms) ≡ ys ++ zs
  joined ns ms ys zs h i = flat_map-append g ns ms ∙ (ap (λ l. l ++ flat_map g ms) h ∙ ap (λ l. ys ++ l) i)

  pub walked_notes : (steps : Steps) (outer block : Names X) (opens closes : ℕ) → AllPieces P steps → flat_map g (walk_out rules beyond outer block opens closes steps).notes ≡ of_pieces of_piece steps
  walked_notes Done outer block opens closes h = refl
  walked_notes (Check p rest) outer block opens closes h =
      joined (rules.notes (look_in beyond (outer ++ block)) [] p) (walk_out rules beyond outer block opens closes rest).notes (of_piece p) (of_pieces of_piece rest)
      (each (look_in beyond (outer ++ block)) [] p h.0) (walked_notes rest outer block opens closes h.1)
  walked_notes (Declare m from p xs rest) outer block opens closes h =
      let look = look_in beyond (outer ++ block) in
      let firsts = news (names_of block) xs in
      let after = with_names block (rules.means look firsts p) 0 xs in
      joined (rules.notes look firsts p) (walk_out rules beyond outer after opens closes rest).notes (of_piece p) (of_pieces of_piece rest)
      (each look firsts p h.0) (walked_notes rest outer after opens closes h.1)
  walked_notes (Inner o c steps rest) outer block opens closes h =
      joined (walk_out rules beyond (outer ++ block) [] o c steps).notes (walk_out rules beyond outer block opens closes rest).notes (of_pieces of_piece steps) (of_pieces of_piece rest)
      (walked_notes steps (outer ++ block) [] o c h.0) (walked_notes rest outer block opens closes h.1)

  pub given_notes : (all : List (Local X)) (steps : Steps) (opens closes : ℕ) → AllPieces P steps → flat_map g (law_out rules beyond all opens closes steps).notes ≡ of_pieces of_piece steps
  given_notes all Done opens closes h = refl
  given_notes all (Check p rest) opens closes h =
      joined (rules.notes (bound beyond all) [] p) (law_out rules beyond all opens closes rest).notes (of_piece p) (of_pieces of_piece rest)
      (each (bound beyond all) [] p h.0) (given_notes all rest opens closes h.1)
  given_notes all (Declare m from p xs rest) opens closes h =
      let firsts = map (is_first all opens) xs in
      joined (rules.notes (bound beyond all) firsts p) (law_out rules beyond all opens closes rest).notes (of_piece p) (of_pieces of_piece rest)
      (each (bound beyond all) firsts p h.0) (given_notes all rest opens closes h.1)
  given_notes all (Inner o c steps rest) opens closes h =
      joined (law_out rules beyond all o c steps).notes (law_out rules beyond all opens closes rest).notes (of_pieces of_piece steps) (of_pieces of_piece rest)
      (given_notes all steps o c h.0) (given_notes all rest opens closes h.1)
