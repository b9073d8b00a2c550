-- What is noted of a function stands where its occurrences stand.
use Rattle.std.proofs.Common.{◌≡◌, ℕ, true, List, [], ◌∷◌, ◌++◌, map, Option, refl, sym, ap, ◌∙◌, append-nil}
use Rattle.std.specs.List.{flat_map}
use Rattle.std.proofs.lemmas.List.{map-append}
use Rattle.go_tree_nodes.specs.Trees.{FuncTree}
use Rattle.go_tree_core.specs.declared.occurrence.Role.{Role}
use Rattle.go_tree_core.specs.Occurrences.{func_occs}
use Rattle.go_local_core.specs.Steps.{Piece, Header, Spec, Act, Condition, Given, Steps, Done, Check, Declare, Inner}
use Rattle.go_local_core.specs.Outline.{func_steps, func_opens, func_closes}
use Rattle.go_local_core.specs.Tables.{walked, out_by_intervals}
use Rattle.go_term_core.specs.Terms.{Term, Sign}
use Rattle.go_handle_core.specs.Declarations.{Declaration}
use Rattle.go_expr_core.specs.Looks.{Looks, WrittenRules}
use Rattle.go_expr_core.specs.Laws.{use_place, occurrence_place}
use Rattle.go_stmt_core.specs.piece.Laws.{piece_occs, steps_occs}
use Rattle.go_stmt_core.specs.piece.Pieces.{piece_uses}
use Rattle.go_stmt_core.proofs.PieceOccurring.{pieces_occur}
use Rattle.go_declared_core.specs.Faces.{TheFace}
use Rattle.go_env_core.specs.declared.meaning.Meaning.{Meaning}
use Rattle.go_env_core.specs.Scenes.{SceneModel}
use Rattle.go_env_core.specs.Looks.{looks_in}
use Rattle.go_body_core.specs.Pieces.{of_pieces}
use Rattle.go_body_core.specs.WellFormed.{IsOfGrammar}
use Rattle.go_body_core.specs.Notes.{NoteOf, all_uses}
use Rattle.go_body_core.specs.Rules.{func_body_rules, outside_in}
use Rattle.go_body_core.specs.Laws.{BodiesHaveOccurrences}
use Rattle.go_body_core.proofs.WellFormed.{pieces_are_of_grammar}
use Rattle.go_body_core.proofs.Walks.{NotesOfPieces, walked_notes, given_notes}

-- where the occurrences of a piece stand, with their roles
abbrev pub places : Piece → List (ℕ × Role)
places p = map occurrence_place (piece_occs p)

abbrev pub noted : NoteOf → List (ℕ × Role)
noted n = map use_place n.uses

pub note_places : (ns : List NoteOf) → map use_place (all_uses ns) ≡ flat_map noted ns
note_places [] = refl
note_places (n ∷ ns) = map-append use_place n.uses (all_uses ns) ∙ ap (λ l. noted n ++ l) (note_places ns)

piece_places : (p : Piece) → IsOfGrammar p → {T S D P : Type 0} → (looks : Looks T S D P) → map use_place (piece_uses looks p) ≡ places p
piece_places (Header r g) h {T} {S} {D} {P} looks = (pieces_occur T S D P).pieces looks true (Header r g) tt
piece_places (Spec k v) h {T} {S} {D} {P} looks = (pieces_occur T S D P).pieces looks true (Spec k v) h.2
piece_places (Act s) h {T} {S} {D} {P} looks = (pieces_occur T S D P).pieces looks h.0 (Act s) h.1
piece_places (Condition t) h {T} {S} {D} {P} looks = (pieces_occur T S D P).pieces looks true (Condition t) h
piece_places (Given place es) h {T} {S} {D} {P} looks = (pieces_occur T S D P).pieces looks true (Given place es) h

pub steps_places : (steps : Steps) → of_pieces places steps ≡ map occurrence_place (steps_occs steps)
steps_places Done = refl
steps_places (Check p rest) = ap (λ l. places p ++ l) (steps_places rest) ∙ sym (map-append occurrence_place (piece_occs p) (steps_occs rest))
steps_places (Declare m from p xs rest) = ap (λ l. places p ++ l) (steps_places rest) ∙ sym (map-append occurrence_place (piece_occs p) (steps_occs rest))
steps_places (Inner o c steps rest) =
    ap (λ l. l ++ of_pieces places rest) (steps_places steps)
    ∙ (ap (λ l. map occurrence_place (steps_occs steps) ++ l) (steps_places rest) ∙ sym (map-append occurrence_place (steps_occs steps) (steps_occs rest)))

module _ (s : SceneModel) (file : ℕ) (known : List (Option TheFace)) (written : WrittenRules Term) (f : FuncTree) where
  each : NotesOfPieces (func_body_rules s file known written f) IsOfGrammar noted places
  each look firsts p h = append-nil (map use_place (piece_uses (looks_in s file known written look) p)) ∙ piece_places p h (looks_in s file known written look)

  function_places : of_pieces places (func_steps f) ≡ map occurrence_place (func_occs f)
  function_places = steps_places (func_steps f) ∙ ap (map occurrence_place) (sym ((pieces_occur Term Sign Declaration (List ℕ)).functions f))

pub bodies_have_occurrences : BodiesHaveOccurrences
bodies_have_occurrences = record {
  on_the_way = λ s file known written f h.
      note_places (walked (func_body_rules s file known written f) (outside_in s file) f).notes
      ∙ (walked_notes Meaning NoteOf (ℕ × Role) (func_body_rules s file known written f) IsOfGrammar noted places (each s file known written f) (outside_in s file) (func_steps f) [] [] (func_opens f) (func_closes f) (pieces_are_of_grammar f h)
      ∙ function_places s file known written f);
  by_regions = λ s file known written f all h.
      note_places (out_by_intervals (func_body_rules s file known written f) (outside_in s file) f all).notes
      ∙ (given_notes Meaning NoteOf (ℕ × Role) (func_body_rules s file known written f) IsOfGrammar noted places (each s file known written f) (outside_in s file) all (func_steps f) (func_opens f) (func_closes f) (pieces_are_of_grammar f h)
      ∙ function_places s file known written f);
}
