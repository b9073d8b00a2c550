-- What is noted of a function stands where its occurrences stand.
use Rattle.std.proofs.Common.{◌≡◌, ℕ, true, List, [], map, sym, ap, ◌∙◌, append-nil}
use Rattle.go_tree_nodes.specs.Trees.{FuncTree}
use Rattle.go_tree_core.specs.declared.occurrence.Role.{Role}
use Rattle.go_term_core.specs.Terms.{Term, Sign}
use Rattle.go_handle_core.specs.Declarations.{Declaration}
use Rattle.go_local_core.specs.Steps.{Piece, Header, Spec, Act, Condition, Given}
use Rattle.go_local_core.specs.Outline.{func_steps, func_opens, func_closes}
use Rattle.go_expr_core.specs.Laws.{use_place, occurrence_place}
use Rattle.go_stmt_core.specs.piece.Pieces.{piece_uses}
use Rattle.go_stmt_core.proofs.PieceOccurring.{pieces_occur}
use Rattle.go_env_core.specs.declared.meaning.Meaning.{Meaning}
use Rattle.go_env_core.specs.Looks.{TheLooks}
use Rattle.go_body_core.specs.Notes.{NoteOf}
use Rattle.go_body_core.specs.WellFormed.{IsOfGrammar}
use Rattle.go_body_core.proofs.Places.{places, noted, note_places, steps_places}
use Rattle.go_body_core.proofs.Walks.{NotesOfPieces, walked_notes}
use Rattle.go_body_core.proofs.WellFormed.{pieces_are_of_grammar}
use Rattle.go_body_core.specs.function.Stands.{FileStand, looks_where, outer_meanings}
use Rattle.go_body_core.specs.function.Functions.{func_rules, walked_func}
use Rattle.go_body_core.specs.function.Laws.{FunctionsHaveOccurrences}

piece_places : (looks : TheLooks) (p : Piece) → IsOfGrammar p → map use_place (piece_uses looks p) ≡ places p
piece_places looks (Header r g) h = (pieces_occur Term Sign Declaration (List ℕ)).pieces looks true (Header r g) tt
piece_places looks (Spec k v) h = (pieces_occur Term Sign Declaration (List ℕ)).pieces looks true (Spec k v) h.2
piece_places looks (Act s) h = (pieces_occur Term Sign Declaration (List ℕ)).pieces looks h.0 (Act s) h.1
piece_places looks (Condition t) h = (pieces_occur Term Sign Declaration (List ℕ)).pieces looks true (Condition t) h
piece_places looks (Given place es) h = (pieces_occur Term Sign Declaration (List ℕ)).pieces looks true (Given place es) h

each : (st : FileStand) (f : FuncTree) → NotesOfPieces (func_rules st f) IsOfGrammar noted places
each st f look firsts p h = append-nil (map use_place (piece_uses (looks_where st look) p)) ∙ piece_places (looks_where st look) p h

pub functions_have_occurrences : FunctionsHaveOccurrences
functions_have_occurrences st f h =
    note_places (walked_func st f).notes
    ∙ (walked_notes Meaning NoteOf (ℕ × Role) (func_rules st f) IsOfGrammar noted places (each st f) (outer_meanings st) (func_steps f) [] [] (func_opens f) (func_closes f) (pieces_are_of_grammar f h)
    ∙ (steps_places (func_steps f) ∙ ap (map occurrence_place) (sym ((pieces_occur Term Sign Declaration (List ℕ)).functions f))))
