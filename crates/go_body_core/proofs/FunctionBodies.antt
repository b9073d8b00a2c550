-- What is given of a function by a table of its types is what it has with each type as it is written.
use Rattle.std.proofs.Common.{◌≡◌, ℕ, Bool, List, [], ◌∷◌, map, Option, Some, Contains, refl, sym, ap, subst, ◌∙◌}
use Rattle.std.proofs.lemmas.List.Elements.{Contains-append_left, Contains-append_right, Contains-push}
use Rattle.go_text_core.proofs.Each.{Each}
use Rattle.go_tree_nodes.specs.declared.names.Ident.{Ident}
use Rattle.go_tree_nodes.specs.Trees.{TypeTree, FuncTree}
use Rattle.go_tree_nodes.specs.WrittenTypes.{signature_types}
use Rattle.go_term_core.specs.Terms.{Term, Sign}
use Rattle.go_handle_core.specs.Declarations.{Declaration}
use Rattle.go_denote_core.specs.declared.things.Found.{Found}
use Rattle.go_local_core.specs.Steps.{Piece, Header, Steps, Done, Check, Declare, Inner}
use Rattle.go_local_core.specs.Outline.{func_steps, func_opens}
use Rattle.go_local_core.specs.Pieces.{piece_types}
use Rattle.go_local_core.specs.Binding.{Local, NameLook, bound, is_first}
use Rattle.go_local_core.specs.Law.{Rules}
use Rattle.go_local_core.specs.Tables.{IsFuncPlaced, walked, out_by_intervals}
use Rattle.go_local_core.proofs.Tables.{one_table}
use Rattle.go_expr_core.specs.Laws.{AgreeOnIdents}
use Rattle.go_expr_core.specs.Locality.{SameWritten}
use Rattle.go_inline_core.specs.Types.{InlineOf}
use Rattle.go_inline_core.specs.Trees as inline
use Rattle.go_inline_core.specs.Inline.{inline_of}
use Rattle.go_inline_core.proofs.ByIntervals.{steps_types, func_all}
use Rattle.go_stmt_core.specs.piece.Headers.{returned_types, returned_names}
use Rattle.go_stmt_core.specs.piece.Laws.{SamePiece, piece_idents}
use Rattle.go_stmt_core.proofs.PieceLocal.{pieces_local}
use Rattle.go_env_core.specs.declared.meaning.Meaning.{Meaning}
use Rattle.go_env_core.specs.Looks.{TheLooks, looks_in, inline_rules, inline_type, inline_faults}
use Rattle.go_body_core.specs.Agreement.{NoteAlike}
use Rattle.go_body_core.specs.Notes.{NoteOf, note}
use Rattle.go_body_core.specs.Rules as body
use Rattle.go_body_core.specs.Rules.{local_at, piece_locals, outside_looks}
use Rattle.go_body_core.specs.Body.{body_of}
use Rattle.go_body_core.proofs.Agreement.{alike_rules_give_one}
use Rattle.go_body_core.specs.function.Types.{named_where}
use Rattle.go_body_core.specs.function.Stands.{FileStand, kinds_in_scene, looks_where, outer_meanings, outer_look, outer_looks}
use Rattle.go_body_core.specs.function.Functions.{own_rules, func_rules, walked_func, func_by, AreFuncDeclarations}
use Rattle.go_body_core.specs.function.Laws.{AreFuncTypes, BodiesAreAsWritten, FunctionsHaveOneTable}
use Rattle.go_body_core.proofs.FunctionAlike.{types_same, rules_look_at_names}
use Rattle.go_body_core.proofs.FunctionRegions.{header_unseen}
use Rattle.go_body_core.proofs.FunctionReturned.{each_left, each_right, each_both, IsOne, returned_same}
use Rattle.go_body_core.proofs.FunctionSeen.{HasAt, here_named, has_at}

pub functions_have_one_table : FunctionsHaveOneTable
functions_have_one_table = record {
  table = λ st f placed all. (one_table Meaning NoteOf (func_rules st f) (rules_look_at_names st f) (outer_meanings st) f placed).0 all;
  regions = λ st f placed all right.
      let one = one_table Meaning NoteOf (func_rules st f) (rules_look_at_names st f) (outer_meanings st) f placed in
      ap (λ l. func_by st f l) ((one.0 all).0 right) ∙ ap (body_of f) one.1;
}

agree_self : {T S D : Type 0} (find : List ℕ → ℕ → Found T S D) (xs : List Ident) → AgreeOnIdents find find xs
agree_self find [] = tt
agree_self find (x ∷ xs) = (refl, agree_self find xs)

-- the types of a list, each of which is in a longer list
each_of : (P : TypeTree → Type 0) (ts : List TypeTree) → ((t : TypeTree) → Contains ts t → P t) → Each P ts
each_of P [] h = tt
each_of P (t ∷ ts) h = (h t (Contains-append_left (t ∷ []) ts t (Contains-push [] t)), each_of P ts (λ u there. h u (Contains-append_right (t ∷ []) ts u there)))

module _ (st : FileStand) (types : List (ℕ × InlineOf)) (all : List (Local Meaning)) where
  abbrev look : NameLook Meaning
  look = bound (outer_meanings st) all

  -- by the types as they are written, and by the table
  abbrev written : TheLooks
  written = looks_where st look

  abbrev listed : TheLooks
  listed = looks_in st.scene st.file.file st.known (inline_rules st.scene types) look

  abbrev Has : TypeTree → Type 0
  Has = HasAt st types (here_named st all)

  made : (ts : List TypeTree) → Each Has ts → SameWritten written listed ts
  made [] h = tt
  made (t ∷ ts) h = (record { type_of = ap (inline_type st.scene.types) (sym h.0); faults_of = ap inline_faults (sym h.0) }, made ts h.1)

  piece_same : (p : Piece) → Each Has (piece_types p) → SamePiece Term Sign Declaration (List ℕ) written listed p
  piece_same p h =
      pieces_local Term Sign Declaration (List ℕ) written written.find (inline_rules st.scene types) p (agree_self written.find (piece_idents p))
      (made (piece_types p) h)

  module _ (results : List (Option Term)) (has_names : Bool) where
    abbrev own : Rules Meaning NoteOf
    own = own_rules st results has_names

    abbrev theirs : Rules Meaning NoteOf
    theirs = body.body_rules st.scene st.file.file st.known (inline_rules st.scene types) results has_names

    noted : (firsts : List Bool) (p : Piece) → SamePiece Term Sign Declaration (List ℕ) written listed p → own.notes look firsts p ≡ theirs.notes look firsts p
    noted firsts p same = (λ j. note (same.uses j) (same.faults results has_names firsts j) (piece_locals firsts p (local_at p (same.values firsts j))) ∷ [])

    meant : (firsts : List Bool) (p : Piece) → SamePiece Term Sign Declaration (List ℕ) written listed p → own.means look firsts p ≡ theirs.means look firsts p
    meant firsts p same = ap (local_at p) (same.values firsts)

    steps_same : (opens : ℕ) (steps : Steps) → Each Has (steps_types steps) → NoteAlike own theirs (outer_meanings st) all opens steps
    steps_same opens Done h = tt
    steps_same opens (Check p rest) h =
        let same = piece_same p (each_left Has (piece_types p) (steps_types rest) h) in
        (noted [] p same, steps_same opens rest (each_right Has (piece_types p) (steps_types rest) h))
    steps_same opens (Declare m from p xs rest) h =
        let same = piece_same p (each_left Has (piece_types p) (steps_types rest) h) in
        let firsts = map (is_first all opens) xs in
        (noted firsts p same, meant firsts p same, steps_same opens rest (each_right Has (piece_types p) (steps_types rest) h))
    steps_same opens (Inner o c steps rest) h =
        (steps_same o steps (each_left Has (steps_types steps) (steps_types rest) h), steps_same opens rest (each_right Has (steps_types steps) (steps_types rest) h))

module _ (st : FileStand) (types : List (ℕ × InlineOf)) (f : FuncTree) (placed : IsFuncPlaced f) (are : AreFuncTypes st f types) (all : List (Local Meaning)) (table : AreFuncDeclarations st f all) where
  each_at : Each (HasAt st types (here_named st all)) (inline.func_types f)
  each_at = each_of (HasAt st types (here_named st all)) (inline.func_types f) (λ t there. has_at st types f placed are all table t there)

  -- the types of the results, by their names outside the function
  returned : returned_types (outer_looks st) f.signature ≡ returned_types (outside_looks st.scene st.file.file st.known (inline_rules st.scene types)) f.signature
  returned =
      let top = outside_looks st.scene st.file.file st.known (inline_rules st.scene types) in
      let mean = here_named st all in
      let one = named_where (outer_look st) st.top in
      let kind = kinds_in_scene st.scene in
      returned_same (outer_looks st) top f.signature
      (each_both (HasAt st types mean) (λ t. inline_of kind st.file mean t ≡ inline_of kind st.file one t) (IsOne (outer_looks st) top)
      (λ t h k. ap (λ i. inline_type st.scene.types (Some i)) (sym k) ∙ ap (inline_type st.scene.types) (sym h)) (signature_types f.signature)
      (each_left (HasAt st types mean) (signature_types f.signature) (inline.lines_types f.body) each_at)
      (types_same kind st.file st.top (bound (outer_meanings st) all) (outer_look st) (Header f.receiver f.signature) (header_unseen (func_rules st f) (outer_meanings st) all f placed table)))

  alike : NoteAlike (func_rules st f) (body.func_body_rules st.scene st.file.file st.known (inline_rules st.scene types) f) (outer_meanings st) all (func_opens f) (func_steps f)
  alike =
      subst (λ rs. NoteAlike (func_rules st f) (body.body_rules st.scene st.file.file st.known (inline_rules st.scene types) rs (returned_names f.signature)) (outer_meanings st) all (func_opens f) (func_steps f)) returned
      (steps_same st types all (returned_types (outer_looks st) f.signature) (returned_names f.signature) (func_opens f) (func_steps f) (subst (Each (HasAt st types (here_named st all))) (sym (func_all f)) each_at))

pub bodies_are_as_written : BodiesAreAsWritten
bodies_are_as_written st types f us fs ls placed are is =
    let rules = func_rules st f in
    let other = body.func_body_rules st.scene st.file.file st.known (inline_rules st.scene types) f in
    let beyond = outer_meanings st in
    let all : List (Local Meaning) = (walked_func st f).declares in
    let one = one_table Meaning NoteOf rules (rules_look_at_names st f) beyond f placed in
    let table : AreFuncDeclarations st f all = (one.0 all).1 refl in
    let both = alike_rules_give_one Meaning NoteOf rules other beyond f all table (alike st types f placed are all table) in
    let theirs = is all both.0 in
    let same : out_by_intervals other beyond f all ≡ walked rules beyond f = both.1 ∙ one.1 in
    (theirs.0 ∙ ap (λ o. (body_of f o).uses) same, theirs.1 ∙ ap (λ o. (body_of f o).faults) same, theirs.2 ∙ ap (λ o. (body_of f o).locals) same)
