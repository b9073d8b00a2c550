-- A header takes words over the types that are written in it.
use Rattle.std.proofs.Common.{◌≡◌, inl, inr, true, ◌&&◌, List, [], ◌∷◌, ◌++◌, map, length, replicate, Option, Some, None, is_some, refl, ap, ◌∙◌}
use Rattle.std.proofs.lemmas.Bool.{and_parts}
use Rattle.go_tree_nodes.specs.declared.names.Ident.{Ident}
use Rattle.go_tree_nodes.specs.Trees.{Separated, One, Then, TypeTree, ParamTrees, NoParams, Param, SignatureTree, Signed}
use Rattle.go_tree_nodes.specs.WrittenTypes.{params_types, result_types, signature_types}
use Rattle.go_names_core.specs.local_core.Outline.{idents}
use Rattle.go_term_core.specs.Terms.{Term}
use Rattle.go_report_core.specs.operand_core.TypeRules.{TypeRules}
use Rattle.go_body_core.specs.stmt_core.PieceHeaders.{entry_types, of_entry}
use Rattle.go_report_core.specs.expr_core.Denoting.{written_type}
use Rattle.go_body_core.specs.env_core.Looks.{TheLooks}
use Rattle.go_object_core.specs.declared.instructions.letters.Word.{Word}
use Rattle.go_code_core.specs.fragments.Fragment.{type_word}
use Rattle.go_code_core.specs.fragments.Inside.{params_inside, receiver_inside, results_inside, signature_inside}
use Rattle.go_code_core.specs.fragments.Names.{CodeLooks}
use Rattle.go_workspace_laws.specs.folding.Reading.{IsOver}
use Rattle.go_meaning_laws.specs.fitting_sources.Fitting.{entry_over, names_over, params_over, receiver_over, signature_over}
use Rattle.go_workspace_laws.specs.ConstantLaws.{code_names_of}
use Rattle.go_workspace_laws.proofs.ConstantLists.{HasItem, has_left}
use Rattle.go_program_laws.specs.checked_sources.Statements.{AreOverEach}
use Rattle.go_program_laws.specs.types.Functions.{function_looks}
use Rattle.go_program_laws.proofs.TypesReady.{AreGiven}
use Rattle.go_program_laws.proofs.TypesTypes.{header_over}
use Rattle.go_program_laws.specs.references.Callees.{FunctionsTakeWords, types_taken}

-- words over types
record AreWords (rules : TypeRules Term) (os : List (Option Word)) (us : List (Option Term)) : Type 0 where
  words : List Word
  takes : os ≡ map Some words
  over : AreOverEach rules words us

pub some_of : (o : Option Word) → is_some o ≡ true → (w : Word) × (o ≡ Some w)
some_of None e = absurd (cc e)
some_of (Some w) e = (w, refl)

module _ (looks : TheLooks) (code : CodeLooks) where
  abbrev Over : List (Option Word) → List (Option Term) → Type 0
  Over os us = AreWords looks.types os us

  one_more : (o : Option Word) (w : Word) (u : Option Term) → o ≡ Some w → IsOver looks.types w u → (os : List (Option Word)) (us : List (Option Term)) → Over os us → Over (o ∷ os) (u ∷ us)
  one_more o w u is over os us rest = record { words = w ∷ rest.words; takes = ap (λ x. x ∷ os) is ∙ ap (λ l. Some w ∷ l) rest.takes; over = (over, rest.over) }

  names_words : (xs : Separated Ident) (o : Option Word) (w : Word) (u : Option Term) → o ≡ Some w → IsOver looks.types w u → (os : List (Option Word)) (us : List (Option Term)) → Over os us
      → Over (names_over o xs ++ os) (replicate (length (idents xs)) u ++ us)
  names_words (One x) o w u is over os us rest = one_more o w u is over os us rest
  names_words (Then x comma xs) o w u is over os us rest = one_more o w u is over (names_over o xs ++ os) (replicate (length (idents xs)) u ++ us) (names_words xs o w u is over os us rest)

  entry_words : (xs : Option (Separated Ident)) (o : Option Word) (w : Word) (u : Option Term) → o ≡ Some w → IsOver looks.types w u → (os : List (Option Word)) (us : List (Option Term)) → Over os us
      → Over (entry_over o xs ++ os) (of_entry true xs u ++ us)
  entry_words None o w u is over os us rest = one_more o w u is over os us rest
  entry_words (Some xs) o w u is over os us rest = names_words xs o w u is over os us rest

  params_words : (ps : ParamTrees) → ((u : TypeTree) → HasItem (params_types ps) u → (w : Word) → type_word code u ≡ Some w → IsOver looks.types w (written_type looks u))
      → params_inside code ps ≡ true → Over (params_over code ps) (entry_types looks true ps)
  params_words NoParams each inside = record { words = []; takes = refl; over = tt }
  params_words (Param xs u comma rest) each inside =
      let parts = and_parts (is_some (type_word code u)) (params_inside code rest) inside in
      let w = some_of (type_word code u) parts.0 in
      entry_words xs (type_word code u) w.0 (written_type looks u) w.1 (each u (inl refl) w.0 w.1) (params_over code rest) (entry_types looks true rest) (params_words rest (λ v k. each v (inr k)) parts.1)

  signature_words : (s : SignatureTree) → ((u : TypeTree) → HasItem (signature_types s) u → (w : Word) → type_word code u ≡ Some w → IsOver looks.types w (written_type looks u))
      → signature_inside code s ≡ true → Over (signature_over code s) (types_taken looks s)
  signature_words (Signed first ps last r) each inside = params_words ps (λ u k. each u (has_left (params_types ps) (result_types r) u k)) (and_parts (params_inside code ps) (results_inside code r) inside).0

pub take_words : AreGiven → FunctionsTakeWords
take_words laws i c n t f g all h shows inside callees =
    let code = code_names_of i c n f g in
    let looks = function_looks i c n t all in
    let head = and_parts (receiver_inside code g.receiver) (signature_inside code g.signature) (and_parts (receiver_inside code g.receiver && signature_inside code g.signature) _ inside).0 in
    let words = signature_words looks code g.signature (header_over laws i c n t f g all h shows) head.1 in
    record { words = words.words; takes = ap (λ os. receiver_over code g.receiver ++ os) words.takes; over = words.over }
