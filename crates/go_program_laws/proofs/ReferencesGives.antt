-- What the signature of a function gives is what its own tree gives.
use Rattle.std.proofs.Common.{◌≡◌, inl, ℕ, true, List, Option, Some, None, is_some, refl, sym, ap, ◌∙◌}
use Rattle.std.proofs.lemmas.Bool.{and_parts}
use Rattle.go_tree_nodes.specs.Trees.{NoParams, NoResult, OneResult, Param, ParamTrees, ResultTree, Results, SignatureTree, Signed, TypeTree}
use Rattle.go_tree_nodes.specs.WrittenTypes.{params_types, result_types, signature_types}
use Rattle.go_term_core.specs.Terms.{Term}
use Rattle.go_term_core.specs.settling.Settled.{settled, settled_sign, settled_terms}
use Rattle.go_body_core.specs.table_core.Entries.{Entry, find_entry, kinds_in}
use Rattle.go_body_core.specs.typexpr_core.WrittenWritten.{InFile, Meaning, params_of_tree, results_of_tree, signature_of, term_of}
use Rattle.go_meaning_laws.specs.handle_core.DecidingRules.{all_typed, term_rules, typed}
use Rattle.go_body_core.specs.typexpr_core.EntryAmong.{Among, among_right}
use Rattle.go_object_core.specs.declared.instructions.letters.Word.{Word}
use Rattle.go_code_core.specs.fragments.Fragment.{over, type_word}
use Rattle.go_code_core.specs.fragments.Inside.{listed_result_inside, params_inside, results_inside, signature_inside}
use Rattle.go_code_core.specs.fragments.Names.{CodeLooks}
use Rattle.go_workspace_laws.specs.folding.Reading.{IsOver}
use Rattle.go_meaning_laws.specs.fitting_sources.Fitting.{listed_gives, result_gives, signature_gives}
use Rattle.go_emit_core.specs.meaning.Words.{results_give, sign_gives, some_word}
use Rattle.go_program_laws.proofs.TypesWords.{term_over}
use Rattle.go_program_laws.proofs.ReferencesWords.{some_of}

module _ (es : List Entry) (path : List ℕ) (mean : Meaning) (file : InFile) (code : CodeLooks) (written : TypeTree → Option Term) where
  abbrev the_type : TypeTree → Option Term
  the_type u = typed (find_entry es) (settled (kinds_in es) (term_of mean file u))

  -- types are what they are where the header is checked
  abbrev pub AreSame : List TypeTree → Type 0
  AreSame us = (u : TypeTree) → Among us u → the_type u ≡ written u

  -- and over what code takes them for
  abbrev pub AreOver : List TypeTree → Type 0
  AreOver us = (u : TypeTree) → Among us u → (w : Word) → type_word code u ≡ Some w → IsOver (term_rules es path) w (written u)

  some_over : (o : Option Term) (w : Word) → IsOver (term_rules es path) w o → some_word es o ≡ Some w
  some_over None w h = absurd h
  some_over (Some t) w h = term_over es path t w h

  word_same : (u : TypeTree) → the_type u ≡ written u → ((w : Word) → type_word code u ≡ Some w → IsOver (term_rules es path) w (written u)) → is_some (type_word code u) ≡ true → some_word es (the_type u) ≡ type_word code u
  word_same u same each inside = (let w = some_of (type_word code u) inside in ap (some_word es) same ∙ (some_over (written u) w.0 (each w.0 w.1) ∙ sym w.1))

  listed_same : (ps : ParamTrees) → AreSame (params_types ps) → AreOver (params_types ps) → listed_result_inside code ps ≡ true
      → results_give es (all_typed (find_entry es) (settled_terms (kinds_in es) (params_of_tree mean file ps))) ≡ listed_gives code ps
  listed_same NoParams s o i = refl
  listed_same (Param None t comma NoParams) s o i = ap over (word_same t (s t (inl refl)) (o t (inl refl)) i)
  listed_same (Param None t comma (Param xs u other rest)) s o i = absurd (cc i)
  listed_same (Param (Some xs) t comma rest) s o i = absurd (cc i)

  result_same : (r : ResultTree) → AreSame (result_types r) → AreOver (result_types r) → results_inside code r ≡ true
      → results_give es (all_typed (find_entry es) (settled_terms (kinds_in es) (results_of_tree mean file r))) ≡ result_gives code r
  result_same NoResult s o i = refl
  result_same (OneResult t) s o i = ap over (word_same t (s t (inl refl)) (o t (inl refl)) i)
  result_same (Results first ps last) s o i = listed_same ps s o i

  pub gives_same : (g : SignatureTree) → AreSame (signature_types g) → AreOver (signature_types g) → signature_inside code g ≡ true → sign_gives es (settled_sign (kinds_in es) (signature_of mean file g)) ≡ signature_gives code g
  gives_same (Signed first ps last r) s o i =
      result_same r (λ u k. s u (among_right (params_types ps) (result_types r) u k)) (λ u k. o u (among_right (params_types ps) (result_types r) u k)) (and_parts (params_inside code ps) (results_inside code r) i).1
