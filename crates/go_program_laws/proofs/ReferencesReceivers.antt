-- A function takes one word over its receiver.
use Rattle.std.proofs.Common.{◌≡◌, ℕ, Bool, true, false, not, ◌&&◌, List, [], ◌∷◌, ◌++◌, Option, Some, None, is_some, sym, ap, ◌∙◌, subst, if◌then◌else◌}
use Rattle.std.specs.Prelude.{is_none}
use Rattle.std.proofs.lemmas.Bool.{and_parts}
use Rattle.go_tree_nodes.specs.declared.files.Receiver.{Receiver}
use Rattle.go_tree_nodes.specs.declared.types.TypeName.{TypeName}
use Rattle.go_tree_nodes.specs.declared.types.TypeName.TheVariants as type_names
use Rattle.go_tree_nodes.specs.Spelling.{mark, spell_receiver, spell_receiver_name, spell_signature, spell_some, spell_type_name}
use Rattle.go_tree_nodes.specs.Terminals.{Terminal}
use Rattle.go_tree_nodes.specs.Trees.{FileTree, FuncTree, NamedType}
use Rattle.go_names_core.specs.local_core.Alike.{Alike}
use Rattle.go_tree_nodes.specs.token_core.declared.kind.Operator.TheVariants as operator
use Rattle.go_term_core.specs.decl_core.declared.keys.DeclKey.{DeclKey}
use Rattle.go_names_core.specs.local_core.Binding.{Local, NameLook, bound}
use Rattle.go_names_core.specs.local_core.Steps.{Header, spell_piece}
use Rattle.go_term_core.specs.Terms.{Defined, NoType, Term, is_no_type}
use Rattle.go_term_core.specs.settling.Settled.{settled}
use Rattle.go_body_core.specs.table_core.Entries.{Entry, find_entry, kinds_in, underlying_in}
use Rattle.go_meaning_laws.specs.handle_core.DecidingRules.{term_rules, typed}
use Rattle.go_report_core.specs.expr_core.Denoting.{written_type}
use Rattle.go_body_core.specs.env_core.declared.meaning.Meaning.{Meaning as NameMeaning}
use Rattle.go_body_core.specs.function.Functions.{func_rules}
use Rattle.go_body_core.proofs.FunctionRegions.{header_unseen}
use Rattle.go_body_core.specs.function.Stands.{FileStand, outer_look, outer_meanings}
use Rattle.go_body_core.specs.function.Types.{is_local_meaning, named_where}
use Rattle.go_emit_core.specs.package_core.PackagePartInputs.{InputModel, path_in}
use Rattle.go_emit_core.specs.package_core.PackagePartParts.{ContentOf, FileOf}
use Rattle.go_object_core.specs.declared.instructions.letters.Word.{Word}
use Rattle.go_code_core.specs.fragments.Fragment.{type_name_word}
use Rattle.go_code_core.specs.fragments.Inside.{receiver_inside, signature_inside}
use Rattle.go_meaning_laws.specs.fitting_sources.Fitting.{receiver_over}
use Rattle.go_workspace_laws.specs.folding.Reading.{IsOver}
use Rattle.go_workspace_laws.specs.ConstantLaws.{code_names_of}
use Rattle.go_workspace_laws.specs.Standing.{stand_in_part}
use Rattle.go_program_laws.specs.types.Functions.{IsFunction, function_looks, known_types}
use Rattle.go_program_laws.proofs.TypesReady.{AreGiven, placed}
use Rattle.go_program_laws.proofs.TypesWords.{term_over}
use Rattle.go_program_laws.specs.types.Written.{ShowTheirTypes, typed_in}
use Rattle.go_program_laws.proofs.TypesTypes.{receiver_over_written}
use Rattle.go_program_laws.proofs.FaultlessShows.{settled_same}
use Rattle.go_program_laws.specs.references.Methods.{ReceiversTakeWords}
use Rattle.go_program_laws.proofs.ReferencesHeaders.{top_at}
use Rattle.go_program_laws.proofs.ReferencesWords.{some_of}

-- what is written behind the base of a receiver, and behind its name

abbrev behind_base : Receiver → List Terminal
behind_base r = spell_some operator.Comma r.comma ++ mark operator.CloseParen r.close_paren ∷ []

abbrev behind_name : Receiver → List Terminal
behind_name r = spell_some operator.Star r.star ++ (spell_type_name r.base ++ behind_base r)

-- names that mean the same among terminals, and among those in front or behind

module _ {X : Type 0} (look other : NameLook X) where
  alike_left : (ts us : List Terminal) → Alike look other (ts ++ us) → Alike look other ts
  alike_left [] us h = tt
  alike_left (t ∷ ts) us h = (h.0, alike_left ts us h.1)

  alike_right : (ts us : List Terminal) → Alike look other (ts ++ us) → Alike look other us
  alike_right [] us h = h
  alike_right (t ∷ ts) us h = alike_right ts us h.1

  -- those of the base of a receiver
  base_alike : (r : Receiver) (us : List Terminal) → Alike look other (spell_receiver (Some r) ++ us) → Alike look other (spell_type_name r.base)
  base_alike r us h =
      let within : Alike look other (spell_receiver (Some r)) = alike_left (spell_receiver (Some r)) us h in
      let name : Alike look other (behind_name r) = alike_right (spell_receiver_name r.name) (behind_name r) within.1 in
      let base : Alike look other (spell_type_name r.base ++ behind_base r) = alike_right (spell_some operator.Star r.star) (spell_type_name r.base ++ behind_base r) name in
      alike_left (spell_type_name r.base) (behind_base r) base

-- a name that means the same as outside means the type that it means at the top of the file
named_same : (st : FileStand) (look : NameLook NameMeaning) (m : TypeName) → Alike look (outer_look st) (spell_type_name m) → named_where look st.top m ≡ st.top m
named_same st look (type_names.Plain x) h = ap (λ (o : Option NameMeaning). if is_local_meaning o then NoType else st.top (type_names.Plain x)) h.0 ∙ top_at st (type_names.Plain x)
named_same st look (type_names.Qualified q dot x) h = ap (λ (o : Option NameMeaning). if is_local_meaning o then NoType else st.top (type_names.Qualified q dot x)) h.0 ∙ top_at st (type_names.Qualified q dot x)

-- what is over a word is a type
type_over : (es : List Entry) (path : List ℕ) (t : Term) (w : Word) → IsOver (term_rules es path) w (typed (find_entry es) t) → IsOver (term_rules es path) w (Some t)
type_over es path t w h = by (not (is_no_type (underlying_in (find_entry es) t))) h
  where
    by : (b : Bool) → IsOver (term_rules es path) w (if b then Some t else None) → IsOver (term_rules es path) w (Some t)
    by true h = h
    by false h = absurd h

module _ (laws : AreGiven) (i : InputModel) (c : ContentOf) (n : ℕ) (t : FileTree) (f : FileOf) (g : FuncTree) (all : List (Local NameMeaning)) (h : IsFunction i c n t f g all) (shows : ShowTheirTypes i c) where
  abbrev st : FileStand
  st = stand_in_part i c n t

  abbrev es : List Entry
  es = known_types i c

  abbrev look : NameLook NameMeaning
  look = bound (outer_meanings st) all

  base_unseen : (r : Receiver) → g.receiver ≡ Some r → named_where look st.top r.base ≡ st.top r.base
  base_unseen r is =
      let unseen : Alike look (outer_look st) (spell_piece (Header g.receiver g.signature)) = header_unseen (func_rules st g) (outer_meanings st) all g (placed laws i c n t f g all h) h.right in
      let here : Alike look (outer_look st) (spell_receiver (Some r) ++ spell_signature g.signature) = subst (λ (o : Option Receiver). Alike look (outer_look st) (spell_piece (Header o g.signature))) is unseen in
      named_same st look r.base (base_alike look (outer_look st) r (spell_signature g.signature) here)

  base_type : (r : Receiver) → g.receiver ≡ Some r → written_type (function_looks i c n t all) (NamedType r.base) ≡ typed_in es (st.top r.base)
  base_type r is = ap (λ (u : Term). typed (find_entry es) (settled (kinds_in es) u)) (base_unseen r is)

  -- the type of a receiver whose base has this key
  key_over : (r : Receiver) → g.receiver ≡ Some r → (k : DeclKey) → st.top r.base ≡ Defined k → (w : Word) → type_name_word (code_names_of i c n f g) r.base ≡ Some w → IsOver (term_rules es (path_in i)) w (Some (Defined k))
  key_over r is k base w e =
      let same = base_type r is ∙ (ap (λ (u : Term). typed_in es u) base ∙ settled_same es k) in
      let over : IsOver (term_rules es (path_in i)) w (written_type (function_looks i c n t all) (NamedType r.base)) = receiver_over_written laws i c n t f g all h shows r is w e in
      type_over es (path_in i) (Defined k) w (subst (λ (u : Option Term). IsOver (term_rules es (path_in i)) w u) same over)

pub receivers_take : AreGiven → ReceiversTakeWords
receivers_take laws i c n t f g all h shows inside w x =
    let code = code_names_of i c n f g in
    let es = known_types i c in
    let head = and_parts (receiver_inside code g.receiver) (signature_inside code g.signature) (and_parts (receiver_inside code g.receiver && signature_inside code g.signature) _ inside).0 in
    let here : receiver_inside code (Some x.receiver) ≡ true = subst (λ (o : Option Receiver). receiver_inside code o ≡ true) x.is head.0 in
    let word = some_of (type_name_word code x.receiver.base) (and_parts (is_none x.receiver.star) (is_some (type_name_word code x.receiver.base)) here).1 in
    let over = key_over laws i c n t f g all h shows x.receiver x.is x.key x.base word.0 word.1 in
    let one : Some word.0 ≡ Some w = sym (term_over es (path_in i) (Defined x.key) word.0 over) ∙ term_over es (path_in i) (Defined x.key) w x.over in
    ap (λ (o : Option Receiver). receiver_over code o) x.is ∙ ap (λ (o : Option Word). o ∷ []) (word.1 ∙ one)
