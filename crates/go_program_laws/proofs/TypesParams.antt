-- Parameters are over what their types are over.
use Rattle.std.proofs.Common.{◌≡◌, inl, inr, ℕ, suc, ◌+◌, Bool, true, false, ◌&&◌, List, [], ◌∷◌, ◌++◌, map, length, replicate, Option, Some, None, is_none, is_some, refl, sym, ◌∙◌, subst, arith, if◌then◌else◌}
use Rattle.std.specs.Prelude.{slice_get}
use Rattle.std.proofs.lemmas.Bool.{and_parts}
use Rattle.go_constant_core.specs.text_core.Text.{is_blank}
use Rattle.go_constant_core.specs.text_core.declared.span.Span.{Span}
use Rattle.go_tree_nodes.specs.declared.files.Receiver.{Receiver}
use Rattle.go_tree_nodes.specs.declared.names.Ident.{Ident}
use Rattle.go_tree_nodes.specs.Trees.{FileTree, FuncTree, Separated, One, Then, TypeTree, ParamTrees, NoParams, Param, SignatureTree, Signed}
use Rattle.go_tree_nodes.specs.WrittenTypes.{params_types, result_types, signature_types}
use Rattle.go_names_core.specs.local_core.Binding.{Local, bound, is_first}
use Rattle.go_names_core.specs.local_core.Faults.{second_faults}
use Rattle.go_names_core.specs.local_core.Law.{declared_from, law_out}
use Rattle.go_names_core.specs.local_core.Outline.{func_closes, func_opens, header_idents, idents, lines_steps, param_idents, result_idents, signature_idents, some_ident}
use Rattle.go_names_core.specs.local_core.Pieces.{ident_place}
use Rattle.go_names_core.specs.local_core.Steps.{Header, Done}
use Rattle.go_term_core.specs.Terms.{Term}
use Rattle.go_body_core.specs.stmt_core.PieceHeaders.{entry_types, header_types, named_receiver, some_starred, types_of_result, types_of_signature}
use Rattle.go_body_core.specs.stmt_core.PieceValues.{variable}
use Rattle.go_report_core.specs.expr_core.Denoting.{named_type, written_type}
use Rattle.go_body_core.specs.env_core.declared.meaning.Meaning.{Meaning as NameMeaning}
use Rattle.go_body_core.specs.env_core.Looks.{TheLooks}
use Rattle.go_body_core.specs.Rules.{value_at}
use Rattle.go_body_core.specs.function.Functions.{func_rules}
use Rattle.go_body_core.specs.function.Stands.{outer_meanings}
use Rattle.go_emit_core.specs.package_core.PackagePartInputs.{InputModel, path_in}
use Rattle.go_emit_core.specs.package_core.PackagePartParts.{ContentOf, FileOf}
use Rattle.go_object_core.specs.declared.instructions.letters.Word.{Word}
use Rattle.go_code_core.specs.fragments.Fragment.{type_name_word, type_word}
use Rattle.go_code_core.specs.fragments.Inside.{in_fragment, params_inside, receiver_inside, results_inside, signature_inside}
use Rattle.go_code_core.specs.fragments.Names.{CodeLooks}
use Rattle.go_code_core.specs.fragments.Slots.{param_names_slots, param_slots, receiver_slots, signature_slots, some_name_slot}
use Rattle.go_code_core.specs.Code.{frame_in}
use Rattle.go_workspace_laws.specs.folding.Reading.{IsOver}
use Rattle.go_workspace_laws.proofs.FoldingInside.{none_left}
use Rattle.go_meaning_laws.specs.fitting_sources.Fitting.{AreTypedAs, Typing, names_over, params_over, receiver_over, signature_over}
use Rattle.go_workspace_laws.specs.ConstantLaws.{code_names_of}
use Rattle.go_workspace_laws.specs.Standing.{stand_in_part}
use Rattle.go_workspace_laws.proofs.ConstantLists.{HasItem}
use Rattle.go_program_laws.specs.types.Functions.{IsFunction, function_looks, known_types, typing_in}
use Rattle.go_program_laws.specs.types.Params.{ParametersAreTyped}
use Rattle.go_program_laws.specs.types.Written.{ShowTheirTypes}
use Rattle.go_program_laws.proofs.TypesReady.{AreGiven, held_local, none_twice, typed_local}
use Rattle.go_program_laws.proofs.TypesSteps.{each_held, held_left, ident_at}
use Rattle.go_program_laws.proofs.TypesTypes.{header_over, receiver_over_word}
use Rattle.go_program_laws.proofs.TypesWords.{term_over}

some_of : (o : Option Word) → is_some o ≡ true → (w : Word) × (o ≡ Some w)
some_of None e = absurd (cc e)
some_of (Some w) e = (w, refl)

module _ (laws : AreGiven) (i : InputModel) (c : ContentOf) (n : ℕ) (t : FileTree) (f : FileOf) (g : FuncTree) (all : List (Local NameMeaning)) (h : IsFunction i c n t f g all) (shows : ShowTheirTypes i c) where
  abbrev looks : TheLooks
  looks = function_looks i c n t all

  abbrev code : CodeLooks
  code = code_names_of i c n f g

  abbrev typing : Typing
  typing = typing_in i c f

  -- names of the header with their types: each that is not blank is a local of the file
  abbrev AreLocals : List Ident → List (Option Term) → Type 0
  AreLocals xs us = (k : ℕ) (x : Ident) → slice_get xs k ≡ Some x → is_blank x.name ≡ false → HasItem f.answers.locals (record { offset = x.span.start; value = value_at (map variable us) k })

  behind : (x : Ident) (xs : List Ident) (u : Option Term) (us : List (Option Term)) → AreLocals (x ∷ xs) (u ∷ us) → AreLocals xs us
  behind x xs u us each k y e named = each (suc k) y e named

  header_locals : AreLocals (header_idents g.receiver g.signature) (header_types looks g.receiver g.signature)
  header_locals k x e named =
      let xs : List Ident = header_idents g.receiver g.signature in
      let o : ℕ = func_opens g in
      let rules = func_rules (stand_in_part i c n t) g in
      let beyond = outer_meanings (stand_in_part i c n t) in
      let header = Header g.receiver g.signature in
      let values : ℕ → NameMeaning = rules.means (bound beyond all) (map (is_first all o) xs) header in
      let rest = law_out rules beyond all o (func_closes g) (lines_steps g.body Done) in
      let none : second_faults (map (is_first all o) xs) xs ≡ [] = none_left _ rest.faults (none_twice laws i c n t f g all h) in
      let zero_is : k ≡ 0 + k = omega arith in
      let held = held_left all (declared_from o (func_closes g) g.open_brace.start values 0 xs) rest.declares (values k) (each_held all o (func_closes g) g.open_brace.start values 0 xs none k x e named k zero_is) in
      subst (λ at. HasItem f.answers.locals (record { offset = at; value = value_at (map variable (header_types looks g.receiver g.signature)) k })) (ident_at xs k x e)
      (held_local laws i c n t f g all h (ident_place xs k) (value_at (map variable (header_types looks g.receiver g.signature)) k) held)

  -- a name of a type over this
  named_typed : (x : Ident) (u : Option Term) (w : Word) → IsOver looks.types w u → HasItem f.answers.locals (record { offset = x.span.start; value = variable u }) → typing x.span.start ≡ Some w
  named_typed x None w over there = absurd over
  named_typed x (Some u) w over there = typed_local laws i c n t f g all h x.span.start _ w there refl (term_over (known_types i c) (path_in i) u w over)

  -- one slot more
  slot_typed : (x : Ident) (xs : List Ident) (u : Option Term) (us : List (Option Term)) (o : Option Word) (w : Word) → o ≡ Some w → IsOver looks.types w u → AreLocals (x ∷ xs) (u ∷ us)
      → (ds : List (Option ℕ)) (ws : List (Option Word)) → AreTypedAs typing ds ws → AreTypedAs typing ((if is_blank x.name then None else Some x.span.start) ∷ ds) (o ∷ ws)
  slot_typed x xs u us o w is over each ds ws rest = by (is_blank x.name) refl
    where
      by : (b : Bool) → is_blank x.name ≡ b → AreTypedAs typing ((if b then None else Some x.span.start) ∷ ds) (o ∷ ws)
      by true e = rest
      by false e = (named_typed x u w over (each 0 x refl e) ∙ sym is, rest)

  names_typed : (xs : Separated Ident) (a more : List Ident) (u : Option Term) (b us : List (Option Term)) (o : Option Word) (w : Word) → o ≡ Some w → IsOver looks.types w u
      → AreLocals ((idents xs ++ a) ++ more) ((replicate (length (idents xs)) u ++ b) ++ us) → (ds : List (Option ℕ)) (ws : List (Option Word)) → (AreLocals (a ++ more) (b ++ us) → AreTypedAs typing ds ws)
      → AreTypedAs typing (param_names_slots xs ++ ds) (names_over o xs ++ ws)
  names_typed (One x) a more u b us o w is over each ds ws rest = slot_typed x (a ++ more) u (b ++ us) o w is over each ds ws (rest (behind x (a ++ more) u (b ++ us) each))
  names_typed (Then x comma xs) a more u b us o w is over each ds ws rest =
      slot_typed x ((idents xs ++ a) ++ more) u ((replicate (length (idents xs)) u ++ b) ++ us) o w is over each (param_names_slots xs ++ ds) (names_over o xs ++ ws)
      (names_typed xs a more u b us o w is over (behind x ((idents xs ++ a) ++ more) u ((replicate (length (idents xs)) u ++ b) ++ us) each) ds ws rest)

  params_typed : (ps : ParamTrees) (more : List Ident) (us : List (Option Term)) → ((u : TypeTree) → HasItem (params_types ps) u → (w : Word) → type_word code u ≡ Some w → IsOver looks.types w (written_type looks u))
      → params_inside code ps ≡ true → AreLocals (param_idents ps ++ more) (entry_types looks false ps ++ us) → AreTypedAs typing (param_slots ps) (params_over code ps)
  params_typed NoParams more us each inside locals = tt
  params_typed (Param None u comma rest) more us each inside locals =
      params_typed rest more us (λ v k. each v (inr k)) (and_parts (is_some (type_word code u)) (params_inside code rest) inside).1 locals
  params_typed (Param (Some xs) u comma rest) more us each inside locals =
      let parts = and_parts (is_some (type_word code u)) (params_inside code rest) inside in
      let w = some_of (type_word code u) parts.0 in
      names_typed xs (param_idents rest) more (written_type looks u) (entry_types looks false rest) us (type_word code u) w.0 w.1 (each u (inl refl) w.0 w.1) locals (param_slots rest) (params_over code rest)
      (λ later. params_typed rest more us (λ v k. each v (inr k)) parts.1 later)

  signature_typed : (s : SignatureTree) → ((u : TypeTree) → HasItem (signature_types s) u → (w : Word) → type_word code u ≡ Some w → IsOver looks.types w (written_type looks u))
      → signature_inside code s ≡ true → AreLocals (signature_idents s) (types_of_signature looks s) → AreTypedAs typing (signature_slots s) (signature_over code s)
  signature_typed (Signed first ps last r) each inside locals =
      params_typed ps (result_idents r) (types_of_result looks false r) (λ u k. each u (left (params_types ps) u k)) (and_parts (params_inside code ps) (results_inside code r) inside).0 locals
    where
      left : (us : List TypeTree) (u : TypeTree) → HasItem us u → HasItem (us ++ result_types r) u
      left [] u k = absurd k
      left (v ∷ vs) u (inl e) = inl e
      left (v ∷ vs) u (inr k) = inr (left vs u k)

  receiver_typed : (r : Receiver) (name : Option Ident) (star : Option Span) → ((w : Word) → type_name_word code r.base ≡ Some w → IsOver looks.types w (named_type looks r.base)) → (s : SignatureTree)
      → AreLocals (some_ident name ++ signature_idents s) (named_receiver name (some_starred looks.types star (named_type looks r.base)) ++ types_of_signature looks s) → is_none star && is_some (type_name_word code r.base) ≡ true
      → (AreLocals (signature_idents s) (types_of_signature looks s) → AreTypedAs typing (signature_slots s) (signature_over code s)) → AreTypedAs typing (some_name_slot name ∷ signature_slots s) (type_name_word code r.base ∷ signature_over code s)
  receiver_typed r None star over s locals inside rest = rest locals
  receiver_typed r (Some x) None over s locals inside rest =
      let w = some_of (type_name_word code r.base) inside in
      slot_typed x (signature_idents s) (named_type looks r.base) (types_of_signature looks s) (type_name_word code r.base) w.0 w.1 (over w.0 w.1) locals (signature_slots s) (signature_over code s)
      (rest (behind x (signature_idents s) (named_type looks r.base) (types_of_signature looks s) locals))
  receiver_typed r (Some x) (Some star) over s locals inside rest = absurd (cc inside)

  header_typed : (o : Option Receiver) (s : SignatureTree) → ((r : Receiver) → o ≡ Some r → (w : Word) → type_name_word code r.base ≡ Some w → IsOver looks.types w (named_type looks r.base))
      → receiver_inside code o ≡ true → AreLocals (header_idents o s) (header_types looks o s)
      → (AreLocals (signature_idents s) (types_of_signature looks s) → AreTypedAs typing (signature_slots s) (signature_over code s)) → AreTypedAs typing (receiver_slots o ++ signature_slots s) (receiver_over code o ++ signature_over code s)
  header_typed None s over inside locals rest = rest locals
  header_typed (Some r) s over inside locals rest = receiver_typed r r.name r.star (over r refl) s locals inside rest

  pub params_are_typed : in_fragment (frame_in code g) g ≡ true → AreTypedAs typing (receiver_slots g.receiver ++ signature_slots g.signature) (receiver_over code g.receiver ++ signature_over code g.signature)
  params_are_typed inside =
      let head = and_parts (receiver_inside code g.receiver) (signature_inside code g.signature) (and_parts (receiver_inside code g.receiver && signature_inside code g.signature) _ inside).0 in
      header_typed g.receiver g.signature (receiver_over_word laws i c n t f g all h shows) head.0 header_locals
      (λ locals. signature_typed g.signature (header_over laws i c n t f g all h shows) head.1 locals)

pub parameters_typed : AreGiven → ParametersAreTyped
parameters_typed laws i c n t f g all h shows inside callees = params_are_typed laws i c n t f g all h shows inside
