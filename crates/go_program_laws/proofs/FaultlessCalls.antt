-- What a call of a function refers to, and what it is called with.
use Rattle.std.proofs.Common.{◌≡◌, inl, inr, ℕ, Bool, true, false, not, ◌||◌, List, [], ◌∷◌, ◌++◌, map, Option, Some, None, Contains, refl, sym, ap, ◌∙◌, subst, if◌then◌else◌}
use Rattle.std.specs.Prelude.{slice_get}
use Rattle.std.specs.Option.{option_map}
use Rattle.std.proofs.lemmas.Option.{slice_get-map}
use Rattle.go_constant_core.specs.text_core.Text.{is_blank}
use Rattle.go_constant_core.specs.text_core.declared.rule.Rule.TheVariants.{C2, C3, N8, S4, S8}
use Rattle.go_constant_core.specs.text_core.declared.span.Span.{Span}
use Rattle.go_tree_nodes.specs.declared.names.Ident.{Ident}
use Rattle.go_tree_nodes.specs.declared.usage.Usage.TheVariants as usages
use Rattle.go_tree_nodes.specs.Trees.{Binary, Call, ExprTree, FileTree, FuncTree, Integer, ItemTrees, Literal, Named, Paren, Select, StructLiteral, Text, Unary}
use Rattle.go_names_core.specs.local_core.Binding.{Local}
use Rattle.go_names_core.specs.local_core.Steps.{Piece}
use Rattle.go_term_core.specs.declared.term.Basic.TheVariants as basics
use Rattle.go_term_core.specs.Terms.{Sign, Term}
use Rattle.go_report_core.specs.operand_core.declared.types.ValueType.{ValueType}
use Rattle.go_report_core.specs.operand_core.declared.types.ValueType.TheVariants as value_types
use Rattle.go_report_core.specs.operand_core.TypeRules.{TypeRules}
use Rattle.go_report_core.specs.denote_core.declared.things.Answer.{Answer}
use Rattle.go_report_core.specs.denote_core.declared.things.Argument.{Argument}
use Rattle.go_report_core.specs.denote_core.declared.things.Builtin.{Builtin}
use Rattle.go_report_core.specs.denote_core.declared.things.Denoted.{Denoted}
use Rattle.go_report_core.specs.denote_core.declared.things.Denoted.TheVariants as denotes
use Rattle.go_report_core.specs.denote_core.declared.things.Dot.{Dot}
use Rattle.go_report_core.specs.denote_core.declared.things.Dot.TheVariants as dots
use Rattle.go_report_core.specs.denote_core.declared.things.Exported.{Exported}
use Rattle.go_report_core.specs.denote_core.declared.things.Exported.TheVariants as exporteds
use Rattle.go_report_core.specs.denote_core.declared.things.Found.{Found}
use Rattle.go_report_core.specs.denote_core.declared.things.Found.TheVariants as founds
use Rattle.go_report_core.specs.denote_core.declared.things.Outcome.{Outcome}
use Rattle.go_report_core.specs.denote_core.declared.things.Outcome.TheVariants as outcomes
use Rattle.go_report_core.specs.denote_core.declared.things.Selection.{Selection}
use Rattle.go_report_core.specs.denote_core.declared.things.Selection.TheVariants as selections
use Rattle.go_report_core.specs.denote_core.declared.things.Stand.{Stand}
use Rattle.go_report_core.specs.denote_core.declared.things.Stand.TheVariants as stands
use Rattle.go_report_core.specs.denote_core.Answers.{declared, found_answer, refused}
use Rattle.go_report_core.specs.denote_core.Arguments.{arguments_of, is_free}
use Rattle.go_report_core.specs.denote_core.Calls.{call_answer, of_results}
use Rattle.go_report_core.specs.denote_core.Selectors.{dot_of, exported_answer, member_answer, method_answer, selector_answer, value_selector}
use Rattle.go_report_core.specs.operand_core.Values.{basic_under, default_type}
use Rattle.go_report_core.specs.expr_core.Denoting.{called_answer, denoted, denoted_items}
use Rattle.go_report_core.specs.expr_core.Looks.{Looks, look_of_place}
use Rattle.go_report_core.specs.expr_core.Places.{is_lone_call, is_name, left_place}
use Rattle.go_report_core.specs.expr_core.Uses.{spots, use_of}
use Rattle.go_meaning_laws.specs.handle_core.Declarations.{Declaration}
use Rattle.go_body_core.specs.env_core.declared.meaning.Meaning.{Meaning as NameMeaning}
use Rattle.go_body_core.specs.env_core.Looks.{TheLooks}
use Rattle.go_object_core.specs.declared.instructions.letters.Word.{Word}
use Rattle.go_object_core.specs.declared.instructions.letters.Word.TheVariants as words
use Rattle.go_code_core.specs.declared.fragments.names.Gives.{Gives}
use Rattle.go_code_core.specs.declared.fragments.names.Gives.TheVariants as gives
use Rattle.go_code_core.specs.declared.fragments.names.Meaning.{Meaning}
use Rattle.go_code_core.specs.declared.fragments.names.Meaning.TheVariants as meanings
use Rattle.go_code_core.specs.fragments.Names as code_names
use Rattle.go_code_core.specs.fragments.Names.{callee_meaning, frame_of}
use Rattle.go_workspace_laws.specs.folding.Laws.{HasDeclaration, IsMeant}
use Rattle.go_workspace_laws.specs.folding.Parts.{parts}
use Rattle.go_workspace_laws.specs.folding.Reading.{AreNamesRead, AreReadOver, IsBuiltinMeant, IsExportedMeant, IsFieldMeant, IsFoundMeant, IsFunctionMeant, IsMemberMeant, IsOver, IsTypeMeant, basic_of}
use Rattle.go_workspace_laws.proofs.FoldingInside.{IsFine, each_right, fine, fine_callee, fine_inside, fine_left}
use Rattle.go_workspace_laws.proofs.FoldingFolding.{expressions_typed}
use Rattle.go_machine_core.specs.Programs.{callee_in}
use Rattle.go_code_core.specs.fragments.Fragment.{all_ones, expr_gives, is_one, means_method, receiver_fits}
use Rattle.go_code_core.specs.fragments.Slots.{slots_of}
use Rattle.go_code_core.specs.Code.{frame_in, letter, letters}
use Rattle.go_meaning_laws.specs.source_meaning.Meaning.{SourceOf}
use Rattle.go_meaning_laws.specs.fitting_sources.Fitting.{IsDeclared, ReferenceFits, receiver_letters}
use Rattle.go_emit_core.specs.package_core.PackagePartInputs.{InputModel, path_in}
use Rattle.go_emit_core.specs.package_core.PackagePartParts.{ContentOf, FileOf}
use Rattle.go_emit_core.specs.Emitted.{body_uses, declarations_in, told_to}
use Rattle.go_emit_core.specs.Laws.{declaration_of}
use Rattle.go_workspace_laws.specs.ConstantLaws.{code_names_of}
use Rattle.go_workspace_laws.specs.Standing.{piece_exprs, pieces_of}
use Rattle.go_workspace_laws.proofs.Agree.{are_meant, none_broken}
use Rattle.go_workspace_laws.proofs.ConstantLists.{contained, has_get}
use Rattle.go_program_laws.specs.checked_sources.Pieces.{ConstantsAreTyped}
use Rattle.go_program_laws.specs.checked_sources.Statements.{AreAlike, AreOverEach, ArePredeclared, IsClearAt}
use Rattle.go_program_laws.proofs.CheckedSourcesCalling.{arguments_over_parameters}
use Rattle.go_program_laws.proofs.CheckedSourcesOperators.{meant_of}
use Rattle.go_program_laws.proofs.CheckedSourcesTypes.{types_keep_basics}
use Rattle.go_program_laws.proofs.CheckedSourcesWords.{one_word, parts_first}
use Rattle.go_program_laws.specs.calls.References.{CallsReferToTheirs}
use Rattle.go_program_laws.specs.types.Fits.{IsCallServed}
use Rattle.go_program_laws.specs.types.Functions.{IsFunction, function_looks, known_types, meaning_there, source_with, typing_in}
use Rattle.go_program_laws.proofs.TypesAlike.{alike}
use Rattle.go_program_laws.proofs.TypesReady.{AreGiven}
use Rattle.go_program_laws.specs.faultless.Called.{AreMethodsKept, AreReferencesKept, CallsAreServed, IsFunctionOf, IsMethodOf}
use Rattle.go_program_laws.specs.faultless.Served.{AreCallsServed, ConstantsAreServed, NamesAreRead}

-- what is called, where it comes to this in code: Q is what is so of what it denotes
module _ {T S D P : Type 0} (looks : Looks T S D P) (mean : Outcome D P → Meaning) (m : Meaning) (Q : Denoted T S D → Type 0) (type_case : (d : D) (t : Option T) → IsTypeMeant looks.types t m → Q (denotes.«Type» d t))
    (func_case : (d : D) (s : S) → IsFunctionOf looks d s → mean (outcomes.Declared d) ≡ m → IsFunctionMeant looks.types (looks.results s) m → Q (denotes.Func d s)) (builtin_case : (d : D) (b : Builtin) → IsBuiltinMeant m → Q (denotes.Builtin d b))
    (other_case : (x : Denoted T S D) → meanings.Other ≡ m → Q x) where
  abbrev Answers : Answer T S D P → Type 0
  Answers a = HasDeclaration a.outcome → mean a.outcome ≡ m → Q a.denoted

  found_called : (name : List ℕ) (offset : ℕ) (f : Found T S D) → looks.find name offset ≡ f → IsFoundMeant looks mean f → Answers (found_answer stands.Callee f)
  found_called name offset founds.Missing at h there is = absurd there
  found_called name offset founds.BadImport at h there is = absurd there
  found_called name offset founds.Outside at h there is = absurd there
  found_called name offset (founds.«Package» d) at h there is = absurd there
  found_called name offset (founds.«Type» d t) at h there is = type_case d t (subst (λ x. IsTypeMeant looks.types t x) is h)
  found_called name offset (founds.Func d s) at h there is = func_case d s (inl (name, offset, at)) is (subst (λ x. IsFunctionMeant looks.types (looks.results s) x) is h)
  found_called name offset (founds.Builtin d b) at h there is = builtin_case d b (subst (λ x. IsBuiltinMeant x) is h)
  found_called name offset (founds.«Value» d o) at h there is = absurd there

  found_or_blank : (b : Bool) (name : List ℕ) (offset : ℕ) (f : Found T S D) → looks.find name offset ≡ f → IsFoundMeant looks mean f → Answers (if b then refused {T = T} {S = S} {D = D} {P = P} N8 else found_answer {P = P} stands.Callee f)
  found_or_blank true name offset f at h there is = absurd there
  found_or_blank false name offset f at h there is = found_called name offset f at h there is

  exported_called : (e : D) (name : List ℕ) (x : Exported T S D) → looks.exported e name ≡ x → IsExportedMeant looks mean x → Answers (exported_answer usages.Callee x)
  exported_called e name exporteds.Absent at h there is = absurd there
  exported_called e name exporteds.Hidden at h there is = absurd there
  exported_called e name (exporteds.«Type» d t) at h there is = type_case d t (subst (λ x. IsTypeMeant looks.types t x) is h)
  exported_called e name (exporteds.Func d s) at h there is = func_case d s (inr (e, name, at)) is (subst (λ x. IsFunctionMeant looks.types (looks.results s) x) is h)
  exported_called e name (exporteds.«Value» d o) at h there is = absurd there

  exported_or_blank : (b : Bool) (e : D) (name : List ℕ) (x : Exported T S D) → looks.exported e name ≡ x → IsExportedMeant looks mean x → Answers (if b then refused {T = T} {S = S} {D = D} {P = P} S8 else exported_answer {P = P} usages.Callee x)
  exported_or_blank true e name x at h there is = absurd there
  exported_or_blank false e name x at h there is = exported_called e name x at h there is

  module _ (read : AreNamesRead T S D P looks mean) (member_case : (d : D) (s : S) → IsFieldMeant m → Q (denotes.Func d s)) where
    method_called : (b : Bool) (d : D) (path : P) (s : S) → IsFieldMeant (mean (outcomes.Selected d path)) → Answers (method_answer usages.Callee d path s b)
    method_called true d path s h there is = member_case d s (subst (λ x. IsFieldMeant x) is h)
    method_called false d path s h there is = absurd there

    member_called : (b : Bool) (x : Selection T S D P) → IsMemberMeant {T = T} {S = S} {D = D} {P = P} mean x → Answers (member_answer usages.Callee b x)
    member_called b (selections.Missing rule) h there is = absurd there
    member_called b (selections.«Field» d path t by_pointer) h there is = absurd there
    member_called b (selections.Method d path s needs_pointer by_pointer) h there is = method_called _ d path s h there is

    value_called : (n : ℕ) (b blank : Bool) (t : Option T) (name : List ℕ) → Answers (if blank then refused S8 else value_selector (look_of_place looks n) usages.Callee b t name)
    value_called n b true t name there is = absurd there
    value_called n b false None name there is = absurd there
    value_called n b false (Some t) name there is = member_called b (looks.select t name) (read.members t name) there is

    untyped_called : (blank : Bool) → Answers (if blank then refused {T = T} {S = S} {D = D} {P = P} S8 else refused S4)
    untyped_called true there is = absurd there
    untyped_called false there is = absurd there

    selector_called : (n : ℕ) (dot : Dot T D) (name : List ℕ) → Answers (selector_answer (look_of_place looks n) usages.Callee dot name)
    selector_called n (dots.«Package» d) name there is = exported_or_blank (is_blank name) d name (looks.exported d name) refl (read.exported d name) there is
    selector_called n dots.Refused name there is = absurd there
    selector_called n dots.Untyped name there is = untyped_called (is_blank name) there is
    selector_called n (dots.«Value» o) name there is = value_called n o.addressable (is_blank name) (default_type looks.types o.value_type) name there is

    module _ (code : code_names.CodeLooks) where
      pub callee_called : (e : ExprTree) → IsFine T S D P looks code mean stands.Callee e → callee_meaning code e ≡ m → Q (denoted looks stands.Callee e)
      callee_called (Named x) h is = found_or_blank (is_blank x.name) x.name x.span.start (looks.find x.name x.span.start) refl (read.names x.name x.span.start) h.meant.0.declared (sym h.meant.0.meaning ∙ is)
      callee_called (Select e dot x) h is =
          let k = (each_right (λ s. IsMeant D P code mean (use_of looks s)) (spots looks (left_place stands.Callee e) e) _ h.meant).0 in
          selector_called x.span.start (dot_of (is_name e) (denoted looks (left_place stands.Callee e) e)) x.name k.declared (sym k.meaning ∙ is)
      callee_called (Paren first e last) h is = callee_called e (record { meant = h.meant; sound = h.sound }) is
      callee_called (Integer n span) h is = other_case _ is
      callee_called (Text t) h is = other_case _ is
      callee_called (Unary op span e) h is = other_case _ is
      callee_called (Binary a op span b) h is = other_case _ is
      callee_called (Call e first items last) h is = other_case _ is
      callee_called (Literal n first items last) h is = other_case _ is
      callee_called (StructLiteral t first items last) h is = other_case _ is

-- what is called is a declared function, by the signature that the check has for it
pub record IsFunctionCalled {T S D P : Type 0} (looks : Looks T S D P) (mean : Outcome D P → Meaning) (given : Gives) (a : Denoted T S D) : Type 0 where
  pub decl : D
  pub sign : S
  pub denotes_is : a ≡ denotes.Func decl sign
  pub meant : mean (outcomes.Declared decl) ≡ meanings.Function given
  pub of : IsFunctionOf looks decl sign

-- what is called is a method of an operand over a word, by the signature that the check has for it
pub record IsMethodCalled {T S D P : Type 0} (looks : Looks T S D P) (mean : Outcome D P → Meaning) (given : Gives) (receiver : Word) (a : Denoted T S D) : Type 0 where
  pub decl : D
  pub path : P
  pub sign : S
  pub denotes_is : a ≡ denotes.Func decl sign
  pub meant : mean (outcomes.Selected decl path) ≡ meanings.Method given
  pub of : IsMethodOf looks decl path sign receiver

module _ {T S D P : Type 0} (looks : Looks T S D P) (mean : Outcome D P → Meaning) (given : Gives) (receiver : Word) where
  abbrev HasMethod : Answer T S D P → Type 0
  HasMethod a = HasDeclaration a.outcome → mean a.outcome ≡ meanings.Method given → IsMethodCalled looks mean given receiver a.denoted

  method_has : (b : Bool) (d : D) (path : P) (s : S) → IsMethodOf looks d path s receiver → HasMethod (method_answer usages.Callee d path s b)
  method_has true d path s of there is = record { decl = d; path = path; sign = s; denotes_is = refl; meant = is; of = of }
  method_has false d path s of there is = absurd there

  member_has : (b : Bool) (t : T) (name : List ℕ) → IsOver looks.types receiver (Some t) → (x : Selection T S D P) → looks.select t name ≡ x → HasMethod (member_answer usages.Callee b x)
  member_has b t name over (selections.Missing rule) at there is = absurd there
  member_has b t name over (selections.«Field» d path u by_pointer) at there is = absurd there
  member_has b t name over (selections.Method d path s needs_pointer by_pointer) at there is = method_has _ d path s (t, name, over, needs_pointer, by_pointer, at) there is

  value_has : (n : ℕ) (b blank : Bool) (t : Option T) (name : List ℕ) → IsOver looks.types receiver t → HasMethod (if blank then refused S8 else value_selector (look_of_place looks n) usages.Callee b t name)
  value_has n b true t name over there is = absurd there
  value_has n b false None name over there is = absurd there
  value_has n b false (Some t) name over there is = member_has b t name over (looks.select t name) refl there is

-- a value over a word counts by a type over this

no_text : {A : Type 0} (w : Word) → Some basics.Text ≡ Some (basic_of w) → A
no_text words.Int h = absurd (cc h)
no_text words.Bool h = absurd (cc h)

default_over : {T : Type 0} (rules : TypeRules T) → ArePredeclared rules → (v : ValueType T) (w : Word) → basic_under rules v ≡ Some (basic_of w) → IsOver rules w (default_type rules v)
default_over rules p (value_types.Typed t) w over = over
default_over rules p value_types.UntypedInt w over = p.int ∙ over
default_over rules p value_types.UntypedBool w over = p.bool ∙ over
default_over rules p value_types.UntypedText w over = no_text w over
default_over rules p value_types.Nil w over = absurd (cc over)

or_second : (a b : Bool) → (not a || b) ≡ true → a ≡ true → b ≡ true
or_second true b h e = h
or_second false b h e = absurd (cc e)

module _ {T S D P : Type 0} (looks : Looks T S D P) (mean : Outcome D P → Meaning) where
  module _ (read : AreNamesRead T S D P looks mean) (code : code_names.CodeLooks) where
    pub function_called : (given : Gives) (e : ExprTree) → IsFine T S D P looks code mean stands.Callee e → callee_meaning code e ≡ meanings.Function given → IsFunctionCalled looks mean given (denoted looks stands.Callee e)
    function_called given =
        callee_called looks mean (meanings.Function given) (IsFunctionCalled looks mean given) (λ d t h. absurd h) (λ d s of is h. record { decl = d; sign = s; denotes_is = refl; meant = is; of = of }) (λ d b h. absurd h) (λ x no. absurd (cc no)) read
        (λ d s h. absurd h) code

    named_no_method : (given : Gives) (x : Ident) → IsFine T S D P looks code mean stands.Callee (Named x) → code.meaning x.span.start ≡ meanings.Method given → ⊥
    named_no_method given x h is =
        found_or_blank looks mean (meanings.Method given) (λ a. ⊥) (λ d t none. none) (λ d s of same none. none) (λ d b none. none) (λ a no. cc no) (is_blank x.name) x.name x.span.start (looks.find x.name x.span.start) refl (read.names x.name x.span.start)
        h.meant.0.declared (sym h.meant.0.meaning ∙ is)

  module _ (alike : AreAlike T S D P looks mean) (predeclared : ArePredeclared looks.types) (code : code_names.CodeLooks) (slots : List (Option ℕ)) where
    -- the method that is called, and the one word that its receiver gives
    pub record IsReceived (given : Gives) (e : ExprTree) : Type 0 where
      pub receiver : Word
      pub letters_are : receiver_letters (frame_of code slots) e ≡ receiver ∷ []
      pub called : IsMethodCalled looks mean given receiver (denoted looks stands.Callee e)

    selected_received : (given : Gives) (e : ExprTree) (dot : Span) (x : Ident) → IsFine T S D P looks code mean stands.Callee (Select e dot x) → code.meaning x.span.start ≡ meanings.Method given
        → (w : Word) → expr_gives (frame_of code slots) e ≡ gives.One w → IsReceived given (Select e dot x)
    selected_received given e dot x h is w one =
        let q = left_place stands.Callee e in
        let left = fine_left looks code mean stands.Callee e dot x h in
        let t = expressions_typed T S D P looks code mean slots q e alike.read alike.typed alike.keep (meant_of looks code mean q e left) left.sound q e (contained (parts q e) (q, e) (parts_first q e)) w one in
        let k = (each_right (λ s. IsMeant D P code mean (use_of looks s)) (spots looks q e) _ h.meant).0 in
        let o = t.operand in
        let has = value_has looks mean given w x.span.start o.addressable (is_blank x.name) (default_type looks.types o.value_type) x.name (default_over looks.types predeclared o.value_type w t.over) in
        record {
          receiver = w;
          letters_are = ap (λ m. if means_method m then letter (expr_gives (frame_of code slots) e) else []) is ∙ ap letter one;
          called = subst (λ (y : Denoted T S D). HasMethod looks mean given w (selector_answer (look_of_place looks x.span.start) usages.Callee (dot_of (is_name e) y) x.name)) (sym t.denotes) has k.declared (sym k.meaning ∙ is);
        }

    pub method_received : (given : Gives) (e : ExprTree) → IsFine T S D P looks code mean stands.Callee e → callee_meaning code e ≡ meanings.Method given → receiver_fits (frame_of code slots) e ≡ true → IsReceived given e
    method_received given (Named x) h is fit = absurd (named_no_method alike.read.all code given x h is)
    method_received given (Select e dot x) h is fit =
        let one = one_word (expr_gives (frame_of code slots) e) (or_second (means_method (code.meaning x.span.start)) (is_one (expr_gives (frame_of code slots) e)) fit (ap means_method is)) in
        selected_received given e dot x h is one.0 one.1
    method_received given (Paren first e last) h is fit =
        let r = method_received given e (record { meant = h.meant; sound = h.sound }) is fit in
        record { receiver = r.receiver; letters_are = r.letters_are; called = r.called }
    method_received given (Integer n span) h is fit = absurd (cc is)
    method_received given (Text t) h is fit = absurd (cc is)
    method_received given (Unary op span e) h is fit = absurd (cc is)
    method_received given (Binary a op span b) h is fit = absurd (cc is)
    method_received given (Call e first items last) h is fit = absurd (cc is)
    method_received given (Literal n first items last) h is fit = absurd (cc is)
    method_received given (StructLiteral t first items last) h is fit = absurd (cc is)

  module _ (code : code_names.CodeLooks) where
    abbrev Fine : Stand → ExprTree → Type 0
    Fine p e = IsFine T S D P looks code mean p e

    -- the call has the declaration that it calls
    abbrev HasCall : ℕ → Denoted T S D → Bool → List (Argument T) → Type 0
    HasCall n callee free given = HasDeclaration (call_answer (look_of_place looks n) callee free given).outcome

    call_has : (q : Stand) (f : ExprTree) (first : Span) (items : ItemTrees) (last : Span) → Fine q (Call f first items last) → HasDeclaration (called_answer looks f first items).outcome
    call_has q f first items last h = (each_right (λ s. IsMeant D P code mean (use_of looks s)) (spots looks stands.Callee f) _ h.meant).0.declared

    declares : (a b : Bool) (d : D) (x : Denoted T S D) → HasDeclaration (if a then (if b then declared {P = P} d x else refused C3) else refused C2).outcome
        → (if a then (if b then declared {P = P} d x else refused C3) else refused C2).outcome ≡ outcomes.Declared d
    declares true true d x h = refl
    declares true false d x h = absurd h
    declares false b d x h = absurd h

    func_declares : (n : ℕ) (free : Bool) (d : D) (s : S) (given : List (Argument T)) → HasCall n (denotes.Func d s) free given → (call_answer (look_of_place looks n) (denotes.Func d s) free given).outcome ≡ outcomes.Declared d
    func_declares n true d s given h = refl
    func_declares n false d s given h = declares _ _ d (of_results s (looks.results s)) h

    pub call_declares : (q : Stand) (f : ExprTree) (first : Span) (items : ItemTrees) (last : Span) → Fine q (Call f first items last) → (d : D) (s : S) → denoted looks stands.Callee f ≡ denotes.Func d s → (called_answer looks f first items).outcome ≡ outcomes.Declared d
    call_declares q f first items last h d s is =
        let free = is_free (is_lone_call items) (denoted_items looks items) in
        let given = arguments_of (look_of_place looks first.start) (denoted_items looks items) in
        subst (λ (x : Denoted T S D). HasCall first.start x free given → (call_answer (look_of_place looks first.start) x free given).outcome ≡ outcomes.Declared d) (sym is) (λ k. func_declares first.start free d s given k) (call_has q f first items last h)

-- the calls of the functions of a workspace

module _ (laws : AreGiven) (refer : CallsReferToTheirs) (i : InputModel) (c : ContentOf) (n : ℕ) (t : FileTree) (f : FileOf) (g : FuncTree) (all : List (Local NameMeaning)) (h : IsFunction i c n t f g all)
    (reading : AreReadOver Term Sign Declaration (List ℕ) (function_looks i c n t all) (meaning_there i c n f)) (constants : ConstantsAreTyped Term Sign Declaration (List ℕ) (function_looks i c n t all))
    (program : List SourceOf) (number_of : Declaration → Option ℕ) (kept : AreReferencesKept program number_of i c n t f g all) (methods_kept : AreMethodsKept program number_of i c n t f g all) where
  abbrev the_looks : TheLooks
  the_looks = function_looks i c n t all

  abbrev the_code : code_names.CodeLooks
  the_code = code_names_of i c n f g

  abbrev mean : Outcome Declaration (List ℕ) → Meaning
  mean = meaning_there i c n f

  abbrev references : List Declaration
  references = declarations_in (body_uses f.answers.uses g)

  abbrev callees : List (Option ℕ)
  callees = map number_of references

  module _ (p : Piece) (piece : Contains (pieces_of g) p) (e : ExprTree) (expr : Contains (piece_exprs p) e) (q : Stand) (x : ExprTree) (first : Span) (items : ItemTrees) (last : Span) (there : Contains (parts stands.«Value» e) (q, Call x first items last))
      (ones : all_ones (frame_in the_code g) items ≡ true) where
    clear : IsClearAt Term Sign Declaration (List ℕ) the_looks the_code mean stands.«Value» e
    clear = record {
      alike = alike laws i c n t f g all h reading constants;
      meant = are_meant laws.fine laws.one laws.of_locals laws.funcs laws.binds laws.between i c h.input h.others h.part h.clean n t f h.tree h.file h.grammar h.placed g h.func all h.right p piece e expr;
      sound = none_broken laws.fine laws.one laws.of_locals laws.funcs laws.binds laws.between i c h.input h.others h.part h.clean n t f h.tree h.file h.grammar h.placed g h.func all h.right p piece e expr;
    }

    fine_call : IsFine Term Sign Declaration (List ℕ) the_looks the_code mean q (Call x first items last)
    fine_call = fine_inside the_looks the_code mean stands.«Value» e (fine the_looks the_code mean stands.«Value» e clear.meant clear.sound) q (Call x first items last) there

    fine_called : IsFine Term Sign Declaration (List ℕ) the_looks the_code mean stands.Callee x
    fine_called = fine_callee the_looks the_code mean q x first items last fine_call

    -- what a call of this declaration refers to
    referred : (d : Declaration) (s : Sign) → denoted the_looks stands.Callee x ≡ denotes.Func d s → slice_get references (the_code.reference first.start) ≡ Some d
    referred d s is =
        refer (told_to i c) i c h.input h.part h.clean n t f h.tree h.file h.grammar h.placed g h.func all h.right p piece e expr q x first items last there ∙ ap declaration_of (call_declares the_looks mean the_code q x first items last fine_call d s is)

    leads : (d : Declaration) (number : ℕ) → slice_get references (the_code.reference first.start) ≡ Some d → number_of d ≡ Some number → callee_in (slice_get callees (the_code.reference first.start)) ≡ Some number
    leads d number at is = ap callee_in (slice_get-map number_of references (the_code.reference first.start) ∙ ap (option_map number_of) at) ∙ is

    arguments_are : (d : Declaration) (s : Sign) → denoted the_looks stands.Callee x ≡ denotes.Func d s → (ws : List Word) → AreOverEach the_looks.types ws (the_looks.params s) → letters (frame_in the_code g) items ≡ ws
    arguments_are d s is ws over = arguments_over_parameters Term Sign Declaration (List ℕ) the_looks the_code mean (slots_of the_code g) stands.«Value» e clear q x first items last there d s is ws over ones

    function_served : (given : Gives) → callee_meaning the_code x ≡ meanings.Function given
        → ReferenceFits program (source_with the_code callees g) (typing_in i c f) first.start given (letters (frame_in the_code g) items)
    function_served given is =
        let r = function_called the_looks mean reading.all the_code given x fine_called is in
        let at = referred r.decl r.sign r.denotes_is in
        let k = kept r.decl r.sign given (contained references r.decl (has_get references (the_code.reference first.start) r.decl at)) r.of r.meant in
        (k.number, leads r.decl k.number at k.is, subst (λ ws. IsDeclared program k.number given ws) (sym (arguments_are r.decl r.sign r.denotes_is k.words k.over)) k.declared)

    method_served : (given : Gives) → callee_meaning the_code x ≡ meanings.Method given → receiver_fits (frame_in the_code g) x ≡ true
        → ReferenceFits program (source_with the_code callees g) (typing_in i c f) first.start given (receiver_letters (frame_in the_code g) x ++ letters (frame_in the_code g) items)
    method_served given is fit =
        let r = method_received the_looks mean clear.alike (types_keep_basics.predeclared (known_types i c) (path_in i)) the_code (slots_of the_code g) given x fine_called is fit in
        let m = r.called in
        let at = referred m.decl m.sign m.denotes_is in
        let k = methods_kept m.decl m.path m.sign r.receiver given (contained references m.decl (has_get references (the_code.reference first.start) m.decl at)) m.of m.meant in
        let same : receiver_letters (frame_in the_code g) x ++ letters (frame_in the_code g) items ≡ r.receiver ∷ k.words =
        ap (λ rs. rs ++ letters (frame_in the_code g) items) r.letters_are ∙ ap (λ ws. r.receiver ∷ ws) (arguments_are m.decl m.sign m.denotes_is k.words k.over) in
        (k.number, leads m.decl k.number at k.is, subst (λ ws. IsDeclared program k.number given ws) (sym same) k.declared)

    served_as : (m : Meaning) → callee_meaning the_code x ≡ m → receiver_fits (frame_in the_code g) x ≡ true
        → IsCallServed program (source_with the_code callees g) (typing_in i c f) m first.start (receiver_letters (frame_in the_code g) x) (letters (frame_in the_code g) items)
    served_as (meanings.Function given) is fit = function_served given is
    served_as (meanings.Method given) is fit = method_served given is fit
    served_as (meanings.Variable at w) is fit = tt
    served_as (meanings.Constant v) is fit = tt
    served_as (meanings.«Type» w) is fit = tt
    served_as meanings.Println is fit = tt
    served_as meanings.Panic is fit = tt
    served_as meanings.Other is fit = tt

  pub function_calls : AreCallsServed program callees i c n f g
  function_calls p piece e expr q x first items last there ones fit = served_as p piece e expr q x first items last there ones (callee_meaning the_code x) refl fit

pub calls_served : AreGiven → CallsReferToTheirs → NamesAreRead → ConstantsAreServed → CallsAreServed
calls_served laws refer names constants ws parts well made p there n t f g all h program number_of kept methods =
    function_calls laws refer p.input p.content n t f g all h (names ws parts well made p there n t f g all h) (constants ws parts well made p there n t f g all h) program number_of kept methods
