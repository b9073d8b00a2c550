-- The references of the functions of an object, and what their code calls.
use Rattle.std.proofs.Common.{◌≡◌, ◌<◌, ◌⊎◌, inl, inr, ℕ, suc, true, List, [], ◌∷◌, ◌++◌, length, map, drop, filter, All, Some, is_some, nat_le, nat_lt, refl, sym, ap, subst, ◌∙◌, arith}
use Rattle.std.specs.List.{prefix_len}
use Rattle.std.specs.Prelude.{AllPairs, Contains, slice_get}
use Rattle.std.proofs.lemmas.Bool.{and_from, le-leb, lt-ltb}
use Rattle.std.proofs.lemmas.List.{length-map}
use Rattle.std.proofs.lemmas.List.Elements.{All-drop, All-head, All-tail, All-take}
use Rattle.std.proofs.lemmas.Option.{get_or_from_slice_get, slice_get_within}
use Rattle.go_path_core.specs.text_core.declared.span.Span.{Span}
use Rattle.go_tree_nodes.specs.declared.names.Ident.{Ident}
use Rattle.go_tree_nodes.specs.Rules.{Wf_file}
use Rattle.go_tree_nodes.specs.Trees.{FileTree, Func, FuncTree, TopTree}
use Rattle.go_tree_core.specs.declared.occurrence.Role.{Role}
use Rattle.go_tree_core.specs.Laws.{OccurrencesAreWritten}
use Rattle.go_tree_core.specs.Occurrences.{call_at, file_occs, lines_occs}
use Rattle.go_term_core.specs.decl_core.TopDecls.{TopDeclTree}
use Rattle.go_report_core.specs.denote_core.declared.things.Outcome.{Outcome}
use Rattle.go_report_core.specs.denote_core.declared.things.Outcome.TheVariants as outcomes
use Rattle.govisd_resolve.specs.handle_core.Declarations.{Declaration}
use Rattle.go_body_core.specs.typexpr_core.EntryAmong.{Among, among_from, among_to, filter_among}
use Rattle.go_report_core.specs.expr_core.Laws.{use_place, occurrence_place}
use Rattle.go_body_core.specs.Notes.{TheUse}
use Rattle.go_report_core.specs.usage.Used.{is_declared}
use Rattle.go_emit_core.specs.package_core.PreparePackages.{trees_in}
use Rattle.go_report_core.specs.summary_core.Summaries.{SummaryModel}
use Rattle.go_emit_core.specs.package_core.PackagePartInputs.{InputModel, IsInput}
use Rattle.go_emit_core.specs.package_core.PackagePartLaws.{PartHasOccurrences}
use Rattle.go_emit_core.specs.package_core.PackagePartParts.{ContentOf, FileOf, IsPart}
use Rattle.go_object_core.specs.declared.instructions.instruction.Instruction.{Instruction}
use Rattle.go_object_core.specs.declared.instructions.instruction.Instruction.TheVariants as instructions
use Rattle.go_code_core.specs.declared.fragments.names.Meaning.{Meaning}
use Rattle.go_code_core.specs.declared.fragments.names.Meaning.TheVariants as meanings
use Rattle.go_code_core.specs.fragments.Names.{CodeLooks, callee_meaning}
use Rattle.go_code_core.specs.Laws.{CodeIsWhole, JumpsStayInside, OutsideIsAlone}
use Rattle.go_object_core.specs.Objects.{FunctionOf}
use Rattle.go_emit_core.specs.meaning.Looking.{looks_of}
use Rattle.go_emit_core.specs.Emitted.{body_first, body_uses, outcome_declarations, declarations_in, function_of, object_over, code_scene_over}
use Rattle.go_emit_core.specs.Laws.{BodiesAreBetweenBraces, CallsNameTheirOwn, HasNoFault, ObjectsAreOfFaultless, declaration_of, is_between}
use Rattle.go_workspace_laws.specs.Calls.{HasWords, body_calls}
use Rattle.go_workspace_laws.specs.CodeLaws.{AreOfGrammar, FunctionsReferToTheirBodies, IsCallWithWords, IsOfCall, IsWellFormed, ObjectsAreWellFormed, RefersToItsBody}
use Rattle.go_workspace_laws.proofs.Among.{among_alike, among_at}
use Rattle.go_workspace_laws.proofs.Called.{calls_are_of_the_body}
use Rattle.go_workspace_laws.proofs.Declaring.{Declares, file_has, file_places}
use Rattle.go_workspace_laws.proofs.CodeFunctions.{object_all}
use Rattle.go_workspace_laws.proofs.Placed.{calls_between}
use Rattle.go_workspace_laws.proofs.Sound.{well_formed}
use Rattle.go_tree_nodes.specs.Spelling.{IsPlaced}
use Rattle.go_tree_nodes.specs.Counts.{item_count}

all_at : {A : Type 0} (P : A → Type 0) (xs : List A) (n : ℕ) (x : A) → All P xs → slice_get xs n ≡ Some x → P x
all_at P xs n x h at = subst P (get_or_from_slice_get xs n x x at) (h n x (slice_get_within xs n x at))

declares_to : (ts : List TopTree) (g : FuncTree) → Declares ts g → (top : TopTree) × Among ts top × (top.decl ≡ Func g)
declares_to [] g h = absurd h
declares_to (t ∷ ts) g h = elim h [ inl e ↦ (t, inl refl, e) | inr r ↦ (let k = declares_to ts g r in (k.0, inr k.1, k.2)) ]

-- the declarations of occurrences that have one each

abbrev IsDeclared : TheUse → Type 0
IsDeclared u = is_declared u.outcome ≡ true

one_declared : (o : Outcome Declaration (List ℕ)) (ds : List Declaration) → is_declared o ≡ true → map Some (outcome_declarations o ++ ds) ≡ declaration_of o ∷ map Some ds
one_declared (outcomes.Declared d) ds h = refl
one_declared (outcomes.Selected d path) ds h = refl
one_declared (outcomes.Refused rule) ds h = cc

all_declared : (us : List TheUse) → All IsDeclared us → map Some (declarations_in us) ≡ map (λ (u : TheUse). declaration_of u.outcome) us
all_declared [] h = refl
all_declared (u ∷ us) h = one_declared u.outcome (declarations_in us) (All-head IsDeclared u us h) ∙ ap (λ l. declaration_of u.outcome ∷ l) (all_declared us (All-tail IsDeclared u us h))

-- a function or a method is handed so many words
words_handed : (m : Meaning) (items words : ℕ) → HasWords m items words → (words ≡ items) ⊎ (words ≡ suc items)
words_handed (meanings.Function g) items words h = inl h
words_handed (meanings.Method g) items words h = inr h
words_handed _ items words h = absurd h

module _ (occurs : PartHasOccurrences) (written : OccurrencesAreWritten) (between : BodiesAreBetweenBraces) (own : CallsNameTheirOwn) (faultless : ObjectsAreOfFaultless) where
  module _ (all : List SummaryModel) (i : InputModel) (c : ContentOf) (well : IsInput i) (part : IsPart i c) (has : is_some (object_over all i c) ≡ true) (grammar : AreOfGrammar i) where
    module _ (n : ℕ) (t : FileTree) (f : FileOf) (in_package : slice_get (trees_in i.source) n ≡ Some t) (made : slice_get c.files n ≡ Some f) (g : FuncTree) (declared : Declares t.decls g) where
      abbrev inside : List TheUse
      inside = filter (is_between g) f.answers.uses

      abbrev looks : CodeLooks
      looks = looks_of (code_scene_over all i c) n f.answers.uses f.answers.locals (body_first f.answers.uses g)

      of_grammar : Wf_file t
      of_grammar = all_at Wf_file (trees_in i.source) n t grammar.grammar in_package

      of_order : IsPlaced t
      of_order = all_at IsPlaced (trees_in i.source) n t grammar.placed in_package

      rise : AllPairs (λ (u v : TheUse). u.offset < v.offset) f.answers.uses
      rise = (between i c well part n t f in_package made of_grammar of_order).0

      body_is : body_uses f.answers.uses g ≡ inside
      body_is = (between i c well part n t f in_package made of_grammar of_order).1 g

      -- a call of the body is an occurrence between the braces
      call_used : (s : Span) → Contains (lines_occs g.body) (call_at s) → (u : TheUse) × Among inside u × (use_place u ≡ occurrence_place (call_at s))
      call_used s at =
          let a = among_from (lines_occs g.body) (call_at s) at in
          let u = among_alike (λ (v : TheUse). use_place v) occurrence_place f.answers.uses (file_occs t) (occurs i c well part n t f in_package made of_grammar) (call_at s) (file_has t g declared (call_at s) a) in
          let placed = file_places t g declared of_order in
          let b = calls_between written g placed.0 placed.1.0 placed.1.1 s a in
          let low = b.0 in
          let high = b.1 in
          let start : u.0.offset ≡ s.start = ap (λ (p : ℕ × Role). p.0) u.2 in
          let opened : nat_le g.open_brace.start u.0.offset ≡ true = le-leb g.open_brace.start u.0.offset (omega (arith, low, start)) in
          let closed : nat_lt u.0.offset g.close_brace.start ≡ true = lt-ltb u.0.offset g.close_brace.start (omega (arith, high, start)) in
          (u.0, filter_among (is_between g) f.answers.uses u.0 u.1 (and_from (nat_le g.open_brace.start u.0.offset) (nat_lt u.0.offset g.close_brace.start) opened closed), u.2)

      -- what code calls is the number of such an occurrence
      call_is : (reference words : ℕ) → IsOfCall looks (lines_occs g.body) (body_calls g) reference words → IsCallWithWords (body_calls g) inside reference words
      call_is reference words h =
          let v = call_used h.0.first h.1 in
          let k = among_at inside v.0 v.1 in
          let there : slice_get (body_uses f.answers.uses g) k.0 ≡ Some v.0 = ap (λ l. slice_get l k.0) body_is ∙ k.1 in
          let one = own all i c part has n f made rise g k.0 v.0 there in
          let start : v.0.offset ≡ h.0.first.start = ap (λ (p : ℕ × Role). p.0) v.2 in
          let same : reference ≡ k.0 = h.3.place ∙ (ap looks.reference (sym start) ∙ one.called) in
          record {
            call = h.0;
            among = h.2;
            use_of = v.0;
            there = subst (λ m. slice_get inside m ≡ Some v.0) (sym same) k.1;
            role = ap (λ (p : ℕ × Role). p.1) v.2;
            offset = start;
            handed = words_handed (callee_meaning looks h.0.callee) (item_count h.0.items) words h.3.handed;
          }

      fine : HasNoFault f
      fine = all_at HasNoFault c.files n f ((faultless all i c part).0 has) made

      references_are : map Some (declarations_in (body_uses f.answers.uses g)) ≡ map (λ (u : TheUse). declaration_of u.outcome) inside
      references_are =
          let first = body_first f.answers.uses g in
          let rest = drop first f.answers.uses in
          let count = prefix_len (λ (v : TheUse). nat_lt v.offset g.close_brace.start) rest in
          let each : All IsDeclared (body_uses f.answers.uses g) = All-take IsDeclared count rest (All-drop IsDeclared first f.answers.uses fine.declared) in
          all_declared (body_uses f.answers.uses g) each ∙ ap (map (λ (u : TheUse). declaration_of u.outcome)) body_is

      as_many : length (declarations_in (body_uses f.answers.uses g)) ≡ length inside
      as_many = sym (length-map (declarations_in (body_uses f.answers.uses g)) Some) ∙ (ap length references_are ∙ length-map inside (λ (u : TheUse). declaration_of u.outcome))

      module _ (d : TopDeclTree) where
        abbrev pub made_of : FunctionOf Declaration
        made_of = function_of (code_scene_over all i c).path n f.answers.uses (looks_of (code_scene_over all i c) n f.answers.uses f.answers.locals) d g

        calls_are : (front rest : List Instruction) (reference words : ℕ) → made_of.code ≡ front ++ instructions.Call reference words ∷ rest → IsCallWithWords (body_calls g) inside reference words
        calls_are front rest reference words is = call_is reference words (calls_are_of_the_body looks g front rest reference words is)

        pub refers : d.ident ≡ g.name → RefersToItsBody i c made_of
        refers named = (let top = declares_to t.decls g declared in
            record { number = n; tree = t; in_package = in_package; file = f; made = made; func = g; declared = (top.0, among_to t.decls top.0 top.1, top.2); name = ap (λ (x : Ident). x.name) named; has_receiver = refl; references = references_are; calls = calls_are })

        pub formed : JumpsStayInside → CodeIsWhole → OutsideIsAlone → IsWellFormed made_of
        formed jumps whole outside =
            well_formed jumps whole outside looks g made_of refl refl
            (λ front rest r k is. (let u = calls_are front rest r k is in let low = slice_get_within inside r u.use_of u.there in omega (arith, low, as_many)))

  pub functions_refer : FunctionsReferToTheirBodies
  functions_refer all i c o well part grammar is =
      object_all (RefersToItsBody i c) all i c o is (λ n t f in_package made g declared d named. refers all i c well part (ap is_some is) grammar n t f in_package made g declared d named)

  pub objects_formed : JumpsStayInside → CodeIsWhole → OutsideIsAlone → ObjectsAreWellFormed
  objects_formed jumps whole outside all i c o well part grammar is =
      object_all (λ (x : FunctionOf Declaration). IsWellFormed x) all i c o is (λ n t f in_package made g declared d named. formed all i c well part (ap is_some is) grammar n t f in_package made g declared d jumps whole outside)
