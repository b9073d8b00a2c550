-- What stands in a file is there, where what its names mean outside functions is, and what it declares has its place.
use Rattle.std.proofs.Common.{◌≡◌, ℕ, zero, suc, Bool, true, false, ◌&&◌, List, [], ◌∷◌, ◌++◌, map, refl, sym, ap, subst, ◌∙◌, append-nil}
use Rattle.std.specs.Prelude.{Option, Some, None, Result, Ok, Err, ⊤, if◌then◌else◌}
use Rattle.std.specs.List.{list_all, flat_map}
use Rattle.std.proofs.lemmas.Grind.{flat_map-append}
use Rattle.std.proofs.lemmas.Bool.{and_parts, and_from}
use Rattle.go_site_core.specs.text_core.declared.span.Span.{Span}
use Rattle.go_site_core.specs.text_core.declared.rule.Rule.{Rule}
use Rattle.go_tree_nodes.specs.declared.names.Ident.{Ident}
use Rattle.go_tree_nodes.specs.declared.decls.ValueKind.{ValueKind}
use Rattle.go_tree_nodes.specs.declared.decls.ValueKind.TheVariants as value_kinds
use Rattle.go_tree_nodes.specs.declared.types.TypeName.{TypeName}
use Rattle.go_tree_nodes.specs.Rules.{Wf_decl, Wf_file, Wf_group, Wf_specs, Wf_tops, Wf_type_spec, Wf_value_spec}
use Rattle.go_tree_nodes.specs.Trees.{One, TypeTree, FuncTree, DeclTree, Value, Types, Func, TopTree, FileTree, ValueSpecTree, TypeSpecTree, Specs, Single, Group, of_specs}
use Rattle.go_tree_nodes.specs.WrittenTypes.{spec_types}
use Rattle.go_tree_nodes.specs.Idents.{expr_idents}
use Rattle.go_tree_core.specs.declared.occurrence.Occ.{Occ}
use Rattle.go_tree_core.specs.Occurrences.{decl_occs, func_occs, group_occs, specs_occs, tops_occs, type_occs, type_spec_occs, value_spec_occs}
use Rattle.go_term_core.specs.decl_core.declared.keys.DeclKey.{DeclKey}
use Rattle.go_term_core.specs.decl_core.Outer.{Outer, type_outers}
use Rattle.go_term_core.specs.declared.term.MemberPlace.{MemberPlace}
use Rattle.go_term_core.specs.declared.term.MemberPlace.TheVariants as places
use Rattle.go_term_core.specs.Terms.{Term, NoType, Predeclared, ErrorType, Defined, PointerTo, StructOf, InterfaceOf, Fields, NoField, AField, Sign}
use Rattle.go_value_core.specs.table_core.Entries.{Entry, find_entry, has_method, underlying_in}
use Rattle.go_term_core.specs.settling.Settled.{settled}
use Rattle.go_select_core.specs.embed_core.Owners.{OwnerModel, owner_in, Found, AFieldOf, AMethodOf, AnInterfaces, TheErrorMethod}
use Rattle.go_site_core.specs.handle_core.DecidingRules.{form_under, member_selection, term_rules}
use Rattle.go_site_core.specs.handle_core.DecidingSelecting.{Choice, selected_of}
use Rattle.go_cursor_core.specs.operand_core.declared.types.Operand.{Operand}
use Rattle.go_cursor_core.specs.denote_core.declared.things.Found.{Found as FoundOf}
use Rattle.go_cursor_core.specs.denote_core.declared.things.Selection.{Selection}
use Rattle.go_site_core.specs.handle_core.Declarations.{Declaration, InFile, declaration_found}
use Rattle.go_site_core.specs.handle_core.Names.{selection_in, shown_choice}
use Rattle.go_typexpr_core.specs.written.Written.{term_of}
use Rattle.go_names_core.specs.local_core.Binding.{NameLook}
use Rattle.go_names_core.specs.local_core.Steps.{Piece, Spec}
use Rattle.go_names_core.specs.local_core.Outline.{func_steps, func_opens, func_closes}
use Rattle.go_names_core.specs.local_core.Pieces.{ident_place, piece_declares, piece_types}
use Rattle.go_stmt_core.specs.expr_core.Looks.{Looks, WrittenRules}
use Rattle.go_stmt_core.specs.expr_core.Denoting.{named_type}
use Rattle.go_stmt_core.specs.expr_core.Laws.{AgreeOnIdents}
use Rattle.go_stmt_core.specs.expr_core.Locality.{SameWritten, seeing}
use Rattle.go_stmt_core.specs.expr_core.TypeUses.{type_uses}
use Rattle.go_stmt_core.specs.inline_core.Functions.{looked_up_ident}
use Rattle.go_stmt_core.specs.inline_core.Inline.{inline_of}
use Rattle.go_stmt_core.specs.inline_core.Trees.{func_types}
use Rattle.go_stmt_core.specs.inline_core.ByIntervals.{func_all, steps_types}
use Rattle.go_stmt_core.specs.piece.Headers.{returned_names, returned_types}
use Rattle.go_stmt_core.specs.piece.Laws.{SameOuter, SamePiece, piece_idents, piece_occs, steps_occs}
use Rattle.go_stmt_core.specs.piece.Pieces.{piece_uses, piece_values}
use Rattle.go_stmt_core.specs.piece.Specifications.{outer_values, spec_uses}
use Rattle.go_stmt_core.proofs.PieceLocal.{outer_local, pieces_local}
use Rattle.go_stmt_core.proofs.PieceOccurring.{pieces_occur}
use Rattle.go_value_core.specs.env_core.declared.meaning.Meaning.{Meaning}
use Rattle.go_value_core.specs.env_core.declared.meaning.Meaning.TheVariants as meanings
use Rattle.go_value_core.specs.env_core.Found.{TheFound, found_exported, found_of}
use Rattle.go_value_core.specs.env_core.Fields.{fields_seen, owner_seen, term_seen}
use Rattle.go_value_core.specs.env_core.Looks.{TheLooks, inline_type}
use Rattle.go_query_core.specs.body_core.Notes.{NoteOf, TheUse, TheValue, all_uses}
use Rattle.go_query_core.specs.body_core.Rules.{local_at, value_at}
use Rattle.go_query_core.specs.body_core.WellFormed.{IsFuncOfGrammar, IsOfGrammar}
use Rattle.go_query_core.specs.body_core.WellFormedProofs.{pieces_are_of_grammar}
use Rattle.go_query_core.specs.body_core.FunctionTypes.{is_local_meaning, named_where}
use Rattle.go_query_core.specs.body_core.FunctionStands.{FileStand, kinds_in_scene, looks_where, outer_look, outer_looks, outer_meanings, types_where}
use Rattle.go_query_core.specs.body_core.FunctionFunctions.{func_rules, own_rules, walked_func}
use Rattle.go_query_core.specs.body_core.FunctionNamed.{steps_are_named}
use Rattle.go_query_core.specs.body_core.FileFiles.{decl_uses, tops_uses}
use Rattle.go_query_core.specs.snap_core.NearNear.{IfAny, NearExported, NearField, NearForm, NearFound, NearOperand, NearRest, NearSelection}
use Rattle.go_query_core.specs.snap_core.NearLooks.{AreClosed, AreRulesClosed}
use Rattle.go_query_core.specs.snap_core.NearPiecesProofs.{outer_nearby, pieces_nearby}
use Rattle.go_stmt_core.specs.statement.Locality.{Each}
use Rattle.go_answer_laws.specs.declarations.Found.{AreThereAs, steps_declare}
use Rattle.go_answer_laws.proofs.DeclarationsLists.{each_both, either}
use Rattle.go_answer_laws.proofs.DeclarationsTerms.{AreFieldsIn, IsPlacedIn, IsSignIn, IsTermIn, settled_in, term_in}
use Rattle.go_answer_laws.proofs.DeclarationsTables.{AreEntriesIn}
use Rattle.go_answer_laws.proofs.DeclarationsSelecting.{IsChoiceIn, IsFoundIn, params_in, results_in, selected_in, typed_in, under_in}
use Rattle.go_answer_laws.proofs.DeclarationsAnswers.{AreKept, IsExportedKept, IsFieldKept, IsFoundKept, IsSelectionKept, alike_itself}
use Rattle.go_answer_laws.proofs.DeclarationsUses.{AreThere, both_there, piece_in, spec_in, written_uses_in}
use Rattle.go_answer_laws.proofs.DeclarationsWalking.{AreMeant, Sees, SayThere, walk_in}

-- types whose identifiers pass a test

abbrev pub IsGood : (Outer → Bool) → TypeTree → Type 0
IsGood good t = list_all good (type_outers t) ≡ true

all_good : (good : Outer → Bool) (Is : Outer → Type 0) → ((o : Outer) → good o ≡ true → Is o) → (os : List Outer) → list_all good os ≡ true → Each Is os
all_good good Is sound [] h = tt
all_good good Is sound (o ∷ os) h = (let k = and_parts (good o) (list_all good os) h in (sound o k.0, all_good good Is sound os k.1))

pub good_all : (good : Outer → Bool) (os : List Outer) → Each (λ o. good o ≡ true) os → list_all good os ≡ true
good_all good [] h = refl
good_all good (o ∷ os) h = and_from (good o) (list_all good os) h.0 (good_all good os h.1)

-- the same rules of written types, for those whose identifiers pass the test
abbrev pub guarded : (Outer → Bool) → WrittenRules Term → WrittenRules Term
guarded good rules = record { type_of = λ named t. if list_all good (type_outers t) then rules.type_of named t else None; faults_of = rules.faults_of }

abbrev pub guarded_looks : (Outer → Bool) → TheLooks → TheLooks
guarded_looks good looks = seeing looks.find (guarded good looks.written) looks

agree_self : {T S D : Type 0} (find : List ℕ → ℕ → FoundOf T S D) (xs : List Ident) → AgreeOnIdents find find xs
agree_self find [] = tt
agree_self find (x ∷ xs) = (refl, agree_self find xs)

module _ (good : Outer → Bool) (looks : TheLooks) where
  written_same : (ts : List TypeTree) → Each (IsGood good) ts → SameWritten looks (guarded_looks good looks) ts
  written_same [] h = tt
  written_same (t ∷ ts) h = (record { type_of = ap (λ (b : Bool). if b then looks.written.type_of (named_type looks) t else None) (sym h.0); faults_of = refl }, written_same ts h.1)

  pub piece_same : (p : Piece) → Each (IsGood good) (piece_types p) → SamePiece Term Sign Declaration (List ℕ) looks (guarded_looks good looks) p
  piece_same p h = pieces_local Term Sign Declaration (List ℕ) looks looks.find (guarded good looks.written) p (agree_self looks.find (piece_idents p)) (written_same (piece_types p) h)

  pub outer_same : (k : ValueKind) (v : ValueSpecTree) → Each (IsGood good) (spec_types v) → SameOuter Term Sign Declaration (List ℕ) looks (guarded_looks good looks) k v
  outer_same k v h = outer_local Term Sign Declaration (List ℕ) looks looks.find (guarded good looks.written) k v (agree_self looks.find (piece_idents (Spec k v))) (written_same (piece_types (Spec k v)) h)

-- groups

abbrev pub EachSpec : {A : Type 0} → (A → Type 0) → Specs A → Type 0
EachSpec Is (Single x) = Is x
EachSpec Is (Group first ls last) = Each (λ l. Is l.0) ls

form_in : (Near : Term → Type 0) → ((t : Term) → Near (PointerTo t) → Near t) → (u : Term) → Near u → NearForm Near (form_under u)
form_in Near off NoType h = tt
form_in Near off (Predeclared b) h = tt
form_in Near off ErrorType h = tt
form_in Near off (Defined k) h = tt
form_in Near off (PointerTo t) h = off t h
form_in Near off (StructOf home fs) h = tt
form_in Near off (InterfaceOf home ms) h = tt

-- a name that a function of a file declares has its place
abbrev pub IsNameHere : (List ℕ → Declaration → Type 0) → FileStand → Ident → Type 0
IsNameHere Named st x = Named x.name (InFile st.scene.path (places.Local (record { file = st.file.file; offset = x.span.start })))

-- the types that a declaration writes are good, and the names of a function are here
abbrev pub IsGoodDecl : (Outer → Bool) → (Ident → Type 0) → DeclTree → Type 0
IsGoodDecl good Here (Value v) = EachSpec (λ s. Each (IsGood good) (spec_types s)) v.specs
IsGoodDecl good Here (Types t) = EachSpec (λ s. IsGood good s.type_expr) t.specs
IsGoodDecl good Here (Func f) = Each (IsGood good) (func_types f) × Each Here (steps_declare (func_steps f))

module _ (IsNamed : List ℕ → Declaration → Type 0) where
  -- what is declared in a file has its place under its name
  abbrev pub Stands : List ℕ → List ℕ → MemberPlace → Type 0
  Stands home name place = IsNamed name (InFile home place)

  abbrev pub Near : Term → Type 0
  Near t = IsTermIn Stands t

  abbrev pub Rest : NearRest Sign Declaration
  Rest = record { sign = λ g. IsSignIn Stands g; decl = λ d. ⊤ }

  abbrev pub IsFoundThere : List ℕ → TheFound → Type 0
  IsFoundThere name f = NearFound Near Rest f × IsFoundKept (IsNamed name) f

  -- what a name means in a file is there
  abbrev pub NearMeaning : FileStand → List ℕ → Meaning → Type 0
  NearMeaning st name m = IsFoundThere name (found_of st.scene st.file.file st.known name (Some m))

  -- a file whose names stand for what is there
  pub record IsStandIn (st : FileStand) (good : Outer → Bool) : Type 0 where
    pub table : AreEntriesIn Stands st.scene.types
    pub exported : (d : Declaration) (name : List ℕ) → NearExported Near Rest (found_exported st.scene d name) × IsExportedKept (IsNamed name) (found_exported st.scene d name)
    pub outer : (name : List ℕ) → IfAny (NearMeaning st name) (outer_meanings st name)
    pub meanings : (n : TypeName) → Near (st.top n)
    pub sound : (o : Outer) → good o ≡ true → IsPlacedIn Stands st.file o

module _ (IsNamed : List ℕ → Declaration → Type 0) (IsImported : ℕ → Declaration → Type 0) where
  abbrev In : List ℕ → List ℕ → MemberPlace → Type 0
  In = Stands IsNamed

  abbrev NearOf : Term → Type 0
  NearOf = Near IsNamed

  abbrev RestOf : NearRest Sign Declaration
  RestOf = Rest IsNamed

  module _ (st : FileStand) (good : Outer → Bool) (law : IsStandIn IsNamed st good) where
    abbrev es : List Entry
    es = st.scene.types

    -- a name that a function declares
    abbrev IsHere : Ident → Type 0
    IsHere x = IsNameHere IsNamed st x

    -- members

    abbrev IsPicked : List ℕ → Selection Term Sign Declaration (List ℕ) → Type 0
    IsPicked name s = NearSelection NearOf RestOf s × IsSelectionKept (IsNamed name) s

    member_in : (error : (name : List ℕ) → IsFoundIn In name TheErrorMethod → IsNamed name (declaration_found TheErrorMethod)) (name path : List ℕ) (passes : Bool) (f : Found) → IsFoundIn In name f
        → IsPicked name (member_selection declaration_found (λ (p : List ℕ). p) (find_entry es) path passes f)
    member_in error name path passes (AFieldOf home place t) h = (typed_in In es law.table t h.1, h.0)
    member_in error name path passes (AMethodOf home place pointer g) h = (h.1, h.0)
    member_in error name path passes (AnInterfaces home place g) h = (h.1, h.0)
    member_in error name path passes TheErrorMethod h = ((tt, (tt, tt)), error name h)

    module _ (error : (name : List ℕ) → IsFoundIn In name TheErrorMethod → IsNamed name (declaration_found TheErrorMethod)) where
      choice_in : (name : List ℕ) (r : Result Choice Rule) → IsChoiceIn In name r → IsPicked name (shown_choice (find_entry es) r)
      choice_in name (Ok c) h = member_in error name c.path c.passes c.member h
      choice_in name (Err rule) h = (tt, tt)

      picked : (t : Term) (name : List ℕ) → NearOf t → IsPicked name (selection_in es st.scene.path t name)
      picked t name h = choice_in name (selected_of es t name st.scene.path) (selected_in In es law.table t name st.scene.path h)

      -- fields that keys name

      fields_in : (o : OwnerModel) (home : List ℕ) (fs : Fields) → AreFieldsIn In home fs → Each (NearField NearOf) (fields_seen st.scene o home fs) × Each (IsFieldKept IsNamed) (fields_seen st.scene o home fs)
      fields_in o home NoField h = (tt, tt)
      fields_in o home (AField name place embedded t tag fs) h =
          let more = fields_in o home fs h.2 in (
            either (Each (NearField NearOf)) (has_method o.path o.methods name home) _ _ more.0 (typed_in In es law.table t h.1, more.0),
            either (Each (IsFieldKept IsNamed)) (has_method o.path o.methods name home) _ _ more.1 (h.0, more.1),
          )

      term_fields_in : (o : OwnerModel) (u : Term) → NearOf u → Each (NearField NearOf) (term_seen st.scene o u) × Each (IsFieldKept IsNamed) (term_seen st.scene o u)
      term_fields_in o NoType h = (tt, tt)
      term_fields_in o (Predeclared b) h = (tt, tt)
      term_fields_in o ErrorType h = (tt, tt)
      term_fields_in o (Defined k) h = (tt, tt)
      term_fields_in o (PointerTo t) h = (tt, tt)
      term_fields_in o (StructOf home fs) h = fields_in o home fs h
      term_fields_in o (InterfaceOf home ms) h = (tt, tt)

      seen_in : (t : Term) → NearOf t → Each (NearField NearOf) (owner_seen st.scene (owner_in (find_entry es) t)) × Each (IsFieldKept IsNamed) (owner_seen st.scene (owner_in (find_entry es) t))
      seen_in t h = term_fields_in (owner_in (find_entry es) t) (underlying_in (find_entry es) t) (under_in In es law.table t h)

      rules_closed : AreRulesClosed NearOf (term_rules es st.scene.path)
      rules_closed = record {
        form = λ t h. form_in NearOf (λ u k. k) (underlying_in (find_entry es) t) (under_in In es law.table t h);
        pointer_to = λ t h. h;
        int = tt;
        string = tt;
        bool = tt;
        any = tt;
      }

      module _ (look : NameLook Meaning) (sees : Sees (NearMeaning IsNamed st) look) where
        abbrev pub seen_looks : TheLooks
        seen_looks = guarded_looks good (looks_where st look)

        named_in : (n : TypeName) → NearOf (named_where look st.top n)
        named_in n = either NearOf (is_local_meaning (look (looked_up_ident n).name (looked_up_ident n).span.start)) _ _ tt (law.meanings n)

        written_in : (t : TypeTree) (b : Bool) → list_all good (type_outers t) ≡ b
            → IfAny NearOf (if b then inline_type es (Some (inline_of (kinds_in_scene st.scene) st.file (named_where look st.top) t)) else None)
        written_in t true e =
            typed_in In es law.table (settled (kinds_in_scene st.scene) (term_of (named_where look st.top) st.file t))
            (settled_in In (kinds_in_scene st.scene) (term_of (named_where look st.top) st.file t)
            (term_in In (named_where look st.top) st.file named_in t (all_good good (IsPlacedIn In st.file) law.sound (type_outers t) e)))
        written_in t false e = tt

        found_in : (name : List ℕ) (m : Option Meaning) → IfAny (NearMeaning IsNamed st name) m → IsFoundThere IsNamed name (found_of st.scene st.file.file st.known name m)
        found_in name None h = (tt, tt)
        found_in name (Some m) h = h

        pub closed : AreClosed NearOf RestOf seen_looks
        closed = record {
          find = λ name offset. (found_in name (look name offset) (sees name offset)).0;
          exported = λ d name h. (law.exported d name).0;
          select = λ t name h. (picked t name h).0;
          params = params_in In es law.table;
          results = results_in In es law.table;
          types = rules_closed;
          fields = λ t h. (seen_in t h).0;
          type_of = λ named t. written_in t (list_all good (type_outers t)) refl;
        }

        pub kept : AreKept IsNamed NearOf RestOf seen_looks
        kept = record {
          find = λ name offset. (found_in name (look name offset) (sees name offset)).1;
          exported = λ d name h. (law.exported d name).1;
          select = λ t name h. (picked t name h).1;
          fields = λ t h. (seen_in t h).1;
        }

        pub piece_there : (p : Piece) → IsOfGrammar p → Each (IsGood good) (piece_types p) → AreThere IsNamed IsImported (piece_occs p) (piece_uses (looks_where st look) p)
        piece_there p wf h =
            subst (AreThere IsNamed IsImported (piece_occs p)) (sym (piece_same good (looks_where st look) p h).uses) (piece_in IsNamed IsImported NearOf RestOf seen_looks closed kept p wf)

        pub values_in : (firsts : List Bool) (p : Piece) → Each (IsGood good) (piece_types p) → Each (IfAny (NearOperand NearOf)) (piece_values (looks_where st look) firsts p)
        values_in firsts p h =
            subst (Each (IfAny (NearOperand NearOf))) (sym ((piece_same good (looks_where st look) p h).values firsts)) ((pieces_nearby NearOf RestOf seen_looks seen_looks closed (alike_itself NearOf RestOf seen_looks) p).near firsts)

        pub outer_values_in : (k : ValueKind) (v : ValueSpecTree) → Each (IsGood good) (spec_types v) → Each (IfAny (NearOperand NearOf)) (outer_values (looks_where st look) k v)
        outer_values_in k v h =
            subst (Each (IfAny (NearOperand NearOf))) (sym (outer_same good (looks_where st look) k v h).values) (outer_nearby NearOf RestOf seen_looks seen_looks closed (alike_itself NearOf RestOf seen_looks) k v).near

      -- outside functions

      pub outer_sees : Sees (NearMeaning IsNamed st) (outer_look st)
      outer_sees name place = law.outer name

      spec_there : (k : ValueKind) (v : ValueSpecTree) → Wf_value_spec k v → Each (IsGood good) (spec_types v) → AreThere IsNamed IsImported (value_spec_occs v) (spec_uses (outer_looks st) v)
      spec_there k v wf h = piece_there (outer_look st) outer_sees (Spec k v) wf h

      -- a type that is declared is as one that is written of a variable
      type_there : (t : TypeTree) → IsGood good t → AreThere IsNamed IsImported (type_occs t) (type_uses (outer_looks st) t)
      type_there t h =
          let looks = outer_looks st in
          let span : Span = record { start = 0; end = 0 } in
          let v : ValueSpecTree = record { names = One (record { name = []; span = span }); type_expr = Some t; values = None } in
          let same : type_uses looks t ++ [] ≡ type_uses (guarded_looks good looks) t ++ [] = (piece_same good looks (Spec value_kinds.Var v) (h, tt)).uses in
          subst (AreThere IsNamed IsImported (type_occs t)) (sym (sym (append-nil (type_uses looks t)) ∙ (same ∙ append-nil (type_uses (guarded_looks good looks) t))))
          (written_uses_in IsNamed IsImported NearOf RestOf (seen_looks (outer_look st) outer_sees) (closed (outer_look st) outer_sees) (kept (outer_look st) outer_sees) t)

      -- functions

      value_at_in : (vs : List (Option (Operand Term))) (n : ℕ) → Each (IfAny (NearOperand NearOf)) vs → IfAny (NearOperand NearOf) (value_at vs n)
      value_at_in [] n h = tt
      value_at_in (v ∷ vs) zero h = h.0
      value_at_in (v ∷ vs) (suc n) h = value_at_in vs n h.1

      later : (means : ℕ → Meaning) (n : ℕ) (xs : List Ident) → AreMeant (NearMeaning IsNamed st) (λ m. means (suc m)) n xs → AreMeant (NearMeaning IsNamed st) means (suc n) xs
      later means n [] h = tt
      later means n (x ∷ xs) h = (h.0, later means (suc n) xs h.1)

      meant : (xs : List Ident) (values : ℕ → TheValue) → ((n : ℕ) → IfAny (NearOperand NearOf) (values n)) → Each IsHere xs → AreMeant (NearMeaning IsNamed st) (λ n. meanings.Local (ident_place xs n) (values n)) 0 xs
      meant [] values near h = tt
      meant (x ∷ xs) values near h = ((near 0, h.0), later (λ n. meanings.Local (ident_place (x ∷ xs) n) (values n)) 0 xs (meant xs (λ n. values (suc n)) (λ n. near (suc n)) h.1))

      abbrev AreNoted : List Occ → List NoteOf → Type 0
      AreNoted os ns = AreThere IsNamed IsImported os (all_uses ns)

      noted_both : (os ps : List Occ) (ns ms : List NoteOf) → AreNoted os ns → AreNoted ps ms → AreNoted (os ++ ps) (ns ++ ms)
      noted_both os ps ns ms h k = subst (AreThere IsNamed IsImported (os ++ ps)) (sym (uses_both ns ms)) (both_there IsNamed IsImported os ps (all_uses ns) (all_uses ms) h k)
        where
          uses_both : (ns ms : List NoteOf) → all_uses (ns ++ ms) ≡ all_uses ns ++ all_uses ms
          uses_both ns ms = flat_map-append (λ (n : NoteOf). n.uses) ns ms

      say : (results : List (Option Term)) (has_names : Bool) → SayThere (NearMeaning IsNamed st) AreNoted IsHere (IsGood good) (own_rules st results has_names)
      say results has_names = record {
        none = λ before. tt;
        both = noted_both;
        notes = λ look firsts p wf h sees. subst (AreThere IsNamed IsImported (piece_occs p)) (sym (append-nil (piece_uses (looks_where st look) p))) (piece_there look sees p wf h);
        means = λ look firsts p wf h here sees.
            meant (piece_declares p) (value_at (piece_values (looks_where st look) firsts p)) (λ n. value_at_in (piece_values (looks_where st look) firsts p) n (values_in look sees firsts p h)) here;
      }

      func_there : (f : FuncTree) → IsFuncOfGrammar f → Each (IsGood good) (func_types f) → Each IsHere (steps_declare (func_steps f)) → AreThere IsNamed IsImported (func_occs f) (all_uses (walked_func st f).notes)
      func_there f wf h here =
          subst (λ os. AreThere IsNamed IsImported os (all_uses (walked_func st f).notes)) (sym ((pieces_occur Term Sign Declaration (List ℕ)).functions f))
          (walk_in (NearMeaning IsNamed st) AreNoted IsHere (IsGood good) (outer_meanings st) law.outer (func_rules st f) (say (returned_types (outer_looks st) f.signature) (returned_names f.signature)) [] [] (func_opens f) (func_closes f) (func_steps f)
          (pieces_are_of_grammar f wf) (subst (Each (IsGood good)) (sym (func_all f)) h) (steps_are_named f) here tt tt)

      -- files

      module _ {A : Type 0} (f : A → List TheUse) (g : A → List Occ) (Wf Is : A → Type 0) (each : (x : A) → Wf x → Is x → AreThere IsNamed IsImported (g x) (f x)) where
        group_there : (ls : List (A × Option Span)) → Wf_group Wf ls → Each (λ l. Is l.0) ls → AreThere IsNamed IsImported (group_occs g ls) (flat_map (λ (l : A × Option Span). f l.0) ls)
        group_there [] wf h = λ before. tt
        group_there (l ∷ ls) wf h = both_there IsNamed IsImported (g l.0) (group_occs g ls) (f l.0) (flat_map (λ (x : A × Option Span). f x.0) ls) (each l.0 wf.0 h.0) (group_there ls wf.2 h.1)

        specs_there : (s : Specs A) → Wf_specs Wf s → EachSpec Is s → AreThere IsNamed IsImported (specs_occs g s) (of_specs f s)
        specs_there (Single x) wf h = each x wf h
        specs_there (Group first ls last) wf h = group_there ls wf h

      decl_there : (d : DeclTree) → Wf_decl d → IsGoodDecl good IsHere d → AreThere IsNamed IsImported (decl_occs d) (decl_uses st d)
      decl_there (Value v) wf h = specs_there (spec_uses (outer_looks st)) value_spec_occs (Wf_value_spec v.kind) (λ s. Each (IsGood good) (spec_types s)) (spec_there v.kind) v.specs wf h
      decl_there (Types t) wf h = specs_there (λ (s : TypeSpecTree). type_uses (outer_looks st) s.type_expr) type_spec_occs Wf_type_spec (λ s. IsGood good s.type_expr) (λ s w k. type_there s.type_expr k) t.specs wf h
      decl_there (Func f) wf h = func_there f wf h.0 h.1

      pub tops_there : (ds : List TopTree) → Wf_tops ds → Each (λ (d : TopTree). IsGoodDecl good IsHere d.decl) ds → AreThere IsNamed IsImported (tops_occs ds) (tops_uses st ds)
      tops_there [] wf h = λ before. tt
      tops_there (d ∷ ds) wf h = both_there IsNamed IsImported (decl_occs d.decl) (tops_occs ds) (decl_uses st d.decl) (tops_uses st ds) (decl_there d.decl wf.0 h.0) (tops_there ds wf.1 h.1)
