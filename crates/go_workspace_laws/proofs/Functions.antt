-- What stands in a file is declared in some packages alone, where what its names mean outside functions is.
use Rattle.std.proofs.Common.{◌≡◌, ℕ, zero, suc, Bool, true, false, List, [], ◌∷◌}
use Rattle.std.specs.Prelude.{Option, Some, None, Result, Ok, Err, ⊤}
use Rattle.go_path_core.specs.text_core.declared.rule.Rule.{Rule}
use Rattle.go_tree_nodes.specs.declared.names.Ident.{Ident}
use Rattle.go_tree_nodes.specs.declared.types.TypeName.{TypeName}
use Rattle.go_tree_nodes.specs.Trees.{TypeTree, FuncTree, DeclTree, Value, Types, Func, TopTree, FileTree, ImportSpecTree, ValueSpecTree, TypeSpecTree}
use Rattle.go_term_core.specs.decl_core.declared.keys.DeclKey.{DeclKey}
use Rattle.go_term_core.specs.Terms.{Term, NoType, Predeclared, ErrorType, Defined, PointerTo, StructOf, InterfaceOf, Fields, NoField, AField, Sign}
use Rattle.go_names_core.specs.block_core.declared.imports.Imported.{Imported}
use Rattle.go_names_core.specs.block_core.declared.imports.Imported.TheVariants as given
use Rattle.go_names_core.specs.block_core.Naming.{file_specs}
use Rattle.go_body_core.specs.table_core.Entries.{Entry, find_entry, has_method, underlying_in}
use Rattle.go_term_core.specs.settling.Settled.{settled}
use Rattle.go_select_core.specs.embed_core.Owners.{OwnerModel, owner_in, Found, AFieldOf, AMethodOf, AnInterfaces, TheErrorMethod}
use Rattle.govisd_resolve.specs.handle_core.DecidingRules.{form_under, member_selection, term_rules}
use Rattle.govisd_resolve.specs.handle_core.DecidingSelecting.{Choice, selected_of}
use Rattle.go_report_core.specs.operand_core.declared.types.Operand.{Operand}
use Rattle.go_report_core.specs.denote_core.declared.things.Selection.{Selection}
use Rattle.govisd_resolve.specs.handle_core.Declarations.{Declaration, Universe, OfError, Package, InFile, declaration_found}
use Rattle.govisd_resolve.specs.handle_core.Names.{selection_in, shown_choice}
use Rattle.go_body_core.specs.typexpr_core.WrittenWritten.{term_of}
use Rattle.go_names_core.specs.local_core.Binding.{NameLook}
use Rattle.go_names_core.specs.local_core.Steps.{Piece}
use Rattle.go_names_core.specs.local_core.Outline.{func_steps, func_opens, func_closes}
use Rattle.go_names_core.specs.declared.meaning.Outside.{Outside}
use Rattle.go_names_core.specs.Scope.{some_meaning}
use Rattle.go_names_core.specs.scope_core.Scopes as scopes
use Rattle.go_names_core.specs.scope_core.Scopes.{Denoted}
use Rattle.go_names_core.specs.scope_core.Models.{scopes_model}
use Rattle.go_names_core.specs.scope_core.Laws.{denotes}
use Rattle.go_body_core.specs.inline_core.Functions.{looked_up_ident}
use Rattle.go_body_core.specs.env_core.declared.meaning.Meaning.{Meaning}
use Rattle.go_body_core.specs.env_core.declared.meaning.Meaning.TheVariants as meanings
use Rattle.go_body_core.specs.env_core.Found.{found_exported, found_of, found_outside}
use Rattle.go_body_core.specs.env_core.Fields.{fields_seen, owner_seen, term_seen}
use Rattle.go_body_core.specs.stmt_core.PieceHeaders.{returned_names, returned_types}
use Rattle.go_body_core.specs.stmt_core.PiecePieces.{piece_values}
use Rattle.go_names_core.specs.local_core.Pieces.{piece_declares}
use Rattle.go_body_core.specs.stmt_core.PieceSpecifications.{spec_uses}
use Rattle.go_report_core.specs.expr_core.TypeUses.{type_uses}
use Rattle.go_body_core.specs.Notes.{NoteOf, TheLocal, all_locals, all_uses}
use Rattle.go_body_core.specs.Rules.{declared_among, local_at, local_if, value_at}
use Rattle.go_body_core.specs.function.Types.{is_local_meaning, named_where}
use Rattle.go_body_core.specs.function.Stands.{FileStand, kinds_in_scene, looks_where, outer_look, outer_looks, outer_meanings}
use Rattle.go_body_core.specs.function.Functions.{func_rules, own_rules, walked_func}
use Rattle.go_body_core.specs.file.Files.{decl_locals, decl_uses, file_locals, file_uses, tops_uses}
use Rattle.go_body_core.specs.file.Imports.{imports_uses}
use Rattle.go_names_core.specs.Body.{each_means}
use Rattle.go_snap_core.specs.near.Near.{IfAny, NearExported, NearField, NearForm, NearFound, NearOperand, NearRest, NearSelection}
use Rattle.go_snap_core.specs.near.Looks.{AreClosed, AreRulesClosed}
use Rattle.go_snap_core.proofs.NearClosing.{either}
use Rattle.go_snap_core.proofs.NearPieces.{each_both, pieces_nearby}
use Rattle.go_snap_core.proofs.NearWalking.{MeansNear}
use Rattle.go_workspace_laws.proofs.Terms.{AreFieldsIn, IsSignIn, IsTermIn, settled_in, term_in}
use Rattle.go_workspace_laws.proofs.Tables.{IsEntryIn}
use Rattle.go_workspace_laws.proofs.Selecting.{IsChoiceIn, IsFoundIn, params_in, results_in, selected_in, typed_in, under_in}
use Rattle.go_workspace_laws.proofs.Answers.{AreKept, IsExportedKept, IsFieldKept, IsFoundKept, IsSelectionKept, alike_itself}
use Rattle.go_workspace_laws.proofs.Uses.{IsUseIn, flat_each, piece_in, spec_in, specs_each, written_uses_in}
use Rattle.go_workspace_laws.proofs.Walking.{SayIn, walk_in}
use Rattle.go_body_core.specs.stmt_core.StatementLocality.{Each}

module _ (Inside : List ℕ → Type 0) where
  -- the name of a package stands for one of these; nothing else has names behind a dot that packages show
  abbrev pub IsPackageIn : Declaration → Type 0
  IsPackageIn (Universe p) = ⊤
  IsPackageIn OfError = ⊤
  IsPackageIn (Package path) = Inside path
  IsPackageIn (InFile path place) = ⊤

  abbrev pub Near : Term → Type 0
  Near t = IsTermIn Inside t

  abbrev pub Rest : NearRest Sign Declaration
  Rest = record { sign = λ g. IsSignIn Inside g; decl = IsPackageIn }

  -- a file of one of these packages, whose names stand for what is declared in them and mentions them alone
  pub record IsStandIn (st : FileStand) : Type 0 where
    pub own : Inside st.scene.path
    pub file : Inside st.file.path
    pub table : (k : DeclKey) (e : Entry) → Inside k.path → find_entry st.scene.types k ≡ Some e → IsEntryIn Inside e
    pub exported : (d : Declaration) (name : List ℕ) → IsPackageIn d → NearExported Near Rest (found_exported st.scene d name) × IsExportedKept Inside (found_exported st.scene d name)
    pub outside : (name : List ℕ) (o : Outside) → NearFound Near Rest (found_outside st.scene st.file.file st.known name o) × IsFoundKept Inside (found_outside st.scene st.file.file st.known name o)
    pub meanings : (n : TypeName) → Near (st.top n)

  abbrev pub NearMeaning : Meaning → Type 0
  NearMeaning (meanings.Outside o) = ⊤
  NearMeaning (meanings.Local at value) = IfAny (NearOperand Near) value

  abbrev pub IsLocalIn : TheLocal → Type 0
  IsLocalIn l = IfAny (NearOperand Near) l.value

  abbrev IsNoteIn : NoteOf → Type 0
  IsNoteIn n = Each (IsUseIn Inside) n.uses × Each IsLocalIn n.locals

  -- locals

  each_meant : (means : ℕ → Meaning) → ((n : ℕ) → NearMeaning (means n)) → (n : ℕ) (xs : List Ident) → Each NearMeaning (each_means means n xs)
  each_meant means h n [] = tt
  each_meant means h n (x ∷ xs) = (h n, each_meant means h (suc n) xs)

  local_if_in : (b : Bool) (m : Meaning) → NearMeaning m → Each IsLocalIn (local_if b m)
  local_if_in true (meanings.Outside o) h = tt
  local_if_in true (meanings.Local at value) h = (h, tt)
  local_if_in false m h = tt

  among_in : (firsts : List Bool) (ms : List Meaning) → Each NearMeaning ms → Each IsLocalIn (declared_among firsts ms)
  among_in [] ms h = tt
  among_in (b ∷ bs) [] h = tt
  among_in (b ∷ bs) (m ∷ ms) h = each_both IsLocalIn (local_if b m) (declared_among bs ms) (local_if_in b m h.0) (among_in bs ms h.1)

  value_in : (vs : List (Option (Operand Term))) (n : ℕ) → Each (IfAny (NearOperand Near)) vs → IfAny (NearOperand Near) (value_at vs n)
  value_in [] n h = tt
  value_in (v ∷ vs) zero h = h.0
  value_in (v ∷ vs) (suc n) h = value_in vs n h.1

  all_uses_in : (ns : List NoteOf) → Each IsNoteIn ns → Each (IsUseIn Inside) (all_uses ns)
  all_uses_in [] h = tt
  all_uses_in (n ∷ ns) h = each_both (IsUseIn Inside) n.uses (all_uses ns) h.0.0 (all_uses_in ns h.1)

  all_locals_in : (ns : List NoteOf) → Each IsNoteIn ns → Each IsLocalIn (all_locals ns)
  all_locals_in [] h = tt
  all_locals_in (n ∷ ns) h = each_both IsLocalIn n.locals (all_locals ns) h.0.1 (all_locals_in ns h.1)

  -- an import comes to one of these packages, if it passes
  abbrev pub IsImportIn : Imported → Type 0
  IsImportIn (given.«Package» e) = Inside e.path
  IsImportIn (given.Refused rule) = ⊤

  imports_in : (ss : List ImportSpecTree) (is : List Imported) → Each IsImportIn is → Each (IsUseIn Inside) (imports_uses ss is)
  imports_in [] is h = tt
  imports_in (s ∷ ss) [] h = tt
  imports_in (s ∷ ss) (given.«Package» e ∷ is) h = (h.0, imports_in ss is h.1)
  imports_in (s ∷ ss) (given.Refused rule ∷ is) h = (tt, imports_in ss is h.1)

  form_in : (u : Term) → Near u → NearForm Near (form_under u)
  form_in NoType h = tt
  form_in (Predeclared b) h = tt
  form_in ErrorType h = tt
  form_in (Defined k) h = tt
  form_in (PointerTo t) h = h
  form_in (StructOf home fs) h = tt
  form_in (InterfaceOf home ms) h = tt

  module _ (st : FileStand) (law : IsStandIn st) where
    abbrev es : List Entry
    es = st.scene.types

    -- members

    abbrev IsPicked : Selection Term Sign Declaration (List ℕ) → Type 0
    IsPicked s = NearSelection Near Rest s × IsSelectionKept Inside s

    member_in : (path : List ℕ) (passes : Bool) (f : Found) → IsFoundIn Inside f → IsPicked (member_selection declaration_found (λ (p : List ℕ). p) (find_entry es) path passes f)
    member_in path passes (AFieldOf home place t) h = (typed_in Inside es law.table t h.1, h.0)
    member_in path passes (AMethodOf home place pointer g) h = (h.1, h.0)
    member_in path passes (AnInterfaces home place g) h = (h.1, h.0)
    member_in path passes TheErrorMethod h = ((tt, (tt, tt)), tt)

    choice_in : (r : Result Choice Rule) → IsChoiceIn Inside r → IsPicked (shown_choice (find_entry es) r)
    choice_in (Ok c) h = member_in c.path c.passes c.member h
    choice_in (Err rule) h = (tt, tt)

    picked : (t : Term) (name : List ℕ) → Near t → IsPicked (selection_in es st.scene.path t name)
    picked t name h = choice_in (selected_of es t name st.scene.path) (selected_in Inside es law.table t name st.scene.path h)

    -- fields that keys name

    fields_in : (o : OwnerModel) (home : List ℕ) (fs : Fields) → Inside home → AreFieldsIn Inside fs → Each (NearField Near) (fields_seen st.scene o home fs) × Each (IsFieldKept Inside) (fields_seen st.scene o home fs)
    fields_in o home NoField own h = (tt, tt)
    fields_in o home (AField name place embedded t tag fs) own h =
        let more = fields_in o home fs own h.1 in (
          either (Each (NearField Near)) (has_method o.path o.methods name home) _ _ more.0 (typed_in Inside es law.table t h.0, more.0),
          either (Each (IsFieldKept Inside)) (has_method o.path o.methods name home) _ _ more.1 (own, more.1),
        )

    term_fields_in : (o : OwnerModel) (u : Term) → Near u → Each (NearField Near) (term_seen st.scene o u) × Each (IsFieldKept Inside) (term_seen st.scene o u)
    term_fields_in o NoType h = (tt, tt)
    term_fields_in o (Predeclared b) h = (tt, tt)
    term_fields_in o ErrorType h = (tt, tt)
    term_fields_in o (Defined k) h = (tt, tt)
    term_fields_in o (PointerTo t) h = (tt, tt)
    term_fields_in o (StructOf home fs) h = fields_in o home fs h.0 h.1
    term_fields_in o (InterfaceOf home ms) h = (tt, tt)

    seen_in : (t : Term) → Near t → Each (NearField Near) (owner_seen st.scene (owner_in (find_entry es) t)) × Each (IsFieldKept Inside) (owner_seen st.scene (owner_in (find_entry es) t))
    seen_in t h = term_fields_in (owner_in (find_entry es) t) (underlying_in (find_entry es) t) (under_in Inside es law.table t h)

    rules_closed : AreRulesClosed Near (term_rules es st.scene.path)
    rules_closed = record {
      form = λ t h. form_in (underlying_in (find_entry es) t) (under_in Inside es law.table t h);
      pointer_to = λ t h. h;
      int = tt;
      string = tt;
      bool = tt;
      any = (law.own, tt);
    }

    module _ (look : NameLook Meaning) (sees : MeansNear NearMeaning look) where
      named_in : (n : TypeName) → Near (named_where look st.top n)
      named_in n = either Near (is_local_meaning (look (looked_up_ident n).name (looked_up_ident n).span.start)) _ _ tt (law.meanings n)

      written_in : (t : TypeTree) → Near (settled (kinds_in_scene st.scene) (term_of (named_where look st.top) st.file t))
      written_in t = settled_in Inside (kinds_in_scene st.scene) (term_of (named_where look st.top) st.file t) (term_in Inside (named_where look st.top) st.file named_in law.file t)

      found_in : (name : List ℕ) (m : Option Meaning) → IfAny NearMeaning m → NearFound Near Rest (found_of st.scene st.file.file st.known name m) × IsFoundKept Inside (found_of st.scene st.file.file st.known name m)
      found_in name None h = (tt, tt)
      found_in name (Some (meanings.Outside o)) h = law.outside name o
      found_in name (Some (meanings.Local at value)) h = (h, law.own)

      pub closed : AreClosed Near Rest (looks_where st look)
      closed = record {
        find = λ name offset. (found_in name (look name offset) (sees name offset)).0;
        exported = λ d name h. (law.exported d name h).0;
        select = λ t name h. (picked t name h).0;
        params = params_in Inside es law.table;
        results = results_in Inside es law.table;
        types = rules_closed;
        fields = λ t h. (seen_in t h).0;
        type_of = λ named t. typed_in Inside es law.table (settled (kinds_in_scene st.scene) (term_of (named_where look st.top) st.file t)) (written_in t);
      }

      pub kept : AreKept Inside Near Rest (looks_where st look)
      kept = record {
        find = λ name offset. (found_in name (look name offset) (sees name offset)).1;
        exported = λ d name h. (law.exported d name h).1;
        select = λ t name h. (picked t name h).1;
        fields = λ t h. (seen_in t h).1;
      }

      values_in : (firsts : List Bool) (p : Piece) → Each (IfAny (NearOperand Near)) (piece_values (looks_where st look) firsts p)
      values_in firsts p = (pieces_nearby Near Rest (looks_where st look) (looks_where st look) closed (alike_itself Near Rest (looks_where st look)) p).near firsts

    -- outside functions

    meant_in : (d : Option Denoted) → IfAny NearMeaning (some_meaning meanings.Outside [] d)
    meant_in None = tt
    meant_in (Some (scopes.Local id)) = tt
    meant_in (Some (scopes.«Package» d)) = tt
    meant_in (Some (scopes.File b)) = tt
    meant_in (Some (scopes.Universe p)) = tt

    pub outer_sees : MeansNear NearMeaning (outer_look st)
    outer_sees name place = meant_in (denotes (scopes_model st.scene.blocks st.file.file []) name)

    pub outer_closed : AreClosed Near Rest (outer_looks st)
    outer_closed = closed (outer_look st) outer_sees

    pub outer_kept : AreKept Inside Near Rest (outer_looks st)
    outer_kept = kept (outer_look st) outer_sees

    -- functions

    say : (results : List (Option Term)) (has_names : Bool) → SayIn NearMeaning IsNoteIn (own_rules st results has_names)
    say results has_names = record {
      notes = λ look firsts p sees. (
        (
          piece_in Inside Near Rest (looks_where st look) (closed look sees) (kept look sees) p,
          among_in firsts (each_means (local_at p (piece_values (looks_where st look) firsts p)) 0 (piece_declares p))
              (each_meant (local_at p (piece_values (looks_where st look) firsts p)) (λ n. value_in (piece_values (looks_where st look) firsts p) n (values_in look sees firsts p)) 0 (piece_declares p)),
        ),
        tt,
      );
      means = λ look firsts p n sees. value_in (piece_values (looks_where st look) firsts p) n (values_in look sees firsts p);
    }

    notes_in : (f : FuncTree) → Each IsNoteIn (walked_func st f).notes
    notes_in f =
        walk_in NearMeaning IsNoteIn (outer_meanings st) (λ name. outer_sees name 0) (func_rules st f) (say (returned_types (outer_looks st) f.signature) (returned_names f.signature)) [] [] (func_opens f) (func_closes f)
        (func_steps f) tt tt

    -- files

    decl_uses_in : (d : DeclTree) → Each (IsUseIn Inside) (decl_uses st d)
    decl_uses_in (Value v) = specs_each (IsUseIn Inside) (spec_uses (outer_looks st)) v.specs (λ (s : ValueSpecTree). spec_in Inside Near Rest (outer_looks st) outer_closed outer_kept s)
    decl_uses_in (Types t) = specs_each (IsUseIn Inside) (λ (s : TypeSpecTree). type_uses (outer_looks st) s.type_expr) t.specs (λ (s : TypeSpecTree). written_uses_in Inside Near Rest (outer_looks st) outer_closed outer_kept s.type_expr)
    decl_uses_in (Func f) = all_uses_in (walked_func st f).notes (notes_in f)

    decl_locals_in : (d : DeclTree) → Each IsLocalIn (decl_locals st d)
    decl_locals_in (Value v) = tt
    decl_locals_in (Types t) = tt
    decl_locals_in (Func f) = all_locals_in (walked_func st f).notes (notes_in f)

    pub file_uses_in : (imports : List Imported) (f : FileTree) → Each IsImportIn imports → Each (IsUseIn Inside) (file_uses st imports f)
    file_uses_in imports f h =
        each_both (IsUseIn Inside) (imports_uses (file_specs f) imports) (tops_uses st f.decls) (imports_in (file_specs f) imports h)
        (flat_each (IsUseIn Inside) (λ (d : TopTree). decl_uses st d.decl) f.decls (λ (d : TopTree). decl_uses_in d.decl))

    pub file_locals_in : (f : FileTree) → Each IsLocalIn (file_locals st f)
    file_locals_in f = flat_each IsLocalIn (λ (d : TopTree). decl_locals st d.decl) f.decls (λ (d : TopTree). decl_locals_in d.decl)
