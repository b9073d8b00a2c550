-- What names stand for in a file, where the declarations of its package and of those that it imports are over what their values are.
use Rattle.std.proofs.Common.{◌≡◌, inl, inr, ℕ, zero, suc, Bool, true, false, not, List, [], ◌∷◌, Option, Some, None, refl, ap, subst, ◌∙◌}
use Rattle.std.specs.Prelude.{slice_index_or}
use Rattle.std.specs.List.{AllByRecursion}
use Rattle.go_universe_core.specs.declared.Predeclared.{Predeclared}
use Rattle.go_universe_core.specs.declared.Predeclared.TheVariants as universe
use Rattle.go_tree_nodes.specs.Trees.{FuncTree}
use Rattle.go_names_core.specs.block_core.Blocks.{file_binding}
use Rattle.go_names_core.specs.block_core.Tables.{in_block}
use Rattle.go_names_core.specs.block_core.declared.binding.Binding.{Binding}
use Rattle.go_names_core.specs.block_core.declared.binding.Target.{Target}
use Rattle.go_names_core.specs.block_core.declared.binding.Target.TheVariants as targets
use Rattle.go_term_core.specs.decl_core.declared.keys.DeclRef.{DeclRef}
use Rattle.go_names_core.specs.local_core.Binding.{Local, NameLook, bound, is_second}
use Rattle.go_names_core.specs.local_core.Outline.{func_closes, func_opens, func_steps}
use Rattle.go_names_core.specs.local_core.Steps.{Piece}
use Rattle.go_names_core.specs.local_core.Tables.{IsFuncPlaced}
use Rattle.go_term_core.specs.Terms.{Term, Sign}
use Rattle.go_term_core.specs.declared.term.Basic.{Basic}
use Rattle.go_term_core.specs.declared.term.MemberPlace.TheVariants as places
use Rattle.go_constant_core.specs.declared.values.Constant.{Constant}
use Rattle.go_constant_core.specs.declared.values.Constant.TheVariants as values
use Rattle.go_report_core.specs.operand_core.declared.types.Operand.{Operand}
use Rattle.go_report_core.specs.operand_core.TypeRules.{TypeRules}
use Rattle.go_report_core.specs.operand_core.Values.{basic_under}
use Rattle.go_meaning_laws.specs.handle_core.DecidingRules.{term_rules}
use Rattle.go_report_core.specs.denote_core.declared.things.Exported.TheVariants as exporteds
use Rattle.go_report_core.specs.denote_core.declared.things.Found.TheVariants as founds
use Rattle.go_report_core.specs.expr_core.Looks.{WrittenRules}
use Rattle.go_body_core.specs.stmt_core.PiecePieces.{piece_values}
use Rattle.go_code_core.specs.fragments.Constants.{held}
use Rattle.go_code_core.specs.fragments.Names.{word_of}
use Rattle.go_code_core.specs.declared.fragments.names.ConstantWord.{ConstantWord}
use Rattle.go_code_core.specs.declared.fragments.names.ConstantWord.TheVariants as held_words
use Rattle.go_workspace_laws.specs.folding.Reading.{basic_of}
use Rattle.go_body_core.specs.Notes.{TheLocal, TheValue}
use Rattle.go_body_core.specs.Rules.{local_if, value_at}
use Rattle.go_body_core.specs.env_core.Found.{TheExported, TheFound, exported_face, exported_shown, face_at, found_binding, found_exported, found_face, found_of, found_outside, found_target, found_universe, own_face}
use Rattle.go_body_core.specs.env_core.Looks.{looks_in}
use Rattle.go_body_core.specs.env_core.Scenes.{SceneModel}
use Rattle.go_body_core.specs.env_core.declared.meaning.Meaning.{Meaning as NameMeaning}
use Rattle.go_body_core.specs.env_core.declared.meaning.Meaning.TheVariants as means
use Rattle.go_emit_core.specs.declared_core.Faces.{TheFace}
use Rattle.go_emit_core.specs.declared_core.Packages.{PackageFacesModel, face_by, face_in, face_in_some, package_in, shown_in_some, shown_name}
use Rattle.go_emit_core.specs.declared_core.Written.{position_of}
use Rattle.go_emit_core.specs.declared_core.declared.face.Face.TheVariants as faces
use Rattle.go_meaning_laws.specs.handle_core.Declarations.{Declaration, Universe, OfError, Package, InFile}
use Rattle.go_names_core.specs.declared.meaning.Outside.{Outside}
use Rattle.go_names_core.specs.declared.meaning.Outside.TheVariants as outsides
use Rattle.go_body_core.specs.function.Functions.{AreFuncDeclarations, func_rules}
use Rattle.go_body_core.specs.function.Laws.{FunctionsHaveOneTable}
use Rattle.go_body_core.specs.function.Locals.{LocalsAreDeclarations}
use Rattle.go_body_core.specs.function.Stands.{FileStand, looks_where, outer_meanings}
use Rattle.go_workspace_laws.specs.Standing.{looks_among}
use Rattle.go_workspace_laws.proofs.ConstantLists.{HasItem, from_flat, has}
use Rattle.go_program_laws.specs.checked_sources.Pieces.{ConstantsAreTyped, IsExportedConstant, IsFoundConstant, IsConstantTyped}
use Rattle.go_program_laws.proofs.CheckedSourcesTypes.{types_keep_basics}
use Rattle.go_program_laws.specs.calls.Constants.{AreKept, IsConstantOver, IsExportedOver, IsFoundOver, IsValueOver, NamesAreOver}
use Rattle.go_program_laws.specs.calls.Packages.{IsSomeFaceOver}
use Rattle.go_program_laws.proofs.CallsDenoting.{piece_over}
use Rattle.go_program_laws.proofs.CallsWalked.{walked_good}

pub kept_types : (s : SceneModel) → AreKept (term_rules s.types s.path)
kept_types s = record { basics = types_keep_basics.keep s.types s.path; identity = types_keep_basics.identity s.types s.path; predeclared = types_keep_basics.predeclared s.types s.path }

-- a value among others

pub value_over_at : (rules : TypeRules Term) (vs : List (Option (Operand Term))) → AllByRecursion (IsValueOver rules) vs → (n : ℕ) → IsValueOver rules (value_at vs n)
value_over_at rules [] h n = tt
value_over_at rules (v ∷ vs) h zero = h.0
value_over_at rules (v ∷ vs) h (suc n) = value_over_at rules vs h.1 n

module _ (s : SceneModel) (file : ℕ) (known : List (Option TheFace)) (own : (k : ℕ) → IsSomeFaceOver (term_rules s.types s.path) (slice_index_or known k None))
    (shown : (q : List ℕ) (w : PackageFacesModel) → package_in s.others q ≡ Some w → (d : DeclRef) → IsSomeFaceOver (term_rules s.types s.path) (face_by w d)) where
  abbrev rules : TypeRules Term
  rules = term_rules s.types s.path

  face_found : (d : Declaration) (o : Option TheFace) → IsSomeFaceOver rules o → IsFoundOver rules (found_face d o)
  face_found d None h = tt
  face_found d (Some (faces.«Type» t)) h = tt
  face_found d (Some (faces.Func g)) h = tt
  face_found d (Some (faces.«Value» o)) h = h

  face_exported : (d : Declaration) (o : Option TheFace) → IsSomeFaceOver rules o → IsExportedOver rules (exported_face d o)
  face_exported d None h = tt
  face_exported d (Some (faces.«Type» t)) h = tt
  face_exported d (Some (faces.Func g)) h = tt
  face_exported d (Some (faces.«Value» o)) h = h

  at_over : (o : Option ℕ) → IsSomeFaceOver rules (face_at known o)
  at_over None = tt
  at_over (Some k) = own k

  in_over : (q : List ℕ) (d : DeclRef) (o : Option PackageFacesModel) → package_in s.others q ≡ o → IsSomeFaceOver rules (face_in_some o d)
  in_over q d None e = tt
  in_over q d (Some w) e = shown q w e d

  target_over : (t : Target) → IsFoundOver rules (found_target s t)
  target_over (targets.«Package» path) = tt
  target_over (targets.Refused rule) = tt
  target_over (targets.Exported k) = face_found (InFile k.path (places.Declared k.decl)) (face_in s.others k.path k.decl) (in_over k.path k.decl (package_in s.others k.path) refl)

  binding_over : (b : Option Binding) → IsFoundOver rules (found_binding s b)
  binding_over None = tt
  binding_over (Some b) = target_over b.target

  universe_over : (path : List ℕ) (p : Predeclared) → IsFoundOver rules (found_universe path p)
  universe_over path universe.True = refl
  universe_over path universe.False = refl
  universe_over path universe.Nil = tt
  universe_over path _ = tt

  outside_over : (name : List ℕ) (o : Outside) → IsFoundOver rules (found_outside s file known name o)
  outside_over name (outsides.«Package» d) = face_found (InFile s.path (places.Declared d)) (own_face s known d) (at_over (position_of s.written d))
  outside_over name (outsides.File at) = binding_over (file_binding s.blocks file name)
  outside_over name (outsides.Universe p) = universe_over s.path p

  name_exported : (q : List ℕ) (w : PackageFacesModel) (o : Option (Option DeclRef)) → package_in s.others q ≡ Some w → IsExportedOver rules (exported_shown q (shown_name w o))
  name_exported q w None e = tt
  name_exported q w (Some None) e = tt
  name_exported q w (Some (Some d)) e = face_exported (InFile q (places.Declared d)) (face_by w d) (shown q w e d)

  package_exported : (q name : List ℕ) (o : Option PackageFacesModel) → package_in s.others q ≡ o → IsExportedOver rules (exported_shown q (shown_in_some o name))
  package_exported q name None e = tt
  package_exported q name (Some w) e = name_exported q w (in_block w.names name) e

  exported_over : (d : Declaration) (name : List ℕ) → IsExportedOver rules (found_exported s d name)
  exported_over (Universe p) name = tt
  exported_over OfError name = tt
  exported_over (Package q) name = package_exported q name (package_in s.others q) refl
  exported_over (InFile q place) name = tt

  -- a local is such, or anything else
  abbrev pub IsMeaningOver : NameMeaning → Type 0
  IsMeaningOver (means.Outside o) = Unit {0}
  IsMeaningOver (means.Local at value) = IsValueOver rules value

  meaning_over : (name : List ℕ) (m : Option NameMeaning) → ((x : NameMeaning) → m ≡ Some x → IsMeaningOver x) → IsFoundOver rules (found_of s file known name m)
  meaning_over name None h = tt
  meaning_over name (Some (means.Outside o)) h = outside_over name o
  meaning_over name (Some (means.Local at value)) h = h (means.Local at value) refl

  pub names_over : (written : WrittenRules Term) (look : NameLook NameMeaning) → ((name : List ℕ) (place : ℕ) (x : NameMeaning) → look name place ≡ Some x → IsMeaningOver x) → NamesAreOver Term Sign Declaration (List ℕ) (looks_in s file known written look)
  names_over written look h = record { names = λ name place. meaning_over name (look name place) (λ x e. h name place x e); exported = exported_over }

-- a constant over what its value is is typed

constant_typed : (k : Option Constant) (b : Option Basic) → IsConstantOver k b → (c : Constant) (v : ConstantWord) → k ≡ Some c → held c ≡ Some v → b ≡ Some (basic_of (word_of v))
constant_typed None b h c v e is = absurd (cc e)
constant_typed (Some k) b h c v e is = (let same : k ≡ c = cc e in by c v (subst (λ x. IsConstantOver (Some x) b) same h) is)
  where
    by : (c : Constant) (v : ConstantWord) → IsConstantOver (Some c) b → held c ≡ Some v → b ≡ Some (basic_of (word_of v))
    by (values.Int z) v h is = (let same : held_words.Int z ≡ v = cc is in h ∙ ap (λ x. Some (basic_of (word_of x))) same)
    by (values.Bool t) v h is = (let same : held_words.Bool t ≡ v = cc is in h ∙ ap (λ x. Some (basic_of (word_of x))) same)
    by (values.Text t) v h is = absurd (cc is)
    by values.Unknown v h is = absurd (cc is)

module _ (rules : TypeRules Term) where
  operand_typed : (o : Option (Operand Term)) → IsValueOver rules o → IsConstantTyped rules o
  operand_typed None h = tt
  operand_typed (Some o) h = constant_typed o.constant (basic_under rules o.value_type) h

  found_typed : (f : TheFound) → IsFoundOver rules f → IsFoundConstant rules f
  found_typed (founds.«Value» d o) h = operand_typed o h
  found_typed (founds.«Package» d) h = tt
  found_typed (founds.«Type» d t) h = tt
  found_typed (founds.Func d s) h = tt
  found_typed (founds.Builtin d b) h = tt
  found_typed founds.Missing h = tt
  found_typed founds.BadImport h = tt
  found_typed founds.Outside h = tt

  exported_typed : (x : TheExported) → IsExportedOver rules x → IsExportedConstant rules x
  exported_typed (exporteds.«Value» d o) h = operand_typed o h
  exported_typed (exporteds.«Type» d t) h = tt
  exported_typed (exporteds.Func d s) h = tt
  exported_typed exporteds.Absent h = tt
  exported_typed exporteds.Hidden h = tt

-- a function

module _ (one : FunctionsHaveOneTable) (of_locals : LocalsAreDeclarations) (st : FileStand) (own : (k : ℕ) → IsSomeFaceOver (term_rules st.scene.types st.scene.path) (slice_index_or st.known k None))
    (shown : (q : List ℕ) (w : PackageFacesModel) → package_in st.scene.others q ≡ Some w → (d : DeclRef) → IsSomeFaceOver (term_rules st.scene.types st.scene.path) (face_by w d))
    (outer : (name : List ℕ) (m : NameMeaning) → outer_meanings st name ≡ Some m → IsMeaningOver st.scene st.file.file st.known own shown m)
    (g : FuncTree) (placed : IsFuncPlaced g) (all : List (Local NameMeaning)) (right : AreFuncDeclarations st g all) where
  abbrev Over : NameMeaning → Type 0
  Over m = IsMeaningOver st.scene st.file.file st.known own shown m

  where_over : (look : NameLook NameMeaning) → ((name : List ℕ) (place : ℕ) (x : NameMeaning) → look name place ≡ Some x → Over x) → NamesAreOver Term Sign Declaration (List ℕ) (looks_where st look)
  where_over look h = names_over st.scene st.file.file st.known own shown _ look h

  declared_over : (look : NameLook NameMeaning) → ((name : List ℕ) (place : ℕ) (x : NameMeaning) → look name place ≡ Some x → Over x) → (firsts : List Bool) (p : Piece) (n : ℕ) → Over ((func_rules st g).means look firsts p n)
  declared_over look h firsts p n = value_over_at (term_rules st.scene.types st.scene.path) (piece_values (looks_where st look) firsts p) (piece_over (looks_where st look) (kept_types st.scene) (where_over look h) firsts p) n

  all_over : (d : Local NameMeaning) → HasItem all d → Over d.means
  all_over d h =
      walked_good (func_rules st g) (outer_meanings st) Over outer declared_over (func_steps g) [] [] (func_opens g) (func_closes g) tt tt d
      (subst (λ ds. HasItem ds d) ((one.table st g placed all).0 right) h)

  meant_over : (m : NameMeaning) (b : Bool) (at : ℕ) (value : TheValue) → Over m → HasItem (local_if b m) (record { offset = at; value = value }) → IsValueOver (term_rules st.scene.types st.scene.path) value
  meant_over m false at value h there = absurd there
  meant_over (means.Outside o) true at value h there = absurd there
  meant_over (means.Local k v) true at value h (inl same) = subst (IsValueOver (term_rules st.scene.types st.scene.path)) (ap (λ (l : TheLocal). l.value) same) h
  meant_over (means.Local k v) true at value h (inr none) = absurd none

  bound_over : (name : List ℕ) (place : ℕ) (x : NameMeaning) → bound (outer_meanings st) all name place ≡ Some x → Over x
  bound_over name place (means.Outside o) e = tt
  bound_over name place (means.Local at value) e =
      let l : TheLocal = record { offset = at; value = value } in
      let there = of_locals.denoted st g placed all right name place at value e in
      let one_of = from_flat (λ (d : Local NameMeaning). local_if (not (is_second all d.opens d.name d.at)) d.means) all l (subst (λ ls. HasItem ls l) (of_locals.declared st g placed all right) (has _ l there)) in
      meant_over one_of.item.means (not (is_second all one_of.item.opens one_of.item.name one_of.item.at)) at value (all_over one_of.item one_of.there) one_of.here

  pub function_typed : ConstantsAreTyped Term Sign Declaration (List ℕ) (looks_among st all)
  function_typed =
      let names = where_over (bound (outer_meanings st) all) bound_over in
      record {
        names = λ name place. found_typed (term_rules st.scene.types st.scene.path) ((looks_among st all).find name place) (names.names name place);
        exported = λ d name. exported_typed (term_rules st.scene.types st.scene.path) ((looks_among st all).exported d name) (names.exported d name);
      }
