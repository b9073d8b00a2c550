-- What names of a function stand for is over what they come to in code.
use Rattle.std.proofs.Common.{◌≡◌, ℕ, nat_eq, Bool, ◌&&◌, List, Option, Some, None, refl, sym, ap, ◌∙◌, subst, if◌then◌else◌}
use Rattle.std.specs.List.{AllByRecursion}
use Rattle.std.specs.Map.{lookup}
use Rattle.std.proofs.lemmas.Bool.{eq-eqb}
use Rattle.go_body_core.specs.table_core.Finding.{bytes_same}
use Rattle.go_universe_core.specs.declared.Predeclared.{Predeclared}
use Rattle.go_universe_core.specs.declared.Predeclared.TheVariants as universe
use Rattle.go_tree_nodes.specs.Trees.{FileTree, FuncTree}
use Rattle.go_names_core.specs.local_core.Binding.{Local, bound}
use Rattle.go_names_core.specs.local_core.Tables.{IsFuncPlaced}
use Rattle.go_term_core.specs.Terms.{Term, Sign}
use Rattle.go_term_core.specs.declared.term.Basic.TheVariants as basics
use Rattle.go_term_core.specs.declared.term.MemberPlace.TheVariants as places
use Rattle.go_constant_core.specs.declared.values.Constant.{Constant}
use Rattle.go_report_core.specs.operand_core.declared.types.ValueType.{ValueType}
use Rattle.go_report_core.specs.operand_core.declared.types.ValueType.TheVariants as types
use Rattle.go_report_core.specs.operand_core.declared.types.Operand.{Operand}
use Rattle.go_report_core.specs.operand_core.declared.types.TypeForm.{TypeForm}
use Rattle.go_report_core.specs.operand_core.declared.types.TypeForm.TheVariants as forms
use Rattle.go_report_core.specs.operand_core.TypeRules.{TypeRules}
use Rattle.go_report_core.specs.operand_core.Values.{form_basic, basic_under}
use Rattle.go_meaning_laws.specs.handle_core.DecidingRules.{form_of, term_rules}
use Rattle.go_body_core.specs.table_core.Entries.{Entry, find_entry}
use Rattle.go_report_core.specs.denote_core.declared.things.Found.TheVariants as founds
use Rattle.go_report_core.specs.denote_core.declared.things.Exported.TheVariants as exporteds
use Rattle.go_report_core.specs.denote_core.declared.things.Outcome.{Outcome}
use Rattle.go_report_core.specs.denote_core.declared.things.Outcome.TheVariants as outcomes
use Rattle.go_object_core.specs.declared.instructions.letters.Word.{Word}
use Rattle.go_object_core.specs.declared.instructions.letters.Word.TheVariants as words
use Rattle.go_code_core.specs.declared.fragments.names.ConstantWord.{ConstantWord}
use Rattle.go_code_core.specs.declared.fragments.names.Meaning.{Meaning}
use Rattle.go_code_core.specs.declared.fragments.names.Meaning.TheVariants as meanings
use Rattle.go_code_core.specs.fragments.Constants.{held}
use Rattle.go_code_core.specs.fragments.Names.{word_of}
use Rattle.go_workspace_laws.specs.folding.Reading.{IsExportedMeant, IsFoundMeant, IsOperandMeant, IsVariableMeant, AreRead, basic_of, held_meaning}
use Rattle.go_workspace_laws.specs.folding.Typed.{AreTyped, IsFoundTyped, IsExportedTyped, IsOperandTyped}
use Rattle.go_body_core.specs.Notes.{TheLocal, TheValue}
use Rattle.go_body_core.specs.env_core.Found.{TheExported, TheFound, exported_face, exported_shown, found_binding, found_exported, found_face, found_of, found_outside, found_target, found_universe, own_face}
use Rattle.go_body_core.specs.env_core.Looks.{TheLooks}
use Rattle.go_body_core.specs.env_core.Scenes.{SceneModel}
use Rattle.go_body_core.specs.env_core.declared.meaning.Meaning.{Meaning as NameMeaning}
use Rattle.go_body_core.specs.env_core.declared.meaning.Meaning.TheVariants as means
use Rattle.go_names_core.specs.block_core.Blocks.{file_binding}
use Rattle.go_names_core.specs.block_core.declared.binding.Binding.{Binding}
use Rattle.go_names_core.specs.block_core.declared.binding.Target.{Target}
use Rattle.go_names_core.specs.block_core.declared.binding.Target.TheVariants as targets
use Rattle.go_emit_core.specs.declared_core.Faces.{TheFace}
use Rattle.go_emit_core.specs.declared_core.Packages.{exported_in, face_in}
use Rattle.go_emit_core.specs.declared_core.declared.face.Face.TheVariants as faces
use Rattle.go_emit_core.specs.declared_core.declared.shown.ShownFace.{ShownFace}
use Rattle.go_emit_core.specs.declared_core.declared.shown.ShownFace.TheVariants as shown_faces
use Rattle.go_meaning_laws.specs.handle_core.Declarations.{Declaration, Universe, OfError, Package, InFile}
use Rattle.go_names_core.specs.declared.meaning.Outside.{Outside}
use Rattle.go_names_core.specs.declared.meaning.Outside.TheVariants as outsides
use Rattle.go_body_core.specs.function.Functions.{AreFuncDeclarations, checked_func}
use Rattle.go_body_core.specs.function.Locals.{LocalsAreDeclarations}
use Rattle.go_body_core.specs.function.Stands.{FileStand, outer_meanings}
use Rattle.go_body_core.specs.file.Files.{decl_locals}
use Rattle.go_body_core.specs.file.Stands.{file_funcs}
use Rattle.go_report_core.specs.summary_core.Views.{types_told}
use Rattle.go_emit_core.specs.package_core.PackagePartInputs.{InputModel, path_in}
use Rattle.go_emit_core.specs.package_core.PackagePartParts.{ContentOf, FileOf}
use Rattle.go_emit_core.specs.Emitted.{code_scene_over, told_to}
use Rattle.go_emit_core.specs.meaning.Looking.{locals_meant}
use Rattle.go_emit_core.specs.meaning.Meanings.{constant_meaning_or, local_meaning, variable_meaning}
use Rattle.go_emit_core.specs.meaning.Scenes.{CodeScene, outcome_meaning}
use Rattle.go_emit_core.specs.meaning.Words.{form_word, value_word}
use Rattle.go_emit_core.specs.lookup.Looking.{meaning_or_other}
use Rattle.go_workspace_laws.specs.Calling.{without_method}
use Rattle.go_workspace_laws.specs.Standing.{looks_among, stand_in_part}
use Rattle.go_workspace_laws.proofs.Clean.{IsCleanFile}
use Rattle.go_workspace_laws.proofs.ConstantLists.{HasItem, Rising, found_at, has}
use Rattle.go_workspace_laws.proofs.Pieces.{file_has}
use Rattle.go_program_laws.specs.checked_sources.Pieces.{IsFoundConstant, IsExportedConstant, ConstantsAreTyped, meaning_in}
use Rattle.go_program_laws.proofs.CheckedSourcesVariables.{Never, declared_never, own_never, universe_never}

-- words

form_over : (f : TypeForm Term) (w : Word) → form_word f ≡ Some w → form_basic f ≡ Some (basic_of w)
form_over (forms.Basic basics.Int) words.Int e = refl
form_over (forms.Basic basics.Int) words.Bool e = absurd (cc e)
form_over (forms.Basic basics.Bool) words.Int e = absurd (cc e)
form_over (forms.Basic basics.Bool) words.Bool e = refl
form_over (forms.Basic basics.Text) w e = absurd (cc e)
form_over forms.Nothing w e = absurd (cc e)
form_over (forms.Pointer t) w e = absurd (cc e)
form_over forms.Struct w e = absurd (cc e)
form_over forms.Interface w e = absurd (cc e)

kind_over : (u w : Word) → Some u ≡ Some w → Some (basic_of u) ≡ Some (basic_of w)
kind_over u w e = (let same : u ≡ w = cc e in ap (λ x. Some (basic_of x)) same)

value_over : (es : List Entry) (path : List ℕ) (v : ValueType Term) (w : Word) → value_word es v ≡ Some w → basic_under (term_rules es path) v ≡ Some (basic_of w)
value_over es path (types.Typed t) w e = form_over (form_of (find_entry es) t) w e
value_over es path types.UntypedInt w e = kind_over words.Int w e
value_over es path types.UntypedBool w e = kind_over words.Bool w e
value_over es path types.UntypedText w e = absurd (cc e)
value_over es path types.Nil w e = absurd (cc e)

word_is : (at : ℕ) (u : Option Word) (b : ℕ) (w : Word) → variable_meaning at u ≡ meanings.Variable b w → u ≡ Some w
word_is at None b w e = absurd (cc e)
word_is at (Some u) b w e = (let same : u ≡ w = cc e in ap Some same)

-- names without methods come to a variable only where they do

no_method : (m : Meaning) (at : ℕ) (w : Word) → without_method m ≡ meanings.Variable at w → m ≡ meanings.Variable at w
no_method (meanings.Method g) at w e = absurd (cc e)
no_method (meanings.Variable k u) at w e = e
no_method (meanings.Constant v) at w e = absurd (cc e)
no_method (meanings.Function g) at w e = absurd (cc e)
no_method (meanings.«Type» u) at w e = absurd (cc e)
no_method meanings.Println at w e = absurd (cc e)
no_method meanings.Panic at w e = absurd (cc e)
no_method meanings.Other at w e = absurd (cc e)

module _ {T : Type 0} (rules : TypeRules T) (t : ValueType T) where
  held_typed : (m : Meaning) (o : Option ConstantWord) → m ≡ held_meaning o → ((v : ConstantWord) → o ≡ Some v → basic_under rules t ≡ Some (basic_of (word_of v))) → IsOperandTyped rules t m
  held_typed m None is h = subst (λ x. IsOperandTyped rules t x) (sym is) tt
  held_typed m (Some v) is h = subst (λ x. IsOperandTyped rules t x) (sym is) (h v refl)

  variable_typed : (m : Meaning) → IsVariableMeant m → ((at : ℕ) (w : Word) → m ≡ meanings.Variable at w → basic_under rules t ≡ Some (basic_of w)) → IsOperandTyped rules t m
  variable_typed (meanings.Variable at w) meant h = h at w refl
  variable_typed meanings.Other meant h = tt
  variable_typed (meanings.Constant v) meant h = absurd meant
  variable_typed (meanings.Function g) meant h = absurd meant
  variable_typed (meanings.Method g) meant h = absurd meant
  variable_typed (meanings.«Type» w) meant h = absurd meant
  variable_typed meanings.Println meant h = absurd meant
  variable_typed meanings.Panic meant h = absurd meant

  operand_typed : (k : Option Constant) (m : Meaning) → IsOperandMeant k m → ((c : Constant) (v : ConstantWord) → k ≡ Some c → held c ≡ Some v → basic_under rules t ≡ Some (basic_of (word_of v)))
      → (k ≡ None → (at : ℕ) (w : Word) → m ≡ meanings.Variable at w → basic_under rules t ≡ Some (basic_of w)) → IsOperandTyped rules t m
  operand_typed None m meant constant variable = variable_typed m meant (variable refl)
  operand_typed (Some c) m meant constant variable = held_typed m (held c) meant (λ v e. constant c v refl e)

-- declarations outside functions are no locals

abbrev IsOuter : Declaration → Type 0
IsOuter (InFile path (places.Local l)) = ⊥
IsOuter (InFile path (places.Declared d)) = Unit {0}
IsOuter (Universe p) = Unit {0}
IsOuter OfError = Unit {0}
IsOuter (Package path) = Unit {0}

outer_never : (s : CodeScene) → AllByRecursion (λ x. Never x.1) s.own → (n : ℕ) (locals : List (ℕ × Meaning)) (d : Declaration) → IsOuter d → Never (outcome_meaning s n locals (outcomes.Declared d))
outer_never s own n locals (InFile path (places.Local l)) outer at w e = absurd outer
outer_never s own n locals (InFile path (places.Declared d)) outer at w e = declared_never s own path d at w e
outer_never s own n locals (Universe p) outer at w e = universe_never p at w e
outer_never s own n locals OfError outer at w e = cc e
outer_never s own n locals (Package path) outer at w e = cc e

abbrev ValueIsOuter : TheFound → Type 0
ValueIsOuter (founds.«Value» d o) = IsOuter d
ValueIsOuter (founds.«Package» d) = Unit {0}
ValueIsOuter (founds.«Type» d t) = Unit {0}
ValueIsOuter (founds.Func d s) = Unit {0}
ValueIsOuter (founds.Builtin d b) = Unit {0}
ValueIsOuter founds.Missing = Unit {0}
ValueIsOuter founds.BadImport = Unit {0}
ValueIsOuter founds.Outside = Unit {0}

face_outer : (d : Declaration) (o : Option TheFace) → IsOuter d → ValueIsOuter (found_face d o)
face_outer d None outer = outer
face_outer d (Some (faces.«Type» t)) outer = tt
face_outer d (Some (faces.Func g)) outer = tt
face_outer d (Some (faces.«Value» o)) outer = outer

target_outer : (s : SceneModel) (t : Target) → ValueIsOuter (found_target s t)
target_outer s (targets.«Package» path) = tt
target_outer s (targets.Refused rule) = tt
target_outer s (targets.Exported k) = face_outer (InFile k.path (places.Declared k.decl)) (face_in s.others k.path k.decl) tt

binding_outer : (s : SceneModel) (b : Option Binding) → ValueIsOuter (found_binding s b)
binding_outer s None = tt
binding_outer s (Some b) = target_outer s b.target

universe_outer : (path : List ℕ) (p : Predeclared) → ValueIsOuter (found_universe path p)
universe_outer path universe.True = tt
universe_outer path universe.False = tt
universe_outer path universe.Nil = tt
universe_outer path _ = tt

outside_outer : (s : SceneModel) (file : ℕ) (known : List (Option TheFace)) (name : List ℕ) (o : Outside) → ValueIsOuter (found_outside s file known name o)
outside_outer s file known name (outsides.«Package» d) = face_outer (InFile s.path (places.Declared d)) (own_face s known d) tt
outside_outer s file known name (outsides.File at) = binding_outer s (file_binding s.blocks file name)
outside_outer s file known name (outsides.Universe p) = universe_outer s.path p

abbrev ExportIsOuter : TheExported → Type 0
ExportIsOuter (exporteds.«Value» d o) = IsOuter d
ExportIsOuter (exporteds.«Type» d t) = Unit {0}
ExportIsOuter (exporteds.Func d s) = Unit {0}
ExportIsOuter exporteds.Absent = Unit {0}
ExportIsOuter exporteds.Hidden = Unit {0}

shown_outer : (d : Declaration) (o : Option TheFace) → IsOuter d → ExportIsOuter (exported_face d o)
shown_outer d None outer = outer
shown_outer d (Some (faces.«Type» t)) outer = tt
shown_outer d (Some (faces.Func g)) outer = tt
shown_outer d (Some (faces.«Value» o)) outer = outer

export_outer : (path : List ℕ) (f : ShownFace) → ExportIsOuter (exported_shown path f)
export_outer path shown_faces.Absent = tt
export_outer path shown_faces.Hidden = tt
export_outer path (shown_faces.Shown d face) = shown_outer (InFile path (places.Declared d)) face tt

exported_outer : (s : SceneModel) (d : Declaration) (name : List ℕ) → ExportIsOuter (found_exported s d name)
exported_outer s (Universe p) name = tt
exported_outer s OfError name = tt
exported_outer s (Package path) name = export_outer path (exported_in s.others path name)
exported_outer s (InFile path place) name = tt

-- a function of a file

module _ (of_locals : LocalsAreDeclarations) (i : InputModel) (c : ContentOf) (n : ℕ) (t : FileTree) (f : FileOf) (clean : IsCleanFile i c n t f) (rises : Rising (λ (l : TheLocal). l.offset) (λ (l : TheLocal). local_meaning (types_told (told_to i c)) l.offset l.value) f.answers.locals)
    (g : FuncTree) (there : HasItem (file_funcs t) g) (placed : IsFuncPlaced g) (all : List (Local NameMeaning)) (right : AreFuncDeclarations (stand_in_part i c n t) g all) (read : AreRead Term Sign Declaration (List ℕ) (looks_among (stand_in_part i c n t) all) (meaning_in i c n f))
    (constants : ConstantsAreTyped Term Sign Declaration (List ℕ) (looks_among (stand_in_part i c n t) all)) where
  abbrev es : List Entry
  es = types_told (told_to i c)

  abbrev own : List ℕ
  own = path_in i

  abbrev scene : CodeScene
  scene = code_scene_over (told_to i c) i c

  abbrev st : FileStand
  st = stand_in_part i c n t

  abbrev looks : TheLooks
  looks = looks_among st all

  abbrev mean : Outcome Declaration (List ℕ) → Meaning
  mean o = outcome_meaning scene n (locals_meant es f.answers.locals) o

  scene_never : AllByRecursion (λ x. Never x.1) scene.own
  scene_never = own_never es own _ c.declared

  local_is : (at : ℕ) (value : TheValue) → HasItem f.answers.locals (record { offset = at; value = value }) → mean (outcomes.Declared (InFile own (places.Local (record { file = n; offset = at })))) ≡ local_meaning es at value
  local_is at value h =
      let locals = locals_meant es f.answers.locals in
      ap (λ (b : Bool). if b && nat_eq n n then meaning_or_other (lookup (nat_eq at) locals) else meanings.Other) (bytes_same own own refl)
      ∙ (ap (λ (b : Bool). if b then meaning_or_other (lookup (nat_eq at) locals) else meanings.Other) (eq-eqb n n refl)
      ∙ ap meaning_or_other (found_at (λ (l : TheLocal). l.offset) (λ (l : TheLocal). local_meaning es l.offset l.value) f.answers.locals (record { offset = at; value = value }) rises h))

  local_there : (name : List ℕ) (place at : ℕ) (value : TheValue) → bound (outer_meanings st) all name place ≡ Some (means.Local at value) → HasItem f.answers.locals (record { offset = at; value = value })
  local_there name place at value e =
      let l : TheLocal = record { offset = at; value = value } in
      subst (λ (ls : List TheLocal). HasItem ls l) (sym clean.locals)
      (file_has (decl_locals st) t g there l (has (checked_func st g).locals l (of_locals.denoted st g placed all right name place at value e)))

  -- what a name stands for is over the word of the variable that it comes to

  abbrev VariableIsTyped : TheFound → Type 0
  VariableIsTyped (founds.«Value» d None) = Unit {0}
  VariableIsTyped (founds.«Value» d (Some o)) = o.constant ≡ None → (at : ℕ) (w : Word) → mean (outcomes.Declared d) ≡ meanings.Variable at w → basic_under looks.types o.value_type ≡ Some (basic_of w)
  VariableIsTyped (founds.«Package» d) = Unit {0}
  VariableIsTyped (founds.«Type» d t) = Unit {0}
  VariableIsTyped (founds.Func d s) = Unit {0}
  VariableIsTyped (founds.Builtin d b) = Unit {0}
  VariableIsTyped founds.Missing = Unit {0}
  VariableIsTyped founds.BadImport = Unit {0}
  VariableIsTyped founds.Outside = Unit {0}

  outer_typed : (f : TheFound) → ValueIsOuter f → VariableIsTyped f
  outer_typed (founds.«Value» d None) outer = tt
  outer_typed (founds.«Value» d (Some o)) outer = λ none at w e. absurd (outer_never scene scene_never n (locals_meant es f.answers.locals) d outer at w e)
  outer_typed (founds.«Package» d) outer = tt
  outer_typed (founds.«Type» d t) outer = tt
  outer_typed (founds.Func d s) outer = tt
  outer_typed (founds.Builtin d b) outer = tt
  outer_typed founds.Missing outer = tt
  outer_typed founds.BadImport outer = tt
  outer_typed founds.Outside outer = tt

  variable_over : (at : ℕ) (o : Operand Term) (b : ℕ) (w : Word) → o.constant ≡ None → local_meaning es at (Some o) ≡ meanings.Variable b w → basic_under looks.types o.value_type ≡ Some (basic_of w)
  variable_over at o b w none e =
      value_over es own o.value_type w (word_is at (value_word es o.value_type) b w (sym (ap (λ k. constant_meaning_or k (variable_meaning at (value_word es o.value_type))) none) ∙ e))

  local_typed : (at : ℕ) (value : TheValue) → HasItem f.answers.locals (record { offset = at; value = value }) → VariableIsTyped (founds.«Value» (InFile own (places.Local (record { file = n; offset = at }))) value)
  local_typed at None h = tt
  local_typed at (Some o) h = λ none b w e. variable_over at o b w none (sym (local_is at (Some o) h) ∙ e)

  name_typed : (name : List ℕ) (place : ℕ) (m : Option NameMeaning) → bound (outer_meanings st) all name place ≡ m → VariableIsTyped (found_of st.scene n c.declared name m)
  name_typed name place None e = tt
  name_typed name place (Some (means.Outside o)) e = outer_typed (found_outside st.scene n c.declared name o) (outside_outer st.scene n c.declared name o)
  name_typed name place (Some (means.Local at value)) e = local_typed at value (local_there name place at value e)

  found_typed : (x : TheFound) → IsFoundMeant looks (meaning_in i c n f) x → IsFoundConstant looks.types x → VariableIsTyped x → IsFoundTyped looks (meaning_in i c n f) x
  found_typed (founds.«Value» d None) meant constant variable = tt
  found_typed (founds.«Value» d (Some o)) meant constant variable =
      operand_typed looks.types o.value_type o.constant (meaning_in i c n f (outcomes.Declared d)) meant constant
      (λ none at w e. variable none at w (no_method (mean (outcomes.Declared d)) at w e))
  found_typed (founds.«Package» d) meant constant variable = tt
  found_typed (founds.«Type» d t) meant constant variable = tt
  found_typed (founds.Func d s) meant constant variable = tt
  found_typed (founds.Builtin d b) meant constant variable = tt
  found_typed founds.Missing meant constant variable = tt
  found_typed founds.BadImport meant constant variable = tt
  found_typed founds.Outside meant constant variable = tt

  export_typed : (x : TheExported) → IsExportedMeant looks (meaning_in i c n f) x → IsExportedConstant looks.types x → ExportIsOuter x → IsExportedTyped looks (meaning_in i c n f) x
  export_typed (exporteds.«Value» d None) meant constant outer = tt
  export_typed (exporteds.«Value» d (Some o)) meant constant outer =
      operand_typed looks.types o.value_type o.constant (meaning_in i c n f (outcomes.Declared d)) meant constant
      (λ none at w e. absurd (outer_never scene scene_never n (locals_meant es f.answers.locals) d outer at w (no_method (mean (outcomes.Declared d)) at w e)))
  export_typed (exporteds.«Type» d t) meant constant outer = tt
  export_typed (exporteds.Func d s) meant constant outer = tt
  export_typed exporteds.Absent meant constant outer = tt
  export_typed exporteds.Hidden meant constant outer = tt

  pub are_typed : AreTyped Term Sign Declaration (List ℕ) looks (meaning_in i c n f)
  are_typed = record {
    names = λ name place. found_typed (looks.find name place) (read.names name place) (constants.names name place) (name_typed name place (bound (outer_meanings st) all name place) refl);
    exported = λ d name. export_typed (looks.exported d name) (read.exported d name) (constants.exported d name) (exported_outer st.scene d name);
  }
