-- A name that comes to a variable in code is bound to a local of the function.
use Rattle.std.proofs.Common.{◌≡◌, ℕ, nat_eq, Bool, true, false, ◌&&◌, List, Option, Some, None, Contains, refl, sym, ap, ◌∙◌, subst, if◌then◌else◌}
use Rattle.std.specs.List.{AllByRecursion}
use Rattle.std.specs.Map.{lookup}
use Rattle.std.proofs.lemmas.Bool.{eq-eqb}
use Rattle.go_constant_core.specs.text_core.Text.{is_blank}
use Rattle.go_constant_core.specs.text_core.declared.rule.Rule.TheVariants.{N8}
use Rattle.go_universe_core.specs.declared.Predeclared.{Predeclared}
use Rattle.go_universe_core.specs.declared.Predeclared.TheVariants as universe
use Rattle.go_tree_nodes.specs.declared.names.Ident.{Ident}
use Rattle.go_tree_nodes.specs.Trees.{ExprTree, FileTree, FuncTree, Named}
use Rattle.go_names_core.specs.local_core.Binding.{Local, bound}
use Rattle.go_names_core.specs.local_core.Steps.{Piece}
use Rattle.go_names_core.specs.block_core.Blocks.{file_binding}
use Rattle.go_names_core.specs.block_core.declared.binding.Binding.{Binding}
use Rattle.go_names_core.specs.block_core.declared.binding.Target.{Target}
use Rattle.go_names_core.specs.block_core.declared.binding.Target.TheVariants as targets
use Rattle.go_names_core.specs.declared.meaning.Outside.{Outside}
use Rattle.go_names_core.specs.declared.meaning.Outside.TheVariants as outsides
use Rattle.go_constant_core.specs.declared.values.Constant.{Constant}
use Rattle.go_constant_core.specs.declared.values.Constant.TheVariants as values
use Rattle.go_term_core.specs.declared.term.MemberPlace.TheVariants as places
use Rattle.go_term_core.specs.Terms.{Term, Sign}
use Rattle.go_body_core.specs.table_core.Entries.{Entry}
use Rattle.go_body_core.specs.table_core.Finding.{bytes_same}
use Rattle.go_report_core.specs.denote_core.declared.things.Found.TheVariants as founds
use Rattle.go_report_core.specs.denote_core.declared.things.Outcome.{Outcome}
use Rattle.go_report_core.specs.denote_core.declared.things.Outcome.TheVariants as outcomes
use Rattle.go_report_core.specs.denote_core.declared.things.Stand.{Stand}
use Rattle.go_report_core.specs.denote_core.declared.things.Stand.TheVariants as stands
use Rattle.go_report_core.specs.denote_core.Answers.{found_answer, refused}
use Rattle.go_meaning_laws.specs.handle_core.Declarations.{Declaration, Universe, OfError, Package, InFile}
use Rattle.go_emit_core.specs.declared_core.declared.face.Face.TheVariants as faces
use Rattle.go_emit_core.specs.declared_core.Faces.{TheFace}
use Rattle.go_emit_core.specs.declared_core.Packages.{face_in}
use Rattle.go_body_core.specs.env_core.declared.meaning.Meaning.{Meaning as NameMeaning}
use Rattle.go_body_core.specs.env_core.declared.meaning.Meaning.TheVariants as means
use Rattle.go_body_core.specs.env_core.Found.{TheFound, found_binding, found_face, found_of, found_outside, found_target, found_universe, own_face}
use Rattle.go_body_core.specs.env_core.Looks.{TheLooks}
use Rattle.go_body_core.specs.env_core.Scenes.{SceneModel}
use Rattle.go_body_core.specs.Notes.{TheLocal, TheValue}
use Rattle.go_body_core.specs.function.Functions.{checked_func}
use Rattle.go_body_core.specs.function.Stands.{FileStand, outer_meanings}
use Rattle.go_body_core.specs.file.Files.{decl_locals}
use Rattle.go_emit_core.specs.package_core.PackagePartInputs.{InputModel, path_in}
use Rattle.go_emit_core.specs.package_core.PackagePartParts.{ContentOf, FileOf}
use Rattle.go_object_core.specs.declared.instructions.letters.Word.{Word}
use Rattle.go_code_core.specs.declared.fragments.names.Meaning.{Meaning}
use Rattle.go_code_core.specs.declared.fragments.names.Meaning.TheVariants as meanings
use Rattle.go_code_core.specs.fragments.Names.{CodeLooks}
use Rattle.go_emit_core.specs.meaning.Looking.{locals_meant}
use Rattle.go_emit_core.specs.meaning.Meanings.{constant_meaning, constant_meaning_or, local_meaning, variable_meaning}
use Rattle.go_emit_core.specs.meaning.Scenes.{CodeScene, outcome_meaning}
use Rattle.go_emit_core.specs.meaning.Words.{value_word}
use Rattle.go_emit_core.specs.lookup.Looking.{meaning_or_other}
use Rattle.go_emit_core.specs.Emitted.{code_scene_over, told_to}
use Rattle.go_workspace_laws.specs.folding.Laws.{HasDeclaration}
use Rattle.go_workspace_laws.specs.folding.Parts.{parts}
use Rattle.go_workspace_laws.specs.folding.Reading.{IsBuiltinMeant, IsFoundMeant, IsFunctionMeant, IsTypeMeant}
use Rattle.go_workspace_laws.proofs.FoldingInside.{fine, fine_inside}
use Rattle.go_workspace_laws.specs.ConstantLaws.{code_names_of}
use Rattle.go_workspace_laws.specs.Standing.{looks_among, piece_exprs, pieces_of, stand_in_part}
use Rattle.go_workspace_laws.proofs.Agree.{are_meant, none_broken}
use Rattle.go_workspace_laws.proofs.ConstantLists.{HasItem, found_at, has}
use Rattle.go_workspace_laws.proofs.Pieces.{file_has}
use Rattle.go_program_laws.proofs.CheckedSourcesVariables.{Never, declared_never, own_never, universe_never}
use Rattle.go_program_laws.specs.types.Functions.{IsFunction, known_types, meaning_there}
use Rattle.go_program_laws.proofs.TypesReady.{AreGiven, file, g_there, placed, read, rises}

-- a variable is no constant
abbrev pub IsVariableValue : TheValue → Type 0
IsVariableValue None = ⊥
IsVariableValue (Some o) = o.constant ≡ None

-- a name means a variable that is declared at an offset
abbrev pub IsVariable : NameMeaning → ℕ → Type 0
IsVariable m at = (value : TheValue) × (m ≡ means.Local at value) × IsVariableValue value

constant_never : (c : Constant) → Never (constant_meaning c)
constant_never (values.Int z) at w e = cc e
constant_never (values.Bool b) at w e = cc e
constant_never (values.Text t) at w e = cc e
constant_never values.Unknown at w e = cc e

variable_at : (k : ℕ) (o : Option Word) (at : ℕ) (w : Word) → variable_meaning k o ≡ meanings.Variable at w → k ≡ at
variable_at k None at w e = absurd (cc e)
variable_at k (Some u) at w e = cc e

operand_at : (k : ℕ) (c : Option Constant) (o : Option Word) (at : ℕ) (w : Word) → constant_meaning_or c (variable_meaning k o) ≡ meanings.Variable at w → (k ≡ at) × (c ≡ None)
operand_at k None o at w e = (variable_at k o at w e, refl)
operand_at k (Some c) o at w e = absurd (constant_never c at w e)

local_at_variable : (es : List Entry) (k : ℕ) (v : TheValue) (at : ℕ) (w : Word) → local_meaning es k v ≡ meanings.Variable at w → (k ≡ at) × IsVariableValue v
local_at_variable es k None at w e = absurd (cc e)
local_at_variable es k (Some o) at w e = operand_at k o.constant (value_word es o.value_type) at w e

-- declarations outside functions

abbrev IsOuter : Declaration → Type 0
IsOuter (InFile path (places.Local l)) = ⊥
IsOuter (InFile path (places.Declared d)) = Unit {0}
IsOuter (Universe p) = Unit {0}
IsOuter OfError = Unit {0}
IsOuter (Package path) = Unit {0}

outer_never : (s : CodeScene) → AllByRecursion (λ x. Never x.1) s.own → (n : ℕ) (locals : List (ℕ × Meaning)) (d : Declaration) → IsOuter d → Never (outcome_meaning s n locals (outcomes.Declared d))
outer_never s own n locals (InFile path (places.Local l)) outer at w e = absurd outer
outer_never s own n locals (InFile path (places.Declared d)) outer at w e = declared_never s own path d at w e
outer_never s own n locals (Universe p) outer at w e = universe_never p at w e
outer_never s own n locals OfError outer at w e = cc e
outer_never s own n locals (Package path) outer at w e = cc e

abbrev ValueIsOuter : TheFound → Type 0
ValueIsOuter (founds.«Value» d o) = IsOuter d
ValueIsOuter (founds.«Package» d) = Unit {0}
ValueIsOuter (founds.«Type» d t) = Unit {0}
ValueIsOuter (founds.Func d s) = Unit {0}
ValueIsOuter (founds.Builtin d b) = Unit {0}
ValueIsOuter founds.Missing = Unit {0}
ValueIsOuter founds.BadImport = Unit {0}
ValueIsOuter founds.Outside = Unit {0}

face_outer : (d : Declaration) (o : Option TheFace) → IsOuter d → ValueIsOuter (found_face d o)
face_outer d None outer = outer
face_outer d (Some (faces.«Type» t)) outer = tt
face_outer d (Some (faces.Func g)) outer = tt
face_outer d (Some (faces.«Value» o)) outer = outer

target_outer : (s : SceneModel) (t : Target) → ValueIsOuter (found_target s t)
target_outer s (targets.«Package» path) = tt
target_outer s (targets.Refused rule) = tt
target_outer s (targets.Exported k) = face_outer (InFile k.path (places.Declared k.decl)) (face_in s.others k.path k.decl) tt

binding_outer : (s : SceneModel) (b : Option Binding) → ValueIsOuter (found_binding s b)
binding_outer s None = tt
binding_outer s (Some b) = target_outer s b.target

universe_outer : (path : List ℕ) (p : Predeclared) → ValueIsOuter (found_universe path p)
universe_outer path universe.True = tt
universe_outer path universe.False = tt
universe_outer path universe.Nil = tt
universe_outer path _ = tt

outside_outer : (s : SceneModel) (n : ℕ) (known : List (Option TheFace)) (name : List ℕ) (o : Outside) → ValueIsOuter (found_outside s n known name o)
outside_outer s n known name (outsides.«Package» d) = face_outer (InFile s.path (places.Declared d)) (own_face s known d) tt
outside_outer s n known name (outsides.File at) = binding_outer s (file_binding s.blocks n name)
outside_outer s n known name (outsides.Universe p) = universe_outer s.path p

-- what is no value comes to no variable

type_never : {A : Type 0} (looks : TheLooks) (t : Option Term) (m : Meaning) (at : ℕ) (w : Word) → IsTypeMeant looks.types t m → m ≡ meanings.Variable at w → A
type_never looks t m at w meant e = absurd (subst (λ x. IsTypeMeant looks.types t x) e meant)

function_never : {A : Type 0} (looks : TheLooks) (rs : List (Option Term)) (m : Meaning) (at : ℕ) (w : Word) → IsFunctionMeant looks.types rs m → m ≡ meanings.Variable at w → A
function_never looks rs m at w meant e = absurd (subst (λ x. IsFunctionMeant looks.types rs x) e meant)

builtin_never : {A : Type 0} (m : Meaning) (at : ℕ) (w : Word) → IsBuiltinMeant m → m ≡ meanings.Variable at w → A
builtin_never m at w meant e = absurd (subst IsBuiltinMeant e meant)

package_never : {A : Type 0} (m : Meaning) (at : ℕ) (w : Word) → m ≡ meanings.Other → m ≡ meanings.Variable at w → A
package_never m at w meant e = absurd (let lie : meanings.Other ≡ meanings.Variable at w = sym meant ∙ e in cc lie)

module _ (laws : AreGiven) (i : InputModel) (c : ContentOf) (n : ℕ) (t : FileTree) (f : FileOf) (g : FuncTree) (all : List (Local NameMeaning)) (h : IsFunction i c n t f g all) where
  abbrev es : List Entry
  es = known_types i c

  abbrev own : List ℕ
  own = path_in i

  abbrev scene : CodeScene
  scene = code_scene_over (told_to i c) i c

  abbrev st : FileStand
  st = stand_in_part i c n t

  abbrev looks : TheLooks
  looks = looks_among st all

  abbrev code : CodeLooks
  code = code_names_of i c n f g

  abbrev mean : Outcome Declaration (List ℕ) → Meaning
  mean = meaning_there i c n f

  local_is : (at : ℕ) (value : TheValue) → HasItem f.answers.locals (record { offset = at; value = value }) → mean (outcomes.Declared (InFile own (places.Local (record { file = n; offset = at })))) ≡ local_meaning es at value
  local_is at value there =
      let locals = locals_meant es f.answers.locals in
      ap (λ (b : Bool). if b && nat_eq n n then meaning_or_other (lookup (nat_eq at) locals) else meanings.Other) (bytes_same own own refl)
      ∙ (ap (λ (b : Bool). if b then meaning_or_other (lookup (nat_eq at) locals) else meanings.Other) (eq-eqb n n refl)
      ∙ ap meaning_or_other (found_at (λ (l : TheLocal). l.offset) (λ (l : TheLocal). local_meaning es l.offset l.value) f.answers.locals (record { offset = at; value = value }) (rises laws i c n t f g all h) there))

  local_there : (name : List ℕ) (place at : ℕ) (value : TheValue) → bound (outer_meanings st) all name place ≡ Some (means.Local at value) → HasItem f.answers.locals (record { offset = at; value = value })
  local_there name place at value e =
      let l : TheLocal = record { offset = at; value = value } in
      subst (λ (ls : List TheLocal). HasItem ls l) (sym (file laws i c n t f g all h).locals)
      (file_has (decl_locals st) t g (g_there laws i c n t f g all h) l (has (checked_func st g).locals l (laws.of_locals.denoted st g (placed laws i c n t f g all h) all h.right name place at value e)))

  abbrev Answers : Stand → TheFound → ℕ → Word → Type 0
  Answers q x at w = HasDeclaration (found_answer {P = List ℕ} q x).outcome → mean (found_answer {P = List ℕ} q x).outcome ≡ meanings.Variable at w → ⊥

  outer_found : (q : Stand) (x : TheFound) (at : ℕ) (w : Word) → ValueIsOuter x → IsFoundMeant looks mean x → Answers q x at w
  outer_found q founds.Missing at w outer meant there e = there
  outer_found q founds.BadImport at w outer meant there e = there
  outer_found q founds.Outside at w outer meant there e = there
  outer_found stands.BeforeDot (founds.«Package» d) at w outer meant there e = package_never (mean (outcomes.Declared d)) at w meant e
  outer_found stands.TypeDot (founds.«Package» d) at w outer meant there e = package_never (mean (outcomes.Declared d)) at w meant e
  outer_found stands.«Type» (founds.«Package» d) at w outer meant there e = there
  outer_found stands.«Value» (founds.«Package» d) at w outer meant there e = there
  outer_found stands.Callee (founds.«Package» d) at w outer meant there e = there
  outer_found stands.«Type» (founds.«Type» d v) at w outer meant there e = type_never looks v (mean (outcomes.Declared d)) at w meant e
  outer_found stands.Callee (founds.«Type» d v) at w outer meant there e = type_never looks v (mean (outcomes.Declared d)) at w meant e
  outer_found stands.TypeDot (founds.«Type» d v) at w outer meant there e = there
  outer_found stands.«Value» (founds.«Type» d v) at w outer meant there e = there
  outer_found stands.BeforeDot (founds.«Type» d v) at w outer meant there e = there
  outer_found stands.Callee (founds.Func d s) at w outer meant there e = function_never looks (looks.results s) (mean (outcomes.Declared d)) at w meant e
  outer_found stands.«Type» (founds.Func d s) at w outer meant there e = there
  outer_found stands.TypeDot (founds.Func d s) at w outer meant there e = there
  outer_found stands.«Value» (founds.Func d s) at w outer meant there e = there
  outer_found stands.BeforeDot (founds.Func d s) at w outer meant there e = there
  outer_found stands.Callee (founds.Builtin d b) at w outer meant there e = builtin_never (mean (outcomes.Declared d)) at w meant e
  outer_found stands.«Type» (founds.Builtin d b) at w outer meant there e = there
  outer_found stands.TypeDot (founds.Builtin d b) at w outer meant there e = there
  outer_found stands.«Value» (founds.Builtin d b) at w outer meant there e = there
  outer_found stands.BeforeDot (founds.Builtin d b) at w outer meant there e = there
  outer_found stands.«Value» (founds.«Value» d o) at w outer meant there e = outer_never scene (own_never es own _ c.declared) n (locals_meant es f.answers.locals) d outer at w e
  outer_found stands.BeforeDot (founds.«Value» d o) at w outer meant there e = outer_never scene (own_never es own _ c.declared) n (locals_meant es f.answers.locals) d outer at w e
  outer_found stands.«Type» (founds.«Value» d o) at w outer meant there e = there
  outer_found stands.TypeDot (founds.«Value» d o) at w outer meant there e = there
  outer_found stands.Callee (founds.«Value» d o) at w outer meant there e = there

  -- what a name is that comes to a variable which is declared at an offset
  abbrev pub IsLocalOf : Option NameMeaning → ℕ → Type 0
  IsLocalOf m at = (value : TheValue) × (m ≡ Some (means.Local at value)) × IsVariableValue value

  local_value : (k : ℕ) (v : TheValue) (at : ℕ) (w : Word) → HasItem f.answers.locals (record { offset = k; value = v }) → mean (outcomes.Declared (InFile own (places.Local (record { file = n; offset = k })))) ≡ meanings.Variable at w
      → IsLocalOf (Some (means.Local k v)) at
  local_value k v at w there e = (let r = local_at_variable es k v at w (sym (local_is k v there) ∙ e) in (v, ap (λ j. Some (means.Local j v)) r.0, r.1))

  local_found : (q : Stand) (k : ℕ) (v : TheValue) (at : ℕ) (w : Word) → HasItem f.answers.locals (record { offset = k; value = v })
      → HasDeclaration (found_answer {T = Term} {S = Sign} {P = List ℕ} q (founds.«Value» (InFile own (places.Local (record { file = n; offset = k }))) v)).outcome
      → mean (found_answer {T = Term} {S = Sign} {P = List ℕ} q (founds.«Value» (InFile own (places.Local (record { file = n; offset = k }))) v)).outcome ≡ meanings.Variable at w → IsLocalOf (Some (means.Local k v)) at
  local_found stands.«Value» k v at w local there e = local_value k v at w local e
  local_found stands.BeforeDot k v at w local there e = local_value k v at w local e
  local_found stands.«Type» k v at w local there e = absurd there
  local_found stands.TypeDot k v at w local there e = absurd there
  local_found stands.Callee k v at w local there e = absurd there

  by_meaning : (q : Stand) (b : Bool) (x : Ident) (m : Option NameMeaning) → bound (outer_meanings st) all x.name x.span.start ≡ m → (at : ℕ) (w : Word)
      → HasDeclaration (if b then refused {T = Term} {S = Sign} {D = Declaration} {P = List ℕ} N8 else found_answer {P = List ℕ} q (found_of st.scene n c.declared x.name m)).outcome
      → mean (if b then refused {T = Term} {S = Sign} {D = Declaration} {P = List ℕ} N8 else found_answer {P = List ℕ} q (found_of st.scene n c.declared x.name m)).outcome ≡ meanings.Variable at w → IsLocalOf m at
  by_meaning q true x m is at w there e = absurd there
  by_meaning q false x None is at w there e = absurd there
  by_meaning q false x (Some (means.Outside o)) is at w there e =
      let meant : IsFoundMeant looks mean (found_outside st.scene n c.declared x.name o) = subst (λ m. IsFoundMeant looks mean (found_of st.scene n c.declared x.name m)) is ((read laws i c n t f g all h).names x.name x.span.start) in
      absurd (outer_found q (found_outside st.scene n c.declared x.name o) at w (outside_outer st.scene n c.declared x.name o) meant there e)
  by_meaning q false x (Some (means.Local k v)) is at w there e = local_found q k v at w (local_there x.name x.span.start k v is) there e

  -- a name in an expression of a piece that comes to a variable is bound to it
  pub variable_bound : (p : Piece) → Contains (pieces_of g) p → (e : ExprTree) → Contains (piece_exprs p) e → (q : Stand) (x : Ident) → Contains (parts stands.«Value» e) (q, Named x) → (at : ℕ) (w : Word) → code.meaning x.span.start ≡ meanings.Variable at w
      → IsLocalOf (bound (outer_meanings st) all x.name x.span.start) at
  variable_bound p piece e expr q x inside at w is =
      let meant = are_meant laws.fine laws.one laws.of_locals laws.funcs laws.binds laws.between i c h.input h.others h.part h.clean n t f h.tree h.file h.grammar h.placed g h.func all h.right p piece e expr in
      let sound = none_broken laws.fine laws.one laws.of_locals laws.funcs laws.binds laws.between i c h.input h.others h.part h.clean n t f h.tree h.file h.grammar h.placed g h.func all h.right p piece e expr in
      let r = fine_inside looks code mean stands.«Value» e (fine looks code mean stands.«Value» e meant sound) q (Named x) inside in
      by_meaning q (is_blank x.name) x (bound (outer_meanings st) all x.name x.span.start) refl at w r.meant.0.declared (sym r.meant.0.meaning ∙ is)
