-- What comes to a variable comes to what the local is over that is declared there.
use Rattle.std.proofs.Common.{◌≡◌, ℕ, ◌+◌, nat_eq, Bool, true, false, cond, ◌&&◌, List, [], ◌∷◌, ◌++◌, map, Option, Some, None, refl, sym, ap, ◌∙◌, subst, if◌then◌else◌}
use Rattle.std.specs.List.{AllByRecursion}
use Rattle.std.specs.Map.{lookup}
use Rattle.std.specs.Str.{bytes_eq}
use Rattle.std.proofs.lemmas.Bool.{eqb-true}
use Rattle.go_universe_core.specs.declared.Predeclared.{Predeclared}
use Rattle.go_universe_core.specs.declared.Predeclared.TheVariants as predeclared
use Rattle.go_term_core.specs.decl_core.declared.keys.DeclRef.{DeclRef}
use Rattle.go_term_core.specs.decl_core.TopDecls.{top_decls}
use Rattle.go_constant_core.specs.declared.values.Constant.{Constant}
use Rattle.go_constant_core.specs.declared.values.Constant.TheVariants as values
use Rattle.go_term_core.specs.Terms.{Term}
use Rattle.go_term_core.specs.declared.term.MemberPlace.{MemberPlace}
use Rattle.go_term_core.specs.declared.term.MemberPlace.TheVariants as places
use Rattle.go_report_core.specs.operand_core.declared.types.Operand.{Operand}
use Rattle.go_report_core.specs.denote_core.declared.things.Outcome.{Outcome}
use Rattle.go_report_core.specs.denote_core.declared.things.Outcome.TheVariants as outcomes
use Rattle.go_object_core.specs.declared.instructions.letters.Word.{Word}
use Rattle.go_code_core.specs.declared.fragments.names.Meaning.{Meaning}
use Rattle.go_code_core.specs.declared.fragments.names.Meaning.TheVariants as meanings
use Rattle.go_emit_core.specs.lookup.Looking.{meaning_or_other}
use Rattle.go_emit_core.specs.lookup.Places.{decl_spot, same_spot, spotted_meaning}
use Rattle.go_meaning_laws.specs.source_meaning.Meaning.{SourceOf}
use Rattle.go_meaning_laws.specs.fitting_sources.Fitting.{Typing}
use Rattle.go_machine_core.specs.link.Functions.{all_functions, number_of}
use Rattle.go_body_core.specs.Notes.{TheUse, TheLocal}
use Rattle.go_emit_core.specs.declared_core.Faces.{TheFace}
use Rattle.go_emit_core.specs.declared_core.Packages.{face_in}
use Rattle.go_emit_core.specs.declared_core.declared.face.Face.TheVariants as faces
use Rattle.go_meaning_laws.specs.handle_core.Declarations.{Declaration, Universe, OfError, Package, InFile}
use Rattle.go_body_core.specs.table_core.Entries.{Entry, Member}
use Rattle.go_emit_core.specs.package_core.PreparePackages.{trees_in}
use Rattle.go_report_core.specs.summary_core.Summaries.{SummaryModel}
use Rattle.go_emit_core.specs.package_core.PackagePartParts.{PartModel}
use Rattle.go_emit_core.specs.Emitted.{are_clean, body_first, code_scene_over, objects_of, told_by}
use Rattle.go_emit_core.specs.meaning.Looking.{locals_meant, looks_of}
use Rattle.go_emit_core.specs.meaning.Meanings.{constant_meaning, constant_meaning_or, local_meaning, some_face_meaning, type_meaning, universe_meaning, value_meaning, variable_meaning}
use Rattle.go_emit_core.specs.meaning.Scenes.{CodeScene, method_at, method_spotted, methods_spotted, outcome_meaning, own_or, own_spotted}
use Rattle.go_emit_core.specs.meaning.Words.{some_word, value_word}
use Rattle.go_workspace_laws.proofs.ConstantLists.{HasItem, from_flat, has_get}
use Rattle.go_meaning_laws.specs.object_sources.Sources.{package_sources, part_sources, sources_of}
use Rattle.go_program_laws.specs.checked_sources.Variables.{variable_word, typing_of, AreOverOneWord, VariablesAreOverOneWord, SourcesAreOverOneWord}
use Rattle.go_program_laws.proofs.CheckedSourcesSources.{IsAt, at_file, of_decls}

-- what is found

abbrev IfSome : (Meaning → Type 0) → Option Meaning → Type 0
IfSome P None = Unit {0}
IfSome P (Some m) = P m

chosen : (P : Meaning → Type 0) (b : Bool) (m : Meaning) (o : Option Meaning) → P m → IfSome P o → IfSome P (cond b (Some m) o)
chosen P true m o here later = here
chosen P false m o here later = later

found : {K : Type 0} (P : Meaning → Type 0) (test : K → Bool) (xs : List (K × Meaning)) → AllByRecursion (λ x. P x.1) xs → IfSome P (lookup test xs)
found P test [] all = tt
found P test (x ∷ xs) all = chosen P (test x.0) x.1 (lookup test xs) all.0 (found P test xs all.1)

or_other : (P : Meaning → Type 0) (o : Option Meaning) → P meanings.Other → IfSome P o → P (meaning_or_other o)
or_other P None other h = other
or_other P (Some m) other h = h

own_or_else : (P : Meaning → Type 0) (o : Option Meaning) (m : Meaning) → P m → IfSome P o → P (own_or o m)
own_or_else P None m other h = other
own_or_else P (Some own) m other h = h

each_both : {A : Type 0} (P : A → Type 0) (xs ys : List A) → AllByRecursion P xs → AllByRecursion P ys → AllByRecursion P (xs ++ ys)
each_both P [] ys h k = k
each_both P (x ∷ xs) ys h k = (h.0, each_both P xs ys h.1 k)

-- locals

constant_no : {A : Type 0} (c : Constant) (at : ℕ) (w : Word) → constant_meaning c ≡ meanings.Variable at w → A
constant_no (values.Int z) at w e = absurd (cc e)
constant_no (values.Bool b) at w e = absurd (cc e)
constant_no (values.Text t) at w e = absurd (cc e)
constant_no values.Unknown at w e = absurd (cc e)

variable_is : (k : ℕ) (o : Option Word) (at : ℕ) (w : Word) → variable_meaning k o ≡ meanings.Variable at w → k ≡ at
variable_is k None at w e = absurd (cc e)
variable_is k (Some u) at w e = cc e

operand_is : (k : ℕ) (c : Option Constant) (o : Option Word) (at : ℕ) (w : Word) → constant_meaning_or c (variable_meaning k o) ≡ meanings.Variable at w → k ≡ at
operand_is k None o at w e = variable_is k o at w e
operand_is k (Some c) o at w e = constant_no c at w e

local_is : (es : List Entry) (k : ℕ) (v : Option (Operand Term)) (at : ℕ) (w : Word) → local_meaning es k v ≡ meanings.Variable at w → k ≡ at
local_is es k None at w e = absurd (cc e)
local_is es k (Some o) at w e = operand_is k o.constant (value_word es o.value_type) at w e

-- what is no variable

abbrev pub Never : Meaning → Type 0
Never m = (at : ℕ) (w : Word) → m ≡ meanings.Variable at w → ⊥

other_never : Never meanings.Other
other_never at w e = cc e

type_never : (o : Option Word) → Never (type_meaning o)
type_never None at w e = cc e
type_never (Some u) at w e = cc e

constant_or_other : (c : Option Constant) → Never (constant_meaning_or c meanings.Other)
constant_or_other None at w e = cc e
constant_or_other (Some c) at w e = constant_no c at w e

value_never : (o : Option (Operand Term)) → Never (value_meaning o)
value_never None at w e = cc e
value_never (Some o) at w e = constant_or_other o.constant at w e

face_never : (es : List Entry) (o : Option TheFace) → Never (some_face_meaning es o)
face_never es None at w e = cc e
face_never es (Some (faces.«Type» t)) at w e = type_never (some_word es t) at w e
face_never es (Some (faces.Func g)) at w e = cc e
face_never es (Some (faces.«Value» o)) at w e = value_never o at w e

pub own_never : (es : List Entry) (path : List ℕ) (ds : List DeclRef) (known : List (Option TheFace)) → AllByRecursion (λ x. Never x.1) (own_spotted es path ds known)
own_never es path [] known = tt
own_never es path (d ∷ ds) [] = tt
own_never es path (d ∷ ds) (f ∷ known) = (face_never es f, own_never es path ds known)

place_never : (es : List Entry) (path : List ℕ) (m : Member) (p : MemberPlace) → AllByRecursion (λ x. Never x.1) (method_at es path m p)
place_never es path m (places.Declared d) = ((λ at w e. cc e), tt)
place_never es path m (places.Local l) = tt

members_never : (es : List Entry) (path : List ℕ) (ms : List Member) → AllByRecursion (λ x. Never x.1) (method_spotted es path ms)
members_never es path [] = tt
members_never es path (m ∷ ms) = each_both (λ x. Never x.1) (method_at es path m m.place) (method_spotted es path ms) (place_never es path m m.place) (members_never es path ms)

methods_never : (es declared : List Entry) → AllByRecursion (λ x. Never x.1) (methods_spotted es declared)
methods_never es [] = tt
methods_never es (d ∷ declared) = each_both (λ x. Never x.1) (method_spotted es d.key.path d.methods) (methods_spotted es declared) (members_never es d.key.path d.methods) (methods_never es declared)

pub universe_never : (p : Predeclared) → Never (universe_meaning p)
universe_never predeclared.Println at w e = cc e
universe_never predeclared.Panic at w e = cc e
universe_never predeclared.True at w e = cc e
universe_never predeclared.False at w e = cc e
universe_never predeclared.Int at w e = cc e
universe_never predeclared.Bool at w e = cc e
universe_never _ at w e = cc e

-- a declaration of a package outside functions
pub declared_never : (s : CodeScene) → AllByRecursion (λ x. Never x.1) s.own → (path : List ℕ) (d : DeclRef) → Never (own_or (spotted_meaning s.own (decl_spot path d)) (some_face_meaning s.types (face_in s.others path d)))
declared_never s own path d = own_or_else Never (spotted_meaning s.own (decl_spot path d)) (some_face_meaning s.types (face_in s.others path d)) (face_never s.types (face_in s.others path d)) (found Never (same_spot (decl_spot path d)) s.own own)

module _ (es : List Entry) where
  abbrev at_local : List TheLocal → ℕ → Option Meaning
  at_local ls k = lookup (nat_eq k) (locals_meant es ls)

  first_is : (k : ℕ) (l : TheLocal) (o : Option Meaning) (at : ℕ) (w : Word) (b : Bool) → nat_eq k l.offset ≡ b → meaning_or_other (cond b (Some (local_meaning es l.offset l.value)) o) ≡ meanings.Variable at w → (meaning_or_other o ≡ meanings.Variable at w → k ≡ at) → k ≡ at
  first_is k l o at w true same e later = eqb-true k l.offset same ∙ local_is es l.offset l.value at w e
  first_is k l o at w false same e later = later e

  -- a variable that is found at an offset is the one that is declared there
  found_is : (ls : List TheLocal) (k at : ℕ) (w : Word) → meaning_or_other (at_local ls k) ≡ meanings.Variable at w → k ≡ at
  found_is [] k at w e = absurd (cc e)
  found_is (l ∷ ls) k at w e = first_is k l (at_local ls k) at w (nat_eq k l.offset) refl e (λ e. found_is ls k at w e)

  -- what comes to a variable comes to it over what the local is over
  abbrev Typed : List TheLocal → Meaning → Type 0
  Typed ls m = (at : ℕ) (w : Word) → m ≡ meanings.Variable at w → typing_of es ls at ≡ Some w

  local_typed : (ls : List TheLocal) (k : ℕ) → Typed ls (meaning_or_other (at_local ls k))
  local_typed ls k at w e = subst (λ j. variable_word (meaning_or_other (at_local ls j)) ≡ Some w) (found_is ls k at w e) (ap variable_word e)

  module _ (ls : List TheLocal) where
    never_typed : (m : Meaning) → Never m → Typed ls m
    never_typed m h at w e = absurd (h at w e)

    -- occurrences

    if_here : (b : Bool) (k : ℕ) → Typed ls (if b then meaning_or_other (at_local ls k) else meanings.Other)
    if_here true k at w e = local_typed ls k at w e
    if_here false k at w e = absurd (cc e)

    module _ (s : CodeScene) (own : AllByRecursion (λ x. Never x.1) s.own) (methods : AllByRecursion (λ x. Never x.1) s.methods) (n : ℕ) where
      outcome_typed : (o : Outcome Declaration (List ℕ)) → Typed ls (outcome_meaning s n (locals_meant es ls) o)
      outcome_typed (outcomes.Declared (Universe p)) = never_typed (universe_meaning p) (universe_never p)
      outcome_typed (outcomes.Declared OfError) = never_typed meanings.Other other_never
      outcome_typed (outcomes.Declared (Package path)) = never_typed meanings.Other other_never
      outcome_typed (outcomes.Declared (InFile path (places.Declared d))) = never_typed _ (declared_never s own path d)
      outcome_typed (outcomes.Declared (InFile path (places.Local l))) = if_here (bytes_eq path s.path && nat_eq l.file n) l.offset
      outcome_typed (outcomes.Selected (InFile path (places.Declared d)) []) = never_typed _ (or_other Never _ other_never (found Never _ s.methods methods))
      outcome_typed (outcomes.Selected (InFile path (places.Local l)) []) = never_typed meanings.Other other_never
      outcome_typed (outcomes.Selected (Universe p) []) = never_typed meanings.Other other_never
      outcome_typed (outcomes.Selected OfError []) = never_typed meanings.Other other_never
      outcome_typed (outcomes.Selected (Package path) []) = never_typed meanings.Other other_never
      outcome_typed (outcomes.Selected d (k ∷ path)) = never_typed meanings.Other other_never
      outcome_typed (outcomes.Refused rule) = never_typed meanings.Other other_never

      uses_typed : (us : List TheUse) → AllByRecursion (λ (x : ℕ × Meaning). Typed ls x.1) (map (λ (u : TheUse). (u.offset, outcome_meaning s n (locals_meant es ls) u.outcome)) us)
      uses_typed [] = tt
      uses_typed (u ∷ us) = (outcome_typed u.outcome, uses_typed us)

pub variables_over_one : VariablesAreOverOneWord
variables_over_one all i c n uses locals before offset =
    let s = code_scene_over all i c in
    or_other (Typed s.types locals) _ (never_typed s.types locals meanings.Other other_never)
    (found (Typed s.types locals) (nat_eq offset) _ (uses_typed s.types locals s (own_never s.types s.path _ c.declared) (methods_never s.types s.types) n uses))

-- sources

module _ (number : Declaration → Option ℕ) (all : List SummaryModel) (p : PartModel) (s : SourceOf) where
  file_over : IsAt number (code_scene_over all p.input p.content) 0 (trees_in p.input.source) p.content.files s → (typing : Typing) × AreOverOneWord s.looks typing
  file_over at =
      let sc = code_scene_over all p.input p.content in
      let r = of_decls number at.file.answers.uses (looks_of sc (0 + at.place) at.file.answers.uses at.file.answers.locals) s (top_decls at.tree) at.here in (
        typing_of sc.types at.file.answers.locals,
        subst (λ (x : SourceOf). AreOverOneWord x.looks (typing_of sc.types at.file.answers.locals)) (sym r.is)
            (variables_over_one all p.input p.content (0 + at.place) at.file.answers.uses at.file.answers.locals (body_first at.file.answers.uses r.func)),
      )

  part_over : (t : Bool) → HasItem (if t then package_sources number (code_scene_over all p.input p.content) 0 (trees_in p.input.source) p.content.files else []) s → (typing : Typing) × AreOverOneWord s.looks typing
  part_over true h = file_over (at_file number (code_scene_over all p.input p.content) 0 (trees_in p.input.source) p.content.files s h)
  part_over false h = absurd h

pub sources_over_one : SourcesAreOverOneWord
sources_over_one place ps n s is =
    let number = number_of place (all_functions (objects_of ps)) in
    let r = from_flat (part_sources number (told_by ps)) ps s (has_get (sources_of place ps) n s is) in
    part_over number (told_by ps) r.item s (are_clean r.item.content.files) r.here
