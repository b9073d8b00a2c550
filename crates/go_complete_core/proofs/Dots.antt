-- What names are to those that stand left of a dot, and what stands behind them.
use Rattle.std.proofs.Common.{◌≡◌, ℕ, Bool, true, false, not, ◌&&◌, List, Option, Some, None, refl, sym, ap, ◌∙◌}
use Rattle.std.specs.Prelude.{if◌then◌else◌}
use Rattle.go_tree_nodes.specs.text_core.Text.{is_blank}
use Rattle.go_tree_nodes.specs.text_core.declared.rule.Rule.{Rule}
use Rattle.go_tree_nodes.specs.text_core.declared.rule.Rule.TheVariants.{N8}
use Rattle.go_tree_nodes.specs.declared.usage.Usage.{Usage}
use Rattle.go_tree_nodes.specs.declared.usage.Usage.TheVariants as usages
use Rattle.go_cursor_core.specs.operand_core.declared.types.Operand.{Operand}
use Rattle.go_cursor_core.specs.denote_core.declared.things.Stand.{Stand}
use Rattle.go_cursor_core.specs.denote_core.declared.things.Stand.TheVariants as stands
use Rattle.go_cursor_core.specs.denote_core.declared.things.Answer.{Answer}
use Rattle.go_cursor_core.specs.denote_core.declared.things.Dot.{Dot}
use Rattle.go_cursor_core.specs.denote_core.declared.things.Dot.TheVariants as dots
use Rattle.go_cursor_core.specs.denote_core.declared.things.Found.{Found}
use Rattle.go_cursor_core.specs.denote_core.declared.things.Found.TheVariants as founds
use Rattle.go_cursor_core.specs.denote_core.Look.{Look}
use Rattle.go_cursor_core.specs.denote_core.Answers.{refused, of_value, found_answer, name_answer}
use Rattle.go_cursor_core.specs.denote_core.Selectors.{dot_of, exported_answer, usage_place}
use Rattle.go_stmt_core.specs.expr_core.Uses.{Context, SelectorBehind}
use Rattle.go_term_core.specs.declared.term.MemberPlace.TheVariants as places
use Rattle.go_candidate_core.specs.handle_core.Declarations.{Declaration, InFile}
use Rattle.go_candidate_core.specs.declared_core.declared.face.Face.TheVariants as faces
use Rattle.go_candidate_core.specs.declared_core.declared.shown.ShownFace.{ShownFace}
use Rattle.go_candidate_core.specs.declared_core.declared.shown.ShownFace.TheVariants as shows
use Rattle.go_candidate_core.specs.declared_core.Faces.{TheFace}
use Rattle.go_term_core.specs.Terms.{Term, Sign}
use Rattle.go_package_core.specs.env_core.Found.{exported_face, exported_shown}
use Rattle.go_candidate_core.specs.context.Laws.{is_declared}
use Rattle.go_candidate_core.specs.context.Alone.{fits}
use Rattle.go_candidate_core.specs.fitting.Fitting.{fits_shown, thing_of_face}
use Rattle.go_complete_core.specs.place.Completions.{is_of_types}
use Rattle.go_complete_core.proofs.Standing.{package_found}

abbrev pub dot_answer : {T S D P : Type 0} → Answer T S D P → Dot T D
dot_answer a = dot_of true a.denoted

module _ (T S D P : Type 0) where
  -- a name that is refused is a qualifier that is refused

  found_refused : (p : Stand) (f : Found T S D) → is_declared (found_answer {P = P} p f).outcome ≡ false → dot_answer (found_answer {P = P} p f) ≡ dots.Refused
  found_refused p founds.Missing h = refl
  found_refused p founds.BadImport h = refl
  found_refused p founds.Outside h = refl
  found_refused stands.«Type» (founds.«Package» d) h = refl
  found_refused stands.TypeDot (founds.«Package» d) h = absurd (cc)
  found_refused stands.«Value» (founds.«Package» d) h = refl
  found_refused stands.Callee (founds.«Package» d) h = refl
  found_refused stands.BeforeDot (founds.«Package» d) h = absurd (cc)
  found_refused stands.«Type» (founds.«Type» d t) h = absurd (cc)
  found_refused stands.TypeDot (founds.«Type» d t) h = refl
  found_refused stands.«Value» (founds.«Type» d t) h = refl
  found_refused stands.Callee (founds.«Type» d t) h = absurd (cc)
  found_refused stands.BeforeDot (founds.«Type» d t) h = refl
  found_refused stands.«Type» (founds.Func d s) h = refl
  found_refused stands.TypeDot (founds.Func d s) h = refl
  found_refused stands.«Value» (founds.Func d s) h = refl
  found_refused stands.Callee (founds.Func d s) h = absurd (cc)
  found_refused stands.BeforeDot (founds.Func d s) h = refl
  found_refused stands.«Type» (founds.Builtin d b) h = refl
  found_refused stands.TypeDot (founds.Builtin d b) h = refl
  found_refused stands.«Value» (founds.Builtin d b) h = refl
  found_refused stands.Callee (founds.Builtin d b) h = absurd (cc)
  found_refused stands.BeforeDot (founds.Builtin d b) h = refl
  found_refused stands.«Type» (founds.«Value» d o) h = refl
  found_refused stands.TypeDot (founds.«Value» d o) h = refl
  found_refused stands.«Value» (founds.«Value» d o) h = absurd (cc)
  found_refused stands.Callee (founds.«Value» d o) h = refl
  found_refused stands.BeforeDot (founds.«Value» d o) h = absurd (cc)

  -- the name of a package is that package

  found_package : (p : Stand) (f : Found T S D) (d : D) → is_declared (found_answer {P = P} p f).outcome ≡ true → package_found f ≡ Some d → dot_answer (found_answer {P = P} p f) ≡ dots.«Package» d
  found_package stands.TypeDot (founds.«Package» e) d h k = (let same : e ≡ d = cc in ap dots.«Package» same)
  found_package stands.BeforeDot (founds.«Package» e) d h k = (let same : e ≡ d = cc in ap dots.«Package» same)
  found_package stands.«Type» (founds.«Package» e) d h k = absurd (cc)
  found_package stands.«Value» (founds.«Package» e) d h k = absurd (cc)
  found_package stands.Callee (founds.«Package» e) d h k = absurd (cc)
  found_package p founds.Missing d h k = absurd (cc)
  found_package p founds.BadImport d h k = absurd (cc)
  found_package p founds.Outside d h k = absurd (cc)
  found_package p (founds.«Type» e t) d h k = absurd (cc)
  found_package p (founds.Func e s) d h k = absurd (cc)
  found_package p (founds.Builtin e b) d h k = absurd (cc)
  found_package p (founds.«Value» e o) d h k = absurd (cc)

  -- what stands behind any other name that has a declaration depends on a type

  value_typed : (u : Usage) (o : Option (Operand T)) → is_of_types {T = T} {D = D} (SelectorBehind u (dot_of {S = S} true (of_value o))) ≡ true
  value_typed u None = refl
  value_typed u (Some o) = refl

  found_typed : (u : Usage) (p : Stand) (f : Found T S D) → is_declared (found_answer {P = P} p f).outcome ≡ true → package_found f ≡ None → is_of_types (SelectorBehind u (dot_answer (found_answer {P = P} p f))) ≡ true
  found_typed u p founds.Missing h k = absurd (cc)
  found_typed u p founds.BadImport h k = absurd (cc)
  found_typed u p founds.Outside h k = absurd (cc)
  found_typed u p (founds.«Package» d) h k = absurd (cc)
  found_typed u stands.«Type» (founds.«Type» d t) h k = refl
  found_typed u stands.TypeDot (founds.«Type» d t) h k = absurd (cc)
  found_typed u stands.«Value» (founds.«Type» d t) h k = absurd (cc)
  found_typed u stands.Callee (founds.«Type» d t) h k = refl
  found_typed u stands.BeforeDot (founds.«Type» d t) h k = absurd (cc)
  found_typed u stands.«Type» (founds.Func d s) h k = absurd (cc)
  found_typed u stands.TypeDot (founds.Func d s) h k = absurd (cc)
  found_typed u stands.«Value» (founds.Func d s) h k = absurd (cc)
  found_typed u stands.Callee (founds.Func d s) h k = refl
  found_typed u stands.BeforeDot (founds.Func d s) h k = absurd (cc)
  found_typed u stands.«Type» (founds.Builtin d b) h k = absurd (cc)
  found_typed u stands.TypeDot (founds.Builtin d b) h k = absurd (cc)
  found_typed u stands.«Value» (founds.Builtin d b) h k = absurd (cc)
  found_typed u stands.Callee (founds.Builtin d b) h k = refl
  found_typed u stands.BeforeDot (founds.Builtin d b) h k = absurd (cc)
  found_typed u stands.«Type» (founds.«Value» d o) h k = absurd (cc)
  found_typed u stands.TypeDot (founds.«Value» d o) h k = absurd (cc)
  found_typed u stands.«Value» (founds.«Value» d o) h k = value_typed u o
  found_typed u stands.Callee (founds.«Value» d o) h k = absurd (cc)
  found_typed u stands.BeforeDot (founds.«Value» d o) h k = value_typed u o

  -- the same where the name may be blank

  refused_if : (b : Bool) (rule : Rule) (a : Answer T S D P) → (is_declared a.outcome ≡ false → dot_answer a ≡ dots.Refused) → is_declared (if b then refused rule else a).outcome ≡ false → dot_answer (if b then refused rule else a) ≡ dots.Refused
  refused_if true rule a k h = refl
  refused_if false rule a k h = k h

  declared_if : (b : Bool) (rule : Rule) (a : Answer T S D P) (Q : Answer T S D P → Type 0) → (is_declared a.outcome ≡ true → Q a) → is_declared (if b then refused rule else a).outcome ≡ true → Q (if b then refused rule else a)
  declared_if true rule a Q k h = absurd (cc)
  declared_if false rule a Q k h = k h

  module _ (look : Look T S D P) (p : Stand) (name : List ℕ) where
    pub name_refused : is_declared (name_answer look p name).outcome ≡ false → dot_answer (name_answer look p name) ≡ dots.Refused
    name_refused = refused_if (is_blank name) N8 (found_answer p (look.names.find name)) (found_refused p (look.names.find name))

    pub name_package : (d : D) → is_declared (name_answer look p name).outcome ≡ true → package_found (look.names.find name) ≡ Some d → dot_answer (name_answer look p name) ≡ dots.«Package» d
    name_package d h k = declared_if (is_blank name) N8 (found_answer p (look.names.find name)) (λ a. dot_answer a ≡ dots.«Package» d) (λ g. found_package p (look.names.find name) d g k) h

    pub name_typed : (u : Usage) → is_declared (name_answer look p name).outcome ≡ true → package_found (look.names.find name) ≡ None → is_of_types (SelectorBehind u (dot_answer (name_answer look p name))) ≡ true
    name_typed u h k = declared_if (is_blank name) N8 (found_answer p (look.names.find name)) (λ a. is_of_types (SelectorBehind u (dot_answer a)) ≡ true) (λ g. found_typed u p (look.names.find name) g k) h

  pub declared_unless : (b : Bool) (rule : Rule) (a : Answer T S D P) → is_declared (if b then refused rule else a).outcome ≡ (not b && is_declared a.outcome)
  declared_unless true rule a = refl
  declared_unless false rule a = refl

-- what a package shows

face_fits : (P : Type 0) (u : Usage) (d : Declaration) (face : Option TheFace) → is_declared (exported_answer {T = Term} {S = Sign} {P = P} u (exported_face d face)).outcome ≡ fits (usage_place u) (thing_of_face face)
face_fits P usages.«Type» d None = refl
face_fits P usages.«Value» d None = refl
face_fits P usages.Callee d None = refl
face_fits P usages.«Type» d (Some (faces.«Type» t)) = refl
face_fits P usages.«Value» d (Some (faces.«Type» t)) = refl
face_fits P usages.Callee d (Some (faces.«Type» t)) = refl
face_fits P usages.«Type» d (Some (faces.Func g)) = refl
face_fits P usages.«Value» d (Some (faces.Func g)) = refl
face_fits P usages.Callee d (Some (faces.Func g)) = refl
face_fits P usages.«Type» d (Some (faces.«Value» o)) = refl
face_fits P usages.«Value» d (Some (faces.«Value» o)) = refl
face_fits P usages.Callee d (Some (faces.«Value» o)) = refl

pub shown_fits : (P : Type 0) (u : Usage) (path : List ℕ) (s : ShownFace) → is_declared (exported_answer {T = Term} {S = Sign} {P = P} u (exported_shown path s)).outcome ≡ fits_shown u s
shown_fits P u path shows.Absent = refl
shown_fits P u path shows.Hidden = refl
shown_fits P u path (shows.Shown d face) = face_fits P u (InFile path (places.Declared d)) face
