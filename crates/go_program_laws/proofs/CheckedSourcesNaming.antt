-- A name alone is in code what is declared, and no method.
use Rattle.std.proofs.Common.{◌≡◌, ℕ, Bool, true, false, List, Option, Some, None, sym, subst, if◌then◌else◌}
use Rattle.go_constant_core.specs.text_core.Text.{is_blank}
use Rattle.go_constant_core.specs.text_core.declared.rule.Rule.TheVariants.{N8}
use Rattle.go_tree_nodes.specs.Trees.{Named}
use Rattle.go_term_core.specs.Terms.{Term, Sign}
use Rattle.go_constant_core.specs.declared.values.Constant.{Constant}
use Rattle.go_report_core.specs.operand_core.declared.types.Operand.{Operand}
use Rattle.go_report_core.specs.operand_core.TypeRules.{TypeRules}
use Rattle.go_report_core.specs.denote_core.declared.things.Found.{Found}
use Rattle.go_report_core.specs.denote_core.declared.things.Found.TheVariants as founds
use Rattle.go_report_core.specs.denote_core.declared.things.Outcome.{Outcome}
use Rattle.go_report_core.specs.denote_core.declared.things.Outcome.TheVariants as outcomes
use Rattle.go_report_core.specs.denote_core.declared.things.Stand.{Stand}
use Rattle.go_report_core.specs.denote_core.declared.things.Stand.TheVariants as stands
use Rattle.go_report_core.specs.denote_core.Answers.{found_answer, refused}
use Rattle.go_report_core.specs.expr_core.Looks.{Looks}
use Rattle.go_code_core.specs.declared.fragments.names.ConstantWord.{ConstantWord}
use Rattle.go_code_core.specs.declared.fragments.names.Meaning.{Meaning}
use Rattle.go_code_core.specs.declared.fragments.names.Meaning.TheVariants as meanings
use Rattle.go_code_core.specs.fragments.Constants.{held}
use Rattle.go_workspace_laws.specs.folding.Laws.{HasDeclaration}
use Rattle.go_workspace_laws.specs.folding.Reading.{IsBuiltinMeant, IsFoundMeant, IsFunctionMeant, IsOperandMeant, IsTypeMeant, IsValueMeant, IsVariableMeant, held_meaning}
use Rattle.go_workspace_laws.proofs.FoldingInside.{fine, fine_inside}
use Rattle.go_meaning_laws.specs.handle_core.Declarations.{Declaration}
use Rattle.go_emit_core.specs.Laws.{BodiesAreBetweenBraces, ObjectsAreOfFaultless}
use Rattle.go_emit_core.specs.Emitted.{code_scene_over, told_to}
use Rattle.go_emit_core.specs.meaning.Looking.{locals_meant}
use Rattle.go_emit_core.specs.meaning.Scenes.{outcome_meaning}
use Rattle.go_report_core.specs.summary_core.Views.{types_told}
use Rattle.go_workspace_laws.specs.ConstantLaws.{code_names_of}
use Rattle.go_workspace_laws.specs.Standing.{looks_among, stand_in_part}
use Rattle.go_body_core.specs.file.Laws.{FunctionsArePlaced}
use Rattle.go_body_core.specs.function.Laws.{FunctionsHaveOneTable}
use Rattle.go_body_core.specs.function.Locals.{LocalsAreDeclarations}
use Rattle.go_snap_core.specs.whole_workspace.LocalLaws.{ImportsBindTheirs}
use Rattle.go_workspace_laws.proofs.Agree.{are_meant, names, none_broken}
use Rattle.go_program_laws.specs.checked_sources.Names.{FunctionsNameNoMethods, NamesAreNoMethods}

abbrev IsNoMethod : Meaning → Type 0
IsNoMethod (meanings.Method g) = ⊥
IsNoMethod (meanings.Variable at w) = Unit {0}
IsNoMethod (meanings.Constant v) = Unit {0}
IsNoMethod (meanings.Function g) = Unit {0}
IsNoMethod (meanings.«Type» w) = Unit {0}
IsNoMethod meanings.Println = Unit {0}
IsNoMethod meanings.Panic = Unit {0}
IsNoMethod meanings.Other = Unit {0}

type_no : {T : Type 0} (rules : TypeRules T) (t : Option T) (m : Meaning) → IsTypeMeant rules t m → IsNoMethod m
type_no rules t (meanings.Method g) h = absurd h
type_no rules t _ h = tt

function_no : {T : Type 0} (rules : TypeRules T) (results : List (Option T)) (m : Meaning) → IsFunctionMeant rules results m → IsNoMethod m
function_no rules results (meanings.Method g) h = absurd h
function_no rules results _ h = tt

builtin_no : (m : Meaning) → IsBuiltinMeant m → IsNoMethod m
builtin_no (meanings.Method g) h = absurd h
builtin_no _ h = tt

variable_no : (m : Meaning) → IsVariableMeant m → IsNoMethod m
variable_no (meanings.Method g) h = absurd h
variable_no _ h = tt

constant_no : (m : Meaning) (o : Option ConstantWord) → m ≡ held_meaning o → IsNoMethod m
constant_no m None is = subst IsNoMethod (sym is) tt
constant_no m (Some v) is = subst IsNoMethod (sym is) tt

operand_no : (k : Option Constant) (m : Meaning) → IsOperandMeant k m → IsNoMethod m
operand_no None m h = variable_no m h
operand_no (Some c) m h = constant_no m (held c) h

value_no : {T : Type 0} (o : Option (Operand T)) (m : Meaning) → IsValueMeant o m → IsNoMethod m
value_no None m h = subst IsNoMethod (sym h) tt
value_no (Some o) m h = operand_no o.constant m h

module _ {T S D P : Type 0} (looks : Looks T S D P) (mean : Outcome D P → Meaning) (m : Meaning) where
  abbrev Answers : Stand → Found T S D → Type 0
  Answers place f = HasDeclaration (found_answer {P = P} place f).outcome → m ≡ mean (found_answer {P = P} place f).outcome → IsNoMethod m

  as_declared : (d : D) → IsNoMethod (mean (outcomes.Declared d)) → m ≡ mean (outcomes.Declared d) → IsNoMethod m
  as_declared d h is = subst IsNoMethod (sym is) h

  package_no : (place : Stand) (d : D) → IsNoMethod (mean (outcomes.Declared d)) → Answers place (founds.«Package» d)
  package_no stands.BeforeDot d h there is = as_declared d h is
  package_no stands.TypeDot d h there is = as_declared d h is
  package_no stands.«Type» d h there is = absurd there
  package_no stands.«Value» d h there is = absurd there
  package_no stands.Callee d h there is = absurd there

  named_no : (place : Stand) (d : D) (t : Option T) → IsNoMethod (mean (outcomes.Declared d)) → Answers place (founds.«Type» d t)
  named_no stands.«Type» d t h there is = as_declared d h is
  named_no stands.Callee d t h there is = as_declared d h is
  named_no stands.BeforeDot d t h there is = absurd there
  named_no stands.TypeDot d t h there is = absurd there
  named_no stands.«Value» d t h there is = absurd there

  called_no : (place : Stand) (d : D) (s : S) → IsNoMethod (mean (outcomes.Declared d)) → Answers place (founds.Func d s)
  called_no stands.Callee d s h there is = as_declared d h is
  called_no stands.«Type» d s h there is = absurd there
  called_no stands.BeforeDot d s h there is = absurd there
  called_no stands.TypeDot d s h there is = absurd there
  called_no stands.«Value» d s h there is = absurd there

  given_no : (place : Stand) (d : D) (o : Option (Operand T)) → IsNoMethod (mean (outcomes.Declared d)) → Answers place (founds.«Value» d o)
  given_no stands.«Value» d o h there is = as_declared d h is
  given_no stands.BeforeDot d o h there is = as_declared d h is
  given_no stands.«Type» d o h there is = absurd there
  given_no stands.TypeDot d o h there is = absurd there
  given_no stands.Callee d o h there is = absurd there

  found_no : (place : Stand) (f : Found T S D) → IsFoundMeant looks mean f → Answers place f
  found_no place founds.Missing h there is = absurd there
  found_no place founds.BadImport h there is = absurd there
  found_no place founds.Outside h there is = absurd there
  found_no place (founds.«Package» d) h there is = package_no place d (subst IsNoMethod (sym h) tt) there is
  found_no place (founds.«Type» d t) h there is = named_no place d t (type_no looks.types t (mean (outcomes.Declared d)) h) there is
  found_no place (founds.Func d s) h there is = called_no place d s (function_no looks.types (looks.results s) (mean (outcomes.Declared d)) h) there is
  found_no stands.Callee (founds.Builtin d b) h there is = as_declared d (builtin_no (mean (outcomes.Declared d)) h) is
  found_no stands.«Type» (founds.Builtin d b) h there is = absurd there
  found_no stands.BeforeDot (founds.Builtin d b) h there is = absurd there
  found_no stands.TypeDot (founds.Builtin d b) h there is = absurd there
  found_no stands.«Value» (founds.Builtin d b) h there is = absurd there
  found_no place (founds.«Value» d o) h there is = given_no place d o (value_no o (mean (outcomes.Declared d)) h) there is

  by_blank : (b : Bool) (place : Stand) (f : Found T S D) → IsFoundMeant looks mean f → HasDeclaration (if b then refused {T = T} {S = S} {D = D} {P = P} N8 else found_answer {P = P} place f).outcome
      → m ≡ mean (if b then refused {T = T} {S = S} {D = D} {P = P} N8 else found_answer {P = P} place f).outcome → IsNoMethod m
  by_blank true place f h there is = absurd there
  by_blank false place f h there is = found_no place f h there is

pub names_no_methods : (T S D P : Type 0) → NamesAreNoMethods T S D P
names_no_methods T S D P looks code mean p e read meant sound q x there g is =
    let h = fine_inside looks code mean p e (fine looks code mean p e meant sound) q (Named x) there in
    subst IsNoMethod is (by_blank looks mean (code.meaning x.span.start) (is_blank x.name) q (looks.find x.name x.span.start) (read.names x.name x.span.start) h.meant.0.declared h.meant.0.meaning)

pub functions_name_none : ObjectsAreOfFaultless → FunctionsHaveOneTable → LocalsAreDeclarations → FunctionsArePlaced → ImportsBindTheirs → BodiesAreBetweenBraces → FunctionsNameNoMethods
functions_name_none fine one of_locals funcs binds between i c well others part clean n t f tree there grammar in_order g func all right p piece e expr q x inside given is =
    names_no_methods Term Sign Declaration (List ℕ) (looks_among (stand_in_part i c n t) all) (code_names_of i c n f g) (outcome_meaning (code_scene_over (told_to i c) i c) n (locals_meant (types_told (told_to i c)) f.answers.locals)) stands.«Value» e
    (names fine one of_locals funcs binds between i c well others part clean n t f tree there grammar in_order g func all right)
    (are_meant fine one of_locals funcs binds between i c well others part clean n t f tree there grammar in_order g func all right p piece e expr)
    (none_broken fine one of_locals funcs binds between i c well others part clean n t f tree there grammar in_order g func all right p piece e expr)
    q x inside given is
