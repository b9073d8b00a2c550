-- What expressions are judged by, where all types, signatures and packages in it are near: near is any property of types, one of signatures and one of
-- the packages that names stand for.
use Rattle.std.specs.Prelude.{[], ◌∷◌, Option, Some, None, Result, Ok, Err, ⊤}
use Rattle.go_report_core.specs.operand_core.declared.types.ValueType.{ValueType}
use Rattle.go_report_core.specs.operand_core.declared.types.ValueType.TheVariants as value_types
use Rattle.go_report_core.specs.operand_core.declared.types.TypeForm.{TypeForm}
use Rattle.go_report_core.specs.operand_core.declared.types.TypeForm.TheVariants as forms
use Rattle.go_report_core.specs.operand_core.declared.types.Operand.{Operand}
use Rattle.go_report_core.specs.denote_core.declared.things.Found.{Found}
use Rattle.go_report_core.specs.denote_core.declared.things.Found.TheVariants as founds
use Rattle.go_report_core.specs.denote_core.declared.things.Exported.{Exported}
use Rattle.go_report_core.specs.denote_core.declared.things.Exported.TheVariants as exporteds
use Rattle.go_report_core.specs.denote_core.declared.things.Selection.{Selection}
use Rattle.go_report_core.specs.denote_core.declared.things.Selection.TheVariants as selections
use Rattle.go_report_core.specs.denote_core.declared.things.Denoted.{Denoted}
use Rattle.go_report_core.specs.denote_core.declared.things.Denoted.TheVariants as denotes
use Rattle.go_report_core.specs.denote_core.declared.things.Dot.{Dot}
use Rattle.go_report_core.specs.denote_core.declared.things.Dot.TheVariants as dots
use Rattle.go_report_core.specs.denote_core.declared.things.Argument.{Argument}
use Rattle.go_report_core.specs.denote_core.declared.things.Argument.TheVariants as arguments
use Rattle.go_report_core.specs.denote_core.CompositeLook.{FieldOf}

-- what is near beside types: signatures, and the packages that names stand for
pub record NearRest (S D : Type 0) : Type 1 where
  pub sign : S → Type 0
  pub decl : D → Type 0

-- where there is one
abbrev pub IfAny : {X : Type 0} → (X → Type 0) → Option X → Type 0
IfAny Near None = ⊤
IfAny Near (Some x) = Near x

-- where no rule is broken
abbrev pub IfFine : {X E : Type 0} → (X → Type 0) → Result X E → Type 0
IfFine Near (Ok x) = Near x
IfFine Near (Err e) = ⊤

-- what lies under a type: a pointer has a base type
abbrev pub NearForm : {T : Type 0} → (T → Type 0) → TypeForm T → Type 0
NearForm Near forms.Nothing = ⊤
NearForm Near (forms.Basic b) = ⊤
NearForm Near (forms.Pointer t) = Near t
NearForm Near forms.Struct = ⊤
NearForm Near forms.Interface = ⊤

-- the type of a value
abbrev pub NearValue : {T : Type 0} → (T → Type 0) → ValueType T → Type 0
NearValue Near (value_types.Typed t) = Near t
NearValue Near value_types.UntypedInt = ⊤
NearValue Near value_types.UntypedText = ⊤
NearValue Near value_types.UntypedBool = ⊤
NearValue Near value_types.Nil = ⊤

abbrev pub NearOperand : {T : Type 0} → (T → Type 0) → Operand T → Type 0
NearOperand Near o = NearValue Near o.value_type

abbrev pub NearArgument : {T : Type 0} → (T → Type 0) → Argument T → Type 0
NearArgument Near (arguments.«Value» o) = NearOperand Near o
NearArgument Near arguments.Void = ⊤
NearArgument Near arguments.Refused = ⊤

abbrev pub NearDot : {T S D : Type 0} → (T → Type 0) → NearRest S D → Dot T D → Type 0
NearDot Near Rest (dots.«Package» d) = Rest.decl d
NearDot Near Rest dots.Refused = ⊤
NearDot Near Rest dots.Untyped = ⊤
NearDot Near Rest (dots.«Value» o) = NearOperand Near o

abbrev pub NearField : {T D : Type 0} → (T → Type 0) → FieldOf T D → Type 0
NearField Near f = IfAny Near f.known.field_type

-- what a name stands for
abbrev pub NearFound : {T S D : Type 0} → (T → Type 0) → NearRest S D → Found T S D → Type 0
NearFound Near Rest founds.Missing = ⊤
NearFound Near Rest founds.BadImport = ⊤
NearFound Near Rest founds.Outside = ⊤
NearFound Near Rest (founds.«Package» d) = Rest.decl d
NearFound Near Rest (founds.«Type» d t) = IfAny Near t
NearFound Near Rest (founds.Func d s) = Rest.sign s
NearFound Near Rest (founds.Builtin d b) = ⊤
NearFound Near Rest (founds.«Value» d o) = IfAny (NearOperand Near) o

abbrev pub NearExported : {T S D : Type 0} → (T → Type 0) → NearRest S D → Exported T S D → Type 0
NearExported Near Rest exporteds.Absent = ⊤
NearExported Near Rest exporteds.Hidden = ⊤
NearExported Near Rest (exporteds.«Type» d t) = IfAny Near t
NearExported Near Rest (exporteds.Func d s) = Rest.sign s
NearExported Near Rest (exporteds.«Value» d o) = IfAny (NearOperand Near) o

-- the member that a selector chooses
abbrev pub NearSelection : {T S D P : Type 0} → (T → Type 0) → NearRest S D → Selection T S D P → Type 0
NearSelection Near Rest (selections.Missing rule) = ⊤
NearSelection Near Rest (selections.«Field» d path t by_pointer) = IfAny Near t
NearSelection Near Rest (selections.Method d path s needs_pointer by_pointer) = Rest.sign s

-- what an expression denotes
abbrev pub NearDenoted : {T S D : Type 0} → (T → Type 0) → NearRest S D → Denoted T S D → Type 0
NearDenoted Near Rest denotes.Refused = ⊤
NearDenoted Near Rest denotes.Typeless = ⊤
NearDenoted Near Rest (denotes.«Package» d) = Rest.decl d
NearDenoted Near Rest (denotes.«Type» d t) = IfAny Near t
NearDenoted Near Rest (denotes.«Value» o) = NearOperand Near o
NearDenoted Near Rest (denotes.Several s) = Rest.sign s
NearDenoted Near Rest denotes.Nothing = ⊤
NearDenoted Near Rest (denotes.Func d s) = Rest.sign s
NearDenoted Near Rest (denotes.Builtin d b) = ⊤
