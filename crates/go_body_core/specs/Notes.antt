-- What is noted of the pieces of a function.
use Rattle.std.specs.Prelude.{ℕ, List, Option}
use Rattle.std.specs.List.{flat_map}
use Rattle.go_term_core.specs.Terms.{Term}
use Rattle.go_handle_core.specs.Declarations.{Declaration}
use Rattle.go_operand_core.specs.declared.types.Operand.{Operand}
use Rattle.go_expr_core.specs.declared.things.Use.{Use}
use Rattle.go_local_core.specs.declared.Fault.{Fault}
use Rattle.go_body_core.specs.declared.locals.Local.{Local}

-- what an occurrence has
abbrev pub TheUse : Type 0
TheUse = Use Declaration (List ℕ)

-- what a local stands for: a variable of a type, or a constant with its value; nothing where it has no type
abbrev pub TheValue : Type 0
TheValue = Option (Operand Term)

-- a local that a function declares: the offset of its identifier, and what it stands for
abbrev pub TheLocal : Type 0
TheLocal = Local

-- of one piece: what its occurrences have, in order of their places, its faults, and the locals that it declares
pub record NoteOf : Type 0 where
  pub uses : List TheUse
  pub faults : List Fault
  pub locals : List TheLocal

abbrev pub note : List TheUse → List Fault → List TheLocal → NoteOf
note us fs ls = record { uses = us; faults = fs; locals = ls }

-- of several pieces, in order
abbrev pub all_uses : List NoteOf → List TheUse
all_uses ns = flat_map (λ n. n.uses) ns

abbrev pub noted_faults : List NoteOf → List Fault
noted_faults ns = flat_map (λ n. n.faults) ns

abbrev pub all_locals : List NoteOf → List TheLocal
all_locals ns = flat_map (λ n. n.locals) ns
