-- Expressions that call no method.
--
-- docs/RULES.md, "Stack code". The Go specification, "Calls", "Method values".
use Rattle.go_code_core.specs.declared.fragments.names.Meaning.{Meaning}
use Rattle.go_code_core.specs.declared.fragments.names.Meaning.TheVariants as meanings
use Rattle.go_code_core.specs.fragments.Names.{CodeLooks}

-- a method is nothing that code is made of, and anything else is what it is
abbrev pub without_method : Meaning → Meaning
without_method (meanings.Method g) = meanings.Other
without_method (meanings.Variable at w) = meanings.Variable at w
without_method (meanings.Constant v) = meanings.Constant v
without_method (meanings.Function g) = meanings.Function g
without_method (meanings.«Type» w) = meanings.«Type» w
without_method meanings.Println = meanings.Println
without_method meanings.Panic = meanings.Panic
without_method meanings.Other = meanings.Other

-- names of which none is that of a method: of an expression that calls one no code is made by them
abbrev pub without_methods : CodeLooks → CodeLooks
without_methods names = record { meaning = λ at. without_method (names.meaning at); reference = names.reference; is_new = names.is_new }
