-- What is decided of two types of a table.
use Rattle.std.specs.Prelude.{Bool, List, []}
use Rattle.go_term_core.specs.Terms.{Term}
use Rattle.go_table_core.specs.Entries.{Entry}
use Rattle.go_declared_core.specs.handle_core.DecidingRules.{term_rules}

-- whether a value of the first is assignable to a variable of the second
abbrev pub assignable_in : List Entry → Term → Term → Bool
assignable_in es v t = (term_rules es []).assignable v t

-- whether it is convertible to it by their underlying types
abbrev pub convertible_in : List Entry → Term → Term → Bool
convertible_in es v t = (term_rules es []).convertible v t
