-- How underlying types are compared with that of `error`.
use Rattle.std.specs.Prelude.{◌≡◌, ◌⊎◌}
use Rattle.go_term_core.specs.declared.term.MemberPlace.{MemberPlace}
use Rattle.go_term_core.specs.Terms.{Term, ErrorType, Methods}
use Rattle.go_table_core.specs.Underlying.{error_method, IsErrorInterface}

-- the methods of an interface type are that of `error`
abbrev pub AreErrors : Methods → Type 0
AreErrors ms = (place : MemberPlace) × (ms ≡ error_method place)

-- one is `error`, and the other an interface type with its method alone
abbrev pub MeetsError : Term → Term → Type 0
MeetsError t u = ((t ≡ ErrorType) × IsErrorInterface u) ⊎ ((u ≡ ErrorType) × IsErrorInterface t)
