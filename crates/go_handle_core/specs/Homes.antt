-- What is kept of the package of a place.
use Rattle.std.specs.Prelude.{◌≡◌, ℕ, List}
use Rattle.go_term_core.specs.declared.term.Basic.TheVariants as basics
use Rattle.go_term_core.specs.Terms.{Term, Predeclared, ErrorType, InterfaceOf, NoMethod, Sign}
use Rattle.go_mset_core.specs.Implementing.{error_sign}

-- the predeclared types of a package, and the signature of the method of `error`
pub record IsHome (path : List ℕ) (int text boolean any error : Term) (of_error : Sign) : Type 0 where
  pub int_is : int ≡ Predeclared basics.Int
  pub text_is : text ≡ Predeclared basics.Text
  pub boolean_is : boolean ≡ Predeclared basics.Bool
  pub any_is : any ≡ InterfaceOf path NoMethod
  pub error_is : error ≡ ErrorType
  pub of_error_is : of_error ≡ error_sign
