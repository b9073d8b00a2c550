-- Which types implement an interface type, as a test: the Go specification, "Implementing an interface", "Method sets".
use Rattle.std.specs.Prelude.{ℕ, Bool, true, false, not, ◌&&◌, ◌||◌, List, [], Result, Ok, Err, codes}
use Rattle.go_denote_core.specs.text_core.declared.rule.Rule.{Rule}
use Rattle.go_term_core.specs.Terms.{Term, NoType, Predeclared, ErrorType, Defined, PointerTo, StructOf, InterfaceOf, Methods, NoMethod, AMethod, Sign}
use Rattle.go_table_core.specs.Entries.{Entry, find_entry, underlying_in}
use Rattle.go_mset_core.specs.embed_core.Owners.{Found, AFieldOf, AMethodOf, AnInterfaces, TheErrorMethod}
use Rattle.go_mset_core.specs.Implementing.{error_sign}
use Rattle.go_handle_core.specs.deciding.Identity.{same_sign_of}
use Rattle.go_handle_core.specs.deciding.Selecting.{Choice, selected_of}

-- a method that needs no pointer, or has one
abbrev pub is_method_callable : Found → Bool → Bool
is_method_callable (AFieldOf path place t) passes = false
is_method_callable (AMethodOf path place pointer g) passes = not pointer || passes
is_method_callable (AnInterfaces path place g) passes = true
is_method_callable TheErrorMethod passes = true

-- a method with an identical signature
abbrev pub is_signed : Found → Sign → Bool
is_signed (AFieldOf path place t) g = false
is_signed (AMethodOf path place pointer h) g = same_sign_of h g
is_signed (AnInterfaces path place h) g = same_sign_of h g
is_signed TheErrorMethod g = same_sign_of error_sign g

abbrev pub is_method_chosen : Result Choice Rule → Sign → Bool
is_method_chosen (Ok c) g = is_method_callable c.member c.passes && is_signed c.member g
is_method_chosen (Err rule) g = false

-- the method set of t has a method of the identifier, which is written in a package, with a signature identical to g
abbrev pub has_method_of : List Entry → Term → List ℕ → List ℕ → Sign → Bool
has_method_of es t name from g = is_method_chosen (selected_of es t name from) g

-- each of the methods, which are written in a package
abbrev pub has_methods : List Entry → Term → List ℕ → Methods → Bool
has_methods es t path NoMethod = true
has_methods es t path (AMethod name place g ms) = has_method_of es t name path g && has_methods es t path ms

-- each method of an underlying type, which has none if it is no interface type
abbrev pub has_methods_under : List Entry → Term → Term → Bool
has_methods_under es t NoType = true
has_methods_under es t (Predeclared b) = true
has_methods_under es t ErrorType = has_method_of es t (codes "Error") [] error_sign
has_methods_under es t (Defined k) = true
has_methods_under es t (PointerTo u) = true
has_methods_under es t (StructOf path fs) = true
has_methods_under es t (InterfaceOf path ms) = has_methods es t path ms

-- t implements the interface type i
abbrev pub implements_of : List Entry → Term → Term → Bool
implements_of es t i = has_methods_under es t (underlying_in (find_entry es) i)
