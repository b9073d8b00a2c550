-- Samples of aliases, worked by hand.
use Rattle.std.specs.Prelude.{◌≡◌, ℕ, false, List, [], ◌∷◌}
use Rattle.go_term_core.specs.decl_core.declared.keys.DeclKey.{DeclKey}
use Rattle.go_term_core.specs.decl_core.declared.keys.DeclRef.{DeclRef}
use Rattle.go_term_core.specs.decl_core.declared.places.DeclKind.TheVariants as decl_kinds
use Rattle.go_term_core.specs.declared.term.Basic.TheVariants as basics
use Rattle.go_term_core.specs.declared.term.MemberPlace.TheVariants as places
use Rattle.go_term_core.specs.Terms.{Term, NoType, Predeclared, Defined, PointerTo, StructOf, NoField, AField}
use Rattle.go_type_core.specs.Built.{IsLooped}
use Rattle.go_type_core.specs.table_core.Entries.{Entry}
use Rattle.go_typexpr_core.specs.aliases.Aliases.{alias_ends, target_by}

-- the type declaration of a number
abbrev pub sample_ref : ℕ → DeclRef
sample_ref number = record { file = 0; number = number; kind = decl_kinds.Type }

-- its key in the package of a path
abbrev pub key_in : List ℕ → ℕ → DeclKey
key_in path number = record { path = path; decl = sample_ref number }

-- the name of a declaration of the package itself
abbrev pub named : ℕ → Term
named number = Defined (key_in [] number)

abbrev pub sample_entry : ℕ → Term → Entry
sample_entry number t = record { key = key_in [] number; name = 84 ∷ []; term = t; methods = [] }

-- `struct { A }`, with A the declaration of a number
abbrev pub struct_of : ℕ → Term
struct_of number = StructOf [] (AField (65 ∷ []) (places.Declared (sample_ref 9)) false (named number) [] NoField)

pub record WorkedAliases : Type 0 where
  -- `type A = B; type B = int`
  pub chain : alias_ends ((sample_ref 0, named 1) ∷ (sample_ref 1, Predeclared basics.Int) ∷ []) [] ≡ (sample_ref 0, Predeclared basics.Int) ∷ (sample_ref 1, Predeclared basics.Int) ∷ []
  -- `type A = B; type B = A; type C = A`
  pub circle : alias_ends ((sample_ref 0, named 1) ∷ (sample_ref 1, named 0) ∷ (sample_ref 2, named 0) ∷ []) [] ≡ (sample_ref 0, NoType) ∷ (sample_ref 1, NoType) ∷ (sample_ref 2, NoType) ∷ []
  -- `type A = A`
  pub itself : alias_ends ((sample_ref 0, named 0) ∷ []) [] ≡ (sample_ref 0, NoType) ∷ []
  -- `type A = T`, with `type T ..`
  pub declared : alias_ends ((sample_ref 0, named 1) ∷ []) [] ≡ (sample_ref 0, named 1) ∷ []
  -- `type A = p.T; type B = A`: what another package's declaration means, it means there
  pub foreign : (far : DeclKey → Term) → target_by [] (alias_ends ((sample_ref 0, Defined (key_in (112 ∷ []) 0)) ∷ (sample_ref 1, named 0) ∷ []) []) far (key_in [] 1) ≡ far (key_in (112 ∷ []) 0)
  -- `type T struct { A }; type A = T`: both reach themselves
  pub type_holds_alias : IsLooped (sample_entry 0 (struct_of 1) ∷ sample_entry 1 (named 0) ∷ []) (key_in [] 0)
  pub alias_holds_itself : IsLooped (sample_entry 0 (struct_of 1) ∷ sample_entry 1 (named 0) ∷ []) (key_in [] 1)
  -- `type T *A; type A = T`: neither does
  pub type_points_to_alias : IsLooped (sample_entry 0 (PointerTo (named 1)) ∷ sample_entry 1 (named 0) ∷ []) (key_in [] 0) → ⊥
  pub alias_is_pointed_to : IsLooped (sample_entry 0 (PointerTo (named 1)) ∷ sample_entry 1 (named 0) ∷ []) (key_in [] 1) → ⊥
