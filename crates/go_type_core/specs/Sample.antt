-- Samples of declarations, worked by hand.
use Rattle.std.specs.Prelude.{false, [], ◌∷◌}
use Rattle.go_term_core.specs.decl_core.declared.keys.DeclKey.{DeclKey}
use Rattle.go_term_core.specs.decl_core.declared.keys.DeclRef.{DeclRef}
use Rattle.go_term_core.specs.decl_core.declared.places.DeclKind.TheVariants as decl_kinds
use Rattle.go_term_core.specs.declared.term.MemberPlace.TheVariants as places
use Rattle.go_term_core.specs.Terms.{Term, Defined, PointerTo, StructOf, NoField, AField}
use Rattle.go_table_core.specs.Entries.{Entry, EntryLook}
use Rattle.go_type_core.specs.Built.{IsLooped, IsNoTypeHere}

abbrev ref : DeclRef
ref = record { file = 0; number = 0; kind = decl_kinds.Type }

abbrev pub sample_key : DeclKey
sample_key = record { path = []; decl = ref }

-- `type T ..`
abbrev pub type_sample : Term → Entry
type_sample t = record { key = sample_key; name = 84 ∷ []; term = t; methods = [] }

-- `struct { f .. }`
abbrev pub sample_struct : Term → Term
sample_struct t = StructOf [] (AField (102 ∷ []) (places.Declared ref) false t [] NoField)

pub record WorkedDeclaredTypes : Type 0 where
  -- `type T struct { f T }` reaches itself, and is no type
  pub holds_itself : IsLooped (type_sample (sample_struct (Defined sample_key)) ∷ []) sample_key
  pub is_nothing : (far : EntryLook) → IsNoTypeHere (type_sample (sample_struct (Defined sample_key)) ∷ []) far (Defined sample_key)
  -- a pointer to it is none
  pub pointer_is_nothing : (far : EntryLook) → IsNoTypeHere (type_sample (sample_struct (Defined sample_key)) ∷ []) far (PointerTo (Defined sample_key))
  -- `type T struct { f *T }` does not, and is a type
  pub holds_pointer : IsLooped (type_sample (sample_struct (PointerTo (Defined sample_key))) ∷ []) sample_key → ⊥
  pub is_type : (far : EntryLook) → IsNoTypeHere (type_sample (sample_struct (PointerTo (Defined sample_key))) ∷ []) far (Defined sample_key) → ⊥
  -- `type T *T` is a type too
  pub endless_is_type : (far : EntryLook) → IsNoTypeHere (type_sample (PointerTo (Defined sample_key)) ∷ []) far (Defined sample_key) → ⊥
  -- `type T T` is none
  pub own_name_is_nothing : (far : EntryLook) → IsNoTypeHere (type_sample (Defined sample_key) ∷ []) far (Defined sample_key)
