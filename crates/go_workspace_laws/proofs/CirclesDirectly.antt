-- What a type uses directly it mentions.
use Rattle.std.proofs.Common.{inl, inr}
use Rattle.std.specs.Prelude.{Contains}
use Rattle.std.proofs.lemmas.List.Elements.{Contains-append_cases, Contains-append_left, Contains-append_right}
use Rattle.go_term_core.specs.decl_core.declared.keys.DeclKey.{DeclKey}
use Rattle.go_term_core.specs.Terms.{Term, NoType, Predeclared, ErrorType, Defined, PointerTo, StructOf, InterfaceOf, Fields, NoField, AField, fields_keys, term_keys}
use Rattle.go_select_core.specs.type_core.Built.{direct_fields, direct_keys}
use Rattle.go_select_core.specs.type_core.Looping.{none_there}

mutual
  pub direct_mentioned : (t : Term) (k : DeclKey) → Contains (direct_keys t) k → Contains (term_keys t) k
  direct_mentioned NoType k h = h
  direct_mentioned (Predeclared b) k h = h
  direct_mentioned ErrorType k h = h
  direct_mentioned (Defined j) k h = h
  direct_mentioned (PointerTo t) k h = absurd (none_there k h)
  direct_mentioned (StructOf path fs) k h = fields_mentioned fs k h
  direct_mentioned (InterfaceOf path ms) k h = absurd (none_there k h)

  fields_mentioned : (fs : Fields) (k : DeclKey) → Contains (direct_fields fs) k → Contains (fields_keys fs) k
  fields_mentioned NoField k h = h
  fields_mentioned (AField name place embedded t tag fs) k h = elim (Contains-append_cases (direct_keys t) (direct_fields fs) k h) [
    | inl a ↦ Contains-append_left (term_keys t) (fields_keys fs) k (direct_mentioned t k a)
    | inr b ↦ Contains-append_right (term_keys t) (fields_keys fs) k (fields_mentioned fs k b)
  ]
