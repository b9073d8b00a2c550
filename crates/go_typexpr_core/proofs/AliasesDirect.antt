-- What types with the targets of their names use directly.
use Rattle.std.proofs.Common.{◌≡◌, inl, inr, List, [], ◌∷◌, ◌++◌, sym, subst}
use Rattle.std.specs.List.{Contains}
use Rattle.std.proofs.lemmas.List.Elements.{Contains-append_left, Contains-append_right, Contains-append_cases}
use Rattle.go_term_core.specs.decl_core.declared.keys.DeclKey.{DeclKey}
use Rattle.go_term_core.specs.Terms.{Term, NoType, Predeclared, ErrorType, Defined, PointerTo, StructOf, InterfaceOf, Fields, NoField, AField}
use Rattle.go_type_core.specs.Built.{direct_keys, direct_fields}
use Rattle.go_type_core.proofs.Looping.{contains_cases, contains_first, none_there}
use Rattle.go_typexpr_core.specs.aliases.Aliases.{with_targets, fields_with}

pub one_there : (k j : DeclKey) → Contains (k ∷ []) j → k ≡ j
one_there k j h = elim (contains_cases k [] j h) [ inl e ↦ e | inr r ↦ absurd (none_there j r) ]

module _ (mean : DeclKey → Term) where
  mutual
    -- a name's direct uses are those of the type that it means
    pub direct_there : (t : Term) (k j : DeclKey) → Contains (direct_keys t) k → Contains (direct_keys (mean k)) j → Contains (direct_keys (with_targets mean t)) j
    direct_there NoType k j h g = absurd (none_there k h)
    direct_there (Predeclared b) k j h g = absurd (none_there k h)
    direct_there ErrorType k j h g = absurd (none_there k h)
    direct_there (Defined l) k j h g = subst (λ (x : DeclKey). Contains (direct_keys (mean x)) j) (sym (one_there l k h)) g
    direct_there (PointerTo t) k j h g = absurd (none_there k h)
    direct_there (StructOf p fs) k j h g = fields_there fs k j h g
    direct_there (InterfaceOf p ms) k j h g = absurd (none_there k h)

    fields_there : (fs : Fields) (k j : DeclKey) → Contains (direct_fields fs) k → Contains (direct_keys (mean k)) j → Contains (direct_fields (fields_with mean fs)) j
    fields_there NoField k j h g = absurd (none_there k h)
    fields_there (AField name place embedded t tag fs) k j h g = elim (Contains-append_cases (direct_keys t) (direct_fields fs) k h) [
      | inl a ↦ Contains-append_left (direct_keys (with_targets mean t)) (direct_fields (fields_with mean fs)) j (direct_there t k j a g)
      | inr b ↦ Contains-append_right (direct_keys (with_targets mean t)) (direct_fields (fields_with mean fs)) j (fields_there fs k j b g)
    ]

  abbrev Comes : List DeclKey → DeclKey → Type 0
  Comes ks j = (k : DeclKey) × Contains ks k × Contains (direct_keys (mean k)) j

  comes_left : (ks js : List DeclKey) (j : DeclKey) → Comes ks j → Comes (ks ++ js) j
  comes_left ks js j c = (c.0, Contains-append_left ks js c.0 c.1, c.2)

  comes_right : (ks js : List DeclKey) (j : DeclKey) → Comes js j → Comes (ks ++ js) j
  comes_right ks js j c = (c.0, Contains-append_right ks js c.0 c.1, c.2)

  mutual
    -- and it has no others
    pub direct_from : (t : Term) (j : DeclKey) → Contains (direct_keys (with_targets mean t)) j → Comes (direct_keys t) j
    direct_from NoType j h = absurd (none_there j h)
    direct_from (Predeclared b) j h = absurd (none_there j h)
    direct_from ErrorType j h = absurd (none_there j h)
    direct_from (Defined l) j h = (l, contains_first l [], h)
    direct_from (PointerTo t) j h = absurd (none_there j h)
    direct_from (StructOf p fs) j h = fields_from fs j h
    direct_from (InterfaceOf p ms) j h = absurd (none_there j h)

    fields_from : (fs : Fields) (j : DeclKey) → Contains (direct_fields (fields_with mean fs)) j → Comes (direct_fields fs) j
    fields_from NoField j h = absurd (none_there j h)
    fields_from (AField name place embedded t tag fs) j h = elim (Contains-append_cases (direct_keys (with_targets mean t)) (direct_fields (fields_with mean fs)) j h) [
      | inl a ↦ comes_left (direct_keys t) (direct_fields fs) j (direct_from t j a)
      | inr b ↦ comes_right (direct_keys t) (direct_fields fs) j (fields_from fs j b)
    ]
