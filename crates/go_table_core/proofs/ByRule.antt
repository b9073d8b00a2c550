-- The rules by which values are assignable.
use Rattle.std.proofs.Common.{◌≡◌, ◌↔◌, ◌⊎◌, inl, inr, Bool, true, List, ◌++◌, Some, None, refl, sym, ap, ◌∙◌, subst}
use Rattle.std.specs.Prelude.{IsTrue}
use Rattle.go_term_core.specs.decl_core.declared.keys.DeclKey.{DeclKey}
use Rattle.go_term_core.specs.Terms.{Term, NoType, Predeclared, ErrorType, Defined, PointerTo, StructOf, InterfaceOf}
use Rattle.go_term_core.specs.Identity.{Identical}
use Rattle.go_table_core.specs.Entries.{Entry, EntryLook, find_entry, term_in, underlying_in}
use Rattle.go_table_core.specs.Underlying.{IdenticalUnder}
use Rattle.go_table_core.specs.Assign.{AValue, ANil, IsNamed, IsInterface, IsPointer, IsType, IsValueAssignable, identical, alike, implements_it, IsTermAssignable}
use Rattle.go_table_core.specs.Laws.{IsOneUnnamed, TakesUntyped, AssignabilityByRule, AddingKeeps}
use Rattle.go_table_core.proofs.Underlying.{nothing_under}
use Rattle.go_table_core.proofs.Finding.{or_else, find-append}

-- what is identical to a type is one

type_moves : (look : EntryLook) (v t : Term) → Identical v t → IsType look v → IsType look t
type_moves look NoType t h is none = is refl
type_moves look (Predeclared b) (Predeclared c) h is none = absurd (cc)
type_moves look (Predeclared b) _ h is none = h
type_moves look ErrorType ErrorType h is none = absurd (cc)
type_moves look ErrorType _ h is none = h
type_moves look (Defined k) (Defined j) h is none = is (ap (λ x. term_in (look x)) h ∙ none)
type_moves look (Defined k) _ h is none = h
type_moves look (PointerTo v) (PointerTo t) h is none = absurd (cc)
type_moves look (PointerTo v) _ h is none = h
type_moves look (StructOf p fs) (StructOf q gs) h is none = absurd (cc)
type_moves look (StructOf p fs) _ h is none = h
type_moves look (InterfaceOf p ms) (InterfaceOf q ns) h is none = absurd (cc)
type_moves look (InterfaceOf p ms) _ h is none = h

alike_moves : (look : EntryLook) (v t : Term) → IdenticalUnder true (underlying_in look v) (underlying_in look t) → IsType look v → IsType look t
alike_moves look v t h is none = is (nothing_under (underlying_in look v) (subst (λ (u : Term). IdenticalUnder true (underlying_in look v) u) none h))

-- an interface type and a pointer type are types
interface_type : (u : Term) → IsInterface u → u ≡ NoType → ⊥
interface_type u h none = subst (λ (x : Term). IsInterface x) none h

pointer_type : (u : Term) → IsPointer u → u ≡ NoType → ⊥
pointer_type u h none = subst (λ (x : Term). IsPointer x) none h

named_or_not : (t : Term) → IsNamed t ⊎ (IsNamed t → ⊥)
named_or_not NoType = inr (λ h. h)
named_or_not (Predeclared b) = inl tt
named_or_not ErrorType = inl tt
named_or_not (Defined k) = inl tt
named_or_not (PointerTo t) = inr (λ h. h)
named_or_not (StructOf path fs) = inr (λ h. h)
named_or_not (InterfaceOf path ms) = inr (λ h. h)

one_unnamed : (v t : Term) → (IsNamed v × IsNamed t → ⊥) → IsOneUnnamed v t
one_unnamed v t h = elim (named_or_not v) [
  | inl is ↦ inr (λ too. h (is, too))
  | inr not ↦ inl not
]

not_both : (v t : Term) → IsOneUnnamed v t → IsNamed v × IsNamed t → ⊥
not_both v t h both = elim h [ inl v' ↦ v' both.0 | inr t' ↦ t' both.1 ]

-- the rules for a value of a type

abbrev ValueRules : EntryLook → Term → Term → Bool → Type 0
ValueRules look v t implements = Identical v t ⊎ ((IdenticalUnder true (underlying_in look v) (underlying_in look t) × IsOneUnnamed v t) ⊎ (IsInterface (underlying_in look t) × IsTrue implements))

value_by : (look : EntryLook) (v t : Term) (implements : Bool) → IsValueAssignable look v t (IsTrue implements) → ValueRules look v t implements
value_by look v t implements (identical h) = inl h
value_by look v t implements (alike h apart) = inr (inl (h, one_unnamed v t apart))
value_by look v t implements (implements_it i h) = inr (inr (i, h))

value_from : (look : EntryLook) (v t : Term) (implements : Bool) → IsType look v → ValueRules look v t implements → IsTermAssignable look (AValue v) t (IsTrue implements)
value_from look v t implements is h = elim h [
  | inl same ↦ (type_moves look v t same is, (is, identical same))
  | inr more ↦ elim more [
    | inl under ↦ (alike_moves look v t under.0 is, (is, alike under.0 (not_both v t under.1)))
    | inr face ↦ (interface_type (underlying_in look t) face.0, (is, implements_it face.0 face.1))
  ]
]

by_value : (look : EntryLook) (v t : Term) (implements : Bool) → IsType look v → IsTermAssignable look (AValue v) t (IsTrue implements) ↔ ValueRules look v t implements
by_value look v t implements is = ((λ h. value_by look v t implements h.1.1), value_from look v t implements is)

-- and for others

by_nil : (look : EntryLook) (t : Term) (implements : Bool) → IsTermAssignable look ANil t (IsTrue implements) ↔ (IsPointer (underlying_in look t) ⊎ IsInterface (underlying_in look t))
by_nil look t implements = (
  (λ h. h.1),
  (λ h. ((λ none. elim h [ inl p ↦ pointer_type (underlying_in look t) p none | inr i ↦ interface_type (underlying_in look t) i none ]), h)),
)

untyped_type : (look : EntryLook) (basic t : Term) (implements : Bool) → (basic ≡ NoType → ⊥) → TakesUntyped look basic t implements → IsType look t
untyped_type look basic t implements is h none = elim h [ inl same ↦ is (sym same ∙ none) | inr face ↦ interface_type (underlying_in look t) face.0 none ]

pub by_rule : AssignabilityByRule
by_rule = record {
  value = by_value;
  nil = by_nil;
  integer = λ look t implements. ((λ h. h.1), (λ h. (untyped_type look _ t implements (λ e. cc) h, h)));
  text = λ look t implements. ((λ h. h.1), (λ h. (untyped_type look _ t implements (λ e. cc) h, h)));
  boolean = λ look t implements. ((λ h. h.1), (λ h. (untyped_type look _ t implements (λ e. cc) h, h)));
  defined_types = λ look k j implements apart no_face h. elim (value_by look (Defined k) (Defined j) implements h.1.1) [
    | inl same ↦ apart same
    | inr more ↦ elim more [
      | inl under ↦ not_both (Defined k) (Defined j) under.1 (tt, tt)
      | inr face ↦ no_face face.0
    ]
  ];
}

-- tables with more types

found_kept : (es more : List Entry) (k : DeclKey) (e : Entry) → find_entry es k ≡ Some e → find_entry (es ++ more) k ≡ Some e
found_kept es more k e h = find-append es more k ∙ ap (λ o. or_else o (find_entry more k)) h

found_added : (es more : List Entry) (k : DeclKey) → find_entry es k ≡ None → find_entry (es ++ more) k ≡ find_entry more k
found_added es more k h = find-append es more k ∙ ap (λ o. or_else o (find_entry more k)) h

pub adding : AddingKeeps
adding = record { found = found_kept; added = found_added }
