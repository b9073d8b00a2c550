-- What a selector denotes behind an operand of a type.
use Rattle.std.specs.Prelude.{◌≡◌, ◌⊎◌, ℕ, Bool, true, false, ◌||◌, List, Result, Ok, Err, ⊤}
use Rattle.go_path_core.specs.text_core.Text.{is_blank}
use Rattle.go_path_core.specs.text_core.declared.rule.Rule.{Rule}
use Rattle.go_path_core.specs.text_core.declared.rule.Rule.TheVariants as rules
use Rattle.go_term_core.specs.Terms.{Term, NoType, Predeclared, ErrorType, Defined, PointerTo, StructOf, InterfaceOf}
use Rattle.go_term_core.specs.declared.settling.kind.Kind.{Kind}
use Rattle.go_term_core.specs.declared.settling.kind.Kind.TheVariants as kinds
use Rattle.go_term_core.specs.settling.Settled.{kind_of_term}
use Rattle.go_embed_core.specs.table_core.Entries.{EntryLook, underlying_in}
use Rattle.go_embed_core.specs.Owners.{Found, AFieldOf}
use Rattle.go_embed_core.specs.OwnersShown.{found_shown}
use Rattle.go_select_core.specs.declared.levels.search.Selected.{Selected}
use Rattle.go_select_core.specs.levels.Paths.{HasHit, IsSelected, IsAmbiguous, IsMemberSpelled}

-- where a selector is searched: nowhere, by a rule; in a type, with whether the operand's type is a pointer type; or in what a defined
-- pointer type points to, where methods are left out
pub data Searched : Type 0 where
  Refused : Rule → Searched
  In : Term → Bool → Searched
  FieldsIn : Term → Searched

abbrev pub unless_refused : Kind → Searched → Searched
unless_refused kinds.Nothing s = Refused rules.S4
unless_refused kinds.Pointer s = Refused rules.S6
unless_refused kinds.Interface s = Refused rules.S6
unless_refused kinds.Other s = s

abbrev pub term_kind_in : EntryLook → Term → Kind
term_kind_in look t = kind_of_term (underlying_in look t)

-- in a type that is no pointer type as it is written; u is its underlying type
abbrev pub searched_under : EntryLook → Term → Term → Searched
searched_under look t NoType = Refused rules.S4
searched_under look t (PointerTo b) = unless_refused (term_kind_in look b) (FieldsIn b)
searched_under look t _ = In t false

abbrev pub searched : EntryLook → Term → Searched
searched look NoType = Refused rules.S4
searched look (Predeclared b) = In (Predeclared b) false
searched look ErrorType = In ErrorType false
searched look (Defined k) = searched_under look (Defined k) (underlying_in look (Defined k))
searched look (PointerTo t) = unless_refused (term_kind_in look t) (In t true)
searched look (StructOf path fs) = In (StructOf path fs) false
searched look (InterfaceOf path ms) = In (InterfaceOf path ms) false

abbrev pub IsFieldFound : Found → Type 0
IsFieldFound (AFieldOf path place t) = ⊤
IsFieldFound _ = ⊥

-- a member that is selected in a type
abbrev pub IsSelectedAs : EntryLook → Term → Bool → List ℕ → List ℕ → Selected → Type 0
IsSelectedAs look t by_pointer name from s =
    (pointer : Bool) × IsSelected look t name from s.path pointer (found_shown s.member) × (s.through_pointer ≡ by_pointer || pointer)

-- why nothing is selected in a type
pub data IsMissing (look : EntryLook) (t : Term) (name from : List ℕ) : Rule → Type 0 where
  ambiguous : IsAmbiguous look t name from → IsMissing look t name from rules.S2
  hidden : (HasHit look t name from → ⊥) → IsMemberSpelled look t name → IsMissing look t name from rules.S3
  absent : (HasHit look t name from → ⊥) → (IsMemberSpelled look t name → ⊥) → IsMissing look t name from rules.S1

-- the member that is denoted, with its path and whether a pointer is passed on the way
abbrev pub IsFoundAs : EntryLook → Searched → List ℕ → List ℕ → List ℕ → Bool → Found → Type 0
IsFoundAs look (Refused rule) name from path passes f = ⊥
IsFoundAs look (In t by_pointer) name from path passes f = (pointer : Bool) × IsSelected look t name from path pointer f × (passes ≡ by_pointer || pointer)
IsFoundAs look (FieldsIn t) name from path passes f = ((pointer : Bool) × IsSelected look t name from path pointer f × (passes ≡ true || pointer)) × IsFieldFound f

-- what a selector denotes behind an operand of a type
abbrev pub IsDenoted : EntryLook → Term → List ℕ → List ℕ → List ℕ → Bool → Found → Type 0
IsDenoted look t name from path passes f = (is_blank name ≡ false) × IsFoundAs look (searched look t) name from path passes f

-- what is selected, as the program has it
abbrev pub IsFoundSelected : EntryLook → Searched → List ℕ → List ℕ → Selected → Type 0
IsFoundSelected look w name from s = IsFoundAs look w name from s.path s.through_pointer (found_shown s.member)

-- a method is selected behind a defined pointer type
abbrev pub IsMethodBehind : EntryLook → Term → List ℕ → List ℕ → Type 0
IsMethodBehind look t name from = (path : List ℕ) × (pointer : Bool) × (f : Found) × IsSelected look t name from path pointer f × (IsFieldFound f → ⊥)

abbrev pub IsRefused : EntryLook → Searched → List ℕ → List ℕ → Rule → Type 0
IsRefused look (Refused why) name from rule = rule ≡ why
IsRefused look (In t by_pointer) name from rule = IsMissing look t name from rule
IsRefused look (FieldsIn t) name from rule = IsMissing look t name from rule ⊎ (IsMethodBehind look t name from × (rule ≡ rules.S7))

-- a blank name is refused before all else
abbrev pub IsRule : EntryLook → Term → List ℕ → List ℕ → Rule → Type 0
IsRule look t name from rule =
    ((is_blank name ≡ true) × (rule ≡ rules.S8)) ⊎ ((is_blank name ≡ false) × IsRefused look (searched look t) name from rule)

-- the answer to a selector, want of memory apart
abbrev pub IsSelectorAnswer : EntryLook → Term → List ℕ → List ℕ → Result Selected Rule → Type 0
IsSelectorAnswer look t name from (Ok s) = IsDenoted look t name from s.path s.through_pointer (found_shown s.member)
IsSelectorAnswer look t name from (Err rule) = (rule ≡ rules.M0) ⊎ IsRule look t name from rule
