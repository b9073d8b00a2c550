-- Laws of method sets and of implementation.
use Rattle.std.specs.Prelude.{◌≡◌, ◌↔◌, ℕ, Bool, true, false, List, [], ◌∷◌, Result, Ok, Err, map, ⊤}
use Rattle.go_path_core.specs.text_core.Text.{SameId, is_blank}
use Rattle.go_path_core.specs.text_core.declared.rule.Rule.{Rule}
use Rattle.go_term_core.specs.decl_core.declared.keys.DeclKey.{DeclKey}
use Rattle.go_term_core.specs.declared.term.MemberPlace.{MemberPlace}
use Rattle.go_term_core.specs.Terms.{Term, NoType, Defined, PointerTo, InterfaceOf, Methods, NoMethod, AMethod, Sign}
use Rattle.go_term_core.specs.Laws.{HasNone}
use Rattle.go_term_core.specs.declared.settling.kind.Kind.TheVariants as kinds
use Rattle.go_select_core.specs.table_core.Assign.{IsInterface}
use Rattle.go_select_core.specs.table_core.Entries.{EntryLook, underlying_in, declared_methods}
use Rattle.go_select_core.specs.table_core.Laws.{AgreeFrom}
use Rattle.go_select_core.specs.embed_core.Owners.{Found, AMethodOf, Named, owner_in}
use Rattle.go_select_core.specs.embed_core.OwnersShown.{IsNamedAt, found_shown, named_shown}
use Rattle.go_select_core.specs.declared.levels.search.Selected.{Selected}
use Rattle.go_select_core.specs.levels.Paths.{Step, IsSelected}
use Rattle.go_select_core.specs.levels.Selectors.{IsSelectorAnswer, IsRule, term_kind_in}
use Rattle.go_mset_core.specs.declared.interface.Missing.{Missing}
use Rattle.go_mset_core.specs.declared.methods.SetMethod.{SetMethod}
use Rattle.go_mset_core.specs.MethodSets.{IsCallable, IsInMethodSet}
use Rattle.go_mset_core.specs.MethodLists.{IsMethodSet}
use Rattle.go_mset_core.specs.Implementing.{IsSigned, IsOfInterface, Implements, IsImplementing}

-- a type that is neither a pointer type nor an interface type
abbrev pub IsOther : EntryLook → Term → Type 0
IsOther look t = term_kind_in look t ≡ kinds.Other

-- an interface type, of which no methods are declared
abbrev pub IsInterfaceType : EntryLook → Term → Type 0
IsInterfaceType look t = IsInterface (underlying_in look t) × (declared_methods look t ≡ [])

-- what a selector denotes is in the method set where it is a method that needs no pointer or has one, and nothing else is
pub record SelectorsDecide : Type 0 where
  pub selected : (look : EntryLook) (t : Term) (name from : List ℕ) (s : Selected) → IsSelectorAnswer look t name from (Ok s)
      → IsInMethodSet look t name from s.path (found_shown s.member) ↔ IsCallable (found_shown s.member) s.through_pointer
  pub only : (look : EntryLook) (t : Term) (name from : List ℕ) (s : Selected) (path : List ℕ) (m : Found) → IsSelectorAnswer look t name from (Ok s) → IsInMethodSet look t name from path m
      → (path ≡ s.path) × (m ≡ found_shown s.member)
  pub none : (look : EntryLook) (t : Term) (name from : List ℕ) (r : Rule) (path : List ℕ) (m : Found) → IsRule look t name from r → IsInMethodSet look t name from path m → ⊥

-- the method set of t is within that of a pointer to t
abbrev pub PointerHasMore : Type 0
PointerHasMore =
    (look : EntryLook) (t : Term) (name from path : List ℕ) (m : Found) → IsOther look t → IsInMethodSet look t name from path m → IsInMethodSet look (PointerTo t) name from path m

-- a pointer to t implements what t implements
abbrev pub PointerImplementsMore : Type 0
PointerImplementsMore = (look : EntryLook) (t i : Term) → IsOther look t → Implements look t i → Implements look (PointerTo t) i

-- what a caller sees of a method: its name, its package, the method, and the path
abbrev pub method_shown : SetMethod → Named × List ℕ
method_shown m = (named_shown m.member, m.path)

-- at most one list is the method set
abbrev pub OneMethodSet : Type 0
OneMethodSet = (look : EntryLook) (t : Term) (ms ns : List SetMethod) → IsMethodSet look t ms → IsMethodSet look t ns → map method_shown ms ≡ map method_shown ns

-- a member of t itself, the only one that the identifier names
pub record IsOwn (look : EntryLook) (t : Term) (name from : List ℕ) (f : Found) : Type 0 where
  pub number : ℕ
  pub has : IsNamedAt (owner_in look t) name from number f
  pub only : (j : ℕ) (g : Found) → IsNamedAt (owner_in look t) name from j g → number ≡ j

-- a method that is declared of t is in its method set where its receiver has no star, and in that of a pointer to t in any case
pub record ReceiversDecide : Type 0 where
  pub type : (look : EntryLook) (t : Term) (name from home : List ℕ) (place : MemberPlace) (pointer : Bool) (g : Sign)
      → IsOther look t → is_blank name ≡ false → IsOwn look t name from (AMethodOf home place pointer g)
      → IsInMethodSet look t name from [] (AMethodOf home place pointer g) ↔ (pointer ≡ false)
  pub pointer : (look : EntryLook) (t : Term) (name from home : List ℕ) (place : MemberPlace) (pointer : Bool) (g : Sign)
      → IsOther look t → is_blank name ≡ false → IsOwn look t name from (AMethodOf home place pointer g)
      → IsInMethodSet look (PointerTo t) name from [] (AMethodOf home place pointer g)

-- the struct type s embeds t by the field at place i, with a star or without, and its identifier selects m through that field
pub record IsPromoted (look : EntryLook) (s t : Term) (name from : List ℕ) (i : ℕ) (star : Bool) (path : List ℕ) (m : Found) : Type 0 where
  pub other : IsOther look s
  pub embeds : Step look s i star t
  pub passes : Bool
  pub selected : IsSelected look s name from (i ∷ path) passes m

-- what an embedded field promotes
pub record Promotion : Type 0 where
  -- s embeds t: the method sets of s and of a pointer to s have the promoted methods of those of t and of a pointer to t
  pub type_of_type : (look : EntryLook) (s t : Term) (name from : List ℕ) (i : ℕ) (path : List ℕ) (m : Found) → IsPromoted look s t name from i false path m → IsOther look t
      → IsInMethodSet look s name from (i ∷ path) m ↔ IsInMethodSet look t name from path m
  pub pointer_of_type : (look : EntryLook) (s t : Term) (name from : List ℕ) (i : ℕ) (path : List ℕ) (m : Found) → IsPromoted look s t name from i false path m → IsOther look t
      → IsInMethodSet look (PointerTo s) name from (i ∷ path) m ↔ IsInMethodSet look (PointerTo t) name from path m
  -- s embeds a pointer to t: both have those of a pointer to t
  pub type_of_pointer : (look : EntryLook) (s t : Term) (name from : List ℕ) (i : ℕ) (path : List ℕ) (m : Found) → IsPromoted look s t name from i true path m → IsOther look t
      → IsInMethodSet look s name from (i ∷ path) m ↔ IsInMethodSet look (PointerTo t) name from path m
  pub pointer_of_pointer : (look : EntryLook) (s t : Term) (name from : List ℕ) (i : ℕ) (path : List ℕ) (m : Found) → IsPromoted look s t name from i true path m → IsOther look t
      → IsInMethodSet look (PointerTo s) name from (i ∷ path) m ↔ IsInMethodSet look (PointerTo t) name from path m
  -- s embeds an interface type: both have its methods
  pub type_of_interface : (look : EntryLook) (s t : Term) (name from : List ℕ) (i : ℕ) (path : List ℕ) (m : Found) → IsPromoted look s t name from i false path m → IsInterfaceType look t
      → IsInMethodSet look s name from (i ∷ path) m ↔ IsInMethodSet look t name from path m
  pub pointer_of_interface : (look : EntryLook) (s t : Term) (name from : List ℕ) (i : ℕ) (path : List ℕ) (m : Found) → IsPromoted look s t name from i false path m → IsInterfaceType look t
      → IsInMethodSet look (PointerTo s) name from (i ∷ path) m ↔ IsInMethodSet look t name from path m

abbrev pub IsSameAnswer : {A : Type 0} → Result A Missing → Result A Missing → Type 0
IsSameAnswer (Ok _) (Ok _) = ⊤
IsSameAnswer (Err a) (Err b) = a.name.now ≡ b.name.now
IsSameAnswer (Ok _) (Err b) = ⊥
IsSameAnswer (Err a) (Ok _) = ⊥

-- at most one answer is right
abbrev pub OneImplementation : Type 0
OneImplementation = (look : EntryLook) (t i : Term) (r s : Result (Unit {0}) Missing) → IsImplementing look t i r → IsImplementing look t i s → IsSameAnswer r s

-- the names of methods differ, and none is blank
abbrev pub AreNamed : Methods → Type 0
AreNamed NoMethod = ⊤
AreNamed (AMethod name place g ms) = (is_blank name ≡ false) × HasNone name ms × AreNamed ms

abbrev pub HasNamed : Term → Type 0
HasNamed (InterfaceOf path ms) = AreNamed ms
HasNamed _ = ⊤

-- an interface type whose methods have names that differ implements itself
abbrev pub ImplementsItself : Type 0
ImplementsItself = (look : EntryLook) (i : Term) → IsInterfaceType look i → HasNamed (underlying_in look i) → Implements look i i

abbrev pub ImplementsIsTransitive : Type 0
ImplementsIsTransitive = (look : EntryLook) (t i j : Term) → IsInterfaceType look i → Implements look t i → Implements look i j → Implements look t j

-- method sets and implementation depend on what the types reach alone
pub record ImplementationIsLocal : Type 0 where
  pub sets : (look other : EntryLook) (t : Term) (ms : List SetMethod) → AgreeFrom look other t → IsMethodSet look t ms ↔ IsMethodSet other t ms
  pub answers : (look other : EntryLook) (t i : Term) (r : Result (Unit {0}) Missing) → AgreeFrom look other t → AgreeFrom look other i → IsImplementing look t i r ↔ IsImplementing other t i r

-- the method set of an interface type has its own methods alone
abbrev pub InterfacesHaveNoMore : Type 0
InterfacesHaveNoMore =
    (look : EntryLook) (i : Term) (name from path : List ℕ) (m : Found) → IsInterfaceType look i → IsInMethodSet look i name from path m
    → (path ≡ []) × ((own own_from : List ℕ) × (g : Sign) × IsOfInterface (underlying_in look i) own own_from g × SameId own own_from name from × IsSigned m g)

-- types that have no methods
pub record HaveNoMethods : Type 0 where
  pub pointer_to_pointer : (look : EntryLook) (t : Term) (name from path : List ℕ) (m : Found) → term_kind_in look t ≡ kinds.Pointer → IsInMethodSet look (PointerTo t) name from path m → ⊥
  pub pointer_to_interface : (look : EntryLook) (t : Term) (name from path : List ℕ) (m : Found) → term_kind_in look t ≡ kinds.Interface → IsInMethodSet look (PointerTo t) name from path m → ⊥
  pub defined_pointer : (look : EntryLook) (k : DeclKey) (base : Term) (name from path : List ℕ) (m : Found) → underlying_in look (Defined k) ≡ PointerTo base → IsInMethodSet look (Defined k) name from path m → ⊥
  pub no_type : (look : EntryLook) (t : Term) (name from path : List ℕ) (m : Found) → underlying_in look t ≡ NoType → IsInMethodSet look t name from path m → ⊥
