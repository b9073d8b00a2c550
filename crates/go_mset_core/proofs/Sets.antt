-- What is in a method set.
use Rattle.std.proofs.Common.{◌≡◌, ◌↔◌, ℕ, Bool, true, false, ◌||◌, List, refl, sym, ap, ◌∙◌, subst, inl, inr}
use Rattle.go_path_core.specs.text_core.Text.{SameId, is_blank}
use Rattle.go_path_core.specs.text_core.declared.rule.Rule.{Rule}
use Rattle.go_term_core.specs.Terms.{Term, NoType, Predeclared, ErrorType, Defined, PointerTo, StructOf, InterfaceOf, Sign}
use Rattle.go_term_core.proofs.Meanings.{id_back, id_on}
use Rattle.go_term_core.specs.declared.settling.kind.Kind.TheVariants as kinds
use Rattle.go_term_core.specs.settling.Settled.{kind_of_term}
use Rattle.go_select_core.specs.table_core.Entries.{EntryLook, underlying_in}
use Rattle.go_select_core.specs.table_core.Assign.{IsInterface}
use Rattle.go_select_core.specs.embed_core.Owners.{OwnerModel, Found, AFieldOf, AMethodOf, AnInterfaces, TheErrorMethod}
use Rattle.go_select_core.specs.embed_core.OwnersShown.{IsNamedAt, found_shown}
use Rattle.go_select_core.specs.declared.levels.search.Selected.{Selected}
use Rattle.go_select_core.specs.levels.Paths.{Hit, IsSelected}
use Rattle.go_select_core.specs.levels.Selectors.{Searched, Refused, In, FieldsIn, unless_refused, searched_under, searched, IsFieldFound, IsFoundSelected, IsRefused, IsRule}
use Rattle.go_select_core.proofs.LevelsListLemmas.{true_false}
use Rattle.go_select_core.proofs.Meanings.{selected_same, missing_or_selected}
use Rattle.go_mset_core.specs.MethodSets.{IsCallable, IsMethodFound, IsInMethodSet}
use Rattle.go_mset_core.specs.Implementing.{HasMethod}
use Rattle.go_mset_core.specs.Laws.{IsOther, SelectorsDecide}

-- identifiers

named_by : (o : OwnerModel) (a p b q : List ℕ) (i : ℕ) (f : Found) → SameId a p b q → IsNamedAt o a p i f → IsNamedAt o b q i f
named_by o a p b q i f same h = (h.0, h.1, id_on h.0.0 h.0.1.0 a p b q h.2 same, h.3)

hit_by : (look : EntryLook) (t : Term) (a p b q : List ℕ) (path : List ℕ) (pointer : Bool) (m : ℕ) (f : Found) → SameId a p b q → Hit look t a p path pointer m f → Hit look t b q path pointer m f
hit_by look t a p b q path pointer m f same h = record { at = h.at; leads = h.leads; has = named_by _ a p b q m f same h.has }

selected_by : (look : EntryLook) (t : Term) (a p b q : List ℕ) (path : List ℕ) (pointer : Bool) (f : Found) → SameId a p b q → IsSelected look t a p path pointer f → IsSelected look t b q path pointer f
selected_by look t a p b q path pointer f same s =
    record {
      number = s.number;
      hit = hit_by look t a p b q path pointer s.number f same s.hit;
      shortest = λ r c m g h. s.shortest r c m g (hit_by look t b q a p r c m g (id_back a p b q same) h);
    }

found_by : (look : EntryLook) (w : Searched) (a p b q : List ℕ) (path : List ℕ) (m : Found) → SameId a p b q → IsMethodFound look w a p path m → IsMethodFound look w b q path m
found_by look (Refused rule) a p b q path m same h = h
found_by look (In t by_pointer) a p b q path m same h = (h.0, selected_by look t a p b q path h.0 m same h.1, h.2)
found_by look (FieldsIn t) a p b q path m same h = h

-- the same identifier, from whichever package
pub in_set_by : (look : EntryLook) (t : Term) (a p b q : List ℕ) (path : List ℕ) (m : Found) → SameId a p b q → IsInMethodSet look t a p path m → IsInMethodSet look t b q path m
in_set_by look t a p b q path m same h = (sym (ap is_blank same.0) ∙ h.0, found_by look (searched look t) a p b q path m same h.1)

pub has_method_by : (look : EntryLook) (t : Term) (a p b q : List ℕ) (g : Sign) → SameId a p b q → HasMethod look t a p g → HasMethod look t b q g
has_method_by look t a p b q g same h = (h.0, h.1, in_set_by look t a p b q h.0 h.1 same h.2, h.3)

-- what selectors denote

pub field_not_callable : (f : Found) (passes : Bool) → IsFieldFound f → IsCallable f passes → ⊥
field_not_callable (AFieldOf path place t) passes h c = c
field_not_callable (AMethodOf path place pointer g) passes h c = h
field_not_callable (AnInterfaces path place g) passes h c = h
field_not_callable TheErrorMethod passes h c = h

found_decides : (look : EntryLook) (w : Searched) (name from : List ℕ) (s : Selected) → IsFoundSelected look w name from s
    → IsMethodFound look w name from s.path (found_shown s.member) ↔ IsCallable (found_shown s.member) s.through_pointer
found_decides look (Refused why) name from s f = absurd f
found_decides look (In t by_pointer) name from s f = (
  λ x. subst (λ c. IsCallable (found_shown s.member) c) (ap (λ c. by_pointer || c) (selected_same look t name from s.path s.path x.0 f.0 (found_shown s.member) (found_shown s.member) x.1 f.1).1 ∙ sym f.2) x.2,
  λ c. (f.0, f.1, subst (λ b. IsCallable (found_shown s.member) b) f.2 c),
)
found_decides look (FieldsIn t) name from s f = (λ x. absurd x, λ c. field_not_callable (found_shown s.member) s.through_pointer f.1 c)

found_only : (look : EntryLook) (w : Searched) (name from : List ℕ) (s : Selected) (path : List ℕ) (m : Found) → IsFoundSelected look w name from s → IsMethodFound look w name from path m
    → (path ≡ s.path) × (m ≡ found_shown s.member)
found_only look (Refused why) name from s path m f h = absurd f
found_only look (In t by_pointer) name from s path m f h =
    let e = selected_same look t name from path s.path h.0 f.0 m (found_shown s.member) h.1 f.1 in
    (e.0, e.2)
found_only look (FieldsIn t) name from s path m f h = absurd h

refused_has_none : (look : EntryLook) (w : Searched) (name from : List ℕ) (r : Rule) (path : List ℕ) (m : Found) → IsRefused look w name from r → IsMethodFound look w name from path m → ⊥
refused_has_none look (Refused why) name from r path m f h = h
refused_has_none look (In t by_pointer) name from r path m f h = missing_or_selected look t name from path h.0 m r h.1 f
refused_has_none look (FieldsIn t) name from r path m f h = h

pub rule_has_none : (look : EntryLook) (t : Term) (name from : List ℕ) (r : Rule) (path : List ℕ) (m : Found) → IsRule look t name from r → IsInMethodSet look t name from path m → ⊥
rule_has_none look t name from r path m (inl x) h = true_false (is_blank name) x.0 h.0
rule_has_none look t name from r path m (inr x) h = refused_has_none look (searched look t) name from r path m x.1 h.1

pub selectors : SelectorsDecide
selectors =
    record {
      selected = λ look t name from s a. let d = found_decides look (searched look t) name from s a.1 in (λ h. d.0 h.1, λ c. (a.0, d.1 c));
      only = λ look t name from s path m a h. found_only look (searched look t) name from s path m a.1 h.1;
      none = λ look t name from r path m a h. rule_has_none look t name from r path m a h;
    }

-- where methods are searched

under_other : (look : EntryLook) (t u : Term) → kind_of_term u ≡ kinds.Other → searched_under look t u ≡ In t false
under_other look t NoType h = cc
under_other look t (Predeclared b) h = refl
under_other look t ErrorType h = refl
under_other look t (Defined k) h = refl
under_other look t (PointerTo u) h = cc
under_other look t (StructOf path fs) h = refl
under_other look t (InterfaceOf path ms) h = refl

pub searched_other : (look : EntryLook) (t : Term) → IsOther look t → searched look t ≡ In t false
searched_other look NoType h = cc
searched_other look (Predeclared b) h = refl
searched_other look ErrorType h = refl
searched_other look (Defined k) h = under_other look (Defined k) (underlying_in look (Defined k)) h
searched_other look (PointerTo t) h = cc
searched_other look (StructOf path fs) h = refl
searched_other look (InterfaceOf path ms) h = refl

pub searched_pointer : (look : EntryLook) (t : Term) → IsOther look t → searched look (PointerTo t) ≡ In t true
searched_pointer look t h = ap (λ k. unless_refused k (In t true)) h

under_interface : (look : EntryLook) (t u : Term) → IsInterface u → searched_under look t u ≡ In t false
under_interface look t NoType h = absurd h
under_interface look t (Predeclared b) h = refl
under_interface look t ErrorType h = refl
under_interface look t (Defined k) h = refl
under_interface look t (PointerTo u) h = absurd h
under_interface look t (StructOf path fs) h = refl
under_interface look t (InterfaceOf path ms) h = refl

pub searched_interface : (look : EntryLook) (t : Term) → IsInterface (underlying_in look t) → searched look t ≡ In t false
searched_interface look NoType h = absurd h
searched_interface look (Predeclared b) h = refl
searched_interface look ErrorType h = refl
searched_interface look (Defined k) h = under_interface look (Defined k) (underlying_in look (Defined k)) h
searched_interface look (PointerTo t) h = absurd h
searched_interface look (StructOf path fs) h = refl
searched_interface look (InterfaceOf path ms) h = refl

-- in the set, of a method that is selected where it is searched
pub set_by : (look : EntryLook) (t u : Term) (by_pointer : Bool) (name from path : List ℕ) (pointer : Bool) (m : Found) → searched look t ≡ In u by_pointer → IsSelected look u name from path pointer m
    → IsInMethodSet look t name from path m ↔ ((is_blank name ≡ false) × IsCallable m (by_pointer || pointer))
set_by look t u by_pointer name from path pointer m w s = (
  λ h. (
    h.0,
    let x : IsMethodFound look (In u by_pointer) name from path m = subst (λ v. IsMethodFound look v name from path m) w h.1 in
        subst (λ c. IsCallable m (by_pointer || c)) (selected_same look u name from path path x.0 pointer m m x.1 s).1 x.2,
  ),
  λ h. (h.0, subst (λ v. IsMethodFound look v name from path m) (sym w) (pointer, s, h.1)),
)

pub in_set_at : (look : EntryLook) (t u : Term) (by_pointer : Bool) (name from path : List ℕ) (m : Found) → searched look t ≡ In u by_pointer → IsInMethodSet look t name from path m
    → (pointer : Bool) × IsSelected look u name from path pointer m × IsCallable m (by_pointer || pointer)
in_set_at look t u by_pointer name from path m w h = subst (λ v. IsMethodFound look v name from path m) w h.1
