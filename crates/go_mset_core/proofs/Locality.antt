-- Method sets depend on what a type reaches alone.
use Rattle.std.proofs.Common.{ℕ, List, Result, Ok, Err, sym, subst}
use Rattle.go_term_core.specs.Terms.{Term, Sign}
use Rattle.go_select_core.specs.table_core.Entries.{EntryLook, underlying_in}
use Rattle.go_select_core.specs.table_core.Laws.{AgreeFrom}
use Rattle.go_select_core.specs.table_core.Meanings.{underlying_local}
use Rattle.go_select_core.specs.embed_core.Owners.{Found}
use Rattle.go_select_core.specs.levels.Selectors.{Searched, Refused, In, FieldsIn, searched}
use Rattle.go_select_core.proofs.Local.{ReachesWhat, agree_along, agree_back, selected_there, searched_same, reach_searched}
use Rattle.go_mset_core.specs.declared.interface.Missing.{Missing}
use Rattle.go_mset_core.specs.declared.methods.SetMethod.{SetMethod}
use Rattle.go_mset_core.specs.MethodSets.{IsMethodFound, IsInMethodSet}
use Rattle.go_mset_core.specs.MethodLists.{IsMethodSet}
use Rattle.go_mset_core.specs.Implementing.{HasMethod, IsImplementsAnswer}
use Rattle.go_mset_core.specs.Laws.{ImplementationIsLocal}

module _ (look other : EntryLook) (t : Term) (a : AgreeFrom look other t) where
  found_there : (w : Searched) (name from path : List ℕ) (m : Found) → ReachesWhat look t w → IsMethodFound look w name from path m → IsMethodFound other w name from path m
  found_there (Refused why) name from path m inside h = h
  found_there (In u by_pointer) name from path m inside h = (h.0, selected_there look other u name from path h.0 m (agree_along look other t u a inside) h.1, h.2)
  found_there (FieldsIn u) name from path m inside h = h

  set_there : (name from path : List ℕ) (m : Found) → IsInMethodSet look t name from path m → IsInMethodSet other t name from path m
  set_there name from path m h =
      (h.0, subst (λ w. IsMethodFound other w name from path m) (searched_same look other t a) (found_there (searched look t) name from path m (reach_searched look t) h.1))

  has_there : (name from : List ℕ) (g : Sign) → HasMethod look t name from g → HasMethod other t name from g
  has_there name from g h = (h.0, h.1, set_there name from h.0 h.1 h.2, h.3)

listed_there : (look other : EntryLook) (t : Term) (ms : List SetMethod) → AgreeFrom look other t → IsMethodSet look t ms → IsMethodSet other t ms
listed_there look other t ms a s =
    record {
      rising = s.rising;
      sound = λ m h. set_there look other t a _ _ _ _ (s.sound m h);
      whole = λ name from path f h. s.whole name from path f (set_there other look t (agree_back look other t a) name from path f h);
    }

answer_there : {A : Type 0} (look other : EntryLook) (t u : Term) (r : Result A Missing) → AgreeFrom look other t → IsImplementsAnswer look t u r → IsImplementsAnswer other t u r
answer_there look other t u (Ok x) a h = λ name from g of. has_there look other t a name from g (h name from g of)
answer_there look other t u (Err m) a h =
    record {
      from = h.from;
      sign = h.sign;
      of_interface = h.of_interface;
      lacks = λ k. h.lacks (has_there other look t (agree_back look other t a) m.name.now h.from h.sign k);
      first = λ name from g of less. has_there look other t a name from g (h.first name from g of less);
    }

pub local : ImplementationIsLocal
local =
    record {
      sets = λ look other t ms a. (listed_there look other t ms a, listed_there other look t ms (agree_back look other t a));
      answers = λ look other t i r a b.
          let under = underlying_local.same look other i b in (
            λ h. subst (λ u. IsImplementsAnswer other t u r) under (answer_there look other t (underlying_in look i) r a h),
            λ h. answer_there other look t (underlying_in look i) r (agree_back look other t a) (subst (λ u. IsImplementsAnswer other t u r) (sym under) h),
          );
    }
