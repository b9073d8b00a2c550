-- Types that have no methods.
use Rattle.std.proofs.Common.{◌≡◌, List, ℕ, true, subst}
use Rattle.go_term_core.specs.decl_core.declared.keys.DeclKey.{DeclKey}
use Rattle.go_term_core.specs.Terms.{Term, NoType, Predeclared, ErrorType, Defined, PointerTo, StructOf, InterfaceOf}
use Rattle.go_term_core.specs.declared.settling.kind.Kind.{Kind}
use Rattle.go_term_core.specs.declared.settling.kind.Kind.TheVariants as kinds
use Rattle.go_select_core.specs.table_core.Entries.{EntryLook, underlying_in}
use Rattle.go_select_core.specs.embed_core.Owners.{Found}
use Rattle.go_select_core.specs.levels.Selectors.{In, FieldsIn, unless_refused, term_kind_in, searched_under}
use Rattle.go_mset_core.specs.MethodSets.{IsMethodFound, IsInMethodSet}
use Rattle.go_mset_core.specs.Laws.{HaveNoMethods}

behind_fields : (look : EntryLook) (k : Kind) (base : Term) (name from path : List ℕ) (m : Found) → IsMethodFound look (unless_refused k (FieldsIn base)) name from path m → ⊥
behind_fields look kinds.Nothing base name from path m h = h
behind_fields look kinds.Pointer base name from path m h = h
behind_fields look kinds.Interface base name from path m h = h
behind_fields look kinds.Other base name from path m h = h

no_type : (look : EntryLook) (t : Term) (name from path : List ℕ) (m : Found) → underlying_in look t ≡ NoType → IsInMethodSet look t name from path m → ⊥
no_type look NoType name from path m none h = h.1
no_type look (Predeclared b) name from path m none h = cc
no_type look ErrorType name from path m none h = cc
no_type look (Defined k) name from path m none h = subst (λ u. IsMethodFound look (searched_under look (Defined k) u) name from path m) none h.1
no_type look (PointerTo t) name from path m none h = cc
no_type look (StructOf home fs) name from path m none h = cc
no_type look (InterfaceOf home ms) name from path m none h = cc

pub have_none : HaveNoMethods
have_none =
    record {
      pointer_to_pointer = λ look t name from path m is h. subst (λ k. IsMethodFound look (unless_refused k (In t true)) name from path m) is h.1;
      pointer_to_interface = λ look t name from path m is h. subst (λ k. IsMethodFound look (unless_refused k (In t true)) name from path m) is h.1;
      defined_pointer = λ look k base name from path m is h.
          behind_fields look (term_kind_in look base) base name from path m (subst (λ u. IsMethodFound look (searched_under look (Defined k) u) name from path m) is h.1);
      no_type = no_type;
    }
