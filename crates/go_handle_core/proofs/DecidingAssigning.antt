-- Assignability is decided.
use Rattle.std.proofs.Common.{◌≡◌, ◌↔◌, ℕ, Bool, true, not, ◌&&◌, ◌||◌, List, IsTrue, refl, sym, ap, ◌⊎◌, inl, inr}
use Rattle.go_term_core.specs.declared.term.Basic.{Basic}
use Rattle.go_term_core.specs.declared.term.Basic.TheVariants as basics
use Rattle.go_term_core.specs.Terms.{Term, NoType, Predeclared, ErrorType, Defined, PointerTo, StructOf, InterfaceOf, Fields}
use Rattle.go_term_core.specs.Identity.{Identical}
use Rattle.go_table_core.specs.Entries.{EntryLook, find_entry, underlying_in, IsUnnamed}
use Rattle.go_table_core.specs.Underlying.{IdenticalUnder}
use Rattle.go_table_core.specs.Assign.{Assigned, AValue, ANil, AnInteger, AText, ABoolean, IsNamed, IsInterface, IsPointer, IsValueAssignable, identical, alike, implements_it, IsFitting, is_named}
use Rattle.go_denote_core.specs.operand_core.declared.types.TypeForm.TheVariants as forms
use Rattle.go_handle_core.specs.deciding.Rules.{form_under}
use Rattle.go_mset_core.specs.Implementing.{Implements}
use Rattle.go_handle_core.specs.deciding.Identity.{identical_of, identical_under_of}
use Rattle.go_handle_core.specs.deciding.Conversion.{is_type_term}
use Rattle.go_handle_core.specs.deciding.Implementing.{implements_of}
use Rattle.go_handle_core.specs.deciding.Assigning.{assigned_type, is_interface, is_pointer, is_predeclared, value_fits, untyped_fits, is_fitting}
use Rattle.go_handle_core.specs.deciding.Laws.{AssignabilityIsDecided, RulesAreDecided}
use Rattle.go_handle_core.proofs.DecidingTests.{both_decide, some_decide, never, decides_not, decides_basic}
use Rattle.go_handle_core.proofs.DecidingAlike.{decides_by, decides_under}
use Rattle.go_handle_core.proofs.DecidingConverting.{decides_type, convertibility_decided}
use Rattle.go_handle_core.proofs.DecidingImplementing.{implementation_decided}

decides_named : (t : Term) → IsTrue (is_named t) ↔ IsNamed t
decides_named NoType = never (λ h. h)
decides_named (Predeclared b) = (λ h. tt, λ h. refl)
decides_named ErrorType = (λ h. tt, λ h. refl)
decides_named (Defined k) = (λ h. tt, λ h. refl)
decides_named (PointerTo t) = never (λ h. h)
decides_named (StructOf path fs) = never (λ h. h)
decides_named (InterfaceOf path ms) = never (λ h. h)

decides_interface : (t : Term) → IsTrue (is_interface t) ↔ IsInterface t
decides_interface NoType = never (λ h. h)
decides_interface (Predeclared b) = never (λ h. h)
decides_interface ErrorType = (λ h. tt, λ h. refl)
decides_interface (Defined k) = never (λ h. h)
decides_interface (PointerTo t) = never (λ h. h)
decides_interface (StructOf path fs) = never (λ h. h)
decides_interface (InterfaceOf path ms) = (λ h. tt, λ h. refl)

decides_pointer : (t : Term) → IsTrue (is_pointer t) ↔ IsPointer t
decides_pointer NoType = never (λ h. h)
decides_pointer (Predeclared b) = never (λ h. h)
decides_pointer ErrorType = never (λ h. h)
decides_pointer (Defined k) = never (λ h. h)
decides_pointer (PointerTo t) = (λ h. tt, λ h. refl)
decides_pointer (StructOf path fs) = never (λ h. h)
decides_pointer (InterfaceOf path ms) = never (λ h. h)

decides_predeclared : (b : Basic) (t : Term) → IsTrue (is_predeclared b t) ↔ (t ≡ Predeclared b)
decides_predeclared b NoType = never (λ h. cc)
decides_predeclared b (Predeclared c) = (λ h. ap Predeclared (sym ((decides_basic b c).0 h)), λ h. (decides_basic b c).1 (let e : c ≡ b = (cc) in sym e))
decides_predeclared b ErrorType = never (λ h. cc)
decides_predeclared b (Defined k) = never (λ h. cc)
decides_predeclared b (PointerTo t) = never (λ h. cc)
decides_predeclared b (StructOf path fs) = never (λ h. cc)
decides_predeclared b (InterfaceOf path ms) = never (λ h. cc)

module _ (look : EntryLook) (t : Term) (I : Type 0) (implements : Bool) (test : IsTrue implements ↔ I) where
  -- the rules for a value of a type
  abbrev ByRule : Term → Type 0
  ByRule v = Identical v t ⊎ ((IdenticalUnder true (underlying_in look v) (underlying_in look t) × ((IsNamed v × IsNamed t) → ⊥)) ⊎ (IsInterface (underlying_in look t) × I))

  by_rule : (v : Term) → IsTrue (value_fits look v t implements) ↔ ByRule v
  by_rule v =
      some_decide (identical_of v t) ((identical_under_of true (underlying_in look v) (underlying_in look t) && not (is_named v && is_named t)) || (is_interface (underlying_in look t) && implements)) (decides_by true v t)
      (some_decide (identical_under_of true (underlying_in look v) (underlying_in look t) && not (is_named v && is_named t)) (is_interface (underlying_in look t) && implements)
      (both_decide (identical_under_of true (underlying_in look v) (underlying_in look t)) (not (is_named v && is_named t)) (decides_under true (underlying_in look v) (underlying_in look t))
      (decides_not (is_named v && is_named t) (both_decide (is_named v) (is_named t) (decides_named v) (decides_named t))))
      (both_decide (is_interface (underlying_in look t)) implements (decides_interface (underlying_in look t)) test))

  to_value : (v : Term) → ByRule v → IsValueAssignable look v t I
  to_value v (inl h) = identical h
  to_value v (inr (inl h)) = alike h.0 h.1
  to_value v (inr (inr h)) = implements_it h.0 h.1

  of_value : (v : Term) → IsValueAssignable look v t I → ByRule v
  of_value v (identical h) = inl h
  of_value v (alike h apart) = inr (inl (h, apart))
  of_value v (implements_it h i) = inr (inr (h, i))

  decides_value : (v : Term) → IsTrue (value_fits look v t implements) ↔ IsValueAssignable look v t I
  decides_value v = (λ h. to_value v ((by_rule v).0 h), λ h. (by_rule v).1 (of_value v h))

  decides_untyped : (b : Basic) → IsTrue (untyped_fits look b t implements) ↔ ((underlying_in look t ≡ Predeclared b) ⊎ (IsInterface (underlying_in look t) × I))
  decides_untyped b =
      some_decide (is_predeclared b (underlying_in look t)) (is_interface (underlying_in look t) && implements) (decides_predeclared b (underlying_in look t))
      (both_decide (is_interface (underlying_in look t)) implements (decides_interface (underlying_in look t)) test)

  decides_fitting : (a : Assigned) → IsTrue (is_fitting look a t implements) ↔ IsFitting look a t I
  decides_fitting (AValue v) = both_decide (is_type_term look v) (value_fits look v t implements) (decides_type look v) (decides_value v)
  decides_fitting ANil = some_decide (is_pointer (underlying_in look t)) (is_interface (underlying_in look t)) (decides_pointer (underlying_in look t)) (decides_interface (underlying_in look t))
  decides_fitting AnInteger = decides_untyped basics.Int
  decides_fitting AText = decides_untyped basics.Text
  decides_fitting ABoolean = decides_untyped basics.Bool

pub assignability_decided : AssignabilityIsDecided
assignability_decided es a t =
    both_decide (is_type_term (find_entry es) t) (is_fitting (find_entry es) a t (implements_of es (assigned_type a) t)) (decides_type (find_entry es) t)
    (decides_fitting (find_entry es) t (Implements (find_entry es) (assigned_type a) t) (implements_of es (assigned_type a) t) (implementation_decided.implements es (assigned_type a) t) a)

-- forms

basic_under : (u : Term) (b : Basic) → (form_under u ≡ forms.Basic b) ↔ (u ≡ Predeclared b)
basic_under NoType b = (λ h. cc, λ h. cc)
basic_under (Predeclared c) b = (λ h. let e : c ≡ b = (cc) in ap Predeclared e, λ h. let e : c ≡ b = (cc) in ap forms.Basic e)
basic_under ErrorType b = (λ h. cc, λ h. cc)
basic_under (Defined k) b = (λ h. cc, λ h. cc)
basic_under (PointerTo t) b = (λ h. cc, λ h. cc)
basic_under (StructOf path fs) b = (λ h. cc, λ h. cc)
basic_under (InterfaceOf path ms) b = (λ h. cc, λ h. cc)

pointer_under : (u base : Term) → (form_under u ≡ forms.Pointer base) ↔ (u ≡ PointerTo base)
pointer_under NoType base = (λ h. cc, λ h. cc)
pointer_under (Predeclared c) base = (λ h. cc, λ h. cc)
pointer_under ErrorType base = (λ h. cc, λ h. cc)
pointer_under (Defined k) base = (λ h. cc, λ h. cc)
pointer_under (PointerTo t) base = (λ h. let e : t ≡ base = (cc) in ap PointerTo e, λ h. let e : t ≡ base = (cc) in ap forms.Pointer e)
pointer_under (StructOf path fs) base = (λ h. cc, λ h. cc)
pointer_under (InterfaceOf path ms) base = (λ h. cc, λ h. cc)

interface_under : (u : Term) → (form_under u ≡ forms.Interface) ↔ IsInterface u
interface_under NoType = (λ h. cc, λ h. absurd h)
interface_under (Predeclared c) = (λ h. cc, λ h. absurd h)
interface_under ErrorType = (λ h. tt, λ h. refl)
interface_under (Defined k) = (λ h. cc, λ h. absurd h)
interface_under (PointerTo t) = (λ h. cc, λ h. absurd h)
interface_under (StructOf path fs) = (λ h. cc, λ h. absurd h)
interface_under (InterfaceOf path ms) = (λ h. tt, λ h. refl)

struct_under : (u : Term) → (form_under u ≡ forms.Struct) ↔ ((p : List ℕ) × (fs : Fields) × (u ≡ StructOf p fs))
struct_under NoType = (λ h. cc, λ h. let e = h.2 in (cc))
struct_under (Predeclared c) = (λ h. cc, λ h. let e = h.2 in (cc))
struct_under ErrorType = (λ h. cc, λ h. let e = h.2 in (cc))
struct_under (Defined k) = (λ h. cc, λ h. let e = h.2 in (cc))
struct_under (PointerTo t) = (λ h. cc, λ h. let e = h.2 in (cc))
struct_under (StructOf path fs) = (λ h. (path, fs, refl), λ h. refl)
struct_under (InterfaceOf path ms) = (λ h. cc, λ h. let e = h.2 in (cc))

nothing_under : (u : Term) → IsUnnamed u → (form_under u ≡ forms.Nothing) ↔ ((u ≡ NoType → ⊥) → ⊥)
nothing_under NoType plain = (λ h some. some refl, λ h. refl)
nothing_under (Predeclared c) plain = (λ h. cc, λ h. absurd (h (λ e. cc)))
nothing_under ErrorType plain = (λ h. cc, λ h. absurd (h (λ e. cc)))
nothing_under (Defined k) plain = absurd plain
nothing_under (PointerTo t) plain = (λ h. cc, λ h. absurd (h (λ e. cc)))
nothing_under (StructOf path fs) plain = (λ h. cc, λ h. absurd (h (λ e. cc)))
nothing_under (InterfaceOf path ms) plain = (λ h. cc, λ h. absurd (h (λ e. cc)))

pub rules_decided : RulesAreDecided
rules_decided =
    record {
      identical = λ es path t u. decides_by true t u;
      assignable = λ es path v t. assignability_decided es (AValue v) t;
      convertible = λ es path s t. convertibility_decided (find_entry es) s t;
      basic = λ es path t b. basic_under (underlying_in (find_entry es) t) b;
      pointer = λ es path t base. pointer_under (underlying_in (find_entry es) t) base;
      interface = λ es path t. interface_under (underlying_in (find_entry es) t);
      struct_type = λ es path t. struct_under (underlying_in (find_entry es) t);
      nothing = λ es path t plain. nothing_under (underlying_in (find_entry es) t) plain;
    }
