-- Laws of what is decided.
use Rattle.std.specs.Prelude.{◌≡◌, ◌↔◌, ◌⊎◌, ℕ, Bool, false, List, IsTrue, Result, Ok, Err}
use Rattle.go_denote_core.specs.text_core.declared.rule.Rule.{Rule}
use Rattle.go_denote_core.specs.text_core.declared.rule.Rule.TheVariants.{M0}
use Rattle.go_term_core.specs.declared.term.Basic.{Basic}
use Rattle.go_term_core.specs.declared.term.MemberPlace.{MemberPlace}
use Rattle.go_term_core.specs.Terms.{Term, Predeclared, PointerTo, StructOf, Fields, Sign}
use Rattle.go_term_core.specs.Identity.{Identical, IdenticalButForTags, SameSign}
use Rattle.go_table_core.specs.Entries.{Entry, EntryLook, find_entry, underlying_in, IsUnnamed}
use Rattle.go_mset_core.specs.embed_core.Owners.{Found, AFieldOf, AMethodOf, AnInterfaces, TheErrorMethod}
use Rattle.go_mset_core.specs.select_core.declared.levels.search.Selected.{Selected}
use Rattle.go_mset_core.specs.select_core.LevelsSelectors.{IsDenoted, IsRule, IsSelectorAnswer}
use Rattle.go_handle_core.specs.deciding.Identity.{identical_of, identical_but_for_tags_of, identical_under_of, same_sign_of}
use Rattle.go_handle_core.specs.deciding.Conversion.{IsTermConvertible, convertible_of}
use Rattle.go_table_core.specs.Underlying.{IdenticalUnder}
use Rattle.go_table_core.specs.Assign.{Assigned, AValue, IsInterface, IsType, IsTermAssignable}
use Rattle.go_denote_core.specs.operand_core.declared.types.TypeForm.TheVariants as forms
use Rattle.go_table_core.specs.Laws.{AgreeFrom, AssignedAgrees}
use Rattle.go_mset_core.specs.Implementing.{HasMethod, Implements, error_sign}
use Rattle.go_denote_core.specs.declared.things.Selection.TheVariants as selections
use Rattle.go_handle_core.specs.deciding.Selecting.{choice, selected_of, chosen_of}
use Rattle.go_handle_core.specs.deciding.Implementing.{has_method_of, implements_of}
use Rattle.go_handle_core.specs.deciding.Assigning.{assigned_type, assignable_of}
use Rattle.go_handle_core.specs.deciding.Rules.{term_rules, typed, selection_of}

pub record IdentityIsDecided : Type 0 where
  pub identical : (t u : Term) → IsTrue (identical_of t u) ↔ Identical t u
  pub but_for_tags : (t u : Term) → IsTrue (identical_but_for_tags_of t u) ↔ IdenticalButForTags t u
  pub signs : (g h : Sign) → IsTrue (same_sign_of g h) ↔ SameSign g h
  pub under : (tags : Bool) (t u : Term) → IsTrue (identical_under_of tags t u) ↔ IdenticalUnder tags t u

abbrev pub ConvertibilityIsDecided : Type 0
ConvertibilityIsDecided = (look : EntryLook) (s t : Term) → IsTrue (convertible_of look s t) ↔ IsTermConvertible look s t

-- for every table and every type; want of memory is no answer
pub record SelectorsAreDecided : Type 0 where
  pub denoted : (es : List Entry) (t : Term) (name from path : List ℕ) (passes : Bool) (f : Found)
      → (selected_of es t name from ≡ Ok (choice path passes f)) ↔ IsDenoted (find_entry es) t name from path passes f
  pub refused : (es : List Entry) (t : Term) (name from : List ℕ) (rule : Rule) → (selected_of es t name from ≡ Err rule) ↔ IsRule (find_entry es) t name from rule
  pub answered : (es : List Entry) (t : Term) (name from : List ℕ) (r : Result Selected Rule) → IsSelectorAnswer (find_entry es) t name from r → (r ≡ Err M0) ⊎ (selected_of es t name from ≡ chosen_of r)
  pub answering : (es : List Entry) (t : Term) (name from : List ℕ) (r : Result Selected Rule) → selected_of es t name from ≡ chosen_of r → IsSelectorAnswer (find_entry es) t name from r

pub record ImplementationIsDecided : Type 0 where
  pub has_method : (es : List Entry) (t : Term) (name from : List ℕ) (g : Sign) → IsTrue (has_method_of es t name from g) ↔ HasMethod (find_entry es) t name from g
  pub implements : (es : List Entry) (t i : Term) → IsTrue (implements_of es t i) ↔ Implements (find_entry es) t i

-- an interface type is implemented where the type of what is assigned implements it
abbrev pub AssignabilityIsDecided : Type 0
AssignabilityIsDecided = (es : List Entry) (a : Assigned) (t : Term) → IsTrue (assignable_of es a t) ↔ IsTermAssignable (find_entry es) a t (Implements (find_entry es) (assigned_type a) t)

-- operands over the types of a table are judged by the relations of the language
pub record RulesAreDecided : Type 0 where
  pub identical : (es : List Entry) (path : List ℕ) (t u : Term) → IsTrue ((term_rules es path).identical t u) ↔ Identical t u
  pub assignable : (es : List Entry) (path : List ℕ) (v t : Term) → IsTrue ((term_rules es path).assignable v t) ↔ IsTermAssignable (find_entry es) (AValue v) t (Implements (find_entry es) v t)
  pub convertible : (es : List Entry) (path : List ℕ) (s t : Term) → IsTrue ((term_rules es path).convertible s t) ↔ IsTermConvertible (find_entry es) s t
  -- the form tells what lies under a type
  pub basic : (es : List Entry) (path : List ℕ) (t : Term) (b : Basic) → ((term_rules es path).form t ≡ forms.Basic b) ↔ (underlying_in (find_entry es) t ≡ Predeclared b)
  pub pointer : (es : List Entry) (path : List ℕ) (t base : Term) → ((term_rules es path).form t ≡ forms.Pointer base) ↔ (underlying_in (find_entry es) t ≡ PointerTo base)
  pub interface : (es : List Entry) (path : List ℕ) (t : Term) → ((term_rules es path).form t ≡ forms.Interface) ↔ IsInterface (underlying_in (find_entry es) t)
  pub struct_type : (es : List Entry) (path : List ℕ) (t : Term) → ((term_rules es path).form t ≡ forms.Struct) ↔ ((p : List ℕ) × (fs : Fields) × (underlying_in (find_entry es) t ≡ StructOf p fs))
  -- where no underlying type is a name, as in each table
  pub nothing : (es : List Entry) (path : List ℕ) (t : Term) → IsUnnamed (underlying_in (find_entry es) t) → ((term_rules es path).form t ≡ forms.Nothing) ↔ (IsType (find_entry es) t → ⊥)

-- what is decided of types is the same in two tables that have the same of all that the types reach
pub record DecisionsAreLocal : Type 0 where
  pub convertible : (look other : EntryLook) (s t : Term) → AgreeFrom look other s → AgreeFrom look other t → convertible_of look s t ≡ convertible_of other s t
  pub selected : (es others : List Entry) (t : Term) (name from : List ℕ) → AgreeFrom (find_entry es) (find_entry others) t → selected_of es t name from ≡ selected_of others t name from
  pub implements : (es others : List Entry) (t i : Term) → AgreeFrom (find_entry es) (find_entry others) t → AgreeFrom (find_entry es) (find_entry others) i → implements_of es t i ≡ implements_of others t i
  pub assignable : (es others : List Entry) (a : Assigned) (t : Term) → AssignedAgrees (find_entry es) (find_entry others) a → AgreeFrom (find_entry es) (find_entry others) t → assignable_of es a t ≡ assignable_of others a t

-- of what a selector chooses, with D for declarations and P for lists of embedded fields: a field with its type where it has one, a method with its
-- signature and with its receiver's star, or the rule that is broken
pub record SelectionsAreDecided (D P : Type 0) : Type 0 where
  pub field : (decl : Found → D) (path_of : List ℕ → P) (es : List Entry) (t : Term) (name from path : List ℕ) (passes : Bool) (home : List ℕ) (place : MemberPlace) (u : Term)
      → IsDenoted (find_entry es) t name from path passes (AFieldOf home place u)
      → selection_of decl path_of (find_entry es) (selected_of es t name from) ≡ selections.«Field» (decl (AFieldOf home place u)) (path_of path) (typed (find_entry es) u) passes
  pub declared_method : (decl : Found → D) (path_of : List ℕ → P) (es : List Entry) (t : Term) (name from path : List ℕ) (passes : Bool) (home : List ℕ) (place : MemberPlace) (pointer : Bool) (g : Sign)
      → IsDenoted (find_entry es) t name from path passes (AMethodOf home place pointer g)
      → selection_of decl path_of (find_entry es) (selected_of es t name from) ≡ selections.Method (decl (AMethodOf home place pointer g)) (path_of path) g pointer passes
  pub interface_method : (decl : Found → D) (path_of : List ℕ → P) (es : List Entry) (t : Term) (name from path : List ℕ) (passes : Bool) (home : List ℕ) (place : MemberPlace) (g : Sign)
      → IsDenoted (find_entry es) t name from path passes (AnInterfaces home place g)
      → selection_of decl path_of (find_entry es) (selected_of es t name from) ≡ selections.Method (decl (AnInterfaces home place g)) (path_of path) g false passes
  pub error_method : (decl : Found → D) (path_of : List ℕ → P) (es : List Entry) (t : Term) (name from path : List ℕ) (passes : Bool)
      → IsDenoted (find_entry es) t name from path passes TheErrorMethod
      → selection_of decl path_of (find_entry es) (selected_of es t name from) ≡ selections.Method (decl TheErrorMethod) (path_of path) error_sign false passes
  pub missing : (decl : Found → D) (path_of : List ℕ → P) (es : List Entry) (t : Term) (name from : List ℕ) (rule : Rule)
      → IsRule (find_entry es) t name from rule → selection_of decl path_of (find_entry es) (selected_of es t name from) ≡ selections.Missing rule
