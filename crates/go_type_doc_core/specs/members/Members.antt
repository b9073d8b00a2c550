-- What a variable of a type has, as a package sees it.
--
-- docs/RULES.md, "Members and selectors". The Go specification, "Selectors", "Struct types", "Method sets".
use Rattle.std.specs.Prelude.{◌≡◌, ℕ, Bool, true, List, Option, Some, None, AllPairs, Contains, option_map}
use Rattle.std.proofs.Common.{Less}
use Rattle.std.specs.Cmp.Lexicographic.{slice_cmp}
use Rattle.std.specs.Ordering.{nat_cmp}
use Rattle.go_path_core.specs.text_core.declared.name.Name.{Name}
use Rattle.go_tree_nodes.specs.declared.usage.Usage.{Usage}
use Rattle.go_tree_nodes.specs.declared.usage.Usage.TheVariants as usages
use Rattle.go_term_core.specs.decl_core.declared.keys.DeclRef.{DeclRef}
use Rattle.go_term_core.specs.declared.term.MemberPlace.{MemberPlace}
use Rattle.go_term_core.specs.declared.term.MemberPlace.TheVariants as places
use Rattle.go_term_core.specs.Terms.{Term, Sign}
use Rattle.go_summary_core.specs.table_core.Entries.{Entry, EntryLook, find_entry}
use Rattle.go_select_core.specs.embed_core.Owners.{Found, AFieldOf, AMethodOf, AnInterfaces, TheErrorMethod}
use Rattle.go_select_core.specs.embed_core.OwnersShown.{found_shown}
use Rattle.go_select_core.specs.declared.levels.search.Selected.{Selected}
use Rattle.go_select_core.specs.levels.Selectors.{IsDenoted, Searched, Refused, In, FieldsIn, searched}
use Rattle.go_select_core.specs.PathNames.{names_along}
use Rattle.go_expr_core.specs.operand_core.declared.types.Operand.{Operand}
use Rattle.go_expr_core.specs.operand_core.declared.types.ValueType.TheVariants as value_types
use Rattle.go_expr_core.specs.denote_core.declared.things.Dot.TheVariants as dots
use Rattle.go_expr_core.specs.denote_core.declared.things.Outcome.{Outcome}
use Rattle.go_expr_core.specs.denote_core.declared.things.Outcome.TheVariants as outcomes
use Rattle.go_expr_core.specs.denote_core.Look.{Look}
use Rattle.go_expr_core.specs.denote_core.Selectors.{selector_answer}
use Rattle.go_summary_core.specs.handle_core.DecidingRules.{term_rules}
use Rattle.go_summary_core.specs.handle_core.Declarations.{Declaration, declaration_found}
use Rattle.go_summary_core.specs.handle_core.Names.{selection_in}
use Rattle.go_type_doc_core.specs.declared.members.listing.MemberKind.{MemberKind}
use Rattle.go_type_doc_core.specs.declared.members.listing.MemberKind.TheVariants as kinds
use Rattle.go_type_doc_core.specs.declared.members.listing.MethodPlace.{MethodPlace}
use Rattle.go_type_doc_core.specs.declared.members.listing.TypeMember.{TypeMember}

-- a name with what it is, the names of the embedded fields that lead to it, and the declaration of a declared method, with the path of its package
pub record MemberOf : Type 0 where
  pub name : List ℕ
  pub kind : MemberKind
  pub through : List (List ℕ)
  pub method : Option (List ℕ × DeclRef)

abbrev pub place_shown : MethodPlace → List ℕ × DeclRef
place_shown p = (p.path.now, p.decl)

abbrev pub type_member_shown : TypeMember → MemberOf
type_member_shown m = record { name = m.name; kind = m.kind; through = m.through.items; method = option_map place_shown m.method }

-- what is found

abbrev pub kind_found : Found → MemberKind
kind_found (AFieldOf path place t) = kinds.«Field»
kind_found (AMethodOf path place pointer g) = kinds.Method
kind_found (AnInterfaces path place g) = kinds.Method
kind_found TheErrorMethod = kinds.Method

abbrev pub declared_place : List ℕ → MemberPlace → Option (List ℕ × DeclRef)
declared_place path (places.Declared d) = Some (path, d)
declared_place path (places.Local l) = None

abbrev pub method_found : Found → Option (List ℕ × DeclRef)
method_found (AFieldOf path place t) = None
method_found (AMethodOf path place pointer g) = declared_place path place
method_found (AnInterfaces path place g) = None
method_found TheErrorMethod = None

-- where members of a type are searched: in what a pointer type points to, and else in the type itself
abbrev pub start_in : Term → Searched → Term
start_in t (Refused rule) = t
start_in t (In u by_pointer) = u
start_in t (FieldsIn u) = u

abbrev pub start_of : EntryLook → Term → Term
start_of look t = start_in t (searched look t)

-- what is selected under a name, searched in a type
abbrev pub member_with : EntryLook → Term → Name × Selected → MemberOf
member_with look start n = record { name = n.0; kind = kind_found (found_shown n.1.member); through = names_along look start n.1.path; method = method_found (found_shown n.1.member) }

-- what a selector has

abbrev pub TheLook : Type 0
TheLook = Look Term Sign Declaration (List ℕ)

-- look-ups of a place of the package of a path, over the types of a table
pub record AreLooks (es : List Entry) (from : List ℕ) (look : TheLook) : Type 0 where
  pub types : look.types ≡ term_rules es from
  pub select : look.names.select ≡ selection_in es from

-- a variable of a type, as an operand
abbrev pub variable : Term → Operand Term
variable t = record { value_type = value_types.Typed t; constant = None; addressable = true }

-- a field is named as an operand, and a method as what is called
abbrev pub usage_of : MemberKind → Usage
usage_of kinds.«Field» = usages.«Value»
usage_of kinds.Method = usages.Callee

-- what `x.name` has for a variable x of a type
abbrev pub behind_variable : TheLook → Term → MemberKind → List ℕ → Outcome Declaration (List ℕ)
behind_variable look t kind name = (selector_answer look (usage_of kind) (dots.«Value» (variable t)) name).outcome

-- members

-- a member that the selector of its name denotes behind a variable of the type, in the package of a path
pub record IsMember (es : List Entry) (t : Term) (from : List ℕ) (m : MemberOf) : Type 0 where
  pub path : List ℕ
  pub passes : Bool
  pub f : Found
  pub denoted : IsDenoted (find_entry es) t m.name from path passes f
  pub selected : (look : TheLook) → AreLooks es from look → behind_variable look t m.kind m.name ≡ outcomes.Selected (declaration_found f) path
  pub kind_is : m.kind ≡ kind_found f
  pub through_is : m.through ≡ names_along (find_entry es) (start_of (find_entry es) t) path
  pub method_is : m.method ≡ method_found f

-- all members, in order of the bytes of their names: each name that a selector behind a variable of the type has a declaration with, a field as
-- an operand and a method as what is called
pub record AreMembers (es : List Entry) (t : Term) (from : List ℕ) (ms : List MemberOf) : Type 0 where
  -- so that no name stands there twice
  pub rising : AllPairs (λ a b. slice_cmp nat_cmp a.name b.name ≡ Less) ms
  pub each : (m : MemberOf) → Contains ms m → IsMember es t from m
  pub whole : (look : TheLook) → AreLooks es from look → (kind : MemberKind) (name : List ℕ) (d : Declaration) (path : List ℕ) → behind_variable look t kind name ≡ outcomes.Selected d path
      → (m : MemberOf) × Contains ms m × (m.name ≡ name) × (m.kind ≡ kind)
