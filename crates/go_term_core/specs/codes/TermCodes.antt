-- How terms are stored, so that a model may hold one: each term gives a tree of labels, which gives it back.
use Rattle.std.specs.Prelude.{◌≡◌, refl, ℕ, zero, suc, Bool, true, false, List, ◌⊎◌}
use Rattle.std.specs.Coded.{Coded, code_by, coded×, coded⊎, coded_list, coded_bool, coded_ℕ}
use Rattle.std.proofs.Common.{inl, inr}
use Rattle.go_decl_core.specs.declared.keys.DeclKey.{DeclKey}
use Rattle.go_decl_core.specs.contracts.keys.DeclKey as key
use Rattle.go_term_core.specs.declared.term.Basic.{Basic}
use Rattle.go_term_core.specs.contracts.term.Basic as basic
use Rattle.go_term_core.specs.declared.term.MemberPlace.{MemberPlace}
use Rattle.go_term_core.specs.contracts.term.MemberPlace as member_place
use Rattle.go_term_core.specs.Terms.{Term, NoType, Predeclared, ErrorType, Defined, PointerTo, StructOf, InterfaceOf, Fields, NoField, AField, Methods, NoMethod, AMethod, Sign, SignOf, Terms, NoTerm, ATerm}
use Rattle.go_tree_nodes.specs.codes.Labels.{Labels, End, Node, coded_labels}

-- what a node of a term holds beside its parts: a number for its form; or what its form has
abbrev TermLabel : Type 0
TermLabel = ℕ ⊎ (Basic ⊎ (DeclKey ⊎ ((Bool × List ℕ) ⊎ ((List ℕ × (MemberPlace × (Bool × List ℕ))) ⊎ (List ℕ × MemberPlace)))))

abbrev coded_bytes : Coded (List ℕ)
coded_bytes = coded_list coded_ℕ

abbrev coded_term_label : Coded TermLabel
coded_term_label = coded⊎ coded_ℕ (coded⊎ basic.the_row.coded (coded⊎ key.the_row.coded (coded⊎ (coded× coded_bool coded_bytes) (coded⊎ (coded× coded_bytes (coded× member_place.the_row.coded (coded× coded_bool coded_bytes))) (coded× coded_bytes member_place.the_row.coded)))))

pattern abbrev form : ℕ → TermLabel
form n = inl n

pattern abbrev basic_of : Basic → TermLabel
basic_of b = inr (inl b)

pattern abbrev key_of : DeclKey → TermLabel
key_of k = inr (inr (inl k))

-- the package of a struct type, or of an interface type
pattern abbrev written_in : Bool → List ℕ → TermLabel
written_in is_struct path = inr (inr (inr (inl (is_struct, path))))

pattern abbrev field_of : List ℕ → MemberPlace → Bool → List ℕ → TermLabel
field_of name place embedded tag = inr (inr (inr (inr (inl (name, (place, (embedded, tag)))))))

pattern abbrev method_of : List ℕ → MemberPlace → TermLabel
method_of name place = inr (inr (inr (inr (inr (name, place)))))

abbrev mutual
  term_labels : Term → Labels TermLabel
  term_labels NoType = Node (form 0) End End
  term_labels (Predeclared b) = Node (basic_of b) End End
  term_labels ErrorType = Node (form 1) End End
  term_labels (Defined k) = Node (key_of k) End End
  term_labels (PointerTo t) = Node (form 2) (term_labels t) End
  term_labels (StructOf path fs) = Node (written_in true path) (fields_labels fs) End
  term_labels (InterfaceOf path ms) = Node (written_in false path) (methods_labels ms) End

  fields_labels : Fields → Labels TermLabel
  fields_labels NoField = End
  fields_labels (AField name place embedded t tag fs) = Node (field_of name place embedded tag) (term_labels t) (fields_labels fs)

  methods_labels : Methods → Labels TermLabel
  methods_labels NoMethod = End
  methods_labels (AMethod name place g ms) = Node (method_of name place) (sign_labels g) (methods_labels ms)

  sign_labels : Sign → Labels TermLabel
  sign_labels (SignOf ps rs) = Node (form 0) (terms_labels ps) (terms_labels rs)

  terms_labels : Terms → Labels TermLabel
  terms_labels NoTerm = End
  terms_labels (ATerm t ts) = Node (form 0) (term_labels t) (terms_labels ts)

abbrev mutual
  term_in : Labels TermLabel → Term
  term_in (Node (form (suc zero)) a b) = ErrorType
  term_in (Node (basic_of c) a b) = Predeclared c
  term_in (Node (key_of k) a b) = Defined k
  term_in (Node (form (suc (suc zero))) a b) = PointerTo (term_in a)
  term_in (Node (written_in true path) a b) = StructOf path (fields_in a)
  term_in (Node (written_in false path) a b) = InterfaceOf path (methods_in a)
  term_in _ = NoType

  fields_in : Labels TermLabel → Fields
  fields_in (Node (field_of name place embedded tag) a b) = AField name place embedded (term_in a) tag (fields_in b)
  fields_in _ = NoField

  methods_in : Labels TermLabel → Methods
  methods_in (Node (method_of name place) a b) = AMethod name place (sign_in a) (methods_in b)
  methods_in _ = NoMethod

  sign_in : Labels TermLabel → Sign
  sign_in (Node l a b) = SignOf (terms_in a) (terms_in b)
  sign_in End = SignOf NoTerm NoTerm

  terms_in : Labels TermLabel → Terms
  terms_in (Node l a b) = ATerm (term_in a) (terms_in b)
  terms_in End = NoTerm

mutual
  pub term_back : (t : Term) → term_in (term_labels t) ≡ t
  term_back NoType = refl
  term_back (Predeclared b) = refl
  term_back ErrorType = refl
  term_back (Defined k) = refl
  term_back (PointerTo t) = λ i. PointerTo (term_back t i)
  term_back (StructOf path fs) = λ i. StructOf path (fields_back fs i)
  term_back (InterfaceOf path ms) = λ i. InterfaceOf path (methods_back ms i)

  pub fields_back : (fs : Fields) → fields_in (fields_labels fs) ≡ fs
  fields_back NoField = refl
  fields_back (AField name place embedded t tag fs) = λ i. AField name place embedded (term_back t i) tag (fields_back fs i)

  pub methods_back : (ms : Methods) → methods_in (methods_labels ms) ≡ ms
  methods_back NoMethod = refl
  methods_back (AMethod name place g ms) = λ i. AMethod name place (sign_back g i) (methods_back ms i)

  pub sign_back : (g : Sign) → sign_in (sign_labels g) ≡ g
  sign_back (SignOf ps rs) = λ i. SignOf (terms_back ps i) (terms_back rs i)

  pub terms_back : (ts : Terms) → terms_in (terms_labels ts) ≡ ts
  terms_back NoTerm = refl
  terms_back (ATerm t ts) = λ i. ATerm (term_back t i) (terms_back ts i)

abbrev pub coded_term : Coded Term
coded_term = code_by (Labels TermLabel) (coded_labels coded_term_label) term_labels term_in term_back

abbrev pub coded_sign : Coded Sign
coded_sign = code_by (Labels TermLabel) (coded_labels coded_term_label) sign_labels sign_in sign_back
