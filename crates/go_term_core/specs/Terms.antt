-- Types as terms. A defined type is its declaration's key, and is never unfolded.
use Rattle.std.specs.Prelude.{ℕ, Bool, true, false, List, [], ◌∷◌, ◌++◌}
use Rattle.go_decl_core.specs.declared.keys.DeclKey.{DeclKey}
use Rattle.go_term_core.specs.declared.term.Basic.{Basic}
use Rattle.go_term_core.specs.declared.term.MemberPlace.{MemberPlace}

mutual
  -- a type, or none. A struct type and an interface type have the path of the package where they are written
  pub data Term : Type 0 where
    NoType : Term
    Predeclared : Basic → Term
    ErrorType : Term
    Defined : DeclKey → Term
    PointerTo : Term → Term
    StructOf : List ℕ → Fields → Term
    InterfaceOf : List ℕ → Methods → Term

  -- a field's name, its place, whether it is embedded, its type, its tag, and the fields behind it
  pub data Fields : Type 0 where
    NoField : Fields
    AField : List ℕ → MemberPlace → Bool → Term → List ℕ → Fields → Fields

  -- the name of an interface's method, its place, its signature, and the methods behind it
  pub data Methods : Type 0 where
    NoMethod : Methods
    AMethod : List ℕ → MemberPlace → Sign → Methods → Methods

  -- the types of parameters and of results
  pub data Sign : Type 0 where
    SignOf : Terms → Terms → Sign

  pub data Terms : Type 0 where
    NoTerm : Terms
    ATerm : Term → Terms → Terms

-- whether a term is no type
abbrev pub is_no_type : Term → Bool
is_no_type NoType = true
is_no_type (Predeclared b) = false
is_no_type ErrorType = false
is_no_type (Defined k) = false
is_no_type (PointerTo t) = false
is_no_type (StructOf path fs) = false
is_no_type (InterfaceOf path ms) = false

-- the defined types that a type mentions
abbrev mutual
  pub term_keys : Term → List DeclKey
  term_keys NoType = []
  term_keys (Predeclared b) = []
  term_keys ErrorType = []
  term_keys (Defined k) = k ∷ []
  term_keys (PointerTo t) = term_keys t
  term_keys (StructOf path fs) = fields_keys fs
  term_keys (InterfaceOf path ms) = methods_keys ms

  pub fields_keys : Fields → List DeclKey
  fields_keys NoField = []
  fields_keys (AField name place embedded t tag fs) = term_keys t ++ fields_keys fs

  pub methods_keys : Methods → List DeclKey
  methods_keys NoMethod = []
  methods_keys (AMethod name place g ms) = sign_keys g ++ methods_keys ms

  pub sign_keys : Sign → List DeclKey
  sign_keys (SignOf ps rs) = terms_keys ps ++ terms_keys rs

  pub terms_keys : Terms → List DeclKey
  terms_keys NoTerm = []
  terms_keys (ATerm t ts) = term_keys t ++ terms_keys ts

-- the types of parameters and of results, in order
abbrev pub term_list : Terms → List Term
term_list NoTerm = []
term_list (ATerm t ts) = t ∷ term_list ts

abbrev pub sign_params : Sign → List Term
sign_params (SignOf ps rs) = term_list ps

abbrev pub sign_results : Sign → List Term
sign_results (SignOf ps rs) = term_list rs
