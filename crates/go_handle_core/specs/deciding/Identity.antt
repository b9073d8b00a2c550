-- Which types are identical, as a test: the Go specification, "Type identity".
use Rattle.std.specs.Prelude.{ℕ, Bool, true, false, ◌&&◌, ◌||◌, List, nat_eq}
use Rattle.std.specs.Str.{bytes_eq}
use Rattle.go_term_core.specs.Terms.{Term, NoType, Predeclared, ErrorType, Defined, PointerTo, StructOf, InterfaceOf, Fields, NoField, AField, Methods, NoMethod, AMethod, Sign, SignOf, Terms, NoTerm, ATerm}
use Rattle.go_term_core.specs.Identity.{method_count}
use Rattle.go_table_core.specs.Entries.{same_key, same_id}
use Rattle.go_table_core.specs.Underlying.{written_out}
use Rattle.go_denote_core.specs.operand_core.Values.{is_basic}
use Rattle.go_constant_core.specs.Values.{bool_same}

-- the same tags, where tags count
abbrev pub tags_agree : Bool → List ℕ → List ℕ → Bool
tags_agree true tag tag' = bytes_eq tag tag'
tags_agree false tag tag' = true

-- one of the methods has the identifier, and a signature that passes
abbrev pub has_alike : (Sign → Bool) → List ℕ → List ℕ → List ℕ → Methods → Bool
has_alike passes name p q NoMethod = false
has_alike passes name p q (AMethod name' place' g' ns) = (same_id name p name' q && passes g') || has_alike passes name p q ns

-- where tags count or do not; a package stands before the fields or methods that are written in it
abbrev mutual
  pub identical_by : Bool → Term → Term → Bool
  identical_by tags NoType NoType = true
  identical_by tags (Predeclared b) (Predeclared c) = is_basic b c
  identical_by tags ErrorType ErrorType = true
  identical_by tags (Defined k) (Defined j) = same_key k j
  identical_by tags (PointerTo t) (PointerTo u) = identical_by tags t u
  identical_by tags (StructOf p fs) (StructOf q gs) = same_fields tags p fs q gs
  identical_by tags (InterfaceOf p ms) (InterfaceOf q ns) = nat_eq (method_count ms) (method_count ns) && has_all tags p ms q ns
  identical_by tags _ _ = false

  -- the same fields in order
  pub same_fields : Bool → List ℕ → Fields → List ℕ → Fields → Bool
  same_fields tags p NoField q NoField = true
  same_fields tags p (AField name place embedded t tag fs) q (AField name' place' embedded' t' tag' gs) =
      same_id name p name' q && (bool_same embedded embedded' && (identical_by tags t t' && (tags_agree tags tag tag' && same_fields tags p fs q gs)))
  same_fields tags p _ q _ = false

  -- each method of the one is a method of the other
  pub has_all : Bool → List ℕ → Methods → List ℕ → Methods → Bool
  has_all tags p NoMethod q ns = true
  has_all tags p (AMethod name place g ms) q ns = has_alike (λ g'. same_sign tags g g') name p q ns && has_all tags p ms q ns

  -- as many parameters and as many results, of identical types
  pub same_sign : Bool → Sign → Sign → Bool
  same_sign tags (SignOf ps rs) (SignOf qs us) = same_terms tags ps qs && same_terms tags rs us

  pub same_terms : Bool → Terms → Terms → Bool
  same_terms tags NoTerm NoTerm = true
  same_terms tags (ATerm t ts) (ATerm u us) = identical_by tags t u && same_terms tags ts us
  same_terms tags _ _ = false

abbrev pub identical_of : Term → Term → Bool
identical_of t u = identical_by true t u

-- "ignoring struct tags": the Go specification, "Conversions"
abbrev pub identical_but_for_tags_of : Term → Term → Bool
identical_but_for_tags_of t u = identical_by false t u

abbrev pub same_sign_of : Sign → Sign → Bool
same_sign_of g h = same_sign true g h

-- underlying types that are identical, where tags count or do not; that of `error` is an interface type
abbrev pub identical_under_of : Bool → Term → Term → Bool
identical_under_of tags t u = identical_by tags (written_out t) (written_out u)
