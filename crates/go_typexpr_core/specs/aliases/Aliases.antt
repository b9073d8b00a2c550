-- Aliases of a package, and what they mean. An alias is its declaration with a type: as it is written the one that the name behind `=` means,
-- where an alias's name means the alias itself.
use Rattle.std.specs.Prelude.{◌≡◌, ℕ, zero, suc, true, List, [], ◌∷◌, Option, Some, None, map, length, AllPairs, if◌then◌else◌}
use Rattle.std.specs.Str.{bytes_eq}
use Rattle.go_term_core.specs.decl_core.declared.keys.DeclKey.{DeclKey}
use Rattle.go_term_core.specs.decl_core.declared.keys.DeclRef.{DeclRef}
use Rattle.go_term_core.specs.decl_core.Order.{is_ref_before}
use Rattle.go_term_core.specs.Terms.{Term, NoType, Predeclared, ErrorType, Defined, PointerTo, StructOf, InterfaceOf, Fields, NoField, AField, Methods, NoMethod, AMethod, Sign, SignOf, Terms, NoTerm, ATerm}
use Rattle.go_type_core.specs.table_core.Entries.{same_decl}
use Rattle.go_typexpr_core.specs.entry.Meanings.{through}

-- the declarations of aliases
abbrev pub decls_of : List (DeclRef × Term) → List DeclRef
decls_of xs = map (λ a. a.0) xs

-- declarations in order of file and number
abbrev pub DeclsRise : List DeclRef → Type 0
DeclsRise ds = AllPairs (λ (d e : DeclRef). is_ref_before d e ≡ true) ds

-- the type of a declaration among aliases; none where it is no alias
abbrev pub alias_in : List (DeclRef × Term) → DeclRef → Option Term
alias_in [] d = None
alias_in (a ∷ xs) d = if same_decl a.0 d then Some a.1 else alias_in xs d

-- the same of any declaration, where they are the aliases of the package of a path
abbrev pub own_alias : List (DeclRef × Term) → List ℕ → DeclKey → Option Term
own_alias xs path k = if bytes_eq path k.path then alias_in xs k.decl else None

-- what the alias is written as that a type names, if it names one
abbrev pub aliased : List (DeclRef × Term) → List ℕ → Term → Option Term
aliased xs path NoType = None
aliased xs path (Predeclared b) = None
aliased xs path ErrorType = None
aliased xs path (Defined k) = own_alias xs path k
aliased xs path (PointerTo t) = None
aliased xs path (StructOf p fs) = None
aliased xs path (InterfaceOf p ms) = None

-- the type at the end of the chain of aliases from a type on, by what the alias is written as that it names; none where the chain goes on
-- behind n aliases
abbrev pub end_by : ℕ → List (DeclRef × Term) → List ℕ → Term → Option Term → Term
end_by n xs path t None = t
end_by zero xs path t (Some w) = NoType
end_by (suc n) xs path t (Some w) = end_by n xs path w (aliased xs path w)

abbrev pub end_of : ℕ → List (DeclRef × Term) → List ℕ → Term → Term
end_of n xs path t = end_by n xs path t (aliased xs path t)

-- the aliases of the package of a path, each with the type at the end of its chain: none where the chain has no end
abbrev pub alias_ends : List (DeclRef × Term) → List ℕ → List (DeclRef × Term)
alias_ends xs path = map (λ a. (a.0, end_of (length xs) xs path a.1)) xs

-- what declarations of other packages mean, and those of the package of a path as they are
abbrev pub far_alone : List ℕ → (DeclKey → Term) → DeclKey → Term
far_alone path far k = if bytes_eq path k.path then Defined k else far k

abbrev pub target_or : DeclKey → (DeclKey → Term) → Option Term → Term
target_or k far None = Defined k
target_or k far (Some t) = through far t

-- what the declaration of a type means: an alias of the package of a path its target, and what is no alias itself; those of other packages what
-- they mean there
abbrev pub target_by : List ℕ → List (DeclRef × Term) → (DeclKey → Term) → DeclKey → Term
target_by path ends far k = if bytes_eq path k.path then target_or k (far_alone path far) (alias_in ends k.decl) else far k

-- a type with what each name in it means
abbrev mutual
  pub with_targets : (DeclKey → Term) → Term → Term
  with_targets mean NoType = NoType
  with_targets mean (Predeclared b) = Predeclared b
  with_targets mean ErrorType = ErrorType
  with_targets mean (Defined k) = mean k
  with_targets mean (PointerTo t) = PointerTo (with_targets mean t)
  with_targets mean (StructOf p fs) = StructOf p (fields_with mean fs)
  with_targets mean (InterfaceOf p ms) = InterfaceOf p (methods_with mean ms)

  pub fields_with : (DeclKey → Term) → Fields → Fields
  fields_with mean NoField = NoField
  fields_with mean (AField name place embedded t tag fs) = AField name place embedded (with_targets mean t) tag (fields_with mean fs)

  pub methods_with : (DeclKey → Term) → Methods → Methods
  methods_with mean NoMethod = NoMethod
  methods_with mean (AMethod name place g ms) = AMethod name place (sign_with mean g) (methods_with mean ms)

  pub sign_with : (DeclKey → Term) → Sign → Sign
  sign_with mean (SignOf ps rs) = SignOf (terms_with mean ps) (terms_with mean rs)

  pub terms_with : (DeclKey → Term) → Terms → Terms
  terms_with mean NoTerm = NoTerm
  terms_with mean (ATerm t ts) = ATerm (with_targets mean t) (terms_with mean ts)
