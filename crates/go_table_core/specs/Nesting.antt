-- How deep struct types stand in types as they are written.
use Rattle.std.specs.Prelude.{ℕ, suc, List, [], ◌∷◌, max}
use Rattle.go_term_core.specs.Terms.{Term, NoType, Predeclared, ErrorType, Defined, PointerTo, StructOf, InterfaceOf, Fields, NoField, AField}
use Rattle.go_table_core.specs.Entries.{Entry}

-- how deep struct types stand in a type as they are written, one embedded by another
abbrev mutual
  pub nesting : Term → ℕ
  nesting NoType = 0
  nesting (Predeclared b) = 0
  nesting ErrorType = 0
  nesting (Defined k) = 0
  nesting (PointerTo t) = nesting t
  nesting (StructOf path fs) = suc (fields_nesting fs)
  nesting (InterfaceOf path ms) = 0

  pub fields_nesting : Fields → ℕ
  fields_nesting NoField = 0
  fields_nesting (AField name place embedded t tag fs) = max (nesting t) (fields_nesting fs)

abbrev pub deepest : List Entry → ℕ
deepest [] = 0
deepest (e ∷ es) = max (nesting e.term) (deepest es)
