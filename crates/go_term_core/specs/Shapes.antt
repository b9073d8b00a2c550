-- The terms that values of the program hold.
use Rattle.std.specs.Prelude.{ℕ, Bool, false, List, [], ◌∷◌, map, slice_index_or, Option, Some, None}
use Rattle.std.specs.Borrow.{Bor}
use Rattle.go_term_core.specs.declared.term.TypeTerm.{TypeTerm, Row_of-FieldLine, end_of-FieldLine, more_of-FieldLine, Row_of-Method, end_of-Method, more_of-Method, Row_of-TypeTerm, end_of-TypeTerm, more_of-TypeTerm}
use Rattle.go_term_core.specs.declared.term.TypeTerm.TheVariants as terms
use Rattle.go_term_core.specs.declared.term.Field.{Field}
use Rattle.go_term_core.specs.declared.term.FieldLine.{FieldLine}
use Rattle.go_term_core.specs.declared.term.Method.{Method}
use Rattle.go_term_core.specs.declared.term.Params.{Params}
use Rattle.go_term_core.specs.declared.term.Signature.{Signature}
use Rattle.go_term_core.specs.Terms.{Term, NoType, Predeclared, ErrorType, Defined, PointerTo, StructOf, InterfaceOf, Fields, NoField, AField, Methods, NoMethod, AMethod, Sign, SignOf, Terms, NoTerm, ATerm}

-- what the fields of a line have in common: whether they are embedded, their type, their tag
pub record Line : Type 0 where
  pub embedded : Bool
  pub term : Term
  pub tag : List ℕ

abbrev pub line_with : Bool → Term → List ℕ → Line
line_with embedded t tag = record { embedded = embedded; term = t; tag = tag }

-- the line of a number; one that is not there has no type
abbrev pub line_at : List Line → ℕ → Line
line_at ls n = slice_index_or ls n (line_with false NoType [])

-- the term of a number
abbrev pub term_at : List Term → ℕ → Term
term_at ts n = slice_index_or ts n NoType

-- fields that stand in these lines
abbrev pub fields_in : List Line → List Field → Fields
fields_in ls [] = NoField
fields_in ls (f ∷ fs) = AField f.name f.place (line_at ls f.line).embedded (line_at ls f.line).term (line_at ls f.line).tag (fields_in ls fs)

-- the terms of these numbers
abbrev pub terms_in : List Term → List ℕ → Terms
terms_in ts [] = NoTerm
terms_in ts (n ∷ ns) = ATerm (term_at ts n) (terms_in ts ns)

abbrev mutual
  pub shape : TypeTerm → Term
  shape terms.NoType = NoType
  shape (terms.Basic b) = Predeclared b
  shape terms.Error = ErrorType
  shape (terms.Defined k) = Defined k
  shape (terms.Pointer' _ t) = PointerTo (shape t)
  shape (terms.Struct' path fields _ row) = StructOf path (fields_in (shape_lines row) fields.items)
  shape (terms.Interface' path _ row) = InterfaceOf path (shape_methods row)

  pub shape_lines : {n : _} → Row_of-FieldLine n → List Line
  shape_lines end_of-FieldLine = []
  shape_lines (more_of-FieldLine embedded t tag rest) = line_with embedded (shape t) tag ∷ shape_lines rest

  pub shape_methods : {n : _} → Row_of-Method n → Methods
  shape_methods end_of-Method = NoMethod
  shape_methods (more_of-Method name place ps _ params rs _ results rest) = AMethod name place (SignOf (terms_in (shape_terms params) ps.items) (terms_in (shape_terms results) rs.items)) (shape_methods rest)

  pub shape_terms : {n : _} → Row_of-TypeTerm n → List Term
  shape_terms end_of-TypeTerm = []
  shape_terms (more_of-TypeTerm t rest) = shape t ∷ shape_terms rest

abbrev pub line_shape : FieldLine → Line
line_shape l = line_with l.embedded (shape l.term) l.tag

abbrev pub line_shapes : List FieldLine → List Line
line_shapes ls = map line_shape ls

abbrev pub param_shapes : Params → Terms
param_shapes ps = terms_in (map shape ps.terms.items) ps.lines.items

abbrev pub sign_of : Signature → Sign
sign_of g = SignOf (param_shapes g.params) (param_shapes g.results)

abbrev pub method_shapes : List Method → Methods
method_shapes [] = NoMethod
method_shapes (m ∷ ms) = AMethod m.name m.place (sign_of m.signature) (method_shapes ms)

-- the type that may be there
abbrev pub shape_found : Option (Bor TypeTerm) → Term
shape_found None = NoType
shape_found (Some t) = shape t.now
