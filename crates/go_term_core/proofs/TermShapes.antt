-- Rows of fields, methods and types, as lists of them.
use Rattle.std.proofs.Common.{◌≡◌, Vec, refl, ap, sym, ◌∙◌}
use Rattle.std.specs.Global.{Global}
use mathlib.Core.Former.{Count}
use Rattle.std.specs.Prelude.{List, ◌∷◌, ℕ, map}
use Rattle.go_term_core.specs.declared.term.TypeTerm.{TypeTerm, Row_of-FieldLine, end_of-FieldLine, more_of-FieldLine, items-the_row-FieldLine, items_hidden-the_row-FieldLine-0, Row_of-Method, end_of-Method, more_of-Method, items-the_row-Method, items_hidden-the_row-Method-2, Row_of-TypeTerm, end_of-TypeTerm, more_of-TypeTerm, items-the_row-TypeTerm, items_shown-the_row-TypeTerm-1}
use Rattle.go_term_core.specs.declared.term.TypeTerm.TheVariants as terms
use Rattle.go_term_core.specs.declared.term.Field.{Field}
use Rattle.go_term_core.specs.declared.term.FieldLine.{FieldLine}
use Rattle.go_term_core.specs.declared.term.Method.{Method}
use Rattle.go_term_core.specs.Terms.{StructOf, InterfaceOf, AMethod, SignOf}
use Rattle.go_term_core.specs.Shapes.{shape, line_with, shape_lines, shape_methods, shape_terms, fields_in, terms_in, line_shapes, method_shapes}

row_terms : (n : _) (row : Row_of-TypeTerm n) → shape_terms row ≡ map shape (items-the_row-TypeTerm n row)
row_terms n end_of-TypeTerm = refl
row_terms n (more_of-TypeTerm t rest) = ap (λ ts. shape t ∷ ts) (row_terms _ rest)

row_lines : (n : _) (row : Row_of-FieldLine n) → shape_lines row ≡ line_shapes (items-the_row-FieldLine n row)
row_lines n end_of-FieldLine = refl
row_lines n (more_of-FieldLine embedded t tag rest) = ap (λ ls. line_with embedded (shape t) tag ∷ ls) (row_lines _ rest)

row_methods : (n : _) (row : Row_of-Method n) → shape_methods row ≡ method_shapes (items-the_row-Method n row)
row_methods n end_of-Method = refl
row_methods n (more_of-Method name place ps a params rs b results rest) =
    let ts = row_terms _ params ∙ ap (map shape) (sym (items_shown-the_row-TypeTerm-1 a params)) in
    let us = row_terms _ results ∙ ap (map shape) (sym (items_shown-the_row-TypeTerm-1 b results)) in
    λ i. AMethod name place (SignOf (terms_in (ts i) ps.items) (terms_in (us i) rs.items)) (row_methods _ rest i)

abbrev lines_row : TypeTerm → (n : Count) × Row_of-FieldLine n
lines_row (terms.Struct' path _ _ row) = (_, row)
lines_row _ = (_, end_of-FieldLine)

abbrev methods_row : TypeTerm → (n : Count) × Row_of-Method n
methods_row (terms.Interface' path _ row) = (_, row)
methods_row _ = (_, end_of-Method)

-- the term of a struct type is that of the lists of its fields and of its lines
pub shape_struct : (path : List ℕ) (fs : Vec Field Global) (ls : Vec FieldLine Global) → shape (terms.Struct path fs ls) ≡ StructOf path (fields_in (line_shapes ls.items) fs.items)
shape_struct path fs ls =
    let row = lines_row (terms.Struct path fs ls) in
    ap (λ l. StructOf path (fields_in l fs.items)) (row_lines row.0 row.1 ∙ ap line_shapes (items_hidden-the_row-FieldLine-0 ls))

-- the term of an interface type is that of the list of its methods
pub shape_interface : (path : List ℕ) (ms : Vec Method Global) → shape (terms.Interface path ms) ≡ InterfaceOf path (method_shapes ms.items)
shape_interface path ms =
    let row = methods_row (terms.Interface path ms) in
    ap (InterfaceOf path) (row_methods row.0 row.1 ∙ ap method_shapes (items_hidden-the_row-Method-2 ms))
