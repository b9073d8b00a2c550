-- What the pieces that the program keeps in lists declare.
use Rattle.std.proofs.Common.{◌≡◌, ℕ, List, [], ◌∷◌, ◌++◌, map, refl, ap, sym, ◌∙◌}
use Rattle.std.specs.List.{flat_map}
use Rattle.std.specs.Prelude.{Option, Bool, true}
use Rattle.std.proofs.lemmas.List.Folds.{flat_map-map}
use Rattle.go_path_core.specs.text_core.declared.span.Span.{Span}
use Rattle.go_tree_nodes.specs.declared.decls.TypeLine.{TypeLine}
use Rattle.go_tree_nodes.specs.declared.decls.ValueKind.{ValueKind}
use Rattle.go_tree_nodes.specs.declared.decls.ValueLine.{ValueLine}
use Rattle.go_tree_nodes.specs.declared.names.Ident.{Ident}
use Rattle.go_tree_nodes.specs.declared.names.NextIdent.{NextIdent}
use Rattle.go_tree_nodes.specs.declared.names.TextLiteral.{TextLiteral}
use Rattle.go_tree_nodes.specs.declared.types.FieldLine.{FieldLine}
use Rattle.go_tree_nodes.specs.declared.types.Fields.{Fields}
use Rattle.go_tree_nodes.specs.declared.types.Fields.TheVariants as fields
use Rattle.go_tree_nodes.specs.declared.types.MethodLine.{MethodLine, MethodLine', out-MethodLine, is-MethodLine'}
use Rattle.go_tree_nodes.specs.Shapes.{shape_type_line, shape_value_line}
use Rattle.go_tree_nodes.specs.Trees.{FieldTrees}
use Rattle.go_tree_nodes.specs.TypeShapes.{fields_before, fields_of, idents_from, methods_of}
use Rattle.go_reference_core.specs.declared.outline.items.EntryKind.{EntryKind}
use Rattle.go_reference_core.specs.declared.outline.items.EntryKind.TheVariants as kinds
use Rattle.go_reference_core.specs.outline.Outlines.{EntryTree, entry, field_entries, fields_entries, first_ident, idents_entries, line_end, methods_entries, type_spec_entries, value_spec_entries}
use Rattle.go_reference_core.specs.outline.mirrors.Lines.{field_line_entries, method_line_entries, type_line_entries, value_line_entries}

-- the entry of a name after the first of a list
abbrev pub next_entries : EntryKind → Bool → ℕ → ℕ → NextIdent → List EntryTree
next_entries kind is_member start end n = entry n.ident kind is_member start end end ∷ []

pub idents_list : (kind : EntryKind) (m : Bool) (start end : ℕ) (x : Ident) (ns : List NextIdent) → idents_entries kind m start end (idents_from x ns) ≡ entry x kind m start end end ∷ [] ++ flat_map (next_entries kind m start end) ns
idents_list kind m start end x [] = refl
idents_list kind m start end x (n ∷ ns) = ap (λ (es : List EntryTree). entry x kind m start end end ∷ es) (idents_list kind m start end n.ident ns)

pub first_of : (x : Ident) (ns : List NextIdent) → first_ident (idents_from x ns) ≡ x
first_of x [] = refl
first_of x (n ∷ ns) = refl

before_entries : (end : ℕ) (f : Fields) (tag : Option TextLiteral) (s : Option Span) (rest : FieldTrees) → fields_entries end (fields_before f tag s rest) ≡ field_entries f (line_end s end) ++ fields_entries end rest
before_entries end (fields.Named xs t) tag s rest = refl
before_entries end (fields.Embedded star n) tag s rest = refl

pub fields_list : (end : ℕ) (ls : List FieldLine) → fields_entries end (fields_of ls) ≡ flat_map (field_line_entries end) ls
fields_list end [] = refl
fields_list end (l ∷ ls) = before_entries end l.fields l.tag l.semicolon (fields_of ls) ∙ ap (λ (es : List EntryTree). field_line_entries end l ++ es) (fields_list end ls)

pub methods_list : (end : ℕ) (ms : List MethodLine) → methods_entries end (methods_of ms) ≡ flat_map (method_line_entries end) ms
methods_list end [] = refl
methods_list end (MethodLine' x signature s ∷ ms) = ap (λ (es : List EntryTree). entry x kinds.Method true x.span.start (line_end s end) (line_end s end) ∷ es) (methods_list end ms)

abbrev pub method_entry : MethodLine → ℕ → EntryTree
method_entry m end = entry (out-MethodLine m).name kinds.Method true (out-MethodLine m).name.span.start end end

pub method_has : (end : ℕ) (m : MethodLine) → method_line_entries end m ≡ method_entry m (line_end (out-MethodLine m).semicolon end) ∷ []
method_has end m = ap (method_line_entries end) (is-MethodLine' m)

pub value_lines_list : (kind : ValueKind) (end : ℕ) (ls : List ValueLine) → flat_map (value_line_entries kind end) ls ≡ flat_map (λ l. value_spec_entries kind (first_ident l.0.names).span.start (line_end l.1 end) l.0) (map shape_value_line ls)
value_lines_list kind end ls = sym (flat_map-map (λ l. value_spec_entries kind (first_ident l.0.names).span.start (line_end l.1 end) l.0) shape_value_line ls)

pub type_lines_list : (end : ℕ) (ls : List TypeLine) → flat_map (type_line_entries end) ls ≡ flat_map (λ l. type_spec_entries l.0.name.span.start (line_end l.1 end) l.0) (map shape_type_line ls)
type_lines_list end ls = sym (flat_map-map (λ l. type_spec_entries l.0.name.span.start (line_end l.1 end) l.0) shape_type_line ls)
