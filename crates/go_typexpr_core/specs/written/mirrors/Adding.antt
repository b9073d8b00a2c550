-- What loops over lines collect.
use Rattle.std.specs.Prelude.{◌≡◌, ◌<◌, ℕ, List, [], ◌∷◌, ◌++◌, Option, Some, None, ⊤, length, map}
use Rattle.go_tree_nodes.specs.TypeShapes as shapes
use Rattle.go_tree_nodes.specs.Trees.{Separated, One, Then, FieldTrees, NoFields, MethodTrees, ParamTrees}
use Rattle.go_tree_nodes.specs.declared.types.FieldLine.{FieldLine}
use Rattle.go_tree_nodes.specs.declared.types.MethodLine.{MethodLine}
use Rattle.go_tree_nodes.specs.declared.types.«Param» as declared_param
use Rattle.go_tree_nodes.specs.declared.names.Ident.{Ident}
use Rattle.go_tree_nodes.specs.declared.names.NextIdent.{NextIdent}
use Rattle.go_term_core.specs.decl_core.declared.places.DeclKind.TheVariants as kinds
use Rattle.go_term_core.specs.declared.term.Field.{Field}
use Rattle.go_term_core.specs.declared.term.FieldLine as term_line
use Rattle.go_term_core.specs.declared.term.Params.{Params}
use Rattle.go_typexpr_core.specs.declared.written.terms.Body.{Body}
use Rattle.go_tree_nodes.specs.declared.types.Fields as declared_fields
use Rattle.go_tree_nodes.specs.declared.names.TextLiteral.{TextLiteral}
use Rattle.go_term_core.specs.Terms.{Fields, NoField, AField, Methods, NoMethod, AMethod, Terms, NoTerm, ATerm}
use Rattle.go_typexpr_core.specs.written.Written.{Meaning, InFile, member_place, fields_of_tree}
use Rattle.go_term_core.specs.Shapes.{Line, line_shape, fields_in, shape, param_shapes}

abbrev pub lines_of : List FieldLine → FieldTrees
lines_of ls = shapes.fields_of ls

abbrev pub method_lines_of : List MethodLine → MethodTrees
method_lines_of ls = shapes.methods_of ls

abbrev pub params_in : List declared_param.Param → ParamTrees
params_in ps = shapes.params_of ps

-- the fields of one line
abbrev pub line_fields : Meaning → InFile → declared_fields.Fields → Option TextLiteral → Fields
line_fields mean f fs tag = fields_of_tree mean f (shapes.fields_before fs tag None NoFields)

-- fields before others
abbrev pub then_fields : Fields → Fields → Fields
then_fields NoField gs = gs
then_fields (AField name place embedded t tag fs) gs = AField name place embedded t tag (then_fields fs gs)

abbrev pub then_methods : Methods → Methods → Methods
then_methods NoMethod ns = ns
then_methods (AMethod name place g ms) ns = AMethod name place g (then_methods ms ns)

abbrev pub then_terms : Terms → Terms → Terms
then_terms NoTerm us = us
then_terms (ATerm t ts) us = ATerm t (then_terms ts us)

-- the field of an identifier in the line of a number
abbrev pub field_in : InFile → ℕ → Ident → Field
field_in f n x = record { name = x.name; place = member_place f kinds.Field x.span.start; line = n }

abbrev pub named_in : InFile → ℕ → Separated Ident → List Field
named_in f n (One x) = field_in f n x ∷ []
named_in f n (Then x comma xs) = field_in f n x ∷ named_in f n xs

-- a number for each name, or one where there is none
abbrev pub numbers_each : ℕ → Separated Ident → List ℕ
numbers_each n (One x) = n ∷ []
numbers_each n (Then x comma xs) = n ∷ numbers_each n xs

abbrev pub numbers_of : ℕ → Option (Separated Ident) → List ℕ
numbers_of n None = n ∷ []
numbers_of n (Some xs) = numbers_each n xs

-- a number for each further name
abbrev pub more_numbers : ℕ → List NextIdent → List ℕ
more_numbers n [] = []
more_numbers n (y ∷ ys) = n ∷ more_numbers n ys

-- the lines of fields, and the terms of parameters, are there
abbrev pub AreIn : ℕ → List Field → Type 0
AreIn n [] = ⊤
AreIn n (f ∷ fs) = (f.line < n) × AreIn n fs

abbrev pub AreBelow : ℕ → List ℕ → Type 0
AreBelow n [] = ⊤
AreBelow n (m ∷ ms) = (m < n) × AreBelow n ms

-- a struct type has these fields, each in a line that is there
abbrev pub AreWritten : Fields → Body → Type 0
AreWritten fs body = (fields_in (map line_shape body.lines.items) body.fields.items ≡ fs) × AreIn (length (map line_shape body.lines.items)) body.fields.items

abbrev pub AreParams : Terms → Params → Type 0
AreParams ts ps = (param_shapes ps ≡ ts) × AreBelow (length (map shape ps.terms.items)) ps.lines.items

-- what is added behind others
abbrev pub Adds : Body → Fields → Body → Type 0
Adds old fs new = (all : Fields) → AreWritten all old → AreWritten (then_fields all fs) new

abbrev pub AddsLine : List term_line.FieldLine → Line → List term_line.FieldLine → Type 0
AddsLine old l new = map line_shape new ≡ map line_shape old ++ l ∷ []

abbrev pub AddsParams : Params → Terms → Params → Type 0
AddsParams old ts new = (all : Terms) → AreParams all old → AreParams (then_terms all ts) new
