-- Which fields and methods are kept, before they are settled.
use Rattle.std.specs.Prelude.{ℕ, Bool, not, ◌&&◌, ◌||◌, List, [], ◌∷◌, map, if◌then◌else◌}
use Rattle.go_decl_core.specs.declared.keys.DeclKey.{DeclKey}
use Rattle.go_tree_nodes.specs.text_core.Text.{is_blank}
use Rattle.go_term_core.specs.declared.term.Field.{Field}
use Rattle.go_term_core.specs.declared.term.Method.{Method}
use Rattle.go_term_core.specs.Shapes.{Line, line_with, line_at, sign_of}
use Rattle.go_term_core.specs.Terms.{Fields, AField, Methods, AMethod}
use Rattle.go_term_core.specs.declared.settling.kind.Kind.{Kind}
use Rattle.go_term_core.specs.settling.Settled.{can_be_embedded, is_among_names, settled, settled_sign}

-- whether a struct type keeps a field of this name, by whether the name is new
abbrev pub keeps_field : List ℕ → Bool → Bool
keeps_field name is_new = is_blank name || is_new

-- whether an interface type keeps a method of this name, by whether the name is new
abbrev pub keeps_method : List ℕ → Bool → Bool
keeps_method name is_new = not (is_blank name) && is_new

-- which of these names behind others are kept
abbrev pub kept_names : (List ℕ → Bool → Bool) → List (List ℕ) → List (List ℕ) → List Bool
kept_names keeps seen [] = []
kept_names keeps seen (name ∷ names) = keeps name (not (is_among_names seen name)) ∷ kept_names keeps (name ∷ seen) names

abbrev pub kept_fields : List Field → List Bool
kept_fields fs = kept_names keeps_field [] (map (λ f. f.name) fs)

abbrev pub kept_methods : List Method → List Bool
kept_methods ms = kept_names keeps_method [] (map (λ m. m.name) ms)

-- those of a list that are kept
abbrev pub those_kept : List Bool → List Field → List Field
those_kept ks [] = []
those_kept [] (f ∷ fs) = []
those_kept (k ∷ ks) (f ∷ fs) = if k then f ∷ those_kept ks fs else those_kept ks fs

-- a settled line
abbrev pub settled_line : (DeclKey → Kind) → Line → Line
settled_line kind l = line_with (l.embedded && can_be_embedded kind l.term) (settled kind l.term) l.tag

-- a settled field of these lines before others
abbrev pub make_field : (DeclKey → Kind) → List Line → Field → Fields → Fields
make_field kind ls f rest = AField f.name f.place ((line_at ls f.line).embedded && can_be_embedded kind (line_at ls f.line).term) (settled kind (line_at ls f.line).term) (line_at ls f.line).tag rest

-- a method before others
abbrev pub put_method : Method → Methods → Methods
put_method m rest = AMethod m.name m.place (sign_of m.signature) rest

-- a settled method before others
abbrev pub make_method : (DeclKey → Kind) → Method → Methods → Methods
make_method kind m rest = AMethod m.name m.place (settled_sign kind (sign_of m.signature)) rest
