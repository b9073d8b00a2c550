-- The faults of one member, beside those of its type, behind members of the names that were passed.
use Rattle.std.specs.Prelude.{◌≡◌, ℕ, Bool, false, not, ◌&&◌, ◌||◌, List, [], ◌∷◌, ◌++◌, if◌then◌else◌}
use Rattle.go_collections_core.specs.text_core.Text.{is_blank}
use Rattle.go_collections_core.specs.text_core.declared.rule.Rule.TheVariants as rules
use Rattle.go_term_core.specs.decl_core.declared.keys.DeclKey.{DeclKey}
use Rattle.go_term_core.specs.declared.term.Field.{Field}
use Rattle.go_term_core.specs.declared.term.Method.{Method}
use Rattle.go_term_core.specs.Terms.{Term}
use Rattle.go_term_core.specs.Shapes.{Line, line_at}
use Rattle.go_term_core.specs.declared.settling.kind.Kind.{Kind}
use Rattle.go_term_core.specs.settling.Settled.{can_be_embedded, is_among_names, repeats_earlier}
use Rattle.go_type_core.specs.table_core.declared.entry.DeclaredMethod.{DeclaredMethod}
use Rattle.go_type_core.specs.table_core.Entries.{Member}
use Rattle.go_type_core.specs.table_core.Methods.{field_spelled, has_field_before, term_fields}
use Rattle.go_type_core.specs.table_core.Shown.{member_shown}
use Rattle.go_embed_core.specs.declared.faults.MemberFault.{MemberFault}
use Rattle.go_embed_core.specs.Faults.{member_fault_if, is_left_out}

-- two lists have the same names
abbrev pub SameNames : List (List ℕ) → List (List ℕ) → Type 0
SameNames a b = (name : List ℕ) → is_among_names a name ≡ is_among_names b name

-- names with that of a method, unless the method is left out
abbrev pub names_with : List ℕ → Term → Member → List (List ℕ) → List (List ℕ)
names_with path u m names = if is_left_out path u m then names else m.name ∷ names

abbrev pub field_own : (DeclKey → Kind) → List Line → List (List ℕ) → Field → List MemberFault
field_own kind ls seen f = member_fault_if (repeats_earlier seen f.name) f.place rules.B5 ++ member_fault_if ((line_at ls f.line).embedded && not (can_be_embedded kind (line_at ls f.line).term)) f.place rules.Y2

abbrev pub method_own : List (List ℕ) → Method → List MemberFault
method_own seen m = member_fault_if (is_blank m.name || is_among_names seen m.name) m.place rules.B5

abbrev pub declared_own : List ℕ → Term → List (List ℕ) → DeclaredMethod → List MemberFault
declared_own path u seen m = member_fault_if (not (is_blank m.name) && (is_among_names seen m.name || has_field_before path u (member_shown m))) m.place rules.B5

-- a method is a type's own and spelled as one of its fields
abbrev pub is_hiding : List ℕ → Term → Member → Bool
is_hiding path u m = field_spelled (term_fields u) m.name && not (is_left_out path u m)

abbrev pub is_one_hiding : List ℕ → Term → List Member → Bool
is_one_hiding path u [] = false
is_one_hiding path u (m ∷ ms) = is_hiding path u m || is_one_hiding path u ms
