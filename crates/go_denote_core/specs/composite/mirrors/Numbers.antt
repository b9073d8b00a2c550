-- Numbers of names, as a map has them.
use Rattle.std.specs.Prelude.{ℕ, List, Option, Some, None}
use Rattle.std.specs.Borrow.{Bor}
use Rattle.std.specs.Cmp.Lexicographic.{slice_cmp}
use Rattle.std.specs.Map.{lookup}
use Rattle.std.specs.Ordering.{is_eq, nat_cmp}
use Rattle.go_denote_core.specs.declared.composite.things.KeyMark.{KeyMark}
use Rattle.go_denote_core.specs.composite.Look.{FieldOf}
use Rattle.go_denote_core.specs.composite.Repeats.{has_name}
use Rattle.go_denote_core.specs.composite.Marks.{field_number, name_number_from}

-- the number that a map has at a name
abbrev pub number_of : List (Bor (List ℕ) × ℕ) → List ℕ → Option ℕ
number_of entries name = lookup (λ k. is_eq (slice_cmp nat_cmp name k.now)) entries

-- what was known, or else what is new
abbrev pub first_known : Option ℕ → Option ℕ → Option ℕ
first_known None new = new
first_known (Some n) new = Some n

-- the mark of a key, by the names that are repeated and the numbers of fields
abbrev pub mark_by : List (List ℕ) → List (Bor (List ℕ) × ℕ) → List ℕ → KeyMark
mark_by again entries name = record { is_repeated = has_name name again; field = number_of entries name }

-- the same, by the number of its field, by the fields, and by their names
abbrev pub mark_with : List (List ℕ) → Option ℕ → List ℕ → KeyMark
mark_with again field name = record { is_repeated = has_name name again; field = field }

abbrev pub asked_mark : {T D : Type 0} → List (List ℕ) → List (FieldOf T D) → List ℕ → KeyMark
asked_mark again fields name = mark_with again (field_number fields name) name

abbrev pub searched_mark : List (List ℕ) → List (List ℕ) → List ℕ → KeyMark
searched_mark again fields name = mark_with again (name_number_from 0 fields name) name
