-- Entries that are given methods one after another.
use Rattle.std.specs.Prelude.{◌≡◌, ◌++◌, ℕ, true, false, List, map, Option, Some, None, slice_get}
use Rattle.go_term_core.specs.Terms.{Term}
use Rattle.go_type_core.specs.table_core.Entries.{Entry}
use Rattle.go_typexpr_core.specs.entry.Entries.{Received, is_type_of, methods_received}

-- an entry with more methods: those of these that are of its key
abbrev pub gaining : List Received → Entry → Entry
gaining rs e = record { key = e.key; name = e.name; term = e.term; methods = e.methods ++ methods_received e.key rs }

abbrev pub all_gaining : List Received → List Entry → List Entry
all_gaining rs es = map (gaining rs) es

-- the place of the entry of a type, or none where no entry is that type's
abbrev pub IsMeantAt : List Entry → Term → Option ℕ → Type 0
IsMeantAt es t None = (i : ℕ) (e : Entry) → slice_get es i ≡ Some e → is_type_of e.key t ≡ false
IsMeantAt es t (Some n) = (e : Entry) × (slice_get es n ≡ Some e) × (is_type_of e.key t ≡ true)
