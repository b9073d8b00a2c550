-- Which methods a type has: the Go specification, "Method sets", "Struct types".
use Rattle.std.specs.Prelude.{◌≡◌, ℕ, Bool, true, false, ◌||◌, List, ⊤}
use Rattle.go_path_core.specs.text_core.Text.{is_blank}
use Rattle.go_term_core.specs.Terms.{Term}
use Rattle.go_select_core.specs.table_core.Entries.{EntryLook}
use Rattle.go_select_core.specs.embed_core.Owners.{Found, AFieldOf, AMethodOf, AnInterfaces, TheErrorMethod}
use Rattle.go_select_core.specs.levels.Paths.{IsSelected}
use Rattle.go_select_core.specs.levels.Selectors.{Searched, Refused, In, FieldsIn, searched}

-- a method that needs no pointer, or has one: a star at its receiver wants that a pointer is passed
abbrev pub IsCallable : Found → Bool → Type 0
IsCallable (AFieldOf path place t) passes = ⊥
IsCallable (AMethodOf path place pointer g) passes = pointer ≡ true → passes ≡ true
IsCallable (AnInterfaces path place g) passes = ⊤
IsCallable TheErrorMethod passes = ⊤

-- the method m that an identifier selects where it is searched, by the path
abbrev pub IsMethodFound : EntryLook → Searched → List ℕ → List ℕ → List ℕ → Found → Type 0
IsMethodFound look (Refused rule) name from path m = ⊥
IsMethodFound look (In t by_pointer) name from path m = (pointer : Bool) × IsSelected look t name from path pointer m × IsCallable m (by_pointer || pointer)
IsMethodFound look (FieldsIn t) name from path m = ⊥

-- the method m of an identifier, which is written in the package `from`, is in the method set of t; the embedded fields on the path lead to it
abbrev pub IsInMethodSet : EntryLook → Term → List ℕ → List ℕ → List ℕ → Found → Type 0
IsInMethodSet look t name from path m = (is_blank name ≡ false) × IsMethodFound look (searched look t) name from path m
