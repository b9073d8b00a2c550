-- What the walk over a file has listed so far.
use Rattle.std.specs.Prelude.{◌≡◌, ℕ, List, ◌++◌, length, map, IsOk}
use Rattle.go_decl_core.specs.declared.places.Place.{Place}
use Rattle.go_decl_core.specs.declared.lister.Lister.{Lister}
use Rattle.go_decl_core.specs.declared.file_places.Outliner.{Outliner}
use Rattle.go_decl_core.specs.Outer.{Outer, place_of}
use Rattle.go_decl_core.specs.TopDecls.{TopDeclTree}
use Rattle.go_decl_core.specs.Shown.{decl_shown}

-- where there is memory after, there was before, and these identifiers lead from the first list of places to the second
abbrev pub AddsTo : Type 0 → List Place → List Outer → Type 0 → List Place → Type 0
AddsTo before ps os after qs = after → before × (qs ≡ ps ++ map place_of os)

-- and these declarations, by the number of the first of the identifiers
abbrev pub ListsTo : Type 0 → List Place → List TopDeclTree → List Outer → (ℕ → List TopDeclTree) → Type 0 → List Place → List TopDeclTree → Type 0
ListsTo before ps ds os more after qs es = after → before × (qs ≡ ps ++ map place_of os) × (es ≡ ds ++ more (length ps))

abbrev pub Adds : Lister → List Outer → Lister → Type 0
Adds a os b = AddsTo (IsOk a.outcome) a.places.items os (IsOk b.outcome) b.places.items

abbrev pub Lists : Outliner → List Outer → (ℕ → List TopDeclTree) → Outliner → Type 0
Lists a os more b = ListsTo (IsOk a.lister.outcome) a.lister.places.items (map decl_shown a.decls.items) os more (IsOk b.lister.outcome) b.lister.places.items (map decl_shown b.decls.items)
