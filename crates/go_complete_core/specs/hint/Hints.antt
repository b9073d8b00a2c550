-- The names for an identifier of a file whose outcome rests on types.
--
-- docs/RULES.md, "Occurrences", "Members and selectors", "Composite literals". The Go specification, "Selectors", "Calls", "Composite literals".
use Rattle.std.specs.Prelude.{◌≡◌, ◌++◌, ℕ, true, List, All, Some, slice_get}
use Rattle.go_tree_nodes.specs.Trees.{FileTree}
use Rattle.go_tree_nodes.specs.Spelling.{IsPlaced}
use Rattle.go_type_core.specs.table_core.Entries.{Entry}
use Rattle.go_candidate_core.specs.declared_core.Written.{WrittenOf, package_written}
use Rattle.go_names_core.specs.block_core.Exports.{ExportsModel}
use Rattle.go_typexpr_core.specs.entry.Meanings.{Shows, declared_alone}
use Rattle.go_typexpr_core.specs.entry.Showing.{shown_in}
use Rattle.go_package_core.specs.prepare.Packages.{PackageIn, outlines_in, shows_in, trees_in}
use Rattle.go_package_core.specs.package_part.Inputs.{IsInput}
use Rattle.go_package_core.specs.package_part.Parts.{IsPart, PartModel, package_seen, seen_by}
use Rattle.go_cursor_core.specs.Opened.{FileUsed}
use Rattle.go_complete_core.specs.place.Completed.{names_placed}
use Rattle.go_complete_core.specs.place.Completions.{AreNamesFor, context_at, is_of_types, stand_of}
use Rattle.go_complete_core.specs.place.Laws.{IsPlacedIn}
use Rattle.go_complete_core.specs.views.Imported.{seen_by_imports}

-- wherever it stands in its file, exactly these names have a declaration in its place, if its outcome rests on types there
abbrev pub AreNamesByTypes : PartModel → ℕ → FileTree → FileUsed → List (List ℕ) → Type 0
AreNamesByTypes p n f u found =
    (made : IsPart p.input p.content) (placed : IsPlacedIn (stand_of p made n f) f u)
    → is_of_types (context_at (stand_of p made n f) (names_placed (stand_of p made n f) f u placed) u.used) ≡ true
    → AreNamesFor (stand_of p made n f) (names_placed (stand_of p made n f) f u placed) (context_at (stand_of p made n f) (names_placed (stand_of p made n f) f u placed) u.used) u.used.ident found

-- the same, whatever the tree of the file of the number is
abbrev pub AreNamesWith : PartModel → ℕ → FileUsed → List (List ℕ) → Type 0
AreNamesWith p n u found = (f : FileTree) → slice_get (trees_in p.input.source) n ≡ Some f → AreNamesByTypes p n f u found

-- what packages show, where each declaration of a type means itself
abbrev pub shown_alone : List ExportsModel → Shows
shown_alone ps = declared_alone (shown_in ps)

-- what is written of the declarations of a package
abbrev pub written_of : PackageIn → List Entry → List WrittenOf
written_of q types = package_written (shows_in q) q.path q.blocks types (outlines_in q)

-- a package is that of a part, where of other packages it is known what those show that its imports come to; the types are all that it sees, and the
-- tokens of its files follow one another
pub record IsSeen (p : PartModel) (q : PackageIn) (types : List Entry) : Type 0 where
  pub input : IsInput p.input
  pub seen : q ≡ package_seen p.input p.content.blocks (seen_by_imports p.input)
  pub types_are : types ≡ (seen_by p.input).types ++ p.content.summary.types.entries
  pub placed : All IsPlaced q.trees
