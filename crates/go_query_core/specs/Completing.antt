-- The names that could stand in place of an identifier that is used.
--
-- The Go specification, "Declarations and scope", "Qualified identifiers", "Selectors", "Composite literals".
use Rattle.std.specs.Prelude.{◌≡◌, ◌⊎◌, ◌<◌, ◌≤◌, ℕ, List, Contains}
use Rattle.go_tree_nodes.specs.text_core.declared.rule.Rule.{Rule}
use Rattle.go_tree_nodes.specs.text_core.declared.rule.Rule.TheVariants.{Q1, Q2}
use Rattle.go_parse_core.specs.tree_core.Occurrences.{NoneCovers, file_occs}
use Rattle.go_complete_core.specs.snap_core.Snapshots.{FoundFile, IsFileAt, SnapshotModel}
use Rattle.go_cursor_core.specs.Opened.{FileUsed, file_names}
use Rattle.go_complete_core.specs.place.Completions.{AreNamesAt}
use Rattle.go_query_core.specs.Defining.{HasNoPart, IsUnused, LacksFile}

-- the identifier that is used at an offset of a file, with the spot where it stands
pub record IsAskedAt (f : FoundFile) (offset : ℕ) (u : FileUsed) : Type 0 where
  pub among : Contains (file_names f.tree) u
  pub starts : u.used.ident.span.start ≤ offset
  pub ends : offset < u.used.ident.span.end

abbrev pub IsCompletionIn : FoundFile → ℕ → List (List ℕ) → Type 0
IsCompletionIn f offset found = (u : FileUsed) × IsAskedAt f offset u × AreNamesAt f.of_part f.number f.tree u found

-- the names that could stand in place of the identifier that is used at an offset of the file of a name, in the package of a path
abbrev pub IsCompletion : SnapshotModel → List ℕ → List ℕ → ℕ → List (List ℕ) → Type 0
IsCompletion s path name offset found = (f : FoundFile) × IsFileAt s.sources s.parts path name f × IsCompletionIn f offset found

-- no identifier is used there: Q3 where one stands there, else Q2
abbrev pub IsUnaskedIn : FoundFile → ℕ → Rule → Type 0
IsUnaskedIn f offset rule = NoneCovers offset (file_occs f.tree) × IsUnused f.source.text offset rule

-- why there is no answer: no package of the path, no file of the name, or no identifier that is used
abbrev pub IsUnasked : SnapshotModel → List ℕ → List ℕ → ℕ → Rule → Type 0
IsUnasked s path name offset rule =
    ((rule ≡ Q1) × HasNoPart s path)
    ⊎ (((rule ≡ Q2) × LacksFile s path name)
    ⊎ ((f : FoundFile) × IsFileAt s.sources s.parts path name f × IsUnaskedIn f offset rule))
