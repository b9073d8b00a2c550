-- What is answered for an identifier by what names mean alone: names, or that a type decides.
--
-- docs/RULES.md, "Occurrences", "Names, selectors and calls in expressions".
use Rattle.std.specs.Prelude.{◌≡◌, ℕ, true, List, Option, Some, None}
use Rattle.go_tree_nodes.specs.Trees.{FileTree}
use Rattle.go_names_core.specs.local_core.Binding.{NameLook}
use Rattle.go_names_core.specs.local_core.mirrors.Walk.{look_in}
use Rattle.go_package_core.specs.env_core.declared.meaning.Meaning.{Meaning}
use Rattle.go_package_core.specs.body_core.FunctionStands.{FileStand, outer_meanings}
use Rattle.go_package_core.specs.package_part.Parts.{IsPart, PartModel}
use Rattle.go_cursor_core.specs.Opened.{FileUsed}
use Rattle.go_complete_core.specs.place.Completions.{AreFoundAt, context_at, is_of_types, stand_of}
use Rattle.go_complete_core.specs.place.Laws.{IsPlacedIn}

-- what names mean where an identifier stands that is placed so
abbrev pub names_placed : (st : FileStand) (f : FileTree) (u : FileUsed) → IsPlacedIn st f u → NameLook Meaning
names_placed st f u placed = look_in (outer_meanings st) placed.meant

-- the context of the identifier, where it stands, depends on a type
pub record IsOfTypes (p : PartModel) (n : ℕ) (f : FileTree) (u : FileUsed) : Type 0 where
  pub made : IsPart p.input p.content
  pub placed : IsPlacedIn (stand_of p made n f) f u
  pub of_types : is_of_types (context_at (stand_of p made n f) (names_placed (stand_of p made n f) f u placed) u.used) ≡ true

-- exactly the names that have a declaration there, or none where what a name has depends on a type
abbrev pub Completes : PartModel → ℕ → FileTree → FileUsed → Option (List (List ℕ)) → Type 0
Completes p n f u (Some found) = AreFoundAt p n f u found
Completes p n f u None = IsOfTypes p n f u
