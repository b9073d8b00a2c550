-- What workers see, and what comes of their work.
use Rattle.std.specs.Prelude.{◌≡◌, ◌≤◌, ◌⊎◌, List, [], ◌++◌, Option, All, Contains, drop, length, map}
use Rattle.go_summary_core.specs.Summaries.{SummaryModel}
use Rattle.go_package_core.specs.package_part.Inputs.{InputModel, path_in}
use Rattle.go_package_core.specs.package_part.Parts.{PartModel}
use Rattle.go_batch_core.specs.seen.Local.{AreAmong, NoneIsOf}
use Rattle.go_parallel_core.specs.declared.seers.Seer.{Seer}
use Rattle.go_parallel_core.specs.declared.seers.Seers.{Seers}
use Rattle.go_parallel_core.specs.Told.{AreAllTold, AreApart, IsTold, input_of, summary_in}

-- over what is seen these inputs can be compiled one after another: all that they reach is seen, and nothing of their packages
pub record CanCompile (seen : List SummaryModel) (is : List InputModel) : Type 0 where
  pub reached : All (λ (i : InputModel). AreAmong i.reached seen) is
  pub own : All (λ (i : InputModel). NoneIsOf seen (path_in i)) is
  pub apart : AreApart is

-- the parts of inputs, in order, and what is seen after them: what was seen, and what they tell
pub record IsDoneOf (seen : List SummaryModel) (is : List InputModel) (ps : List PartModel) (after : List SummaryModel) : Type 0 where
  pub parts : map input_of ps ≡ is
  pub sight : after ≡ seen ++ map summary_in ps

-- all that is told is seen, and what is seen beside is among these
pub record IsBeside (parts : List (Option PartModel)) (more seen : List SummaryModel) : Type 0 where
  pub all : (s : SummaryModel) → IsTold parts s → Contains seen s
  pub only : (s : SummaryModel) → Contains seen s → IsTold parts s ⊎ Contains more s

-- what a worker at rest sees is told, or among these; and of the parts that are made each that was before its number is seen
pub record Rests (parts : List (Option PartModel)) (made : List PartModel) (more : List SummaryModel) (w : Seer) : Type 0 where
  pub only : (s : SummaryModel) → Contains w.sight s → IsTold parts s ⊎ Contains more s
  pub all : (s : SummaryModel) → Contains (map summary_in made) s → Contains w.sight s ⊎ Contains (map summary_in (drop w.told made)) s
  pub within : w.told ≤ length made

-- the parts that are made tell all that is told, and what the workers at rest see is told
pub record AreSeers (parts : List (Option PartModel)) (all : Seers) : Type 0 where
  pub made : AreAllTold parts (map summary_in all.made.items)
  pub resting : All (Rests parts all.made.items []) all.resting.items
