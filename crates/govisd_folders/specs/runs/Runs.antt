-- What the run of a package of a workspace without faults answers.
use Rattle.std.specs.Prelude.{◌≡◌, ◌⊎◌, ℕ, List, [], ◌∷◌, ◌++◌, Option, Some, None, codes}
use Rattle.go_path_core.specs.text_core.declared.rule.Rule.TheVariants.{I1, J1, J2}
use Rattle.go_path_core.specs.Path.{IsPath}
use Rattle.go_graph_core.specs.Workspaces.{PackageModel}
use Rattle.go_handle_core.specs.Declarations.{Declaration}
use Rattle.go_object_core.specs.Objects.{FunctionOf, ObjectOf}
use Rattle.go_machine_core.specs.link.Linked.{HasNoMain, IsBeyond, IsCut, IsOutsideOf, ProgramOf, program_of}
use Rattle.go_machine_core.specs.runs.Runs.{GetsStuck, Gives, run_shown}
use Rattle.go_machine_core.specs.declared.runs.outcome.Run.{Run}
use Rattle.go_session_core.specs.launches.Located.{place_declared}
use Rattle.go_site_core.specs.Sites.{site_text}
use Rattle.govisd_folders.specs.declared.checking.CheckAnswer.{CheckAnswer}
use Rattle.govisd_disk.specs.Finds.{refused_line}
use Rattle.govisd_disk.specs.Notes.{name_or_quotes, refusal_line}
use Rattle.govisd_disk.specs.Scopes.{ScopeModel}
use Rattle.govisd_folders.specs.runs.Outcomes.{NothingRan, TellsRun}
use Rattle.govisd_folders.specs.runs.Choices.{main_paths, several_text}

-- the objects of a workspace
abbrev pub Objects : Type 0
Objects = List (ObjectOf Declaration)

-- the program of the package of a path
abbrev pub program_at : Objects → List ℕ → ProgramOf
program_at os main = program_of place_declared os main

-- where a function is declared, and its name
abbrev pub function_text : List PackageModel → FunctionOf Declaration → List ℕ
function_text ps f = (site_text ps f.declaration ++ codes " ") ++ f.name

-- what is to blame where it cannot be run: the first function that is reached and of which no code is made, or the path itself where a package that it
-- reaches has no object
pub data IsToBlame (ps : List PackageModel) (os : Objects) (main text : List ℕ) : Type 0 where
  ByFunction : (f : FunctionOf Declaration) → IsOutsideOf (program_at os main) os f → text ≡ function_text ps f → IsToBlame ps os main text
  ByPackage : IsCut (program_at os main) → text ≡ main → IsToBlame ps os main text

-- nothing ran: what is to blame is named by J2
pub record IsBlamed (ps : List PackageModel) (os : Objects) (before main : List ℕ) (a : CheckAnswer) : Type 0 where
  pub name : List ℕ
  pub blame : IsToBlame ps os main name
  pub says : NothingRan (before ++ refusal_line name J2) a

-- the answer on the package of a path: what it came to in so many steps; or it has no `main`; or it reaches what cannot be run; or its code lacks what
-- an instruction asks for
pub data AnswersPackage (ps : List PackageModel) (os : Objects) (before main : List ℕ) (steps : ℕ) (a : CheckAnswer) : Type 0 where
  ItRan : (run : Run) → Gives (program_at os main) steps (run_shown run) → TellsRun run a → AnswersPackage ps os before main steps a
  ItHasNoMain : HasNoMain (program_at os main) → NothingRan (before ++ refusal_line main J1) a → AnswersPackage ps os before main steps a
  ItIsBeyond : IsBeyond (program_at os main) → IsBlamed ps os before main a → AnswersPackage ps os before main steps a
  ItIsStuck : GetsStuck (program_at os main) steps → NothingRan (before ++ refused_line main (codes "its code cannot be run")) a → AnswersPackage ps os before main steps a

-- the answer on the package that a text names: it is no path, or this is the answer on the package of the path
abbrev pub AnswersNamed : List PackageModel → Objects → List ℕ → List ℕ → ℕ → CheckAnswer → Type 0
AnswersNamed ps os before text steps a =
    ((¬ IsPath text) × NothingRan (before ++ refusal_line (name_or_quotes text) I1) a) ⊎ (IsPath text × AnswersPackage ps os before text steps a)

-- the answer where these packages are called `main`: there is none, or one, or several
abbrev pub AnswersMains : List ℕ → List PackageModel → Objects → List ℕ → List (List ℕ) → ℕ → CheckAnswer → Type 0
AnswersMains folder ps os before [] steps a = NothingRan (before ++ refused_line folder (codes "no package is called main")) a
AnswersMains folder ps os before (m ∷ []) steps a = AnswersPackage ps os before m steps a
AnswersMains folder ps os before (m ∷ (n ∷ ms)) steps a = NothingRan (before ++ several_text folder (m ∷ (n ∷ ms))) a

-- the answer on the package that is named, or else on the one in the scope that is called `main`
abbrev pub AnswersMain : List ℕ → ScopeModel → List PackageModel → Objects → List ℕ → Option (List ℕ) → ℕ → CheckAnswer → Type 0
AnswersMain folder scope ps os before None steps a = AnswersMains folder ps os before (main_paths scope os) steps a
AnswersMain folder scope ps os before (Some text) steps a = AnswersNamed ps os before text steps a
