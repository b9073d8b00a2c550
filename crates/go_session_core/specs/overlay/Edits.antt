-- Edits of drafts.
use Rattle.std.specs.Prelude.{◌≡◌, ◌⊎◌, ℕ, true, false, not, List, [], ◌∷◌, ◌++◌, Option, Some, None}
use Rattle.std.specs.List.{filter}
use Rattle.std.specs.Str.{bytes_eq}
use Rattle.go_path_core.specs.text_core.declared.rule.Rule.{Rule}
use Rattle.go_path_core.specs.text_core.declared.rule.Rule.TheVariants.{M0, E1, E2}
use Rattle.go_path_core.specs.Path.{IsPath}
use Rattle.go_graph_core.specs.Sources.{SourceModel}
use Rattle.go_graph_core.specs.Workspaces.{PackageModel, Puts, files_at, is_path_inside, texts_of_files}
use Rattle.go_board_core.specs.submit_core.Trees.{TreeModel, is_file_name, tree_rule}

-- the files that are not of this name
abbrev pub other_files : List ℕ → List SourceModel → List SourceModel
other_files name fs = filter (λ f. not (bytes_eq f.name name)) fs

abbrev pub text_there : List ℕ → Option (List ℕ) → List (List ℕ × List ℕ)
text_there name None = []
text_there name (Some text) = (name, text) ∷ []

-- the other files as they were, and this one with this text, or without it
abbrev pub edited_texts : List SourceModel → List ℕ → Option (List ℕ) → List (List ℕ × List ℕ)
edited_texts fs name text = texts_of_files (other_files name fs) ++ text_there name text

abbrev pub files_or_none : Option (List SourceModel) → List SourceModel
files_or_none None = []
files_or_none (Some fs) = fs

-- in the package of a path the file of a name has this text, or is away; its other files are read from their texts as they were, and the other packages
-- stay
abbrev pub IsEdited : List PackageModel → List ℕ → List ℕ → Option (List ℕ) → List PackageModel → Type 0
IsEdited old path name text new = Puts old path (edited_texts (files_or_none (files_at old path)) name text) new

-- the first rule that an edit of a draft breaks: its path is none or lies outside the module, its name is no source file's, or the draft would be no tree
-- of the module
abbrev pub IsEditRefusal : TreeModel → List ℕ → List ℕ → Option (List ℕ) → Rule → Type 0
IsEditRefusal old path name text rule =
    (rule ≡ M0)
    ⊎ ((rule ≡ E1) × (IsPath path → is_path_inside old.own path ≡ false))
    ⊎ ((is_path_inside old.own path ≡ true) × (((rule ≡ E2) × (is_file_name name ≡ false)) ⊎ ((is_file_name name ≡ true) × ((new : List PackageModel) × IsEdited old.packages path name text new × (tree_rule old.own new ≡ Some rule)))))

-- what an edit of a draft leaves
pub record IsEditOf (old : TreeModel) (path name : List ℕ) (text : Option (List ℕ)) (new : TreeModel) : Type 0 where
  pub inside : is_path_inside old.own path ≡ true
  pub named : is_file_name name ≡ true
  pub own : new.own ≡ old.own
  pub edited : IsEdited old.packages path name text new.packages
  pub within : tree_rule old.own new.packages ≡ None
