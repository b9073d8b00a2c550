-- What the search in a type answers.
use Rattle.std.specs.Prelude.{◌≡◌, ◌⊎◌, ℕ, List, Result, Ok, Err}
use Rattle.go_path_core.specs.text_core.declared.rule.Rule.{Rule}
use Rattle.go_path_core.specs.text_core.declared.rule.Rule.TheVariants as rules
use Rattle.go_term_core.specs.Terms.{Term}
use Rattle.go_embed_core.specs.table_core.Entries.{EntryLook}
use Rattle.go_embed_core.specs.OwnersShown.{found_shown}
use Rattle.go_select_core.specs.declared.levels.search.Selected.{Selected}
use Rattle.go_select_core.specs.levels.Paths.{IsSelected}
use Rattle.go_select_core.specs.levels.Selectors.{Searched, IsMissing, IsFoundSelected, IsRefused}

abbrev pub IsSearched : EntryLook → Term → List ℕ → List ℕ → Result Selected Rule → Type 0
IsSearched look t name from (Ok s) = IsSelected look t name from s.path s.through_pointer (found_shown s.member)
IsSearched look t name from (Err rule) = IsMissing look t name from rule

-- want of memory too
abbrev pub IsSearchedOrNot : EntryLook → Term → List ℕ → List ℕ → Result Selected Rule → Type 0
IsSearchedOrNot look t name from (Ok s) = IsSelected look t name from s.path s.through_pointer (found_shown s.member)
IsSearchedOrNot look t name from (Err rule) = (rule ≡ rules.M0) ⊎ IsMissing look t name from rule

-- what a name denotes where a selector is searched, want of memory too
abbrev pub IsFoundOrNot : EntryLook → Searched → List ℕ → List ℕ → Result Selected Rule → Type 0
IsFoundOrNot look w name from (Ok s) = IsFoundSelected look w name from s
IsFoundOrNot look w name from (Err rule) = (rule ≡ rules.M0) ⊎ IsRefused look w name from rule
