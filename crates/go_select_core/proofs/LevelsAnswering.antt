-- What is found where a selector is searched answers it.
use Rattle.std.proofs.Common.{◌≡◌, ℕ, false, List, Result, Ok, Err, refl, subst, inl, inr}
use Rattle.go_path_core.specs.text_core.Text.{is_blank}
use Rattle.go_path_core.specs.text_core.declared.rule.Rule.{Rule}
use Rattle.go_term_core.specs.Terms.{Term}
use Rattle.go_embed_core.specs.table_core.Entries.{EntryLook}
use Rattle.go_embed_core.specs.OwnersShown.{found_shown}
use Rattle.go_select_core.specs.declared.levels.search.Selected.{Selected}
use Rattle.go_select_core.specs.levels.Selectors.{Searched, Refused, searched, IsFoundAs, IsRefused, IsSelectorAnswer}
use Rattle.go_select_core.specs.levels.mirrors.Searches.{IsFoundOrNot}

pub answers : (look : EntryLook) (t : Term) (w : Searched) (name from : List ℕ) (r : Result Selected Rule) → is_blank name ≡ false → w ≡ searched look t → IsFoundOrNot look w name from r → IsSelectorAnswer look t name from r
answers look t w name from (Ok s) blank is h = (blank, subst (λ q. IsFoundAs look q name from s.path s.through_pointer (found_shown s.member)) is h)
answers look t w name from (Err rule) blank is (inl h) = inl h
answers look t w name from (Err rule) blank is (inr h) = inr (inr (blank, subst (λ q. IsRefused look q name from rule) is h))

-- where the operand is refused
pub answers_refused : (look : EntryLook) (t : Term) (name from : List ℕ) (rule : Rule) → is_blank name ≡ false → Refused rule ≡ searched look t → IsSelectorAnswer look t name from (Err rule)
answers_refused look t name from rule blank is = inr (inr (blank, subst (λ q. IsRefused look q name from rule) is refl))
