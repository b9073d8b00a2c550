-- The methods of a method set, as a list.
use Rattle.std.specs.Prelude.{◌≡◌, ℕ, List, Contains, AllPairs}
use Rattle.go_path_core.specs.text_core.Text.{SameId}
use Rattle.go_term_core.specs.Terms.{Term}
use Rattle.go_select_core.specs.table_core.Entries.{EntryLook}
use Rattle.go_select_core.specs.embed_core.Owners.{Found}
use Rattle.go_select_core.specs.embed_core.OwnersShown.{found_shown, name_shown, member_package_shown}
use Rattle.go_select_core.specs.Selections.{IsIdBefore}
use Rattle.go_mset_core.specs.declared.methods.SetMethod.{SetMethod}
use Rattle.go_mset_core.specs.MethodSets.{IsInMethodSet}

abbrev pub IsMethodBefore : SetMethod → SetMethod → Type 0
IsMethodBefore a b = IsIdBefore (name_shown a.member) (member_package_shown a.member) (name_shown b.member) (member_package_shown b.member)

-- the methods of the method set of t, each identifier once, in order of names and packages
pub record IsMethodSet (look : EntryLook) (t : Term) (methods : List SetMethod) : Type 0 where
  pub rising : AllPairs IsMethodBefore methods
  pub sound : (m : SetMethod) → Contains methods m → IsInMethodSet look t (name_shown m.member) (member_package_shown m.member) m.path (found_shown m.member)
  pub whole : (name from path : List ℕ) (f : Found) → IsInMethodSet look t name from path f
      → (m : SetMethod) × Contains methods m × SameId (name_shown m.member) (member_package_shown m.member) name from × (m.path ≡ path) × (found_shown m.member ≡ f)
