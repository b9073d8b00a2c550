-- Laws of what is asked of a type.
use Rattle.std.specs.Prelude.{◌≡◌, ℕ, List, Contains}
use Rattle.go_term_core.specs.Terms.{Term}
use Rattle.go_summary_core.specs.table_core.Entries.{Entry, find_entry}
use Rattle.go_summary_core.specs.table_core.Laws.{AgreeFrom}
use Rattle.go_expr_core.specs.denote_core.declared.things.Outcome.TheVariants as outcomes
use Rattle.go_summary_core.specs.handle_core.Declarations.{Declaration}
use Rattle.go_package_core.specs.package_part.Inputs.{path_in}
use Rattle.go_package_core.specs.package_part.Parts.{PartModel, seen_by}
use Rattle.go_type_doc_core.specs.declared.members.listing.MemberKind.{MemberKind}
use Rattle.go_type_doc_core.specs.members.Members.{AreLooks, AreMembers, MemberOf, TheLook, behind_variable}
use Rattle.go_type_doc_core.specs.Naming.{fresh_look, seen_of, types_seen}

-- the look-ups of a file that a package could have beside its own are those of the package, over the types that it sees, and over those that another
-- package sees
pub record FilesHaveLooks : Type 0 where
  pub own : (p : PartModel) → AreLooks (types_seen p) (path_in p.input) (fresh_look p (seen_by p.input) (types_seen p))
  pub other : (q p : PartModel) → AreLooks (types_seen p) (path_in q.input) (fresh_look q (seen_of q p) (types_seen p))

-- by any look-ups of the package of a path over these types the members are exactly the names that selectors behind a variable of the type have
pub record AreMembersOver (es : List Entry) (t : Term) (from : List ℕ) (ms : List MemberOf) : Type 0 where
  pub each : (look : TheLook) → AreLooks es from look → (m : MemberOf) → Contains ms m → (d : Declaration) × (path : List ℕ) × (behind_variable look t m.kind m.name ≡ outcomes.Selected d path)
  pub whole : (look : TheLook) → AreLooks es from look → (kind : MemberKind) (name : List ℕ) (d : Declaration) (path : List ℕ) → behind_variable look t kind name ≡ outcomes.Selected d path
      → (m : MemberOf) × Contains ms m × (m.name ≡ name) × (m.kind ≡ kind)

-- members are those over any other types that have the same of all that the type reaches, as the types have which another package sees that imports
-- the one that declares it
abbrev pub MembersAreLocal : Type 0
MembersAreLocal = (es fs : List Entry) (t : Term) (from : List ℕ) (ms : List MemberOf) → AgreeFrom (find_entry es) (find_entry fs) t → AreMembers es t from ms → AreMembersOver fs t from ms
