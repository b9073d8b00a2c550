-- How the methods of an interface type are gone over.
use Rattle.std.specs.Prelude.{◌≡◌, ◌⊎◌, ℕ, List, Option, Some, None, ⊤}
use Rattle.std.specs.Ordering.{nat_cmp}
use Rattle.std.specs.Cmp.Lexicographic.{slice_cmp}
use Rattle.std.specs.declared.cmp.Ordering.TheVariants.{Less}
use denote.Ref.{Bor}
use Rattle.go_term_core.specs.declared.term.MemberPlace.{MemberPlace}
use Rattle.go_term_core.specs.Terms.{Term, PointerTo, Methods, Sign}
use Rattle.go_term_core.specs.Identity.{IsMethod}
use Rattle.go_term_core.specs.Shapes.{shape, sign_of}
use Rattle.go_select_core.specs.table_core.Entries.{EntryLook}
use Rattle.go_mset_core.specs.declared.interface.Holder.{Holder}
use Rattle.go_mset_core.specs.declared.interface.Holder.TheVariants as holders
use Rattle.go_mset_core.specs.declared.wanted.Wanted.{Wanted}
use Rattle.go_mset_core.specs.declared.wanted.Wanted.TheVariants as wanteds
use Rattle.go_mset_core.specs.Implementing.{HasMethod, error_sign}

abbrev pub holder_shown : Holder → Term
holder_shown (holders.Of t) = shape t.now
holder_shown (holders.PointerTo t) = PointerTo (shape t.now)

abbrev pub sign_wanted : Wanted → Sign
sign_wanted (wanteds.Signature g) = sign_of g.now
sign_wanted wanteds.OfError = error_sign

abbrev pub text_shown : Option (Bor (List ℕ)) → Option (List ℕ)
text_shown None = None
text_shown (Some text) = Some text.now

-- before the name that is missing so far, where one is
abbrev pub IsBefore : List ℕ → Option (List ℕ) → Type 0
IsBefore name None = ⊤
IsBefore name (Some missing) = slice_cmp nat_cmp name missing ≡ Less

-- what is missing of those before and of one more method
abbrev pub IsNextMissing : EntryLook → Term → List ℕ → Option (List ℕ) → List ℕ → Sign → Option (List ℕ) → Type 0
IsNextMissing look t path missing name g next =
    (((IsBefore name missing → ⊥) ⊎ HasMethod look t name path g) × (next ≡ missing)) ⊎ (IsBefore name missing × (HasMethod look t name path g → ⊥) × (next ≡ Some name))

-- the least name of the methods that t has not
abbrev pub IsLeastMissing : EntryLook → Term → List ℕ → Methods → Option (List ℕ) → Type 0
IsLeastMissing look t path ms None = (name : List ℕ) (place : MemberPlace) (g : Sign) → IsMethod ms name place g → HasMethod look t name path g
IsLeastMissing look t path ms (Some missing) =
    ((place : MemberPlace) × (g : Sign) × IsMethod ms missing place g × (HasMethod look t missing path g → ⊥))
    × ((name : List ℕ) (place : MemberPlace) (g : Sign) → IsMethod ms name place g → slice_cmp nat_cmp name missing ≡ Less → HasMethod look t name path g)
