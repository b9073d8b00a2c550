-- What is told of a name.
use Rattle.std.specs.Prelude.{if◌then◌else◌, ◌≡◌, ℕ, Bool, true, false, ◌||◌, List, [], length, get_or, Option, Some, None, Result, Ok, Err, ⊤}
use Rattle.std.specs.Borrow.{Bor}
use Rattle.go_path_core.specs.text_core.declared.rule.Rule.{Rule}
use Rattle.go_path_core.specs.text_core.declared.rule.Rule.TheVariants as rules
use Rattle.go_term_core.specs.Terms.{Term, PointerTo}
use Rattle.go_embed_core.specs.table_core.Entries.{Entry, EntryLook, find_entry}
use Rattle.go_term_core.specs.declared.settling.kind.Kind.TheVariants as kinds
use Rattle.go_select_core.specs.declared.levels.level.Reached.{Reached}
use Rattle.go_select_core.specs.declared.levels.search.Selected.{Selected}
use Rattle.go_select_core.specs.levels.Paths.{IsMemberSpelled}
use Rattle.go_select_core.specs.levels.Selectors.{term_kind_in}
use Rattle.go_select_core.specs.levels.mirrors.Ways.{At}
use Rattle.go_select_core.specs.declared.names.Known.{Known}
use Rattle.go_select_core.specs.declared.names.Known.TheVariants.{One, More}
use Rattle.go_select_core.specs.surveys.mirrors.Walks.{IsDenotedSo}
use Rattle.go_select_core.specs.surveys.mirrors.Seen.{seen_of, has_word}

-- of a name that denotes nothing, whether a member is spelled so
abbrev pub IsSpelledSo : EntryLook → Term → List ℕ → Option Known → Bool → Type 0
IsSpelledSo look t name None true = IsMemberSpelled look t name
IsSpelledSo look t name None false = IsMemberSpelled look t name → ⊥
IsSpelledSo look t name (Some known) hidden = ⊤

-- what is kept of a type tells what each name denotes that is written in a package
pub record IsTold (es : List Entry) (t : Term) (from : List ℕ) (paths : List (List ℕ)) (types : List Reached) (known : List (Bor (List ℕ) × Known)) (hidden : List (Bor (List ℕ))) : Type 0 where
  pub plain : term_kind_in (find_entry es) t ≡ kinds.Other
  pub sized : length paths ≡ length types
  pub each : (name : List ℕ) → IsDenotedSo (find_entry es) t name from paths types (seen_of known name)
  pub spelled : (name : List ℕ) → IsSpelledSo (find_entry es) t name (seen_of known name) (has_word hidden name)

-- what is answered by what is known of a name
abbrev pub IsReached : List (List ℕ) → List Reached → Bool → Known → Result Selected Rule → Type 0
IsReached paths types by_pointer (One n m) (Ok s) = (s.member ≡ m) × (s.path ≡ get_or paths n []) × ((r : Reached) → At types n r → s.through_pointer ≡ by_pointer || r.pointer)
IsReached paths types by_pointer (One n m) (Err rule) = rule ≡ rules.M0
IsReached paths types by_pointer More (Ok s) = ⊥
IsReached paths types by_pointer More (Err rule) = rule ≡ rules.S2

-- the type of an operand, which may be a pointer to the type that is asked of
abbrev pub operand_type : Bool → Term → Term
operand_type by_pointer t = if by_pointer then PointerTo t else t
