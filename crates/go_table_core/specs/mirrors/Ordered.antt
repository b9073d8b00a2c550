-- Fields that stand in order of their places, and are found by an index of their names.
use Rattle.std.specs.Prelude.{◌≡◌, ℕ, zero, suc, Bool, true, false, ◌&&◌, List, Option, Some, None}
use Rattle.go_collections_core.specs.declared.spelling_index.spellings.Spelling.{Spelling}
use Rattle.go_collections_core.specs.spelling_index.Spelled.{AreSpelled, places_of}
use Rattle.go_term_core.specs.declared.term.MemberPlace.{MemberPlace}
use Rattle.go_term_core.specs.Terms.{Fields, NoField, AField}
use Rattle.go_table_core.specs.declared.fields.FieldPlaces.{FieldPlaces}
use Rattle.go_table_core.specs.declared.fields.FieldPlaces.TheVariants as finders
use Rattle.go_table_core.specs.MemberNames.{field_names}
use Rattle.go_table_core.specs.Methods.{is_before}
use Rattle.go_table_core.specs.mirrors.Spots.{named_places, HasPlaces}

abbrev pub is_after : Option MemberPlace → MemberPlace → Bool
is_after None q = true
is_after (Some p) q = is_before p q

-- each stands before the next, and behind the place that may be given
abbrev pub has_order : Option MemberPlace → Fields → Bool
has_order last NoField = true
has_order last (AField name place embedded t tag fs) = is_after last place && has_order (Some place) fs

-- the field of a number stands before a place
abbrev pub nth_before : Fields → ℕ → MemberPlace → Bool
nth_before NoField i q = false
nth_before (AField name place embedded t tag fs) zero q = is_before place q
nth_before (AField name place embedded t tag fs) (suc i) q = nth_before fs i q

abbrev pub spelled_before : Fields → Option Spelling → MemberPlace → Bool
spelled_before fs None q = false
spelled_before fs (Some s) q = nth_before fs s.first q

-- an index has the names of fields that stand in order
pub record IsFieldIndex (ps : List (List ℕ × Spelling)) (fs : Fields) : Type 0 where
  pub spelled : AreSpelled ps (field_names fs)
  pub ordered : has_order None fs ≡ true

-- what is kept beside a type finds its fields
abbrev pub FindsFields : FieldPlaces → Fields → Type 0
FindsFields (finders.Made places) fs = HasPlaces (named_places places) fs
FindsFields (finders.Indexed index) fs = IsFieldIndex (places_of index.now) fs
