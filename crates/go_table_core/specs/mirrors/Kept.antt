-- What a defined type keeps beside what is seen of it, and a type with an index.
use Rattle.std.specs.Prelude.{◌≡◌, Bool, Option, None, IfSome, map}
use Rattle.go_collections_core.specs.declared.spelling_index.spellings.Spellings.{Spellings}
use Rattle.go_collections_core.specs.spelling_index.Spelled.{AreSpelled, places_of}
use Rattle.go_term_core.specs.Terms.{Term}
use Rattle.go_table_core.specs.Entries.{Entry}
use Rattle.go_table_core.specs.MemberNames.{term_names}
use Rattle.go_table_core.specs.Methods.{term_fields}
use Rattle.go_table_core.specs.mirrors.Ordered.{has_order}
use Rattle.go_table_core.specs.Shown.{HidesRightly}

pub record IsDefined (hides : Bool) (spellings : Option Spellings) (e : Entry) : Type 0 where
  pub hiding : HidesRightly hides e
  pub spelled : IfSome spellings (λ s. AreSpelled (places_of s) (map (λ m. m.name) e.methods))

pub record IsIndexed (members : Option Spellings) (in_order : Bool) (t : Term) : Type 0 where
  pub spelled : IfSome members (λ s. AreSpelled (places_of s) (term_names t))
  pub ordered : in_order ≡ has_order None (term_fields t)
