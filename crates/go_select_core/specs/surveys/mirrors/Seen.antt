-- What a map has of names, and a set.
use Rattle.std.specs.Prelude.{ℕ, Bool, not, ◌&&◌, List, Option, Some, None}
use Rattle.std.specs.Cmp.Lexicographic.{slice_cmp}
use Rattle.std.specs.List.{list_any}
use Rattle.std.specs.Borrow.{Bor}
use Rattle.std.specs.Map.{lookup}
use Rattle.std.specs.Ordering.{is_eq, nat_cmp}
use Rattle.std.specs.Str.{bytes_eq, chars}
use Rattle.go_path_core.specs.text_core.Text.{exported}
use Rattle.go_select_core.specs.declared.names.Known.{Known}
use Rattle.go_select_core.specs.mirrors.Names.{Identifier}

-- what a map has of a name
abbrev pub seen_of : List (Bor (List ℕ) × Known) → List ℕ → Option Known
seen_of entries name = lookup (λ k. is_eq (slice_cmp nat_cmp name k.now)) entries

-- what was known, or else what is new
abbrev pub first_seen : Option Known → Option Known → Option Known
first_seen None new = new
first_seen (Some known) new = Some known

-- whether a set has a name
abbrev pub has_word : List (Bor (List ℕ)) → List ℕ → Bool
has_word keys name = list_any (λ k. is_eq (slice_cmp nat_cmp name k.now)) keys

-- whether one of these identifiers is so spelled and not exported
abbrev pub has_hidden : List (Identifier × Known) → List ℕ → Bool
has_hidden ns name = list_any (λ e. bytes_eq name e.0.0 && not (exported (chars e.0.0))) ns
