-- Where types stand in a list, by their offsets: of two at one offset the first.
use Rattle.std.specs.Prelude.{ℕ, List, Option, nat_eq}
use Rattle.std.specs.List.{position_from}
use Rattle.go_inline_core.specs.Types.{InlineOf}

abbrev pub place_at : List (ℕ × InlineOf) → ℕ → Option ℕ
place_at types offset = position_from (λ t. nat_eq offset t.0) 0 types
