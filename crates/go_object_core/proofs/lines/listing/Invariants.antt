use Rattle.std.proofs.Common.{◌≡◌, ◌++◌, drop, map}
use Rattle.std.specs.Prelude.{string_bytes}
use Rattle.go_object_core.specs.Listing.{listing_of}
use Rattle.go_object_core.specs.Objects.{function_shown}
use Rattle.go_object_core.proofs.lines.listing.Given as goal

abbrev pub invariant-loop-function : goal.invariant-loop-function
invariant-loop-function g l =
    listing_of (g.S.Spelling.text_of l.spelling) (map function_shown l.functions) ≡ string_bytes l.text ++ listing_of (g.S.Spelling.text_of l.spelling) (map function_shown (drop l.function-index l.functions))
