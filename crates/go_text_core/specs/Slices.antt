-- The piece of a text that a span covers.
use Rattle.std.specs.Prelude.{ℕ, ◌&&◌, nat_le, List, slice_range, Option, Some, None, if◌then◌else◌}
use Rattle.go_text_core.specs.declared.span.Span.{Span}
use Rattle.go_text_core.specs.Boundaries.{is_boundary_of}

-- the bytes from the start of the span up to its end, where these are a piece of the text
abbrev pub slice_of : List ℕ → Span → Option (List ℕ)
slice_of text span =
    if nat_le span.start span.end && is_boundary_of text span.start && is_boundary_of text span.end
    then Some (slice_range text span.start span.end)
    else None
