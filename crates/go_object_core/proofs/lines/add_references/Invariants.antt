use Rattle.std.proofs.Common.{◌≡◌, ◌++◌, drop}
use Rattle.std.specs.Prelude.{string_bytes}
use Rattle.go_object_core.specs.Listing.{reference_lines}
use Rattle.go_object_core.proofs.lines.add_references.Given as goal

abbrev pub invariant-loop-number : goal.invariant-loop-number
invariant-loop-number g l =
    string_bytes l.fn.text ++ reference_lines (g.S.Spelling.text_of l.spelling) 0 l.references ≡ string_bytes l.text ++ reference_lines (g.S.Spelling.text_of l.spelling) l.number (drop l.number l.references)
