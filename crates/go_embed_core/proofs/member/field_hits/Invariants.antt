use Rattle.std.proofs.Common.{◌≡◌, drop}
use Rattle.go_term_core.specs.Shapes.{line_shapes}
use Rattle.go_embed_core.specs.mirrors.Tallies.{together, hits_shown, tallies, field_tally}
use Rattle.go_embed_core.proofs.member.field_hits.Given as goal

abbrev pub invariant-loop-field : goal.invariant-loop-field
invariant-loop-field l = together (hits_shown l.hits) (tallies (field_tally (line_shapes l.lines) l.path l.name l.from) (drop l.field-index l.fields)) ≡ tallies (field_tally (line_shapes l.lines) l.path l.name l.from) l.fields
