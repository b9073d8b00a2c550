use Rattle.std.proofs.Common.{◌≡◌, drop}
use Rattle.go_embed_core.specs.mirrors.Tallies.{together, hits_shown, tallies, interface_tally}
use Rattle.go_embed_core.proofs.member.interface_hits.Given as goal

abbrev pub invariant-loop-method : goal.invariant-loop-method
invariant-loop-method l = together (hits_shown l.hits) (tallies (interface_tally l.path l.name l.from) (drop l.method-index l.methods)) ≡ tallies (interface_tally l.path l.name l.from) l.methods
