use Rattle.std.proofs.Common.{MatchOption, subst}
use Rattle.go_term_core.specs.decl_core.Table.{IsAt, IsNowhere}
use Rattle.go_typexpr_core.specs.written.Written.{in_file}
use Rattle.go_typexpr_core.proofs.WrittenNumbered.{place_at, place_nowhere}
use Rattle.go_typexpr_core.proofs.written.names.WrittenIn.place.Goals as goal

pub returns-in-Some : goal.returns-in-Some
returns-in-Some c =
    let f = in_file c.args.self.now in
    place_at f c.args.kind c.args.offset c.in-Some.number c.places.ensures.rising (subst (λ r. MatchOption r (IsNowhere f.places c.args.offset) (IsAt f.places c.args.offset)) c.in-Some.is c.number.ensures)

pub returns-in-None : goal.returns-in-None
returns-in-None c =
    let f = in_file c.args.self.now in
    place_nowhere f c.args.kind c.args.offset (subst (λ r. MatchOption r (IsNowhere f.places c.args.offset) (IsAt f.places c.args.offset)) c.in-None.is c.number.ensures)
