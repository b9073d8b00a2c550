use Rattle.std.proofs.Common.{◌≡◌, ◌++◌, ◌+◌, ◌<◌, length, Some, None, false, refl, sym, subst, arith, rules, ◌∙◌}
use Rattle.go_wire_core.proofs.InOrder.{no_line}
use Rattle.std.proofs.lemmas.List.{length-append}
use Rattle.std.proofs.lemmas.List.Elements.{All-append}
use Rattle.std.specs.List.{position}
use Rattle.go_wire_core.specs.Lines.{is_newline, most_bytes}
use Rattle.go_wire_core.specs.mirrors.Serving.{Going, IsLine}
use Rattle.go_wire_core.proofs.Pieces.{first_newline, no_newline, piece_begins, line_over, line_stops, piece_too_long, piece_memory, piece_over}
use Rattle.go_wire_core.proofs.serving.serve_piece.Goals as goal

pub pieces-init : goal.pieces-init
pieces-init g c = record {
  inside = piece_begins c.args.numbered g.D.Desk.answers c.args.begun.now.items c.args.piece.now c.args.desk.now _ c.requires.line;
  line = c.requires.line;
  same = refl;
}

pub end_line-requires-clause-within : goal.end_line-requires-clause-within
end_line-requires-clause-within g c =
    let found : position is_newline c.pieces.rest.now ≡ Some c.in-Some.at = sym c.newline_in.ensures ∙ c.in-Some.is in
    (first_newline c.pieces.rest.now c.in-Some.at found).within

pub returns-in-Err-clause-err : goal.returns-in-Err-clause-err
returns-in-Err-clause-err g c =
    let found : position is_newline c.pieces.rest.now ≡ Some c.in-Some.at = sym c.newline_in.ensures ∙ c.in-Some.is in
    λ left. line_stops c.args.numbered g.D.Desk.answers c.in-Err.end c.args.begun.now.items c.args.piece.now c.pieces.rest.now c.pieces.begun.items left c.in-Some.at _ c.pieces.desk _ _ _ _
    c.pieces.invariant.inside (first_newline c.pieces.rest.now c.in-Some.at found) c.pieces.invariant.line c.in-Err.ensures.err

pub pieces-preserved : goal.pieces-preserved
pieces-preserved g c =
    let found : position is_newline c.pieces.rest.now ≡ Some c.in-Some.at = sym c.newline_in.ensures ∙ c.in-Some.is in
    record {
      inside = line_over c.args.numbered g.D.Desk.answers c.args.begun.now.items c.args.piece.now c.pieces.rest.now c.pieces.begun.items c.end_line.new.begun.items c.in-Some.at _ c.pieces.desk _ _ _ _
          c.pieces.invariant.inside (first_newline c.pieces.rest.now c.in-Some.at found) c.in-Ok.ensures.whole c.in-Ok.ensures.ok c.in-Ok.ensures.empty;
      line = subst IsLine (sym c.in-Ok.ensures.empty) no_line;
      same = c.end_line.ensures.same ∙ c.pieces.invariant.same;
    }

pub returns-then-rest-len-clause-err : goal.returns-then-rest-len-clause-err
returns-then-rest-len-clause-err g c =
    let none : position is_newline c.pieces.rest.now ≡ None = sym c.newline_in.ensures ∙ c.in_default.is in
    let long : most_bytes < length c.pieces.begun.items + length c.pieces.rest.now = omega (arith, c.pieces.invariant.line.short) in
    λ left. piece_too_long c.args.numbered g.D.Desk.answers c.refuse_long.result c.args.begun.now.items c.args.piece.now c.pieces.rest.now c.pieces.begun.items left _ c.pieces.desk _ _ _
    c.pieces.invariant.inside (no_newline c.pieces.rest.now none) c.pieces.invariant.line long c.refuse_long.ensures

pub returns-then-is_err-clause-err : goal.returns-then-is_err-clause-err
returns-then-is_err-clause-err g c =
    λ left. piece_memory c.args.numbered g.D.Desk.answers c.args.begun.now.items c.args.piece.now c.pieces.rest.now c.pieces.begun.items left _ c.pieces.desk _ _ c.pieces.invariant.inside

pub returns-clause-ok : goal.returns-clause-ok
returns-clause-ok g c =
    let none : position is_newline c.pieces.rest.now ≡ None = sym c.newline_in.ensures ∙ c.in_default.is in
    let grown : c.extend_from_slice.new.self.items ≡ c.pieces.begun.items ++ c.pieces.rest.now = search rules in
    let line : IsLine (c.pieces.begun.items ++ c.pieces.rest.now) = record {
      within = All-append (λ b. is_newline b ≡ false) c.pieces.begun.items c.pieces.rest.now c.pieces.invariant.line.within (no_newline c.pieces.rest.now none);
      short = omega (arith, length-append c.pieces.begun.items c.pieces.rest.now, c.pieces.invariant.line.short);
    } in
    subst (λ l. Going c.args.numbered g.D.Desk.answers c.args.begun.now.items c.args.piece.now l c.args.desk.now c.pieces.desk (g.W.Write.contents c.args.writer.now) (g.W.Write.contents c.pieces.writer)) (sym grown)
    (piece_over c.args.numbered g.D.Desk.answers c.args.begun.now.items c.args.piece.now c.pieces.rest.now c.pieces.begun.items _ c.pieces.desk _ _ c.pieces.invariant.inside line)
