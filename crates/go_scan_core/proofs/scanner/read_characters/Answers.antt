-- Each turn of the loop takes one piece off the front: `CutLemmas` says what that does to the answer.
use Rattle.std.proofs.Common.{◌+◌, ◌++◌, ◌∷◌, [], Some, None, take, refl, sym, ap, ◌∙◌, Ok, Err}
use Rattle.std.specs.Char.{len_utf8}
use Rattle.std.proofs.lemmas.List.Sums.{sum_by-take-drop}
use Rattle.go_scan_core.proofs.PlaceLemmas.{shorter, place_behind, fits_as}
use Rattle.go_token_core.proofs.EmptyLemmas.{filled, emptied}
use Rattle.go_scan_core.specs.Parts.{Break, Gap, Note, Word, span_between, semicolon_after, width}
use Rattle.go_scan_core.specs.mirrors.Cutting.{closed, cut, part_of, remarked, with_front}
use Rattle.go_scan_core.proofs.CutLemmas.{far_of, fault_within, piece_within, token_between, turned, turn_comments, turn_comments_end, turn_comments_fault, turn_end, turn_fault, turn_line, turn_no_comments, turn_note, turn_space, turn_word}
use Rattle.go_scan_core.proofs.SpaceLemmas.{moved_comments, moved_place, moved_tokens, shorter_still}
use Rattle.go_scan_core.proofs.scanner.read_characters.Goals as goal

pub fault_behind-requires : goal.fault_behind-requires
fault_behind-requires c =
    let some = filled c.loop-rest.rest.now c.loop-rest-test.ensures in
    record { inside = fault_within c.loop-rest.rest.now (c.in-Err.rule, c.in-Err.len) some (sym c.front_piece.ensures ∙ c.in-Err.is); fits = fits_as _ _ _ c.loop-rest.invariant.place c.requires }

pub returns-in-Err-clause-tokens : goal.returns-in-Err-clause-tokens
returns-in-Err-clause-tokens c =
    let some = filled c.loop-rest.rest.now c.loop-rest-test.ensures in
    sym c.loop-rest.invariant.tokens ∙ turn_fault _ _ c.loop-rest.rest.now _ (c.in-Err.rule, c.in-Err.len) some (sym c.front_piece.ensures ∙ c.in-Err.is) ∙ sym (ap Err c.fault_behind.ensures)

pub returns-in-Err-clause-comments : goal.returns-in-Err-clause-comments
returns-in-Err-clause-comments c =
    let some = filled c.loop-rest.rest.now c.loop-rest-test.ensures in
    sym c.loop-rest.invariant.comments ∙ turn_comments_fault _ c.loop-rest.rest.now _ (c.in-Err.rule, c.in-Err.len) some (sym c.front_piece.ensures ∙ c.in-Err.is) ∙ sym (ap Err c.fault_behind.ensures)

pub split_at-requires : goal.split_at-requires
split_at-requires c =
    let some = filled c.loop-rest.rest.now c.loop-rest-test.ensures in
    (piece_within c.loop-rest.rest.now c.in-Ok.found some (sym c.front_piece.ensures ∙ c.in-Ok.is)).1

pub behind_spaces-next-requires : goal.behind_spaces-next-requires
behind_spaces-next-requires c =
    let cs = c.loop-rest.rest.now in
    let all = sum_by-take-drop len_utf8 cs c.in-Ok.found.1 in
    fits_as _ _ _ (turned (λ r e. e + width r) c.loop-rest.at cs c.split_at.result.0.now c.split_at.result.1.now c.in-Ok.found.1 c.width.result c.width.ensures c.split_at.ensures.front c.split_at.ensures.back ∙ place_behind c.loop-rest.at _ _ _ _ all c.loop-rest.invariant.place) c.requires

pub loop-rest-smaller-in-Space : goal.loop-rest-smaller-in-Space
loop-rest-smaller-in-Space c =
    let some = filled c.loop-rest.rest.now c.loop-rest-test.ensures in
    let inside = piece_within c.loop-rest.rest.now c.in-Ok.found some (sym c.front_piece.ensures ∙ c.in-Ok.is) in
    shorter_still c.split_at.result.1.now c.behind_spaces-next.result.0.now _ c.behind_spaces-next.ensures.rest (shorter c.in-Ok.found.1 _ _ inside c.split_at.ensures.back_len)

pub loop-rest-preserved-in-Space : goal.loop-rest-preserved-in-Space
loop-rest-preserved-in-Space c =
    let some = filled c.loop-rest.rest.now c.loop-rest-test.ensures in
    let cs = c.loop-rest.rest.now in
    let all = sum_by-take-drop len_utf8 cs c.in-Ok.found.1 in
    let read = sym c.front_piece.ensures ∙ c.in-Ok.is in
    record {
      tokens = moved_tokens _ _ c.split_at.result.1.now c.behind_spaces-next.result.0.now _ c.behind_spaces-next.result.1 c.behind_spaces-next.ensures.rest c.behind_spaces-next.ensures.place ∙ turned (λ r e. with_front c.loop-rest.tokens.items (closed c.loop-rest.last (cut r 0 e))) c.loop-rest.at cs c.split_at.result.0.now c.split_at.result.1.now c.in-Ok.found.1 c.width.result c.width.ensures c.split_at.ensures.front c.split_at.ensures.back ∙ (turn_space _ _ cs _ c.in-Ok.found some read c.in-Space.is ∙ c.loop-rest.invariant.tokens);
      comments = moved_comments _ c.split_at.result.1.now c.behind_spaces-next.result.0.now _ c.behind_spaces-next.result.1 c.behind_spaces-next.ensures.rest c.behind_spaces-next.ensures.place ∙ turned (λ r e. with_front c.loop-rest.comments.items (remarked (cut r 0 e))) c.loop-rest.at cs c.split_at.result.0.now c.split_at.result.1.now c.in-Ok.found.1 c.width.result c.width.ensures c.split_at.ensures.front c.split_at.ensures.back ∙ (turn_no_comments _ cs _ c.in-Ok.found Gap some read (ap (λ p. part_of p (span_between c.loop-rest.at (far_of c.loop-rest.at cs c.in-Ok.found)) (take c.in-Ok.found.1 cs)) c.in-Space.is) refl ∙ c.loop-rest.invariant.comments);
      place = moved_place c.split_at.result.1.now c.behind_spaces-next.result.0.now _ c.behind_spaces-next.result.1 c.behind_spaces-next.ensures.rest c.behind_spaces-next.ensures.place ∙ turned (λ r e. e + width r) c.loop-rest.at cs c.split_at.result.0.now c.split_at.result.1.now c.in-Ok.found.1 c.width.result c.width.ensures c.split_at.ensures.front c.split_at.ensures.back ∙ place_behind c.loop-rest.at _ _ _ _ all c.loop-rest.invariant.place;
    }

pub loop-rest-smaller-in_ok-end_line-in-LineEnd : goal.loop-rest-smaller-in_ok-end_line-in-LineEnd
loop-rest-smaller-in_ok-end_line-in-LineEnd c =
    let some = filled c.loop-rest.rest.now c.loop-rest-test.ensures in
    let inside = piece_within c.loop-rest.rest.now c.in-Ok.found some (sym c.front_piece.ensures ∙ c.in-Ok.is) in
    shorter_still c.split_at.result.1.now c.behind_spaces-next.result.0.now _ c.behind_spaces-next.ensures.rest (shorter c.in-Ok.found.1 _ _ inside c.split_at.ensures.back_len)

pub loop-rest-preserved-in_ok-end_line-in-LineEnd : goal.loop-rest-preserved-in_ok-end_line-in-LineEnd
loop-rest-preserved-in_ok-end_line-in-LineEnd c =
    let some = filled c.loop-rest.rest.now c.loop-rest-test.ensures in
    let cs = c.loop-rest.rest.now in
    let all = sum_by-take-drop len_utf8 cs c.in-Ok.found.1 in
    let read = sym c.front_piece.ensures ∙ c.in-Ok.is in
    record {
      tokens =
          moved_tokens _ _ c.split_at.result.1.now c.behind_spaces-next.result.0.now _ c.behind_spaces-next.result.1 c.behind_spaces-next.ensures.rest c.behind_spaces-next.ensures.place ∙ ap (λ ts. with_front ts (closed None (cut c.split_at.result.1.now 0 (c.loop-rest.at + c.width.result)))) c.in_ok-end_line-in-LineEnd.ensures
          ∙ (turned (λ r e. with_front (c.loop-rest.tokens.items ++ semicolon_after c.loop-rest.last) (closed None (cut r 0 e))) c.loop-rest.at cs c.split_at.result.0.now c.split_at.result.1.now c.in-Ok.found.1 c.width.result c.width.ensures c.split_at.ensures.front c.split_at.ensures.back
          ∙ (turn_line _ _ cs _ c.in-Ok.found some read c.in-LineEnd.is ∙ c.loop-rest.invariant.tokens));
      comments = moved_comments _ c.split_at.result.1.now c.behind_spaces-next.result.0.now _ c.behind_spaces-next.result.1 c.behind_spaces-next.ensures.rest c.behind_spaces-next.ensures.place ∙ turned (λ r e. with_front c.loop-rest.comments.items (remarked (cut r 0 e))) c.loop-rest.at cs c.split_at.result.0.now c.split_at.result.1.now c.in-Ok.found.1 c.width.result c.width.ensures c.split_at.ensures.front c.split_at.ensures.back ∙ (turn_no_comments _ cs _ c.in-Ok.found Break some read (ap (λ p. part_of p (span_between c.loop-rest.at (far_of c.loop-rest.at cs c.in-Ok.found)) (take c.in-Ok.found.1 cs)) c.in-LineEnd.is) refl ∙ c.loop-rest.invariant.comments);
      place = moved_place c.split_at.result.1.now c.behind_spaces-next.result.0.now _ c.behind_spaces-next.result.1 c.behind_spaces-next.ensures.rest c.behind_spaces-next.ensures.place ∙ turned (λ r e. e + width r) c.loop-rest.at cs c.split_at.result.0.now c.split_at.result.1.now c.in-Ok.found.1 c.width.result c.width.ensures c.split_at.ensures.front c.split_at.ensures.back ∙ place_behind c.loop-rest.at _ _ _ _ all c.loop-rest.invariant.place;
    }

pub loop-rest-smaller-in_ok-push-in-Lexeme : goal.loop-rest-smaller-in_ok-push-in-Lexeme
loop-rest-smaller-in_ok-push-in-Lexeme c =
    let some = filled c.loop-rest.rest.now c.loop-rest-test.ensures in
    let inside = piece_within c.loop-rest.rest.now c.in-Ok.found some (sym c.front_piece.ensures ∙ c.in-Ok.is) in
    shorter_still c.split_at.result.1.now c.behind_spaces-next.result.0.now _ c.behind_spaces-next.ensures.rest (shorter c.in-Ok.found.1 _ _ inside c.split_at.ensures.back_len)

pub loop-rest-preserved-in_ok-push-in-Lexeme : goal.loop-rest-preserved-in_ok-push-in-Lexeme
loop-rest-preserved-in_ok-push-in-Lexeme c =
    let some = filled c.loop-rest.rest.now c.loop-rest-test.ensures in
    let cs = c.loop-rest.rest.now in
    let all = sum_by-take-drop len_utf8 cs c.in-Ok.found.1 in
    let read = sym c.front_piece.ensures ∙ c.in-Ok.is in
    record {
      tokens =
          moved_tokens _ _ c.split_at.result.1.now c.behind_spaces-next.result.0.now _ c.behind_spaces-next.result.1 c.behind_spaces-next.ensures.rest c.behind_spaces-next.ensures.place ∙ ap (λ ts. with_front ts (closed (Some (token_between c.in-Lexeme.kind c.loop-rest.at (c.loop-rest.at + c.width.result))) (cut c.split_at.result.1.now 0 (c.loop-rest.at + c.width.result)))) c.in_ok-push-in-Lexeme.ensures.items
          ∙ (turned (λ r e. with_front (c.loop-rest.tokens.items ++ token_between c.in-Lexeme.kind c.loop-rest.at e ∷ []) (closed (Some (token_between c.in-Lexeme.kind c.loop-rest.at e)) (cut r 0 e))) c.loop-rest.at cs c.split_at.result.0.now c.split_at.result.1.now c.in-Ok.found.1 c.width.result c.width.ensures c.split_at.ensures.front c.split_at.ensures.back
          ∙ (turn_word _ _ cs _ c.in-Ok.found c.in-Lexeme.kind some read c.in-Lexeme.is ∙ c.loop-rest.invariant.tokens));
      comments = moved_comments _ c.split_at.result.1.now c.behind_spaces-next.result.0.now _ c.behind_spaces-next.result.1 c.behind_spaces-next.ensures.rest c.behind_spaces-next.ensures.place ∙ turned (λ r e. with_front c.loop-rest.comments.items (remarked (cut r 0 e))) c.loop-rest.at cs c.split_at.result.0.now c.split_at.result.1.now c.in-Ok.found.1 c.width.result c.width.ensures c.split_at.ensures.front c.split_at.ensures.back ∙ (turn_no_comments _ cs _ c.in-Ok.found (Word _) some read (ap (λ p. part_of p (span_between c.loop-rest.at (far_of c.loop-rest.at cs c.in-Ok.found)) (take c.in-Ok.found.1 cs)) c.in-Lexeme.is) refl ∙ c.loop-rest.invariant.comments);
      place = moved_place c.split_at.result.1.now c.behind_spaces-next.result.0.now _ c.behind_spaces-next.result.1 c.behind_spaces-next.ensures.rest c.behind_spaces-next.ensures.place ∙ turned (λ r e. e + width r) c.loop-rest.at cs c.split_at.result.0.now c.split_at.result.1.now c.in-Ok.found.1 c.width.result c.width.ensures c.split_at.ensures.front c.split_at.ensures.back ∙ place_behind c.loop-rest.at _ _ _ _ all c.loop-rest.invariant.place;
    }

pub loop-rest-smaller : goal.loop-rest-smaller
loop-rest-smaller c =
    let some = filled c.loop-rest.rest.now c.loop-rest-test.ensures in
    let inside = piece_within c.loop-rest.rest.now c.in-Ok.found some (sym c.front_piece.ensures ∙ c.in-Ok.is) in
    shorter_still c.split_at.result.1.now c.behind_spaces-next.result.0.now _ c.behind_spaces-next.ensures.rest (shorter c.in-Ok.found.1 _ _ inside c.split_at.ensures.back_len)

pub loop-rest-preserved : goal.loop-rest-preserved
loop-rest-preserved c =
    let some = filled c.loop-rest.rest.now c.loop-rest-test.ensures in
    let cs = c.loop-rest.rest.now in
    let all = sum_by-take-drop len_utf8 cs c.in-Ok.found.1 in
    let read = sym c.front_piece.ensures ∙ c.in-Ok.is in
    record {
      tokens = moved_tokens _ _ c.split_at.result.1.now c.behind_spaces-next.result.0.now _ c.behind_spaces-next.result.1 c.behind_spaces-next.ensures.rest c.behind_spaces-next.ensures.place ∙ (rw (c.in_ok-last-in-Remark.ensures.tokens, c.in_ok-last-in-Remark.ensures.last, c.holds_line_end.ensures, c.width.ensures, c.split_at.ensures.front, c.split_at.ensures.back) (turn_note _ _ cs _ c.in-Ok.found c.in-Remark.kind some read c.in-Remark.is ∙ c.loop-rest.invariant.tokens));
      comments = moved_comments _ c.split_at.result.1.now c.behind_spaces-next.result.0.now _ c.behind_spaces-next.result.1 c.behind_spaces-next.ensures.rest c.behind_spaces-next.ensures.place ∙ (rw (c.in_ok-push-in-Remark.ensures.items, c.width.ensures, c.split_at.ensures.front, c.split_at.ensures.back) (turn_comments _ cs _ c.in-Ok.found (Note _ _) some read (ap (λ p. part_of p (span_between c.loop-rest.at (far_of c.loop-rest.at cs c.in-Ok.found)) (take c.in-Ok.found.1 cs)) c.in-Remark.is) ∙ c.loop-rest.invariant.comments));
      place = moved_place c.split_at.result.1.now c.behind_spaces-next.result.0.now _ c.behind_spaces-next.result.1 c.behind_spaces-next.ensures.rest c.behind_spaces-next.ensures.place ∙ turned (λ r e. e + width r) c.loop-rest.at cs c.split_at.result.0.now c.split_at.result.1.now c.in-Ok.found.1 c.width.result c.width.ensures c.split_at.ensures.front c.split_at.ensures.back ∙ place_behind c.loop-rest.at _ _ _ _ all c.loop-rest.invariant.place;
    }

pub returns-clause-tokens : goal.returns-clause-tokens
returns-clause-tokens c =
    let none = emptied c.loop-rest.rest.now c.loop-rest-test.ensures in
    sym c.loop-rest.invariant.tokens ∙ turn_end _ _ c.loop-rest.rest.now _ none ∙ sym (ap Ok c.in_ok-end_line.ensures)

pub returns-clause-comments : goal.returns-clause-comments
returns-clause-comments c =
    let none = emptied c.loop-rest.rest.now c.loop-rest-test.ensures in
    sym c.loop-rest.invariant.comments ∙ turn_comments_end _ c.loop-rest.rest.now _ none
