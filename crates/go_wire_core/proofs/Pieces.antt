-- The lines of a piece.
use Rattle.std.proofs.Common.{◌≡◌, ℕ, suc, ◌+◌, ◌-◌, ◌<◌, ◌≤◌, List, [], ◌∷◌, ◌++◌, length, take, drop, get_or, Bool, true, false, cond, Option, Some, None, refl, sym, ap, subst, ◌∙◌, arith, add-one, drop-cons}
use Rattle.std.proofs.lemmas.List.{append_assoc, length-append, length-drop, length-take, take-append-drop, take_all, get_or-take}
use Rattle.std.proofs.lemmas.List.Elements.{All-append}
use Rattle.std.proofs.lemmas.List.Quantifiers.{position-Some}
use Rattle.std.proofs.lemmas.List.Sums.{fails_before_first}
use Rattle.std.proofs.lemmas.List.Splits.{slice_split_at}
use Rattle.std.proofs.lemmas.Bool.{ltb-false, eqb-true}
use Rattle.std.specs.List.{position, position_or_len}
use Rattle.go_wire_core.specs.declared.request.Request.{Request}
use Rattle.go_wire_core.specs.declared.reply.WireReply.{WireReply}
use Rattle.go_wire_core.specs.declared.serving.ServeEnd.{ServeEnd}
use Rattle.go_wire_core.specs.declared.serving.ServeEnd.TheVariants as ends
use Rattle.go_wire_core.specs.Lines.{is_newline, lines, most_bytes}
use Rattle.go_wire_core.specs.Steps.{steps_of}
use Rattle.go_wire_core.specs.Ends.{Served}
use Rattle.go_wire_core.specs.mirrors.Serving.{Going, IsEndOfLines, IsLine, IsRefusedLong, IsWithin}
use Rattle.go_wire_core.proofs.InOrder.{first_line, going_none, going_more, going_ends, one_line, longer_line, long_ends, memory_ends}

pub none_if : (r : Option ℕ) → ((i : ℕ) → r ≡ Some i → ⊥) → r ≡ None
none_if None h = refl
none_if (Some i) h = absurd (h i refl)

no_newline_if : (b : Bool) (i : ℕ) → cond b (Some i) None ≡ None → b ≡ false
no_newline_if true i h = cc
no_newline_if false i h = refl

pub no_newline : (xs : List ℕ) → position is_newline xs ≡ None → IsWithin xs
no_newline xs h =
    let past : length xs ≤ position_or_len is_newline xs = ltb-false _ _ (no_newline_if _ _ h) in
    λ k d lt. fails_before_first is_newline xs k d (omega (arith, lt, past))

pub record FirstLine (xs : List ℕ) (i : ℕ) : Type 0 where
  pub inside : i < length xs
  pub within : IsWithin (take i xs)
  pub whole : xs ≡ take i xs ++ 10 ∷ drop (i + 1) xs

pub first_newline : (xs : List ℕ) (i : ℕ) → position is_newline xs ≡ Some i → FirstLine xs i
first_newline xs i h =
    let p = position-Some is_newline xs i 0 h in
    let lt : i < length xs = p.0 in
    let ten : get_or xs i 0 ≡ 10 = eqb-true _ _ p.1 in
    let rest : drop i xs ≡ 10 ∷ drop (i + 1) xs = drop-cons xs i 0 lt ∙ (ap (λ b. b ∷ drop (suc i) xs) ten ∙ ap (λ n. 10 ∷ drop n xs) (sym (add-one i))) in
    record {
      inside = lt;
      within = λ k d l. (let less : k < i = omega (arith, length-take i xs, l) in subst (λ b. is_newline b ≡ false) (sym (get_or-take i xs k d less)) ((position-Some is_newline xs i d h).2 k less));
      whole = sym (take-append-drop i xs) ∙ ap (λ l. take i xs ++ l) rest;
    }

module _ {D : Type 0} (numbered : Bool) (answers : D → Request → WireReply → D → Type 0) where
  -- the front of the piece came
  pub record InPiece (start piece rest begun : List ℕ) (d e : D) (old new : Option (List ℕ)) : Type 0 where
    pub front : List ℕ
    pub whole : front ++ rest ≡ piece
    pub going : Going numbered answers start front begun d e old new

  pub piece_begins : (start piece : List ℕ) (d : D) (old : Option (List ℕ)) → IsLine start → InPiece start piece piece start d d old old
  piece_begins start piece d old h = record { front = []; whole = refl; going = going_none answers numbered start d old h }

  pub line_ended : (start piece rest begun : List ℕ) (i : ℕ) (d m e : D) (old mid new : Option (List ℕ)) → InPiece start piece rest begun d m old mid
      → FirstLine rest i → IsLine (begun ++ take i rest) → Served answers (steps_of numbered (begun ++ take i rest)) m e mid new
      → InPiece start piece (drop (i + 1) rest) [] d e old new
  line_ended start piece rest begun i d m e old mid new h first line served = record {
    front = h.front ++ (take i rest ++ 10 ∷ []);
    whole = append_assoc h.front _ _ ∙ (ap (λ l. h.front ++ l) (append_assoc (take i rest) (10 ∷ []) _ ∙ sym first.whole) ∙ h.whole);
    going = going_more answers numbered start h.front begun _ [] d m e old mid new h.going (one_line answers numbered begun (take i rest) m e mid new line served);
  }

  pub line_over : (start piece rest begun over : List ℕ) (i : ℕ) (d m e : D) (old mid new : Option (List ℕ)) → InPiece start piece rest begun d m old mid
      → FirstLine rest i → IsLine (begun ++ take i rest) → Served answers (steps_of numbered (begun ++ take i rest)) m e mid new → over ≡ []
      → InPiece start piece (take (length rest - (i + 1)) (drop (i + 1) rest)) over d e old new
  line_over start piece rest begun over i d m e old mid new h first line served empty =
      let left : take (length rest - (i + 1)) (drop (i + 1) rest) ≡ drop (i + 1) rest = take_all _ _ (omega (arith, length-drop (i + 1) rest)) in
      subst (λ r. InPiece start piece r over d e old new) (sym left)
      (subst (λ b. InPiece start piece (drop (i + 1) rest) b d e old new) (sym empty) (line_ended start piece rest begun i d m e old mid new h first line served))

  pub line_stops : (end : ServeEnd) (start piece rest begun left : List ℕ) (i : ℕ) (d m e : D) (old mid new : Option (List ℕ)) → InPiece start piece rest begun d m old mid
      → FirstLine rest i → IsLine begun → ((more : List (List ℕ)) → IsEndOfLines end numbered answers ((begun ++ take i rest) ∷ more) m e mid new)
      → IsEndOfLines end numbered answers (lines (start ++ (piece ++ left))) d e old new
  line_stops end start piece rest begun left i d m e old mid new h first line stops =
      let more = drop (i + 1) rest ++ left in
      let cut : lines (begun ++ (rest ++ left)) ≡ (begun ++ take i rest) ∷ lines more =
      ap (λ l. lines (begun ++ (l ++ left))) first.whole ∙ (ap (λ l. lines (begun ++ l)) (append_assoc (take i rest) (10 ∷ drop (i + 1) rest) left)
      ∙ (ap lines (sym (append_assoc begun (take i rest) (10 ∷ more)))
      ∙ slice_split_at is_newline (begun ++ take i rest) 10 more (All-append (λ b. is_newline b ≡ false) begun (take i rest) line.within first.within) refl)) in
      let joined : h.front ++ (rest ++ left) ≡ piece ++ left = sym (append_assoc h.front rest left) ∙ ap (λ l. l ++ left) h.whole in
      subst (λ l. IsEndOfLines end numbered answers (lines (start ++ l)) d e old new) joined
      (going_ends answers end numbered start h.front begun (rest ++ left) d m e old mid new h.going
      (subst (λ l. IsEndOfLines end numbered answers l m e mid new) (sym cut) (stops (lines more))))

  -- what is left of the piece is too much
  pub piece_too_long : (end : ServeEnd) (start piece rest begun left : List ℕ) (d m : D) (old mid new : Option (List ℕ)) → InPiece start piece rest begun d m old mid
      → IsWithin rest → IsLine begun → most_bytes < length begun + length rest → IsRefusedLong end mid new
      → IsEndOfLines end numbered answers (lines (start ++ (piece ++ left))) d m old new
  piece_too_long end start piece rest begun left d m old mid new h within line long refused =
      let first = first_line (begun ++ rest) left (All-append (λ b. is_newline b ≡ false) begun rest line.within within) in
      let over : most_bytes < length ((begun ++ rest) ++ first.0) = omega (arith, length-append (begun ++ rest) first.0, length-append begun rest, long) in
      let joined : h.front ++ (rest ++ left) ≡ piece ++ left = sym (append_assoc h.front rest left) ∙ ap (λ l. l ++ left) h.whole in
      subst (λ l. IsEndOfLines end numbered answers (lines (start ++ l)) d m old new) joined
      (going_ends answers end numbered start h.front begun (rest ++ left) d m m old mid new h.going
      (subst (λ l. IsEndOfLines end numbered answers l m m mid new) (sym (ap lines (sym (append_assoc begun rest left)) ∙ first.2)) (long_ends answers end numbered _ _ m mid new over refused)))

  pub piece_memory : (start piece rest begun left : List ℕ) (d m : D) (old mid : Option (List ℕ)) → InPiece start piece rest begun d m old mid
      → IsEndOfLines ends.Memory numbered answers (lines (start ++ (piece ++ left))) d m old mid
  piece_memory start piece rest begun left d m old mid h =
      let joined : h.front ++ (rest ++ left) ≡ piece ++ left = sym (append_assoc h.front rest left) ∙ ap (λ l. l ++ left) h.whole in
      subst (λ l. IsEndOfLines ends.Memory numbered answers (lines (start ++ l)) d m old mid) joined
      (going_ends answers ends.Memory numbered start h.front begun (rest ++ left) d m m old mid mid h.going (memory_ends answers numbered (lines (begun ++ (rest ++ left))) m mid))

  pub piece_over : (start piece rest begun : List ℕ) (d e : D) (old new : Option (List ℕ)) → InPiece start piece rest begun d e old new → IsLine (begun ++ rest)
      → Going numbered answers start piece (begun ++ rest) d e old new
  piece_over start piece rest begun d e old new h line =
      subst (λ l. Going numbered answers start l (begun ++ rest) d e old new) h.whole
      (going_more answers numbered start h.front begun rest (begun ++ rest) d e e old new new h.going (longer_line answers numbered begun rest e new line))
