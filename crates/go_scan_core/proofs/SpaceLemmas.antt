-- White space may be passed over before a piece is read.
use Rattle.std.proofs.Common.{◌≡◌, ℕ, suc, ◌+◌, ◌^◌, ◌<◌, ◌≤◌, true, false, ◌==◌, ◌||◌, inl, inr, List, [], ◌∷◌, length, drop, Option, Result, Ok, refl, sym, ap, ◌∙◌, subst, arith}
use Rattle.std.specs.List.{prefix_len}
use Rattle.std.proofs.lemmas.List.{length-drop}
use Rattle.std.proofs.lemmas.List.Sums.{prefix_len-le-length}
use Rattle.std.proofs.lemmas.Str.{len_utf8_ascii}
use Rattle.go_token_core.specs.text_core.Each.{true_or_false}
use Rattle.go_scan_core.specs.declared.piece.Piece.TheVariants.{Space}
use Rattle.go_token_core.specs.declared.token.Comment.{Comment}
use Rattle.go_token_core.specs.declared.token.LexFault.{LexFault}
use Rattle.go_token_core.specs.declared.token.Token.{Token}
use Rattle.go_token_core.specs.Characters.{is_space}
use Rattle.go_scan_core.specs.Parts.{Gap, TextPart, width}
use Rattle.go_scan_core.specs.mirrors.Cutting.{closed, cut, remarked, with_front}
use Rattle.go_scan_core.specs.mirrors.Reading.{piece_at, piece_by}
use Rattle.go_token_core.proofs.CharacterLemmas.{width-cons}
use Rattle.go_scan_core.proofs.CutLemmas.{closed_gap, cut_step, remarked_part, with_none}
use Rattle.go_scan_core.proofs.FrontLemmas.{or_true, same_number, space_front}

space_piece : (c : ℕ) (cs : List ℕ) → is_space c ≡ true → piece_at (c ∷ cs) ≡ Ok (Space, 1)
unfolding piece_at
space_piece c cs h = ap (λ g. piece_by g (c ∷ cs)) (space_front (c ∷ cs) h)

space_low : (c : ℕ) → is_space c ≡ true → c < 128
space_low c h = elim (or_true ((c == 32) || (c == 9)) (c == 13) h) [
  | inl a ↦ elim (or_true (c == 32) (c == 9) a) [ inl b ↦ omega (arith, same_number c 32 b) | inr b ↦ omega (arith, same_number c 9 b) ]
  | inr a ↦ omega (arith, same_number c 13 a)
]

space_width : (c : ℕ) → is_space c ≡ true → width (c ∷ []) ≡ 1
space_width c h = omega (arith, width-cons c [], len_utf8_ascii c (space_low c h))

abbrev spaces : List ℕ → ℕ
spaces cs = prefix_len is_space cs

more_spaces : (c : ℕ) (cs : List ℕ) → is_space c ≡ true → spaces (c ∷ cs) ≡ suc (spaces cs)
more_spaces c cs h = rw h (omega arith)

no_spaces : (c : ℕ) (cs : List ℕ) → (is_space c ≡ true → ⊥) → spaces (c ∷ cs) ≡ 0
no_spaces c cs h = elim (true_or_false (is_space c)) [ inl a ↦ absurd (h a) | inr a ↦ rw a refl ]

-- what takes no notice of gaps takes none of the white space at the front
spaces_skipped : {X : Type 0} (f : Result (List TextPart) LexFault → X) → ((r : Result (List TextPart) LexFault) → f (with_front (Gap ∷ []) r) ≡ f r) → (cs : List ℕ) (start : ℕ) → f (cut (drop (spaces cs) cs) 0 (start + spaces cs)) ≡ f (cut cs 0 start)
spaces_skipped f gap [] start = ap (λ s. f (cut [] 0 s)) (omega arith)
spaces_skipped f gap (c ∷ cs) start =
    let P : ℕ → Type 0 = λ m. f (cut (drop m (c ∷ cs)) 0 (start + m)) ≡ f (cut (c ∷ cs) 0 start) in
    elim (true_or_false (is_space c)) [
      | inl h ↦
          (let n = spaces cs in
          let far : start + suc n ≡ start + 1 + n = omega arith in
          let one : start + width (c ∷ []) ≡ start + 1 = omega (arith, space_width c h) in
          let here : f (cut cs 0 (start + 1)) ≡ f (cut (c ∷ cs) 0 start) = sym (ap f (cut_step (c ∷ cs) start (Space, 1) (omega arith) (space_piece c cs h)) ∙ gap (cut cs 0 (start + width (c ∷ []))) ∙ ap (λ s. f (cut cs 0 s)) one) in
          subst P (sym (more_spaces c cs h)) (ap (λ s. f (cut (drop n cs) 0 s)) far ∙ spaces_skipped f gap cs (start + 1) ∙ here))
      | inr h ↦
          (let no : spaces (c ∷ cs) ≡ 0 = no_spaces c cs (λ a. let differ : true ≡ false = sym a ∙ h in cc) in
          subst P (sym no) (ap (λ s. f (cut (c ∷ cs) 0 s)) (omega arith)))
    ]

spaces_wide : (cs : List ℕ) → spaces cs + width (drop (spaces cs) cs) ≡ width cs
spaces_wide [] = refl
spaces_wide (c ∷ cs) =
    let P : ℕ → Type 0 = λ m. m + width (drop m (c ∷ cs)) ≡ width (c ∷ cs) in
    elim (true_or_false (is_space c)) [
      | inl h ↦ subst P (sym (more_spaces c cs h)) (omega (arith, spaces_wide cs, width-cons c cs, width-cons c [], space_width c h))
      | inr h ↦
          (let no : spaces (c ∷ cs) ≡ 0 = no_spaces c cs (λ a. let differ : true ≡ false = sym a ∙ h in cc) in
          subst P (sym no) (omega arith))
    ]

pub spaces_within : (cs : List ℕ) → spaces cs ≤ length cs
spaces_within cs = prefix_len-le-length is_space cs

pub spaces_fit : (cs : List ℕ) (start : ℕ) → start + width cs < 2 ^ 32 → start + spaces cs < 2 ^ 32
spaces_fit cs start h = omega (arith, spaces_wide cs)

-- ---- the place behind white space, as the program has it

pub moved_tokens : (tokens : List Token) (last : Option Token) (others rest : List ℕ) (end at : ℕ) → rest ≡ drop (spaces others) others → at ≡ end + spaces others → with_front tokens (closed last (cut rest 0 at)) ≡ with_front tokens (closed last (cut others 0 end))
moved_tokens tokens last others rest end at e p =
    ap (λ r. with_front tokens (closed last (cut r 0 at))) e
    ∙ ap (λ a. with_front tokens (closed last (cut (drop (spaces others) others) 0 a))) p
    ∙ ap (with_front tokens) (spaces_skipped (closed last) (closed_gap last) others end)

gap_unremarked : (r : Result (List TextPart) LexFault) → remarked (with_front (Gap ∷ []) r) ≡ remarked r
gap_unremarked r = remarked_part Gap r ∙ sym (with_none (remarked r))

pub moved_comments : (comments : List Comment) (others rest : List ℕ) (end at : ℕ) → rest ≡ drop (spaces others) others → at ≡ end + spaces others → with_front comments (remarked (cut rest 0 at)) ≡ with_front comments (remarked (cut others 0 end))
moved_comments comments others rest end at e p =
    ap (λ r. with_front comments (remarked (cut r 0 at))) e
    ∙ ap (λ a. with_front comments (remarked (cut (drop (spaces others) others) 0 a))) p
    ∙ ap (with_front comments) (spaces_skipped remarked gap_unremarked others end)

pub moved_place : (others rest : List ℕ) (end at : ℕ) → rest ≡ drop (spaces others) others → at ≡ end + spaces others → at + width rest ≡ end + width others
moved_place others rest end at e p =
    let left : width rest ≡ width (drop (spaces others) others) = ap width e in
    omega (arith, left, p, spaces_wide others)

pub shorter_still : (others rest : List ℕ) (all : ℕ) → rest ≡ drop (spaces others) others → length others < all → length rest < all
shorter_still others rest all e h = omega (arith, ap length e, length-drop (spaces others) others, spaces_within others)
