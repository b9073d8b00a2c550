-- The piece that is read at the front is the one that the grammar says, and so is the fault.
use Rattle.std.proofs.Common.{◌≡◌, ℕ, suc, ◌<◌, ◌≤◌, Bool, true, false, ◌==◌, ◌||◌, ◌⊎◌, inl, inr, List, [], ◌∷◌, ◌++◌, length, take, drop, Option, Some, None, Result, Ok, Err, nat_lt, refl, sym, ap, ◌∙◌, subst, arith}
use Rattle.std.specs.List.{AllByRecursion, prefix_len}
use Rattle.std.proofs.lemmas.Bool.Decides.{nat_tests}
use Rattle.std.proofs.lemmas.List.{length-append, length-take-le, take-append-drop}
use Rattle.std.proofs.lemmas.List.Sums.{prefix_len-le-length}
use Rattle.go_token_core.specs.text_core.Text.{letter}
use Rattle.go_token_core.specs.text_core.declared.rule.Rule.{Rule}
use Rattle.go_token_core.specs.text_core.Each.{true_or_false}
use Rattle.go_scan_core.specs.declared.enclosed.Enclosure.{Enclosure}
use Rattle.go_scan_core.specs.declared.enclosed.Enclosure.TheVariants.{General, Quoted, Raw}
use Rattle.go_scan_core.specs.declared.front.Front.{Front}
use Rattle.go_scan_core.specs.declared.front.Front.TheVariants as fronts
use Rattle.go_token_core.specs.declared.kind.CommentKind.{CommentKind}
use Rattle.go_token_core.specs.declared.kind.CommentKind.TheVariants as remarks
use Rattle.go_token_core.specs.declared.kind.Operator.{Operator}
use Rattle.go_token_core.specs.declared.kind.Keyword.{Keyword}
use Rattle.go_token_core.specs.declared.kind.TokenKind.{TokenKind}
use Rattle.go_token_core.specs.declared.kind.TokenKind.TheVariants as kinds
use Rattle.go_scan_core.specs.declared.piece.Piece.{Piece}
use Rattle.go_scan_core.specs.declared.piece.Piece.TheVariants.{Space, LineEnd, Lexeme, Remark}
use Rattle.go_token_core.specs.Spelling.{operator_spelling}
use Rattle.go_token_core.specs.Characters.{continues, first_passes, in_line, is_space, letter_or_digit}
use Rattle.go_scan_core.specs.Enclosed.{opening}
use Rattle.go_token_core.specs.Numbers.{integer_value_of}
use Rattle.go_scan_core.specs.mirrors.Enclosed.{enclosed_at}
use Rattle.go_scan_core.specs.mirrors.Front.{front_of}
use Rattle.go_scan_core.specs.mirrors.Numbers.{number_len}
use Rattle.go_scan_core.specs.mirrors.Reading.{keyword_spelled, integer_at, operator_at, longest_operator, operator_read, piece_at, piece_by, piece_from, identifier_at, word_kind}
use Rattle.go_scan_core.specs.Tokens.{BeginsComment, BeginsRefused, IsAnyLexeme, IsBadNumber, IsComment, IsEnclosed, IsFault, IsGood, IsInteger, IsLexeme, IsLongest, BeginsNothing, IsWord, joined}
use Rattle.go_scan_core.proofs.FrontLemmas.{backquote_front, space_front, digit_front, front_says, general_front, letter_front, line_front, mark_front, mark_other, marks, newline_front, or_false, or_true, other_begins, quote_front, same_number}
use Rattle.go_scan_core.proofs.EnclosedLemmas.{Found, enclosed_complete, enclosed_sound}
use Rattle.go_scan_core.proofs.LexemeLemmas.{FitsMark, all_prefix, all_taken, first_joined, integer_first, keyword_word, no_operator, number_longest, number_sound, operator_fits, operator_longest, operator_some, operator_stands, operator_taken, spelled, word_lexeme, word_sound, word_within}

-- ---- what may stand at each front

-- the lexemes and comments that may begin a text with this front
abbrev Allowed : Front → List ℕ → Type 0
Allowed fronts.Letter v = IsWord v
Allowed fronts.Digit v = IsInteger v
Allowed fronts.Quote v = IsEnclosed Quoted v
Allowed fronts.Backquote v = IsEnclosed Raw v
Allowed fronts.LineComment v = AllByRecursion (λ c. in_line c ≡ true) v
Allowed fronts.GeneralComment v = IsEnclosed General v ⊎ (length v ≤ 3)
Allowed fronts.Other v = (o : Operator) × (v ≡ operator_spelling o)
Allowed _ v = Unit {0}

allowed_at : (f g : Front) (v : List ℕ) → f ≡ g → Allowed f v → Allowed g v
allowed_at f g v e h = subst (λ x. Allowed x v) e h

pub word_front : (v after : List ℕ) → IsWord v → front_of (v ++ after) ≡ fronts.Letter
word_front v after h = letter_front (v ++ after) (first_joined letter letter v after h.first ∙ h.first)

enclosed_front : (e : Enclosure) (v after : List ℕ) → IsEnclosed e v → (inside : List ℕ) × (v ++ after ≡ opening e ++ inside)
enclosed_front General v after h = (_, ap (λ x. x ++ after) h.1)
enclosed_front Quoted v after h = (_, ap (λ x. x ++ after) h.1)
enclosed_front Raw v after h = (_, ap (λ x. x ++ after) h.1)

pub quoted_starts : (v after : List ℕ) → IsEnclosed Quoted v → front_of (v ++ after) ≡ fronts.Quote
quoted_starts v after h = let i = enclosed_front Quoted v after h in ap front_of i.1 ∙ quote_front i.0

pub raw_starts : (v after : List ℕ) → IsEnclosed Raw v → front_of (v ++ after) ≡ fronts.Backquote
raw_starts v after h = let i = enclosed_front Raw v after h in ap front_of i.1 ∙ backquote_front i.0

pub general_starts : (v after : List ℕ) → IsEnclosed General v → front_of (v ++ after) ≡ fronts.GeneralComment
general_starts v after h = let i = enclosed_front General v after h in ap front_of i.1 ∙ general_front i.0

-- an operator may stand at four fronts
mark_allowed : (o : Operator) (v : List ℕ) (f : Front) → v ≡ operator_spelling o → FitsMark v → marks f ≡ true → Allowed f v
mark_allowed o v fronts.Nothing l fit m = cc
mark_allowed o v fronts.Space l fit m = cc
mark_allowed o v fronts.LineEnd l fit m = cc
mark_allowed o v fronts.Quote l fit m = cc
mark_allowed o v fronts.Backquote l fit m = cc
mark_allowed o v fronts.LineComment l fit m = fit.1
mark_allowed o v fronts.GeneralComment l fit m = inr fit.2
mark_allowed o v fronts.Refused l fit m = tt
mark_allowed o v fronts.Letter l fit m = cc
mark_allowed o v fronts.Digit l fit m = cc
mark_allowed o v fronts.Other l fit m = (o, l)

first_mark : (p : ℕ → Bool) (v after : List ℕ) → first_passes p v ≡ true → first_passes p (v ++ after) ≡ true
first_mark p [] after h = cc
first_mark p (c ∷ v) after h = h

lexeme_allowed : (kind : TokenKind) (v after cs : List ℕ) (f : Front) → cs ≡ v ++ after → front_of cs ≡ f → IsLexeme kind v → Allowed f v
lexeme_allowed kinds.Identifier v after cs f e g h = allowed_at fronts.Letter f v (sym (ap front_of e ∙ word_front v after h.0) ∙ g) h.0
lexeme_allowed (kinds.Keyword k) v after cs f e g h =
    let word : IsWord v = subst IsWord (sym h) (keyword_word k) in
    allowed_at fronts.Letter f v (sym (ap front_of e ∙ word_front v after word) ∙ g) word
lexeme_allowed kinds.Integer v after cs f e g h = allowed_at fronts.Digit f v (sym (ap front_of e ∙ digit_front (v ++ after) (integer_first v after h)) ∙ g) h
lexeme_allowed kinds.String v after cs f e g h = elim h [
  | inl quoted ↦ allowed_at fronts.Quote f v (sym (ap front_of e ∙ quoted_starts v after quoted) ∙ g) quoted
  | inr raw ↦ allowed_at fronts.Backquote f v (sym (ap front_of e ∙ raw_starts v after raw) ∙ g) raw
]
lexeme_allowed (kinds.Operator o) v after cs f e g h =
    let fit : FitsMark v = subst FitsMark (sym h) (operator_fits o) in
    mark_allowed o v f h fit (ap marks (sym (sym (ap front_of e) ∙ g)) ∙ mark_front (v ++ after) (first_mark _ v after fit.0))

comment_allowed : (kind : CommentKind) (v after cs : List ℕ) (f : Front) → cs ≡ v ++ after → front_of cs ≡ f → IsComment kind v → Allowed f v
comment_allowed remarks.Line v after cs f e g h =
    let all : AllByRecursion (λ c. in_line c ≡ true) v = subst (AllByRecursion (λ c. in_line c ≡ true)) (sym h.1) (refl, (refl, h.2)) in
    allowed_at fronts.LineComment f v (sym (ap front_of (e ∙ ap (λ x. x ++ after) h.1) ∙ line_front (h.0 ++ after)) ∙ g) all
comment_allowed remarks.General v after cs f e g h = allowed_at fronts.GeneralComment f v (sym (ap front_of e ∙ general_starts v after h) ∙ g) (inl h)

any_allowed : (v after cs : List ℕ) (f : Front) → cs ≡ v ++ after → front_of cs ≡ f → IsAnyLexeme v → Allowed f v
any_allowed v after cs f e g h = elim h [ inl lexeme ↦ lexeme_allowed lexeme.0 v after cs f e g lexeme.1 | inr comment ↦ comment_allowed comment.0 v after cs f e g comment.1 ]

-- ---- the longest

-- an answer of so many characters, where what is allowed is no longer
take_longest : (n : ℕ) (cs : List ℕ) (f : Front) → n ≤ length cs → front_of cs ≡ f → ((v after : List ℕ) → cs ≡ v ++ after → Allowed f v → length v ≤ n) → IsLongest (take n cs) (drop n cs)
take_longest n cs f inside g most v after e any =
    let split : cs ≡ v ++ after = sym (take-append-drop n cs) ∙ e in
    omega (arith, most v after split (any_allowed v after cs f split g any), length-take-le n cs inside)

enclosed_most : (e : Enclosure) (cs : List ℕ) (n : ℕ) → enclosed_at e cs ≡ Ok n → (v after : List ℕ) → cs ≡ v ++ after → IsEnclosed e v → length v ≤ n
enclosed_most e cs n r v after split h = equal (length v) n (enclosed_at e (v ++ after)) (enclosed_complete e v after h) (ap (enclosed_at e) (sym split) ∙ r)
  where
    equal : (a b : ℕ) (r : Result ℕ (Rule × ℕ)) → r ≡ Ok a → r ≡ Ok b → a ≤ b
    equal a b r e f = let same : a ≡ b = cc in omega arith

-- ---- what a piece says

-- what is read at the front as a piece
abbrev pub IsRead : Piece → List ℕ → List ℕ → Type 0
IsRead Space w rest = (c : ℕ) × (w ≡ c ∷ []) × (is_space c ≡ true)
IsRead LineEnd w rest = w ≡ 10 ∷ []
IsRead (Lexeme kind) w rest = IsLexeme kind w × IsLongest w rest × IsGood kind w rest
IsRead (Remark kind) w rest = IsComment kind w × IsLongest w rest

-- what is answered at the front
abbrev pub IsSound : List ℕ → Result (Piece × ℕ) (Rule × ℕ) → Type 0
IsSound cs (Ok x) = IsRead x.0 (take x.1 cs) (drop x.1 cs) × (0 < x.1) × (x.1 ≤ length cs)
IsSound cs (Err x) = IsFault x.0 (take x.1 cs) cs × (x.1 ≤ length cs)

word_good : (r : Option Keyword) (w rest : List ℕ) → IsGood (word_kind r) w rest
word_good None w rest = tt
word_good (Some k) w rest = tt

letter_sound : (cs : List ℕ) → front_of cs ≡ fronts.Letter → IsSound cs (Ok (identifier_at cs))
unfolding identifier_at
letter_sound cs g =
    let n = prefix_len letter_or_digit cs in
    let w = take n cs in
    let h : first_passes letter cs ≡ true = front_says cs fronts.Letter g in
    let inside = word_within cs h in
    ((word_lexeme w (keyword_spelled w) (word_sound cs h) refl, take_longest n cs fronts.Letter inside.1 g (λ v after e word. rw e (all_prefix letter_or_digit v after word.all)), word_good (keyword_spelled w) w (drop n cs)), inside.0, inside.1)

pub good_number : (w rest : List ℕ) → (first_passes continues rest || nat_lt 9223372036854775807 (integer_value_of w)) ≡ false → IsBadNumber w rest → ⊥
good_number w rest h bad =
    let both = or_false (first_passes continues rest) (nat_lt 9223372036854775807 (integer_value_of w)) h in
    elim bad [ inl a ↦ differ (sym a ∙ both.0) | inr a ↦ not_less (integer_value_of w) both.1 a ]
  where
    differ : true ≡ false → ⊥
    differ e = cc

    not_less : (v : ℕ) → nat_lt 9223372036854775807 v ≡ false → 9223372036854775807 < v → ⊥
    not_less v e l = absurd (grind (arith, nat_tests))

pub bad_number : (w rest : List ℕ) → (first_passes continues rest || nat_lt 9223372036854775807 (integer_value_of w)) ≡ true → IsBadNumber w rest
bad_number w rest h = elim (or_true (first_passes continues rest) (nat_lt 9223372036854775807 (integer_value_of w)) h) [
  | inl a ↦ inl a
  | inr a ↦ inr (larger (integer_value_of w) a)
]
  where
    larger : (v : ℕ) → nat_lt 9223372036854775807 v ≡ true → 9223372036854775807 < v
    larger v a = grind (arith, nat_tests)

unfoldable pub number_test : List ℕ → Bool
number_test cs = first_passes continues (drop (number_len cs) cs) || nat_lt 9223372036854775807 (integer_value_of (take (number_len cs) cs))

pub digit_longest : (cs : List ℕ) → front_of cs ≡ fronts.Digit → IsLongest (take (number_len cs) cs) (drop (number_len cs) cs)
digit_longest cs g = take_longest (number_len cs) cs fronts.Digit (number_sound cs (front_says cs fronts.Digit g)).2 g (λ v after e h. rw e (number_longest v after h))

digit_sound : (cs : List ℕ) (b : Bool) → front_of cs ≡ fronts.Digit → number_test cs ≡ b → IsSound cs (integer_at cs)
unfolding integer_at number_test
digit_sound cs true g t =
    let n = number_len cs in
    let number = number_sound cs (front_says cs fronts.Digit g) in
    rw t (inr (inl (refl, refl, inr (take n cs, drop n cs, sym (take-append-drop n cs), number.0, digit_longest cs g, bad_number (take n cs) (drop n cs) t))), omega arith)
digit_sound cs false g t =
    let n = number_len cs in
    let number = number_sound cs (front_says cs fronts.Digit g) in
    rw t ((number.0, digit_longest cs g, good_number (take n cs) (drop n cs) t), number.1, number.2)

-- a string or a general comment, as the piece that it is
from_found : (e : Enclosure) (piece : Piece) (cs : List ℕ) (r : Result ℕ (Rule × ℕ)) → enclosed_at e cs ≡ r → Found e cs r → ((n : ℕ) → enclosed_at e cs ≡ Ok n → IsEnclosed e (take n cs) → n ≤ length cs → IsRead piece (take n cs) (drop n cs)) → IsSound cs (piece_from piece r)
from_found e piece cs (Ok n) same found read = (read n same found.0 found.2, found.1, found.2)
from_found e piece cs (Err x) same found read = (inr (inr (e, found.0)), found.1)

enclosed_read : (e : Enclosure) (piece : Piece) (cs inside : List ℕ) → cs ≡ opening e ++ inside → ((n : ℕ) → enclosed_at e cs ≡ Ok n → IsEnclosed e (take n cs) → n ≤ length cs → IsRead piece (take n cs) (drop n cs)) → IsSound cs (piece_from piece (enclosed_at e cs))
enclosed_read e piece cs inside split read = from_found e piece cs (enclosed_at e cs) refl (enclosed_sound e cs inside split) read

quote_sound : (cs : List ℕ) → front_of cs ≡ fronts.Quote → IsSound cs (piece_from (Lexeme kinds.String) (enclosed_at Quoted cs))
quote_sound cs g = let says = front_says cs fronts.Quote g in
    enclosed_read Quoted (Lexeme kinds.String) cs says.0 says.1 (λ n same whole inside. (inl whole, take_longest n cs fronts.Quote inside g (λ v after e h. enclosed_most Quoted cs n same v after e h), tt))

backquote_sound : (cs : List ℕ) → front_of cs ≡ fronts.Backquote → IsSound cs (piece_from (Lexeme kinds.String) (enclosed_at Raw cs))
backquote_sound cs g = let says = front_says cs fronts.Backquote g in
    enclosed_read Raw (Lexeme kinds.String) cs says.0 says.1 (λ n same whole inside. (inr whole, take_longest n cs fronts.Backquote inside g (λ v after e h. enclosed_most Raw cs n same v after e h), tt))

enclosed_long : (w : List ℕ) → IsEnclosed General w → 4 ≤ length w
enclosed_long w h = omega (arith, ap length h.1, length-append (47 ∷ 42 ∷ []) (joined h.0 ++ (42 ∷ 47 ∷ [])), length-append (joined h.0) (42 ∷ 47 ∷ []))

general_sound : (cs : List ℕ) → front_of cs ≡ fronts.GeneralComment → IsSound cs (piece_from (Remark remarks.General) (enclosed_at General cs))
general_sound cs g = let says = front_says cs fronts.GeneralComment g in
    enclosed_read General (Remark remarks.General) cs says.0 says.1 (λ n same whole inside. (
      whole,
      take_longest n cs fronts.GeneralComment inside g (λ v after e h. elim h [
        | inl comment ↦ enclosed_most General cs n same v after e comment
        | inr short ↦ omega (arith, enclosed_long (take n cs) whole, length-take-le n cs inside)
      ]),
    ))

line_sound : (cs : List ℕ) → front_of cs ≡ fronts.LineComment → IsSound cs (Ok (Remark remarks.Line, prefix_len in_line cs))
line_sound cs g =
    let says = front_says cs fronts.LineComment g in
    let n = prefix_len in_line cs in
    let inside : n ≤ length cs = prefix_len-le-length in_line cs in
    let whole = line_whole cs says.0 says.1 in
    ((whole.0, take_longest n cs fronts.LineComment inside g (λ v after e h. rw e (all_prefix in_line v after h))), whole.1, inside)
  where
    line_whole : (cs rest : List ℕ) → cs ≡ 47 ∷ 47 ∷ rest → IsComment remarks.Line (take (prefix_len in_line cs) cs) × (0 < prefix_len in_line cs)
    line_whole cs rest e = subst (λ x. IsComment remarks.Line (take (prefix_len in_line x) x) × (0 < prefix_len in_line x)) (sym e) (here rest)
      where
        here : (rest : List ℕ) → IsComment remarks.Line (take (prefix_len in_line (47 ∷ 47 ∷ rest)) (47 ∷ 47 ∷ rest)) × (0 < prefix_len in_line (47 ∷ 47 ∷ rest))
        here rest =
            let m = prefix_len in_line rest in
            let count : suc (suc m) ≡ prefix_len in_line (47 ∷ 47 ∷ rest) = omega arith in
            let P : ℕ → Type 0 = λ n. IsComment remarks.Line (take n (47 ∷ 47 ∷ rest)) × (0 < n) in
            subst P count ((take m rest, refl, all_taken in_line rest), omega arith)

good_operator : (cs : List ℕ) → front_of cs ≡ fronts.Other → ¬ (BeginsComment cs) × ¬ (BeginsRefused cs)
good_operator cs g = other_begins cs g

other_some : (cs : List ℕ) → front_of cs ≡ fronts.Other → 0 < length cs
other_some cs g = front_says cs fronts.Other g

-- no such character is first at another front
not_first : (p : ℕ → Bool) (cs : List ℕ) (f : Front) → front_of cs ≡ fronts.Other → (f ≡ fronts.Other → ⊥) → (first_passes p cs ≡ true → front_of cs ≡ f) → first_passes p cs ≡ false
not_first p cs f g other is = elim (true_or_false (first_passes p cs)) [ inl h ↦ absurd (other (sym (is h) ∙ g)) | inr h ↦ h ]

newline_first : (cs : List ℕ) → first_passes (λ c. c == 10) cs ≡ true → front_of cs ≡ fronts.LineEnd
newline_first [] h = cc
newline_first (c ∷ cs) h = ap (λ x. front_of (x ∷ cs)) (same_number c 10 h) ∙ newline_front cs

no_enclosure : (e : Enclosure) (cs inside : List ℕ) → front_of cs ≡ fronts.Other → cs ≡ opening e ++ inside → ⊥
no_enclosure General cs inside g split = let no : fronts.Other ≡ fronts.GeneralComment = sym g ∙ ap front_of split ∙ general_front inside in cc
no_enclosure Quoted cs inside g split = let no : fronts.Other ≡ fronts.Quote = sym g ∙ ap front_of split ∙ quote_front inside in cc
no_enclosure Raw cs inside g split = let no : fronts.Other ≡ fronts.Backquote = sym g ∙ ap front_of split ∙ backquote_front inside in cc

-- a front that is none of the others, where no lexeme begins
nothing_begins : (cs : List ℕ) → front_of cs ≡ fronts.Other → ((v after : List ℕ) → cs ≡ v ++ after → IsAnyLexeme v → ⊥) → BeginsNothing cs
nothing_begins cs g none = record {
  some = other_some cs g;
  no_space = not_first is_space cs fronts.Space g (λ e. cc) (space_front cs);
  no_line_end = not_first (λ c. c == 10) cs fronts.LineEnd g (λ e. cc) (newline_first cs);
  no_opening = λ e inside split. no_enclosure e cs inside g split;
  no_refused = (other_begins cs g).1;
  no_lexeme = none;
}

word_here : (cs : List ℕ) → first_passes letter cs ≡ true → IsAnyLexeme (take (prefix_len letter_or_digit cs) cs)
word_here cs h = let w = take (prefix_len letter_or_digit cs) cs in inl (word_kind (keyword_spelled w), word_lexeme w (keyword_spelled w) (word_sound cs h) refl)

line_begun : (cs rest : List ℕ) → cs ≡ 47 ∷ 47 ∷ rest → BeginsNothing cs → ⊥
line_begun cs rest e stray = stray.no_lexeme (47 ∷ 47 ∷ []) rest e (inr (remarks.Line, ([], refl, tt)))

fails : (cs : List ℕ) (p : ℕ → Bool) → first_passes p cs ≡ true → first_passes p cs ≡ false → ⊥
fails cs p a b = let no : true ≡ false = sym a ∙ b in cc

-- what begins nothing has no other front
pub nothing_front : (cs : List ℕ) (f : Front) → BeginsNothing cs → front_of cs ≡ f → f ≡ fronts.Other
nothing_front cs fronts.Nothing stray g = absurd (let none = ap length (front_says cs fronts.Nothing g) in let some = stray.some in omega arith)
nothing_front cs fronts.Space stray g = absurd (fails cs is_space (front_says cs fronts.Space g) stray.no_space)
nothing_front cs fronts.LineEnd stray g = let says = front_says cs fronts.LineEnd g in absurd (fails cs (λ c. c == 10) (ap (first_passes (λ c. c == 10)) says.1) stray.no_line_end)
nothing_front cs fronts.Quote stray g = let says = front_says cs fronts.Quote g in absurd (stray.no_opening Quoted says.0 says.1)
nothing_front cs fronts.Backquote stray g = let says = front_says cs fronts.Backquote g in absurd (stray.no_opening Raw says.0 says.1)
nothing_front cs fronts.LineComment stray g = let says = front_says cs fronts.LineComment g in absurd (line_begun cs says.0 says.1 stray)
nothing_front cs fronts.GeneralComment stray g = let says = front_says cs fronts.GeneralComment g in absurd (stray.no_opening General says.0 says.1)
nothing_front cs fronts.Refused stray g = absurd (stray.no_refused (front_says cs fronts.Refused g))
nothing_front cs fronts.Letter stray g = absurd (stray.no_lexeme (take (prefix_len letter_or_digit cs) cs) (drop (prefix_len letter_or_digit cs) cs) (sym (take-append-drop (prefix_len letter_or_digit cs) cs)) (word_here cs (front_says cs fronts.Letter g)))
nothing_front cs fronts.Digit stray g = absurd (stray.no_lexeme (take (number_len cs) cs) (drop (number_len cs) cs) (sym (take-append-drop (number_len cs) cs)) (inl (kinds.Integer, (number_sound cs (front_says cs fronts.Digit g)).0)))
nothing_front cs fronts.Other stray g = refl

-- an operator that stands well has no other front
pub operator_front : (o : Operator) (w rest : List ℕ) → w ≡ operator_spelling o → IsGood (kinds.Operator o) w rest → front_of (w ++ rest) ≡ fronts.Other
operator_front o w rest h good =
    let fit : FitsMark w = subst FitsMark (sym h) (operator_fits o) in
    mark_other (w ++ rest) (front_of (w ++ rest)) refl (mark_front (w ++ rest) (first_mark _ w rest fit.0)) good.0 good.1

other_sound : (cs : List ℕ) (r : Option Operator) → front_of cs ≡ fronts.Other → longest_operator cs ≡ r → IsSound cs (operator_read r)
other_sound cs None g e = (inl (refl, refl, nothing_begins cs g (λ v after split any. (let o = any_allowed v after cs fronts.Other split g any in no_operator cs o.0 v after e split o.1))), omega arith)
other_sound cs (Some o) g e =
    let n = spelled o in
    let inside : n ≤ length cs = omega (arith, ap length (operator_stands cs o e), length-append (operator_spelling o) (drop n cs)) in
    ((operator_taken cs o e, take_longest n cs fronts.Other inside g (λ v after split h. operator_longest cs o h.0 v after e split h.1), good_operator (take n cs ++ drop n cs) (ap front_of (take-append-drop n cs) ∙ g)), operator_some o, inside)

front_sound : (cs : List ℕ) (f : Front) → 0 < length cs → front_of cs ≡ f → IsSound cs (piece_by f cs)
unfolding operator_at
front_sound cs fronts.Nothing some g = absurd (let none = ap length (front_says cs fronts.Nothing g) in omega arith)
front_sound cs fronts.Space some g = blank cs (front_says cs fronts.Space g)
  where
    blank : (cs : List ℕ) → first_passes is_space cs ≡ true → IsSound cs (Ok (Space, 1))
    blank [] h = cc
    blank (c ∷ cs) h = ((c, refl, h), omega arith, omega arith)
front_sound cs fronts.LineEnd some g = let says = front_says cs fronts.LineEnd g in subst (λ x. IsSound x (Ok (LineEnd, 1))) (sym says.1) (refl, omega arith, omega arith)
front_sound cs fronts.Quote some g = quote_sound cs g
front_sound cs fronts.Backquote some g = backquote_sound cs g
front_sound cs fronts.LineComment some g = line_sound cs g
front_sound cs fronts.GeneralComment some g = general_sound cs g
front_sound cs fronts.Refused some g = (inr (inl (refl, refl, inl (front_says cs fronts.Refused g))), omega arith)
front_sound cs fronts.Letter some g = letter_sound cs g
front_sound cs fronts.Digit some g = digit_sound cs (number_test cs) g refl
front_sound cs fronts.Other some g = other_sound cs (longest_operator cs) g refl

-- what is read at the front is what the grammar says
pub piece_sound : (cs : List ℕ) → 0 < length cs → IsSound cs (piece_at cs)
unfolding piece_at
piece_sound cs some = front_sound cs (front_of cs) some refl
