-- What lexemes begin with.
use Rattle.std.proofs.Common.{◌≡◌, ℕ, zero, suc, ◌+◌, ◌<◌, ◌≤◌, Bool, true, false, cond, not, ◌==◌, ◌||◌, ◌&&◌, ◌⊎◌, inl, inr, List, [], ◌∷◌, length, Some, refl, sym, ap, ◌∙◌, subst, arith, nat_le}
use Rattle.std.specs.Char.{is_ascii_digit}
use Rattle.std.specs.List.{list_all}
use Rattle.ucd_category.specs.GeneralCategoryRows.{general_category_rows}
use Rattle.unicode.specs.GeneralCategory.{general_category}
use Rattle.unicode.specs.Rows.{value_in}
use Rattle.std.proofs.lemmas.Bool.Decides.{nat_tests}
use Rattle.go_token_core.specs.text_core.Text.{letter, digit}
use Rattle.go_token_core.specs.text_core.Each.{true_or_false}
use Rattle.go_token_core.proofs.Choices.{chosen}
use Rattle.go_token_core.specs.declared.kind.Keyword.{Keyword}
use Rattle.go_token_core.specs.declared.kind.Keyword.TheVariants.{Break, Case, Chan, Const, Continue, Default, Defer, Else, Fallthrough, For, Func, Go, Goto, If, Import, Interface, Map, Package, Range, Return, Select, Struct, Switch, «Type», Var}
use Rattle.go_token_core.specs.declared.kind.Operator.{Operator}
use Rattle.go_token_core.specs.declared.kind.Operator.TheVariants.{ShiftLeftAssign, ShiftRightAssign, AndNotAssign, Ellipsis, ShiftLeft, ShiftRight, AndNot, PlusAssign, MinusAssign, StarAssign, SlashAssign, PercentAssign, AndAssign, OrAssign, CaretAssign, LogicalAnd, LogicalOr, Arrow, Increment, Decrement, Equal, NotEqual, LessEqual, GreaterEqual, Define, Plus, Minus, Star, Slash, Percent, And, Or, Caret, Less, Greater, Assign, Not, Tilde, OpenParen, OpenBracket, OpenBrace, Comma, Dot, CloseParen, CloseBracket, CloseBrace, Semicolon, Colon}
use Rattle.go_scan_core.specs.declared.front.Front.{Front}
use Rattle.go_scan_core.specs.declared.front.Front.TheVariants as fronts
use Rattle.go_token_core.specs.Characters.{first_passes, in_line, is_space, letter_or_digit}
use Rattle.go_scan_core.specs.mirrors.Front.{front_of}
use Rattle.go_scan_core.specs.mirrors.Reading.{keyword_spelled, longest_operator}
use Rattle.go_scan_core.specs.Tokens.{BeginsComment, BeginsRefused}
use Rattle.go_token_core.specs.Spelling.{keyword_spelling, operator_spelling}

pub and_true : (a b : Bool) → (a && b) ≡ true → (a ≡ true) × (b ≡ true)
and_true true b h = (refl, h)
and_true false b h = cc

pub or_true : (a b : Bool) → (a || b) ≡ true → (a ≡ true) ⊎ (b ≡ true)
or_true true b h = inl refl
or_true false b h = inr h

pub or_false : (a b : Bool) → (a || b) ≡ false → (a ≡ false) × (b ≡ false)
or_false true b h = cc
or_false false b h = (refl, h)

pub not_true : (a : Bool) → not a ≡ true → a ≡ false
not_true true h = cc
not_true false h = refl

pub same_number : (a b : ℕ) → (a == b) ≡ true → a ≡ b
same_number a b h = grind (arith, nat_tests)

-- ---- the tables

-- a first character of operators
abbrev pub is_mark : ℕ → Bool
is_mark c = not (is_space c || (c == 10) || (c == 34) || (c == 96) || letter c || is_ascii_digit c)

-- operators begin with marks, fit on a line and are short
pub operator_marks : (o : Operator) → (first_passes is_mark (operator_spelling o) && list_all in_line (operator_spelling o) && nat_le (length (operator_spelling o)) 3) ≡ true
unfolding operator_spelling letter general_category value_in general_category_rows
operator_marks ShiftLeftAssign = refl
operator_marks ShiftRightAssign = refl
operator_marks AndNotAssign = refl
operator_marks Ellipsis = refl
operator_marks ShiftLeft = refl
operator_marks ShiftRight = refl
operator_marks AndNot = refl
operator_marks PlusAssign = refl
operator_marks MinusAssign = refl
operator_marks StarAssign = refl
operator_marks SlashAssign = refl
operator_marks PercentAssign = refl
operator_marks AndAssign = refl
operator_marks OrAssign = refl
operator_marks CaretAssign = refl
operator_marks LogicalAnd = refl
operator_marks LogicalOr = refl
operator_marks Arrow = refl
operator_marks Increment = refl
operator_marks Decrement = refl
operator_marks Equal = refl
operator_marks NotEqual = refl
operator_marks LessEqual = refl
operator_marks GreaterEqual = refl
operator_marks Define = refl
operator_marks Plus = refl
operator_marks Minus = refl
operator_marks Star = refl
operator_marks Slash = refl
operator_marks Percent = refl
operator_marks And = refl
operator_marks Or = refl
operator_marks Caret = refl
operator_marks Less = refl
operator_marks Greater = refl
operator_marks Assign = refl
operator_marks Not = refl
operator_marks Tilde = refl
operator_marks OpenParen = refl
operator_marks OpenBracket = refl
operator_marks OpenBrace = refl
operator_marks Comma = refl
operator_marks Dot = refl
operator_marks CloseParen = refl
operator_marks CloseBracket = refl
operator_marks CloseBrace = refl
operator_marks Semicolon = refl
operator_marks Colon = refl

pub keyword_letters : (k : Keyword) → (first_passes letter (keyword_spelling k) && list_all letter_or_digit (keyword_spelling k)) ≡ true
unfolding keyword_spelling letter digit general_category value_in general_category_rows
keyword_letters Break = refl
keyword_letters Case = refl
keyword_letters Chan = refl
keyword_letters Const = refl
keyword_letters Continue = refl
keyword_letters Default = refl
keyword_letters Defer = refl
keyword_letters Else = refl
keyword_letters Fallthrough = refl
keyword_letters For = refl
keyword_letters Func = refl
keyword_letters Go = refl
keyword_letters Goto = refl
keyword_letters If = refl
keyword_letters Import = refl
keyword_letters Interface = refl
keyword_letters Map = refl
keyword_letters Package = refl
keyword_letters Range = refl
keyword_letters Return = refl
keyword_letters Select = refl
keyword_letters Struct = refl
keyword_letters Switch = refl
keyword_letters «Type» = refl
keyword_letters Var = refl

-- each spelling reads as what it spells
pub keyword_again : (k : Keyword) → keyword_spelled (keyword_spelling k) ≡ Some k
unfolding keyword_spelled keyword_spelling
keyword_again Break = refl
keyword_again Case = refl
keyword_again Chan = refl
keyword_again Const = refl
keyword_again Continue = refl
keyword_again Default = refl
keyword_again Defer = refl
keyword_again Else = refl
keyword_again Fallthrough = refl
keyword_again For = refl
keyword_again Func = refl
keyword_again Go = refl
keyword_again Goto = refl
keyword_again If = refl
keyword_again Import = refl
keyword_again Interface = refl
keyword_again Map = refl
keyword_again Package = refl
keyword_again Range = refl
keyword_again Return = refl
keyword_again Select = refl
keyword_again Struct = refl
keyword_again Switch = refl
keyword_again «Type» = refl
keyword_again Var = refl

pub operator_again : (o : Operator) → longest_operator (operator_spelling o) ≡ Some o
unfolding longest_operator operator_spelling
operator_again ShiftLeftAssign = refl
operator_again ShiftRightAssign = refl
operator_again AndNotAssign = refl
operator_again Ellipsis = refl
operator_again ShiftLeft = refl
operator_again ShiftRight = refl
operator_again AndNot = refl
operator_again PlusAssign = refl
operator_again MinusAssign = refl
operator_again StarAssign = refl
operator_again SlashAssign = refl
operator_again PercentAssign = refl
operator_again AndAssign = refl
operator_again OrAssign = refl
operator_again CaretAssign = refl
operator_again LogicalAnd = refl
operator_again LogicalOr = refl
operator_again Arrow = refl
operator_again Increment = refl
operator_again Decrement = refl
operator_again Equal = refl
operator_again NotEqual = refl
operator_again LessEqual = refl
operator_again GreaterEqual = refl
operator_again Define = refl
operator_again Plus = refl
operator_again Minus = refl
operator_again Star = refl
operator_again Slash = refl
operator_again Percent = refl
operator_again And = refl
operator_again Or = refl
operator_again Caret = refl
operator_again Less = refl
operator_again Greater = refl
operator_again Assign = refl
operator_again Not = refl
operator_again Tilde = refl
operator_again OpenParen = refl
operator_again OpenBracket = refl
operator_again OpenBrace = refl
operator_again Comma = refl
operator_again Dot = refl
operator_again CloseParen = refl
operator_again CloseBracket = refl
operator_again CloseBrace = refl
operator_again Semicolon = refl
operator_again Colon = refl

-- ---- what each front says

abbrev pub Says : Front → List ℕ → Type 0
Says fronts.Nothing cs = cs ≡ []
Says fronts.Space cs = first_passes is_space cs ≡ true
Says fronts.LineEnd cs = (rest : List ℕ) × (cs ≡ 10 ∷ rest)
Says fronts.Quote cs = (rest : List ℕ) × (cs ≡ 34 ∷ rest)
Says fronts.Backquote cs = (rest : List ℕ) × (cs ≡ 96 ∷ rest)
Says fronts.LineComment cs = (rest : List ℕ) × (cs ≡ 47 ∷ 47 ∷ rest)
Says fronts.GeneralComment cs = (rest : List ℕ) × (cs ≡ 47 ∷ 42 ∷ rest)
Says fronts.Refused cs = BeginsRefused cs
Says fronts.Letter cs = first_passes letter cs ≡ true
Says fronts.Digit cs = first_passes is_ascii_digit cs ≡ true
Says fronts.Other cs = 0 < length cs

starts : (c d : ℕ) (cs : List ℕ) → (c == d) ≡ true → (rest : List ℕ) × (c ∷ cs ≡ d ∷ rest)
starts c d cs h = (cs, ap (λ x. x ∷ cs) (same_number c d h))

two : (c d e : ℕ) (cs : List ℕ) → ((c == d) && first_passes (λ x. x == e) cs) ≡ true → (rest : List ℕ) × (c ∷ cs ≡ d ∷ e ∷ rest)
two c d e [] h = let no = (and_true (c == d) false h).1 in cc
two c d e (x ∷ cs) h =
    let both = and_true (c == d) (x == e) h in
    let first : c ≡ d = same_number c d both.0 in
    let second : x ≡ e = same_number x e both.1 in
    (cs, cc)

dotted : (c : ℕ) (cs : List ℕ) → ((c == 46) && first_passes is_ascii_digit cs) ≡ true → (rest : List ℕ) × (c ∷ cs ≡ 46 ∷ rest) × (first_passes is_ascii_digit rest ≡ true)
dotted c cs h = let both = and_true (c == 46) (first_passes is_ascii_digit cs) h in (cs, ap (λ x. x ∷ cs) (same_number c 46 both.0), both.1)

pub front_says : (cs : List ℕ) (f : Front) → front_of cs ≡ f → Says f cs
unfolding front_of
front_says [] f e = subst (λ g. Says g []) e refl
front_says (c ∷ cs) f e =
    let by : (g : Front) → g ≡ f → Says g (c ∷ cs) → Says f (c ∷ cs) = λ g same h. subst (λ x. Says x (c ∷ cs)) same h in
    elim (chosen (is_space c) _ _ f e) [
      | inl a ↦ by _ a.1 a.0
      | inr a ↦
          elim (chosen (c == 10) _ _ f a.1) [
            | inl b ↦ by _ b.1 (starts c 10 cs b.0)
            | inr b ↦
                elim (chosen (c == 34) _ _ f b.1) [
                  | inl d ↦ by _ d.1 (starts c 34 cs d.0)
                  | inr d ↦
                      elim (chosen (c == 96) _ _ f d.1) [
                        | inl g ↦ by _ g.1 (starts c 96 cs g.0)
                        | inr g ↦
                            elim (chosen (c == 39) _ _ f g.1) [
                              | inl h ↦ by _ h.1 (inl (starts c 39 cs h.0))
                              | inr h ↦
                                  elim (chosen ((c == 47) && first_passes (λ d. d == 47) cs) _ _ f h.1) [
                                    | inl i ↦ by _ i.1 (two c 47 47 cs i.0)
                                    | inr i ↦
                                        elim (chosen ((c == 47) && first_passes (λ d. d == 42) cs) _ _ f i.1) [
                                          | inl j ↦ by _ j.1 (two c 47 42 cs j.0)
                                          | inr j ↦
                                              elim (chosen ((c == 46) && first_passes is_ascii_digit cs) _ _ f j.1) [
                                                | inl k ↦ by _ k.1 (inr (dotted c cs k.0))
                                                | inr k ↦
                                                    elim (chosen (letter c) _ _ f k.1) [
                                                      | inl l ↦ by _ l.1 l.0
                                                      | inr l ↦
                                                          elim (chosen (is_ascii_digit c) fronts.Digit fronts.Other f l.1) [ inl m ↦ by _ m.1 m.0 | inr m ↦ by _ m.1 (omega arith) ]
                                                    ]
                                              ]
                                        ]
                                  ]
                            ]
                      ]
                ]
          ]
    ]

-- ---- the fronts of lexemes

-- no letter is a character of another front
letters_apart : (letter 32 ≡ false) × (letter 9 ≡ false) × (letter 13 ≡ false) × (letter 10 ≡ false) × (letter 34 ≡ false) × (letter 96 ≡ false) × (letter 39 ≡ false) × (letter 47 ≡ false) × (letter 46 ≡ false)
unfolding letter general_category value_in general_category_rows
letters_apart = (refl, refl, refl, refl, refl, refl, refl, refl, refl)

is_not : (c d : ℕ) → letter c ≡ true → letter d ≡ false → (c == d) ≡ false
is_not c d h g = elim (true_or_false (c == d)) [
  | inl e ↦ (let no : true ≡ false = sym h ∙ ap letter (same_number c d e) ∙ g in cc)
  | inr e ↦ e
]

pub letter_front : (cs : List ℕ) → first_passes letter cs ≡ true → front_of cs ≡ fronts.Letter
unfolding front_of
letter_front [] h = cc
letter_front (c ∷ cs) h =
    let a = letters_apart in
    rw (is_not c 32 h a.0, is_not c 9 h a.1, is_not c 13 h a.2, is_not c 10 h a.3, is_not c 34 h a.4, is_not c 96 h a.5, is_not c 39 h a.6, is_not c 47 h a.7, is_not c 46 h a.8, h) refl

-- P holds of n numbers from lo on
abbrev AllFrom : (ℕ → Type 0) → ℕ → ℕ → Type 0
AllFrom P lo zero = Unit {0}
AllFrom P lo (suc n) = P lo × AllFrom P (lo + 1) n

from_range : (P : ℕ → Type 0) (n lo c : ℕ) → AllFrom P lo n → lo ≤ c → c < lo + n → P c
from_range P zero lo c all low high = absurd (omega arith)
from_range P (suc n) lo c all low high =
    elim (nat_split lo c low) [ inl e ↦ subst P e all.0 | inr more ↦ from_range P n (lo + 1) c all.1 more (omega arith) ]
  where
    nat_split : (lo c : ℕ) → lo ≤ c → (lo ≡ c) ⊎ (lo + 1 ≤ c)
    nat_split lo c low = grind arith

ten : (cs : List ℕ) → AllFrom (λ d. front_of (d ∷ cs) ≡ fronts.Digit) 48 10
unfolding front_of letter general_category value_in general_category_rows
ten cs = (refl, (refl, (refl, (refl, (refl, (refl, (refl, (refl, (refl, (refl, tt))))))))))

pub digit_front : (cs : List ℕ) → first_passes is_ascii_digit cs ≡ true → front_of cs ≡ fronts.Digit
digit_front [] h = cc
digit_front (c ∷ cs) h = from_range (λ d. front_of (d ∷ cs) ≡ fronts.Digit) 10 48 c (ten cs) (grind (arith, nat_tests)) (grind (arith, nat_tests))

pub space_front : (cs : List ℕ) → first_passes is_space cs ≡ true → front_of cs ≡ fronts.Space
unfolding front_of
space_front [] h = cc
space_front (c ∷ cs) h = rw h refl

pub newline_front : (cs : List ℕ) → front_of (10 ∷ cs) ≡ fronts.LineEnd
unfolding front_of
newline_front cs = refl

pub quote_front : (cs : List ℕ) → front_of (34 ∷ cs) ≡ fronts.Quote
unfolding front_of
quote_front cs = refl

pub backquote_front : (cs : List ℕ) → front_of (96 ∷ cs) ≡ fronts.Backquote
unfolding front_of
backquote_front cs = refl

pub line_front : (cs : List ℕ) → front_of (47 ∷ 47 ∷ cs) ≡ fronts.LineComment
unfolding front_of
line_front cs = refl

pub general_front : (cs : List ℕ) → front_of (47 ∷ 42 ∷ cs) ≡ fronts.GeneralComment
unfolding front_of
general_front cs = refl

rune_front : (cs : List ℕ) → front_of (39 ∷ cs) ≡ fronts.Refused
unfolding front_of
rune_front cs = refl

fraction_front : (cs : List ℕ) → first_passes is_ascii_digit cs ≡ true → front_of (46 ∷ cs) ≡ fronts.Refused
unfolding front_of
fraction_front cs h = rw h refl

pub refused_front : (cs : List ℕ) → BeginsRefused cs → front_of cs ≡ fronts.Refused
refused_front cs h = elim h [ inl rune ↦ ap front_of rune.1 ∙ rune_front rune.0 | inr fraction ↦ ap front_of fraction.1 ∙ fraction_front fraction.0 fraction.2 ]

-- where no front is known, no comment, rune or fraction begins
pub other_begins : (cs : List ℕ) → front_of cs ≡ fronts.Other → (BeginsComment cs → ⊥) × (BeginsRefused cs → ⊥)
other_begins cs g = (
  λ h. elim h [
    | inl line ↦ (let no : fronts.Other ≡ fronts.LineComment = sym g ∙ ap front_of line.1 ∙ line_front line.0 in cc)
    | inr general ↦ (let no : fronts.Other ≡ fronts.GeneralComment = sym g ∙ ap front_of general.1 ∙ general_front general.0 in cc)
  ],
  λ h. let no : fronts.Other ≡ fronts.Refused = sym g ∙ refused_front cs h in cc,
)

-- where an operator may stand
abbrev pub marks : Front → Bool
marks fronts.LineComment = true
marks fronts.GeneralComment = true
marks fronts.Refused = true
marks fronts.Other = true
marks _ = false

pub mark_front : (cs : List ℕ) → first_passes is_mark cs ≡ true → marks (front_of cs) ≡ true
unfolding front_of
mark_front [] h = cc
mark_front (c ∷ cs) h =
    let a = or_false (is_space c || (c == 10) || (c == 34) || (c == 96) || letter c) (is_ascii_digit c) (not_true _ h) in
    let b = or_false (is_space c || (c == 10) || (c == 34) || (c == 96)) (letter c) a.0 in
    let d = or_false (is_space c || (c == 10) || (c == 34)) (c == 96) b.0 in
    let f = or_false (is_space c || (c == 10)) (c == 34) d.0 in
    let g = or_false (is_space c) (c == 10) f.0 in
    rw (g.0, g.1, f.1, d.1, b.1, a.1) (rest (c == 39) ((c == 47) && first_passes (λ d. d == 47) cs) ((c == 47) && first_passes (λ d. d == 42) cs) ((c == 46) && first_passes is_ascii_digit cs))
  where
    rest : (p q r s : Bool) → marks (cond p fronts.Refused (cond q fronts.LineComment (cond r fronts.GeneralComment (cond s fronts.Refused fronts.Other)))) ≡ true
    rest true q r s = refl
    rest false true r s = refl
    rest false false true s = refl
    rest false false false true = refl
    rest false false false false = refl

-- an operator stands where no comment, rune or fraction begins
pub mark_other : (cs : List ℕ) (f : Front) → front_of cs ≡ f → marks f ≡ true → (BeginsComment cs → ⊥) → (BeginsRefused cs → ⊥) → front_of cs ≡ fronts.Other
mark_other cs fronts.Nothing g m a b = cc
mark_other cs fronts.Space g m a b = cc
mark_other cs fronts.LineEnd g m a b = cc
mark_other cs fronts.Quote g m a b = cc
mark_other cs fronts.Backquote g m a b = cc
mark_other cs fronts.LineComment g m a b = absurd (a (inl (front_says cs fronts.LineComment g)))
mark_other cs fronts.GeneralComment g m a b = absurd (a (inr (front_says cs fronts.GeneralComment g)))
mark_other cs fronts.Refused g m a b = absurd (b (front_says cs fronts.Refused g))
mark_other cs fronts.Letter g m a b = cc
mark_other cs fronts.Digit g m a b = cc
mark_other cs fronts.Other g m a b = g
