-- What begins at the front of a text.
use Rattle.std.specs.Prelude.{ℕ, ◌==◌, ◌&&◌, if◌then◌else◌, List, [], ◌∷◌}
use Rattle.std.specs.Char.{is_ascii_digit}
use Rattle.go_token_core.specs.text_core.Text.{letter}
use Rattle.go_scan_core.specs.declared.front.Front.{Front}
use Rattle.go_scan_core.specs.declared.front.Front.TheVariants.{Nothing, Space, LineEnd, Quote, Backquote, LineComment, GeneralComment, Refused, Letter, Digit, Other}
use Rattle.go_token_core.specs.Characters.{first_passes, is_space}

unfoldable pub front_of : List ℕ → Front
front_of [] = Nothing
front_of (c ∷ cs) =
    if is_space c then Space
    else (if c == 10 then LineEnd
    else (if c == 34 then Quote
    else (if c == 96 then Backquote
    else (if c == 39 then Refused
    else (if (c == 47) && first_passes (λ d. d == 47) cs then LineComment
    else (if (c == 47) && first_passes (λ d. d == 42) cs then GeneralComment
    else (if (c == 46) && first_passes is_ascii_digit cs then Refused
    else (if letter c then Letter
    else (if is_ascii_digit c then Digit
    else Other)))))))))
