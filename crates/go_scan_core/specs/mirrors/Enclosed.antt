-- Strings and general comments: what stands between an opening and a closing.
use Rattle.std.specs.Prelude.{◌≤◌, ℕ, zero, suc, ◌+◌, ◌-◌, ◌==◌, ◌&&◌, if◌then◌else◌, List, [], ◌∷◌, length, drop, Option, Some, None, Result, Ok, Err}
use Rattle.go_token_core.specs.text_core.declared.rule.Rule.{Rule}
use Rattle.go_token_core.specs.text_core.declared.rule.Rule.TheVariants.{L1, L2, L3}
use Rattle.go_token_core.specs.declared.escapes.Meaning.{Meaning}
use Rattle.go_scan_core.specs.declared.enclosed.Enclosure.{Enclosure}
use Rattle.go_scan_core.specs.declared.enclosed.Enclosure.TheVariants.{General, Quoted, Raw}
use Rattle.go_scan_core.specs.declared.enclosed.Flaw.{Flaw}
use Rattle.go_scan_core.specs.declared.enclosed.Flaw.TheVariants.{Forbidden, Bad, Open}
use Rattle.go_scan_core.specs.declared.enclosed.Item.{Item}
use Rattle.go_scan_core.specs.declared.enclosed.Item.TheVariants as items
use Rattle.go_token_core.specs.Characters.{first_passes, is_forbidden}
use Rattle.go_scan_core.specs.Enclosed.{closing, opening}
use Rattle.go_token_core.specs.Escapes.{escape_at}

abbrev pub comment_item : List ℕ → Item
comment_item [] = items.Open
comment_item (c ∷ cs) = if is_forbidden c then items.Forbidden else (if (c == 42) && first_passes (λ d. d == 47) cs then items.End else items.Characters 1)

abbrev pub raw_item : List ℕ → Item
raw_item [] = items.Open
raw_item (c ∷ cs) = if is_forbidden c then items.Forbidden else (if c == 96 then items.End else items.Characters 1)

abbrev pub escape_item : Option (Meaning × ℕ) → Item
escape_item None = items.Bad
escape_item (Some x) = items.Characters (x.1 + 1)

abbrev pub quoted_item : List ℕ → Item
quoted_item [] = items.Open
quoted_item (c ∷ cs) =
    if is_forbidden c then items.Forbidden
    else (if c == 34 then items.End
    else (if c == 10 then items.Open
    else (if c == 92 then escape_item (escape_at cs)
    else items.Characters 1)))

-- what stands next behind the opening
unfoldable pub item_at : Enclosure → List ℕ → Item
item_at General cs = comment_item cs
item_at Quoted cs = quoted_item cs
item_at Raw cs = raw_item cs

abbrev pub one_more : Result ℕ Flaw → Result ℕ Flaw
one_more (Ok n) = Ok (n + 1)
one_more (Err (Forbidden n)) = Err (Forbidden (n + 1))
one_more (Err Bad) = Err Bad
one_more (Err Open) = Err Open

abbrev pub body_next : Enclosure → Item → (ℕ → Result ℕ Flaw) → Result ℕ Flaw
body_next e (items.Characters n) more = one_more (more (n - 1))
body_next e items.End more = Ok (length (closing e))
body_next e items.Forbidden more = Err (Forbidden 0)
body_next e items.Bad more = Err Bad
body_next e items.Open more = Err Open

-- how many characters stand up to the end of the closing, or the first flaw; `skip` are passed over
unfoldable pub body : Enclosure → List ℕ → ℕ → Result ℕ Flaw
body e [] skip = Err Open
body e (c ∷ cs) (suc skip) = one_more (body e cs skip)
body e (c ∷ cs) zero = body_next e (item_at e (c ∷ cs)) (λ skip. body e cs skip)

-- what is counted is no more than this
abbrev pub CountsWithin : Result ℕ Flaw → ℕ → Type 0
CountsWithin (Ok n) most = n ≤ most
CountsWithin (Err (Forbidden n)) most = n ≤ most
CountsWithin (Err Bad) most = Unit {0}
CountsWithin (Err Open) most = Unit {0}

-- a result behind so many characters
abbrev pub behind : ℕ → Result ℕ Flaw → Result ℕ Flaw
behind k (Ok n) = Ok (k + n)
behind k (Err (Forbidden n)) = Err (Forbidden (k + n))
behind k (Err Bad) = Err Bad
behind k (Err Open) = Err Open

-- an answer behind an opening of so many characters
abbrev pub placed : ℕ → Result ℕ Flaw → Result ℕ (Rule × ℕ)
placed k (Ok n) = Ok (k + n)
placed k (Err (Forbidden n)) = Err (L1, k + n)
placed k (Err Bad) = Err (L3, 0)
placed k (Err Open) = Err (L2, 0)

-- how many characters the lexeme has that begins with the opening, or the rule that it breaks and
-- how many characters stand before the place of the fault
unfoldable pub enclosed_at : Enclosure → List ℕ → Result ℕ (Rule × ℕ)
enclosed_at e cs = placed (length (opening e)) (body e (drop (length (opening e)) cs) 0)
