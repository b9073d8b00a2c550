-- Messages, each with a head of lines that `\r\n` ends and an empty line after them.
use Rattle.std.specs.Char.{to_ascii_lowercase}
use Rattle.std.specs.Io.KnownBytes.{Appends, Keeps, prepend_known}
use Rattle.go_lsp_core.specs.declared.frames.reading.FrameEnd.{FrameEnd}
use Rattle.go_lsp_core.specs.declared.frames.reading.FrameEnd.TheVariants.{Done, Cut, LongHead, NoLength, LongBody, ReadFault, Turns, Memory}
use Rattle.go_lsp_core.specs.declared.frames.writing.SendFault.{SendFault}
use Rattle.go_lsp_core.specs.declared.frames.writing.SendFault.TheVariants as faults
use Rattle.std.specs.Prelude.{decimal, ◌≡◌, ◌≤◌, ◌<◌, ◌+◌, ◌-◌, ◌*◌, ◌==◌, ◌&&◌, ◌||◌, ◌⊎◌, ℕ, suc, Bool, true, false, min, nat_le, List, [], ◌∷◌, ◌++◌, length, take, drop, codes, Option, Some, None, ⊤, if◌then◌else◌}

-- the most bytes of a head, and of a message
abbrev pub most_head : ℕ
most_head = 4096

abbrev pub most_body : ℕ
most_body = 67108864

-- the greatest length that is told from greater ones
abbrev pub most_length : ℕ
most_length = 1000000000000000000

-- an end of a line and an empty line
abbrev pub ends_head : List ℕ → Bool
ends_head [] = false
ends_head (a ∷ []) = false
ends_head (a ∷ b ∷ []) = false
ends_head (a ∷ b ∷ c ∷ []) = false
ends_head (a ∷ b ∷ c ∷ d ∷ more) = (a == 13) && ((b == 10) && ((c == 13) && (d == 10)))

-- where the head ends, in bytes that stand after so many of it
abbrev pub head_from : ℕ → List ℕ → Option ℕ
head_from n [] = None
head_from n (b ∷ bs) = if ends_head (b ∷ bs) then Some (n + 4) else head_from (suc n) bs

-- how many bytes the head has that the bytes begin with
abbrev pub head_in : List ℕ → Option ℕ
head_in bytes = head_from 0 (take most_head bytes)

-- a number with one digit more, or one more than the greatest length where it is more
abbrev pub as_digit : ℕ → ℕ → ℕ
as_digit n b = min (10 * n + (b - 48)) (most_length + 1)

abbrev pub is_digit : ℕ → Bool
is_digit b = nat_le 48 b && nat_le b 57

-- a number that is begun, with the digits up to a carriage return
abbrev pub digits : ℕ → List ℕ → Option ℕ
digits n [] = None
digits n (b ∷ bs) = if is_digit b then digits (as_digit n b) bs else if b == 13 then Some n else None

-- the number after spaces
abbrev pub number_in : List ℕ → Option ℕ
number_in [] = None
number_in (b ∷ bs) = if (b == 32) || (b == 9) then number_in bs else if is_digit b then digits 0 (b ∷ bs) else None

-- they begin with these letters, small or great
abbrev pub begins_with : List ℕ → List ℕ → Bool
begins_with [] bytes = true
begins_with (c ∷ cs) [] = false
begins_with (c ∷ cs) (b ∷ bs) = (to_ascii_lowercase b == c) && begins_with cs bs

-- the field that says how long the message is begins here
abbrev pub is_named : List ℕ → Bool
is_named bytes = begins_with (codes "content-length:") bytes

-- the length by the first such field of these bytes, which may begin at the start of a line
abbrev pub length_from : Bool → List ℕ → Option ℕ
length_from starts [] = None
length_from starts (b ∷ bs) = if starts && is_named (b ∷ bs) then number_in (drop 15 (b ∷ bs)) else length_from (b == 10) bs

-- how many bytes a message has by its head; each length over the greatest that is told counts as one more than that
abbrev pub content_length : List ℕ → Option ℕ
content_length head = length_from true head

-- ---- what is read

-- all that stands before the end of the input, where that is known: what was read and is not taken yet, and what is left in the reader
abbrev pub stream : List ℕ → Option (List ℕ) → Option (List ℕ)
stream pending left = prepend_known pending left

-- what holds of what stood before the end of the input and of what stands there now, where that is known
abbrev pub Took : Option (List ℕ) → Option (List ℕ) → (List ℕ → List ℕ → Type 0) → Type 0
Took None new P = ⊤
Took (Some all) None P = ⊥
Took (Some all) (Some left) P = P all left

-- the bytes are a head, this message and those that are left
pub record IsMessage (message all left : List ℕ) : Type 0 where
  pub head : ℕ
  pub found : head_in all ≡ Some head
  pub long : content_length (take head all) ≡ Some (length message)
  pub short : length message ≤ most_body
  pub whole : all ≡ take head all ++ (message ++ left)

-- the bytes are the first ones of a message, and not all
abbrev pub IsCut : List ℕ → Type 0
IsCut all =
    ((head_in all ≡ None) × (0 < length all) × (length all < most_head))
    ⊎ ((head : ℕ) × (n : ℕ) × (head_in all ≡ Some head) × (content_length (take head all) ≡ Some n) × (length all < head + n))

-- the bytes begin with the head of a message that is too long
abbrev pub SaysLong : List ℕ → Type 0
SaysLong all = (head : ℕ) × (n : ℕ) × (head_in all ≡ Some head) × (content_length (take head all) ≡ Some n) × (most_body < n)

-- why the bytes gave no message, and what is left of them
abbrev pub IsEnd : FrameEnd → List ℕ → List ℕ → Type 0
IsEnd Done all left = all ≡ []
IsEnd Cut all left = IsCut all
IsEnd LongHead all left = (head_in all ≡ None) × (most_head ≤ length all)
IsEnd NoLength all left = (head : ℕ) × (head_in all ≡ Some head) × (content_length (take head all) ≡ None) × (left ≡ drop head all)
IsEnd LongBody all left = (head : ℕ) × (n : ℕ) × (head_in all ≡ Some head) × (content_length (take head all) ≡ Some n) × (most_body < n) × (left ≡ drop n (drop head all))
IsEnd ReadFault all left = (left ≡ all) ⊎ SaysLong all
IsEnd Turns all left = (left ≡ all) ⊎ SaysLong all
IsEnd Memory all left = ⊤

-- the next message can be read all the same
abbrev pub goes_on : FrameEnd → Bool
goes_on Done = false
goes_on Cut = false
goes_on LongHead = false
goes_on NoLength = true
goes_on LongBody = true
goes_on ReadFault = false
goes_on Turns = false
goes_on Memory = false

-- ---- what goes out

-- a message with its head before it
abbrev pub frame_of : List ℕ → List ℕ
frame_of message = codes "Content-Length: " ++ (decimal (length message) ++ (13 ∷ 10 ∷ 13 ∷ 10 ∷ message))

-- not all of the bytes went out that are to, or they were not flushed
abbrev pub IsUnsent : SendFault → Option (List ℕ) → Option (List ℕ) → List ℕ → Type 0
IsUnsent faults.Memory old new bytes = Keeps old new
IsUnsent (faults.Writer kind) old new bytes = (count : ℕ) × Appends old new (take count bytes)
