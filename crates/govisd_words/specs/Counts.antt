-- The numbers that stand behind options.
use Rattle.std.specs.Prelude.{ℕ, ◌^◌, ◌&&◌, Bool, true, false, List, [], ◌∷◌, Option, Some, None, nat_lt, option_and_then, option_map, if◌then◌else◌}
use Rattle.std.specs.Char.{digit_value}
use Rattle.std.specs.Str.Parse.{digits_value, without_leading_plus}

-- each byte is a decimal digit
abbrev pub all_digits : List ℕ → Bool
all_digits [] = true
all_digits (c ∷ cs) = nat_lt (digit_value c) 10 && all_digits cs

-- one digit or more, and nothing else
abbrev pub is_numeral : List ℕ → Bool
is_numeral [] = false
is_numeral (c ∷ cs) = all_digits (c ∷ cs)

-- digits that write a number below 2^64
abbrev pub is_number : List ℕ → Bool
is_number digits = is_numeral digits && nat_lt (digits_value 10 digits) (2 ^ 64)

abbrev pub digits_number : List ℕ → Option ℕ
digits_number digits = if is_number digits then Some (digits_value 10 digits) else None

-- the number below 2^64 that a word writes in digits, where it writes one; a plus may stand first
abbrev pub number_of : List ℕ → Option ℕ
number_of word = digits_number (without_leading_plus word)

-- a number from 1 to 64
abbrev pub in_workers : ℕ → Option ℕ
in_workers n = if nat_lt n 1 then None else (if nat_lt 64 n then None else Some n)

-- how many workers are asked for: 1 where none are told, and nothing where what is told is no number from 1 to 64
abbrev pub workers_in : Option (List ℕ) → Option ℕ
workers_in None = Some 1
workers_in (Some word) = option_and_then in_workers (number_of word)

-- how many threads are asked for: none where none are told, and nothing where what is told is no number from 1 to 64
abbrev pub threads_in : Option (List ℕ) → Option (Option ℕ)
threads_in None = Some None
threads_in (Some word) = option_map (λ n. Some n) (workers_in (Some word))

-- after how many connections there is an end: after none where none are told, and nothing where what is told is no number below 2^64
abbrev pub connections_in : Option (List ℕ) → Option (Option ℕ)
connections_in None = Some None
connections_in (Some word) = option_map (λ n. Some n) (number_of word)

-- a number: this one where none is told, and nothing where what is told is no number below 2^64
abbrev pub number_or : ℕ → Option (List ℕ) → Option ℕ
number_or unless None = Some unless
number_or unless (Some word) = number_of word

-- how many seconds a peer may send nothing
abbrev pub idle_in : Option (List ℕ) → Option ℕ
idle_in = number_or 3600

-- how many seconds a peer may leave a reply unread
abbrev pub stall_in : Option (List ℕ) → Option ℕ
stall_in = number_or 60

-- after how many steps a run stops
abbrev pub steps_in : Option (List ℕ) → Option ℕ
steps_in = number_or 1000000000
