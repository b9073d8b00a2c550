-- Where a daemon may be told to listen.
use Rattle.std.specs.Prelude.{ℕ, ◌==◌, ◌++◌, List, [], ◌∷◌, Option, Some, None, codes, length, nat_lt, option_and_then, option_map, if◌then◌else◌}
use Rattle.std.specs.List.{after_first, before_first, position_or_len}
use Rattle.govisd_words.specs.declared.addresses.Place.{Place}
use Rattle.govisd_words.specs.declared.addresses.Place.TheVariants.{Everywhere, Told}
use Rattle.govisd_words.specs.Counts.{number_of}

-- a port: a number below 2^16
abbrev pub in_ports : ℕ → Option ℕ
in_ports n = if nat_lt 65535 n then None else Some n

abbrev pub port_of : List ℕ → Option ℕ
port_of word = option_and_then in_ports (number_of word)

-- what stands behind a mark, where a text begins with it
abbrev pub behind : ℕ → List ℕ → Option (List ℕ)
behind mark [] = None
behind mark (b ∷ bs) = if b == mark then Some bs else None

-- what stands before the first place of a mark, and what behind it, where it is in a text
abbrev pub parted : ℕ → List ℕ → Option (List ℕ × List ℕ)
parted mark text =
    if nat_lt (position_or_len (λ b. b == mark) text) (length text) then Some (before_first (λ b. b == mark) text, after_first (λ b. b == mark) text) else None

-- the place of a host, which is empty where a port stands alone, and of the word for its port
abbrev pub place_if : List ℕ → Option ℕ → Option Place
place_if host None = None
place_if [] (Some port) = Some (Everywhere port)
place_if (b ∷ bs) (Some port) = Some Told

abbrev pub place_with : List ℕ × List ℕ → Option Place
place_with (host, port) = place_if host (port_of port)

-- where a number stands in brackets, the port is behind a colon behind them
abbrev pub told_behind : List ℕ → Option Place
told_behind rest = option_map (λ port. Told) (option_and_then port_of (behind 58 rest))

-- the place that a text without its first bracket tells
abbrev pub bracketed_place : List ℕ → Option Place
bracketed_place text = option_and_then (λ (parts : List ℕ × List ℕ). told_behind parts.1) (parted 93 text)

-- the place that a text without brackets tells
abbrev pub plain_place : List ℕ → Option Place
plain_place text = option_and_then place_with (parted 58 text)

abbrev pub place_by : List ℕ → Option (List ℕ) → Option Place
place_by text None = plain_place text
place_by text (Some rest) = bracketed_place rest

-- the place that an address is of: a colon and a port alone are every address of the machine, a host and a port are told, where a number of version 6 of the
-- protocol stands in brackets; and nothing else is an address
abbrev pub place_in : List ℕ → Option Place
place_in text = place_by text (behind 91 text)

-- a text is none
abbrev pub bad_address_text : List ℕ → List ℕ
bad_address_text address = codes "govisd: " ++ address ++ codes " is no address with a port, as 127.0.0.1:7000 or :7000\ngovisd: the command line is refused\n"
