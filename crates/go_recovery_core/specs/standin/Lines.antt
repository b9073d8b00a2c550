-- Lines of a text, each ended by `\n`.
use Rattle.std.specs.Prelude.{ℕ, zero, suc, ◌+◌, ◌-◌, ◌==◌, List, [], ◌∷◌, drop, length, max, min, if◌then◌else◌}
use Rattle.go_recovery_core.specs.declared.standin.part.Interval.{Interval}

-- where the line starts that an offset is in, which lies so many bytes further, of bytes that stand at `at` on a line that starts at `start`
abbrev pub start_from : ℕ → ℕ → List ℕ → ℕ → ℕ
start_from start at [] n = start
start_from start at (b ∷ bs) zero = start
start_from start at (b ∷ bs) (suc n) = start_from (if b == 10 then suc at else start) (suc at) bs n

-- where the line starts that an offset is in
abbrev pub line_start : List ℕ → ℕ → ℕ
line_start text offset = start_from 0 0 text offset

-- how many bytes stand before the first `\n`
abbrev pub before_newline : List ℕ → ℕ
before_newline [] = 0
before_newline (b ∷ bs) = if b == 10 then 0 else suc (before_newline bs)

-- where the line ends that an offset is in
abbrev pub line_end : List ℕ → ℕ → ℕ
line_end text offset = min offset (length text) + before_newline (drop offset text)

-- the offset of the last byte of a part, or where the part is if it has none
abbrev pub last_of : Interval → ℕ
last_of part = max part.start (part.end - 1)

-- the lines that a part touches
abbrev pub lines_of : List ℕ → Interval → Interval
lines_of text part = record { start = line_start text part.start; end = line_end text (last_of part) }
