-- What was done where a line, a piece or a turn was served.
use Rattle.std.specs.Prelude.{◌≡◌, ◌≤◌, ℕ, List, [], ◌∷◌, ◌++◌, length, take, flat_map, Bool, false, Option, None, IfSome}
use Rattle.std.specs.List.{All, AllByRecursion}
use Rattle.std.specs.Io.KnownBytes.{Appends, Consumes}
use Rattle.go_text_core.specs.declared.rule.Rule.TheVariants.{V1}
use Rattle.go_wire_core.specs.declared.request.Request.{Request}
use Rattle.go_wire_core.specs.declared.reply.WireReply.{WireReply}
use Rattle.go_wire_core.specs.declared.reply.WireReply.TheVariants.{Refused}
use Rattle.go_wire_core.specs.declared.serving.ServeEnd.{ServeEnd}
use Rattle.go_wire_core.specs.declared.serving.ServeEnd.TheVariants.{Done, TooLong, ReadFault, WriteFault, Turns, Memory}
use Rattle.go_wire_core.specs.declared.step.Step.{Step}
use Rattle.go_wire_core.specs.Lines.{is_newline, lines, most_bytes}
use Rattle.go_wire_core.specs.Replies.{line_of}
use Rattle.go_wire_core.specs.Steps.{steps_of, wire}
use Rattle.go_wire_core.specs.Ends.{IsShort, Served, ServedFirst, ServedUpTo}

-- ---- lines

-- bytes within one line
abbrev pub IsWithin : List ℕ → Type 0
IsWithin line = All (λ b. is_newline b ≡ false) line

-- the bytes are no more than a line may have
pub record IsLine (line : List ℕ) : Type 0 where
  pub within : IsWithin line
  pub short : length line ≤ most_bytes

-- the lines, each with its newline behind it
abbrev pub ended : List (List ℕ) → List ℕ
ended = flat_map (λ line. line ++ 10 ∷ [])

-- ---- where serving stops

-- the end is a fault of the writer
abbrev pub IsWriteFault : ServeEnd → Type 0
IsWriteFault end = end ≡ WriteFault

-- a reply was not sent: of its line only the first bytes were written where a write or a flush failed, and nothing where memory ran out
abbrev pub IsUnsent : ServeEnd → Option (List ℕ) → Option (List ℕ) → List ℕ → Type 0
IsUnsent Done old new line = ⊥
IsUnsent TooLong old new line = ⊥
IsUnsent ReadFault old new line = ⊥
IsUnsent WriteFault old new line = (count : ℕ) × Appends old new (take count line)
IsUnsent Turns old new line = ⊥
IsUnsent Memory old new line = Appends old new []

-- a write or a flush failed, or memory ran out
abbrev pub IsStop : {D : Type 0} → ServeEnd → (D → Request → WireReply → D → Type 0) → List Step → D → D → Option (List ℕ) → Option (List ℕ) → Type 0
IsStop Done answers steps d e old new = ⊥
IsStop TooLong answers steps d e old new = ⊥
IsStop ReadFault answers steps d e old new = ⊥
IsStop WriteFault answers steps d e old new = ServedUpTo answers steps d e old new
IsStop Turns answers steps d e old new = ⊥
IsStop Memory answers steps d e old new = ServedFirst answers steps d e old new

-- the refusal of a line that is too long was sent, or was not
abbrev pub IsRefusedLong : ServeEnd → Option (List ℕ) → Option (List ℕ) → Type 0
IsRefusedLong Done old new = ⊥
IsRefusedLong TooLong old new = Appends old new (line_of None (Refused V1))
IsRefusedLong ReadFault old new = ⊥
IsRefusedLong WriteFault old new = IsUnsent WriteFault old new (line_of None (Refused V1))
IsRefusedLong Turns old new = ⊥
IsRefusedLong Memory old new = IsUnsent Memory old new (line_of None (Refused V1))

-- how serving these lines ended
abbrev pub IsEndOfLines : {D : Type 0} → ServeEnd → Bool → (D → Request → WireReply → D → Type 0) → List (List ℕ) → D → D → Option (List ℕ) → Option (List ℕ) → Type 0
IsEndOfLines Done numbered answers ls d e old new = Served answers (wire numbered ls) d e old new × AllByRecursion IsShort ls
IsEndOfLines TooLong numbered answers ls d e old new = Served answers (wire numbered ls) d e old new × ¬ (AllByRecursion IsShort ls)
IsEndOfLines ReadFault numbered answers ls d e old new = ⊥
IsEndOfLines WriteFault numbered answers ls d e old new = ServedUpTo answers (wire numbered ls) d e old new
IsEndOfLines Turns numbered answers ls d e old new = ⊥
IsEndOfLines Memory numbered answers ls d e old new = ServedFirst answers (wire numbered ls) d e old new

-- ---- bytes that come

-- bytes came behind a line that is begun: the whole lines were served, and this one is begun now
pub record Going {D : Type 0} (numbered : Bool) (answers : D → Request → WireReply → D → Type 0) (old_begun came begun : List ℕ) (d e : D) (old new : Option (List ℕ)) : Type 0 where
  pub before : List (List ℕ)
  pub cut : old_begun ++ came ≡ ended before ++ begun
  pub each : AllByRecursion IsLine before
  pub rest : IsLine begun
  pub served : Served answers (flat_map (steps_of numbered) before) d e old new

-- how a turn ended serving, behind a line that is begun
abbrev pub IsEndOfTurn : {D : Type 0} → ServeEnd → Bool → (D → Request → WireReply → D → Type 0) → List ℕ → Option (List ℕ) → Option (List ℕ) → D → D → Option (List ℕ) → Option (List ℕ) → Type 0
IsEndOfTurn Done numbered answers begun given left d e old new = IfSome given (λ bytes. IsEndOfLines Done numbered answers (lines (begun ++ bytes)) d e old new)
IsEndOfTurn TooLong numbered answers begun given left d e old new = IfSome given (λ bytes. IsEndOfLines TooLong numbered answers (lines (begun ++ bytes)) d e old new)
IsEndOfTurn ReadFault numbered answers begun given left d e old new = (e ≡ d) × Consumes given left [] × Appends old new []
IsEndOfTurn WriteFault numbered answers begun given left d e old new = IfSome given (λ bytes. IsEndOfLines WriteFault numbered answers (lines (begun ++ bytes)) d e old new)
IsEndOfTurn Turns numbered answers begun given left d e old new = ⊥
IsEndOfTurn Memory numbered answers begun given left d e old new = IfSome given (λ bytes. IsEndOfLines Memory numbered answers (lines (begun ++ bytes)) d e old new)
