-- What is said.
use Rattle.std.specs.Prelude.{◌≡◌, ◌⊎◌, ℕ, Bool, true, false, List, Option, string_bytes}
use Rattle.std.specs.Io.KnownBytes.{Appends, Keeps}
use Rattle.std.specs.declared.io.ErrorKind.{ErrorKind}
use Rattle.govisd_resolve.specs.Outputs.{IsCutShort}
use Rattle.govisd_resolve.specs.declared.run.ResolveEnd.TheVariants.{Memory}
use Rattle.govisd_folders.specs.declared.checking.CheckAnswer.{CheckAnswer}
use Rattle.govisd.specs.declared.program.Ran.{Ran}
use Rattle.govisd_words.specs.Texts.{end_text, unwritten_text}

-- all of a text was written, or the first bytes alone
abbrev pub SaysText : Bool → List ℕ → Option (List ℕ) → Option (List ℕ) → Type 0
SaysText true text old new = Appends old new text
SaysText false text old new = IsCutShort old new text

-- memory ran out, and that is said
abbrev pub RunsOut : Ran → Option (List ℕ) → Option (List ℕ) → Type 0
RunsOut ran err err' = (ran.status ≡ 1) × SaysText ran.is_told (end_text Memory) err err'

-- where what came before was told, this text was said, or the first bytes alone; and else nothing
abbrev pub SaysMore : Bool → Bool → List ℕ → Option (List ℕ) → Option (List ℕ) → Type 0
SaysMore true told text old new = SaysText told text old new
SaysMore false told text old new = (told ≡ false) × Keeps old new

-- what was asked for could not be written whole, and that was said, or nothing where nobody reads it any more
pub record SaysUnwritten (ran : Ran) (err err' : Option (List ℕ)) : Type 0 where
  pub kind : ErrorKind
  pub status : ran.status ≡ 1
  pub says : SaysText ran.is_told (unwritten_text kind) err err'

-- an answer was written, and what there is to say beside was said; or it could not be written whole
abbrev pub WritesAnswer : CheckAnswer → Ran → Option (List ℕ) → Option (List ℕ) → Option (List ℕ) → Option (List ℕ) → Type 0
WritesAnswer answer ran out out' err err' =
    ((ran.status ≡ answer.status) × Appends out out' (string_bytes answer.text) × SaysText ran.is_told (string_bytes answer.said) err err')
    ⊎ (IsCutShort out out' (string_bytes answer.text) × SaysUnwritten ran err err')
