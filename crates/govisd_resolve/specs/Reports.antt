-- What a run over some bytes writes, by the rules alone.
use Rattle.std.specs.Prelude.{◌≡◌, ◌≢◌, ◌≤◌, ◌<◌, ℕ, Bool, true, false, List, [], ◌∷◌, length, Option, Ok, Err}
use Rattle.std.specs.Str.{IsUtf8}
use Rattle.std.specs.Io.KnownBytes.{Appends, Consumes, Keeps}
use Rattle.go_path_core.specs.text_core.declared.rule.Rule.{Rule}
use Rattle.go_path_core.specs.text_core.declared.rule.Rule.TheVariants.{E3, K3, L1, P1, P2}
use Rattle.go_tree_nodes.specs.token_core.declared.token.LexFault.{LexFault}
use Rattle.go_tree_nodes.specs.token_core.declared.token.Token.{Token}
use Rattle.go_scan_core.specs.Tokens.{IsAnswer}
use Rattle.go_tree_nodes.specs.Trees.{FileTree}
use Rattle.go_block_core.specs.graph_core.Packages.{blank}
use Rattle.go_package_core.specs.package_part.Parts.{FileOf}
use Rattle.govisd_resolve.specs.told_lines.Lines.{fault_line, file_lines}
use Rattle.go_parse_core.specs.Correct.{HasNoTree, HasNoLowTree}
use Rattle.go_parse_core.specs.Parsing.{IsParse}
use Rattle.go_parse_core.specs.Refusing.{IsRuleRead}
use Rattle.govisd_resolve.specs.declared.input.InputFault.{InputFault}
use Rattle.govisd_resolve.specs.declared.input.InputFault.TheVariants as input_faults
use Rattle.govisd_resolve.specs.declared.run.ResolveEnd.{ResolveEnd}
use Rattle.govisd_resolve.specs.declared.run.ResolveEnd.TheVariants.{Clean, Faults, ReadFault, WriteFault, Memory}
use Rattle.govisd_resolve.specs.Outputs.{IsCutShort}
use Rattle.govisd_resolve.specs.Alone.{StandsInFile, the_name}

-- the most bytes that a text may have
abbrev pub max_bytes : ℕ
max_bytes = 1048576

-- what bytes are: too many, no text, a text with a first fault of its tokens, a text whose tokens have no tree, so that reading them
-- stops by P1, or none that is low enough, so that it stops by P2, a file whose package has the blank name, or a file with what stands in it
pub data Input : Type 0 where
  TooLong : Input
  NoText : Input
  BadToken : LexFault → Input
  NoTree : ℕ → Input
  TooHigh : ℕ → Input
  NoName : FileTree → Input
  AFile : FileTree → FileOf → Input

-- a text of a length that is allowed
pub record IsText (bytes : List ℕ) : Type 0 where
  pub size : length bytes ≤ max_bytes
  pub utf8 : IsUtf8 bytes

-- a text that has tokens
pub record HasTokens (bytes : List ℕ) : Type 0 where
  pub text : IsText bytes
  pub tokens : List Token
  pub scanned : IsAnswer bytes (Ok tokens)

-- a text with this tree, which is low enough
pub record IsFile (bytes : List ℕ) (f : FileTree) : Type 0 where
  pub text : IsText bytes
  pub parse : IsParse bytes f

abbrev pub IsInputOfBytes : List ℕ → Input → Type 0
IsInputOfBytes bytes TooLong = max_bytes < length bytes
IsInputOfBytes bytes NoText = (length bytes ≤ max_bytes) × ¬ (IsUtf8 bytes)
IsInputOfBytes bytes (BadToken fault) = IsText bytes × IsAnswer bytes (Err fault)
IsInputOfBytes bytes (NoTree offset) = HasTokens bytes × HasNoTree bytes × IsRuleRead bytes P1 × (offset ≤ length bytes)
IsInputOfBytes bytes (TooHigh offset) = HasTokens bytes × HasNoLowTree bytes × IsRuleRead bytes P2 × (offset ≤ length bytes)
IsInputOfBytes bytes (NoName f) = IsFile bytes f × (f.name.name ≡ blank)
IsInputOfBytes bytes (AFile f found) = IsFile bytes f × (f.name.name ≢ blank) × StandsInFile bytes f found

abbrev pub the_fault : ℕ → Rule → List ℕ
the_fault offset rule = fault_line (record { offset = offset; rule = rule })

-- what is written
abbrev pub report : List ℕ → Input → List ℕ
report bytes TooLong = the_fault 0 E3
report bytes NoText = the_fault 0 L1
report bytes (BadToken fault) = the_fault fault.offset fault.rule
report bytes (NoTree offset) = the_fault offset P1
report bytes (TooHigh offset) = the_fault offset P2
report bytes (NoName f) = the_fault f.name.span.start K3
report bytes (AFile f found) = file_lines the_name f found.answers.uses found.answers.faults

abbrev pub has_no_items : {A : Type 0} → List A → Bool
has_no_items [] = true
has_no_items (x ∷ xs) = false

-- the status is that of a source without fault: nothing is reported of the file, neither a rule that an occurrence breaks nor a fault beside
abbrev pub is_input_clean : Input → Bool
is_input_clean TooLong = false
is_input_clean NoText = false
is_input_clean (BadToken fault) = false
is_input_clean (NoTree offset) = false
is_input_clean (TooHigh offset) = false
is_input_clean (NoName f) = false
is_input_clean (AFile f found) = has_no_items found.report

-- the report on the bytes was written, and it says whether there is a fault
pub record Reports (clean : Bool) (bytes : List ℕ) (old new : Option (List ℕ)) : Type 0 where
  pub input : Input
  pub is : IsInputOfBytes bytes input
  pub says : is_input_clean input ≡ clean
  pub writes : Appends old new (report bytes input)

-- the first bytes of the report were written, but not all, and nothing else
pub record ReportsPart (bytes : List ℕ) (old new : Option (List ℕ)) : Type 0 where
  pub input : Input
  pub is : IsInputOfBytes bytes input
  pub cut : IsCutShort old new (report bytes input)

-- how a run over these bytes ended, and what was written
abbrev pub IsEnd : ResolveEnd → List ℕ → Option (List ℕ) → Option (List ℕ) → Type 0
IsEnd Clean bytes old new = Reports true bytes old new
IsEnd Faults bytes old new = Reports false bytes old new
IsEnd ReadFault bytes old new = Keeps old new
IsEnd Memory bytes old new = Keeps old new
IsEnd WriteFault bytes old new = ReportsPart bytes old new

-- how a run ends whose input is not read, by why
abbrev pub end_of : InputFault → ResolveEnd
end_of (input_faults.Reader kind) = ReadFault
end_of input_faults.Memory = Memory

-- where a report was made, all the bytes were read, and no others
abbrev pub ReadsAll : ResolveEnd → List ℕ → Option (List ℕ) → Option (List ℕ) → Type 0
ReadsAll Clean bytes given left = Consumes given left bytes
ReadsAll Faults bytes given left = Consumes given left bytes
ReadsAll WriteFault bytes given left = Consumes given left bytes
ReadsAll ReadFault bytes given left = Unit {0}
ReadsAll Memory bytes given left = Unit {0}

-- the text of a report on the bytes, and whether it is of a source without fault
pub record IsReport (bytes : List ℕ) (clean : Bool) (text : List ℕ) : Type 0 where
  pub input : Input
  pub is : IsInputOfBytes bytes input
  pub says : is_input_clean input ≡ clean
  pub writes : text ≡ report bytes input

-- an input, but for the place where a text without a low tree is refused
abbrev pub but_for_place : Input → Input
but_for_place (NoTree offset) = NoTree 0
but_for_place (TooHigh offset) = TooHigh 0
but_for_place TooLong = TooLong
but_for_place NoText = NoText
but_for_place (BadToken fault) = BadToken fault
but_for_place (NoName f) = NoName f
but_for_place (AFile f found) = AFile f found

-- but for that, bytes are one input
abbrev pub OneInput : Type 0
OneInput = (bytes : List ℕ) (a b : Input) → IsInputOfBytes bytes a → IsInputOfBytes bytes b → but_for_place a ≡ but_for_place b
