-- How faults are written.
use Rattle.std.specs.Prelude.{◌≡◌, ◌≢◌, ◌<◌, ◌-◌, ◌==◌, ℕ, Bool, true, false, nat_le, List, [], ◌∷◌, ◌++◌, get_or, length, take, Option, Some, None, codes, decimal, string_bytes, if◌then◌else◌}
use Rattle.go_path_core.specs.text_core.Rules.{rule_number}
use Rattle.go_path_core.specs.text_core.declared.rule.Rule.{Rule}
use Rattle.go_path_core.specs.text_core.declared.rule.Rule.TheVariants.{L1}
use Rattle.go_explain_core.specs.Meanings.{rule_meaning}
use Rattle.go_folder_core.specs.Folders.{joined_path}
use Rattle.go_folder_core.specs.Places.{IsPosition}
use Rattle.go_folder_core.specs.declared.orders.Format.{Format}
use Rattle.go_folder_core.specs.declared.orders.Format.TheVariants as format
use Rattle.go_folder_core.specs.declared.places.Position.{Position}
use Rattle.go_graph_core.specs.Sources.{SourceModel}
use Rattle.go_graph_core.specs.Workspaces.{PackageModel}
use Rattle.go_diagnostic_core.specs.snap_core.declared.fault.PlacedFault.{PlacedFault}
use Rattle.go_diagnostic_core.specs.snap_core.Faults.{LiesIn}
use Rattle.go_cause_core.specs.Causes.{AreCauses}
use Rattle.go_cause_core.specs.Names.{AreRepeated}
use Rattle.govisd_disk.specs.Scopes.{ScopeModel, packages_in, source_at}
use Rattle.govisd_folders.specs.Selecting.{follows, joined_by, shown_in, told_by, told_in}
use Rattle.go_cause_core.specs.declared.cause.Cause.{Cause}
use Rattle.govisd_folders.specs.declared.looks.Look.{Look}
use Rattle.govisd_folders.specs.declared.selecting.Told.{Told}
use Rattle.govisd_folders.specs.declared.telling.Report.{Report}

-- a place of a file, as `cart/cart.go:7:9`
abbrev pub position_text : List ℕ → Position → List ℕ
position_text file at = file ++ codes ":" ++ decimal at.line ++ codes ":" ++ decimal at.column

-- what the line of a fault begins with: the place, and the number of the rule
abbrev pub plain_front : List ℕ → Position → Rule → List ℕ
plain_front file at rule = position_text file at ++ codes ": " ++ rule_number rule ++ codes " "

-- the same in colours of a terminal: the place is bold, and the number of the rule red
abbrev pub bold_text : List ℕ
bold_text = 27 ∷ codes "[1m"

abbrev pub red_text : List ℕ
red_text = 58 ∷ 27 ∷ 91 ∷ 48 ∷ 109 ∷ 32 ∷ 27 ∷ codes "[1;31m"

abbrev pub plain_text : List ℕ
plain_text = 27 ∷ codes "[0m "

abbrev pub painted_front : List ℕ → Position → Rule → List ℕ
painted_front file at rule = bold_text ++ position_text file at ++ red_text ++ rule_number rule ++ plain_text

abbrev pub line_front : Bool → List ℕ → Position → Rule → List ℕ
line_front true file at rule = painted_front file at rule
line_front false file at rule = plain_front file at rule

-- as a JSON object: the first members of it, which are the place, the rule and what it means, with the package and the offset in bytes
abbrev pub json_front : List ℕ → List ℕ → Position → ℕ → Rule → List ℕ
json_front path file at offset rule =
    codes "{\"column\":" ++ decimal at.column
    ++ codes ",\"file\":\"" ++ file
    ++ codes "\",\"line\":" ++ decimal at.line
    ++ codes ",\"meaning\":\"" ++ rule_meaning rule
    ++ codes "\",\"offset\":" ++ decimal offset
    ++ codes ",\"package\":\"" ++ path
    ++ codes "\",\"rule\":\"" ++ rule_number rule
    ++ codes "\""

-- as a command of GitHub's workflows: what it begins with
abbrev pub level_text : Bool → List ℕ
level_text true = codes "::notice title="
level_text false = codes "::error title="

abbrev pub github_front : Bool → List ℕ → Position → Rule → List ℕ
github_front follows file at rule =
    level_text follows ++ rule_number rule ++ codes ",file=" ++ file ++ codes ",line=" ++ decimal at.line ++ codes ",col=" ++ decimal at.column

-- as a result of SARIF: what it begins with
abbrev pub result_text : Bool → List ℕ
result_text true = codes "\",\"level\":\"note"
result_text false = codes "\",\"level\":\"error"

abbrev pub comma_text : Bool → List ℕ
comma_text true = []
comma_text false = codes ","

abbrev pub sarif_front : Bool → Bool → List ℕ → Position → ℕ → Rule → List ℕ
sarif_front is_first follows file at offset rule =
    comma_text is_first
    ++ codes "{\"ruleId\":\"" ++ rule_number rule
    ++ result_text follows
    ++ codes "\",\"locations\":[{\"physicalLocation\":{\"artifactLocation\":{\"uri\":\"" ++ file
    ++ codes "\",\"uriBaseId\":\"%SRCROOT%\"},\"region\":{\"startLine\":" ++ decimal at.line
    ++ codes ",\"byteOffset\":" ++ decimal offset

-- no byte ends a line
abbrev pub IsInLine : List ℕ → Type 0
IsInLine words = (i : ℕ) → i < length words → get_or words i 0 ≢ 10

-- words and the end of their line are written after what was there
pub record AddsWords (old new : List ℕ) : Type 0 where
  pub words : List ℕ
  pub one_line : IsInLine words
  pub is : new ≡ old ++ (words ++ codes "\n")

-- lines that begin with a blank
pub data AreBelow : List ℕ → Type 0 where
  IsNone : AreBelow []
  HasMore : (words text : List ℕ) → IsInLine words → AreBelow text → AreBelow (text ++ (codes " " ++ (words ++ codes "\n")))

abbrev pub AddsBelow : List ℕ → List ℕ → Type 0
AddsBelow old new = (below : List ℕ) × AreBelow below × (new ≡ old ++ below)

-- a line with a fault: what it begins with, and words
pub record IsLineOf (front line : List ℕ) : Type 0 where
  pub words : List ℕ
  pub one_line : IsInLine words
  pub is : line ≡ front ++ (words ++ codes "\n")

-- the same with lines below it
pub record IsTextOf (front text : List ℕ) : Type 0 where
  pub line : List ℕ
  pub first : IsLineOf front line
  pub below : List ℕ
  pub lines : AreBelow below
  pub is : text ≡ line ++ below

-- a fault in a form; of SARIF, whether it is the first
abbrev pub IsForm : Format → Bool → Bool → Bool → List ℕ → List ℕ → Position → ℕ → Rule → List ℕ → Type 0
IsForm format.Text color is_first follows path file at offset rule text = IsTextOf (line_front color file at rule) text
IsForm format.Json color is_first follows path file at offset rule text = IsLineOf (json_front path file at offset rule) text
IsForm format.Github color is_first follows path file at offset rule text = IsLineOf (github_front follows file at rule) text
IsForm format.Sarif color is_first follows path file at offset rule text = IsLineOf (sarif_front is_first follows file at offset rule) text

-- these are written after what was there
abbrev pub AddsLine : List ℕ → List ℕ → List ℕ → Type 0
AddsLine front old new = (line : List ℕ) × IsLineOf front line × (new ≡ old ++ line)

abbrev pub AddsText : List ℕ → List ℕ → List ℕ → Type 0
AddsText front old new = (text : List ℕ) × IsTextOf front text × (new ≡ old ++ text)

abbrev pub AddsForm : Format → Bool → Bool → Bool → List ℕ → List ℕ → Position → ℕ → Rule → List ℕ → List ℕ → Type 0
AddsForm form color is_first follows path file at offset rule old new =
    (text : List ℕ) × IsForm form color is_first follows path file at offset rule text × (new ≡ old ++ text)

-- what is said at a place that has no fault: a line that begins with the place
abbrev pub note_front : List ℕ → Position → List ℕ
note_front file at = position_text file at ++ codes ": note: "

pub record IsNote (line : List ℕ) : Type 0 where
  pub file : List ℕ
  pub at : Position
  pub is : IsLineOf (note_front file at) line

pub data AreNotes : List ℕ → Type 0 where
  NoNote : AreNotes []
  HasNote : (line text : List ℕ) → IsNote line → AreNotes text → AreNotes (text ++ line)

pub record AddsNote (old new : List ℕ) : Type 0 where
  pub file : List ℕ
  pub at : Position
  pub line : AddsLine (note_front file at) old new

abbrev pub AddsNotes : List ℕ → List ℕ → Type 0
AddsNotes old new = (notes : List ℕ) × AreNotes notes × (new ≡ old ++ notes)

-- it is said in a text alone
abbrev pub AreBeside : Format → List ℕ → Type 0
AreBeside format.Text notes = AreNotes notes
AreBeside format.Json notes = notes ≡ []
AreBeside format.Github notes = notes ≡ []
AreBeside format.Sarif notes = notes ≡ []

abbrev pub AddsBeside : Format → List ℕ → List ℕ → Type 0
AddsBeside format.Text old new = AddsNotes old new
AddsBeside format.Json old new = new ≡ old
AddsBeside format.Github old new = new ≡ old
AddsBeside format.Sarif old new = new ≡ old

-- a fault at its place in a text
abbrev pub IsFault : Look → List ℕ → List ℕ → Position → Bool → Told → List ℕ → Type 0
IsFault look path file at is_first t text = IsForm look.format look.color is_first (follows t) path file at t.fault.offset t.fault.rule text

pub record AddsFault (look : Look) (path file text : List ℕ) (is_first : Bool) (t : Told) (old new : List ℕ) : Type 0 where
  pub at : Position
  pub place : IsPosition (take t.fault.offset text) at
  pub line : List ℕ
  pub said : IsFault look path file at is_first t line
  pub is : new ≡ old ++ line

-- the path of the folder of a package, from that of another
abbrev pub IsFolderOf : List ℕ → List ℕ → List ℕ → Type 0
IsFolderOf own path folder = (f : List ℕ) → 0 < length own → path ≡ joined_path own f → folder ≡ f

-- the path of a file as it is written in a form: from the folder that is told of, or for other tools from where the program runs
abbrev pub file_text : Format → List ℕ → List ℕ → List ℕ
file_text format.Text given file = file
file_text format.Json given file = file
file_text format.Github given file = joined_path given file
file_text format.Sarif given file = joined_path given file

-- a fault of a list, as code reads it
abbrev pub told_at : List Told → ℕ → Told
told_at faults i = get_or faults i (record { fault = record { «package» = 0; file = 0; offset = 0; rule = L1 }; root = None })

-- a fault lies in a file of the package of a path, which has this text and is written so
pub record IsPlacedIn (look : Look) (own given : List ℕ) (ps : List PackageModel) (t : Told) (path file text : List ℕ) : Type 0 where
  pub source : SourceModel
  pub lies : source_at ps t.fault ≡ Some (path, source)
  pub folder : List ℕ
  pub below : IsFolderOf own path folder
  pub named : file ≡ file_text look.format given (joined_path folder source.name)
  pub same : text ≡ source.text

-- a fault lies in a file of a package, and what is written of it
pub record IsToldIn (look : Look) (own given path : List ℕ) (source : SourceModel) (is_first : Bool) (t : Told) (line : List ℕ) : Type 0 where
  pub folder : List ℕ
  pub below : IsFolderOf own path folder
  pub at : Position
  pub place : IsPosition (take t.fault.offset source.text) at
  pub is : IsFault look path (file_text look.format given (joined_path folder source.name)) at is_first t line

pub record IsLine (look : Look) (own given : List ℕ) (ps : List PackageModel) (is_first : Bool) (t : Told) (line : List ℕ) : Type 0 where
  pub path : List ℕ
  pub source : SourceModel
  pub lies : source_at ps t.fault ≡ Some (path, source)
  pub text : IsToldIn look own given path source is_first t line

-- of faults, one after another, where nothing or something stands in front of them
abbrev pub AreLines : Look → List ℕ → List ℕ → List PackageModel → Bool → List Told → List ℕ → Type 0
AreLines look own given ps is_first [] text = text ≡ []
AreLines look own given ps is_first (t ∷ ts) text =
    (line rest : List ℕ) × IsLine look own given ps is_first t line × AreLines look own given ps false ts rest × (text ≡ line ++ rest)

-- they are written after what was there
abbrev pub AddsOne : Look → List ℕ → List ℕ → List PackageModel → Bool → Told → List ℕ → List ℕ → Type 0
AddsOne look own given ps is_first t old new = (line : List ℕ) × IsLine look own given ps is_first t line × (new ≡ old ++ line)

abbrev pub AddsLines : Look → List ℕ → List ℕ → List PackageModel → Bool → List Told → List ℕ → List ℕ → Type 0
AddsLines look own given ps is_first ts old new = (text : List ℕ) × AreLines look own given ps is_first ts text × (new ≡ old ++ text)

-- a fault that is told of lies in a file of the workspace
abbrev pub LiesTold : List PackageModel → Told → Type 0
LiesTold ps t = LiesIn ps t.fault

-- how many faults there are in how many packages, and how many of them are not shown
abbrev pub faults_text : ℕ → List ℕ
faults_text n = if n == 0 then codes "no faults" else (if n == 1 then codes "1 fault" else decimal n ++ codes " faults")

abbrev pub packages_text : ℕ → List ℕ
packages_text n = if n == 1 then codes "1 package" else decimal n ++ codes " packages"

abbrev pub several_text : ℕ → List ℕ
several_text n = codes "; " ++ decimal n ++ codes " of them follow from these (--all shows them)"

abbrev pub hidden_text : ℕ → List ℕ
hidden_text n = if n == 0 then [] else (if n == 1 then codes "; 1 of them follows from these (--all shows it)" else several_text n)

abbrev pub full_text : ℕ → List ℕ
full_text shown = if nat_le shown 300 then [] else codes "Only the first faults are told in full, of the others what their rules mean\n"

abbrev pub count_text : ℕ → ℕ → ℕ → List ℕ
count_text faults shown packages =
    full_text shown ++ faults_text faults ++ codes " in " ++ packages_text packages ++ hidden_text (faults - shown) ++ codes "\n"

-- what stands before the faults, and after them
abbrev pub head_text : Format → List ℕ
head_text format.Sarif = codes "{\"$schema\":\"https://json.schemastore.org/sarif-2.1.0.json\",\"version\":\"2.1.0\",\"runs\":[{\"tool\":{\"driver\":{\"name\":\"govisd\",\"version\":\"0.1.0\"}},\"columnKind\":\"unicodeCodePoints\",\"results\":[\n"
head_text _ = []

abbrev pub ending_text : Format → ℕ → ℕ → ℕ → List ℕ
ending_text format.Text faults shown packages = count_text faults shown packages
ending_text format.Json faults shown packages = []
ending_text format.Github faults shown packages = []
ending_text format.Sarif faults shown packages = codes "]}]}\n"

-- all faults are written: where that is asked for, and as JSON
abbrev pub all_in : Format → Bool → Bool
all_in format.Json all = true
all_in _ all = all

abbrev pub shows_all : Look → Bool
shows_all look = all_in look.format look.all

-- a report on so many faults, of which these are shown, and that lie in so many packages, is written after what was there: each of those once, in order,
-- what is said beside, and how many faults there are
pub record AddsReport (look : Look) (own given : List ℕ) (ps : List PackageModel) (told : ℕ) (shown : List Told) (packages : ℕ) (old new : List ℕ) : Type 0 where
  pub lines : List ℕ
  pub are : AreLines look own given ps true shown lines
  pub beside : List ℕ
  pub notes : AreBeside look.format beside
  pub is : new ≡ old ++ head_text look.format ++ lines ++ beside ++ ending_text look.format told (length shown) packages

-- faults of a workspace that are told of: a report is written on those that are shown
pub record IsReport (look : Look) (scope : ScopeModel) (given : List ℕ) (ps : List PackageModel) (told : List Told) (r : Report) : Type 0 where
  pub text : AddsReport look scope.0 given ps (length told) (shown_in (shows_all look) scope ps told) (length (packages_in scope ps)) [] (string_bytes r.text)
  pub faults : r.faults ≡ length told

-- the faults of a workspace: those that lie in a scope are told of, by which follow from which, and by which are of one name that is not declared
pub record AreTold (look : Look) (scope : ScopeModel) (given : List ℕ) (ps : List PackageModel) (faults : List PlacedFault) (r : Report) : Type 0 where
  pub causes : List Cause
  pub are : AreCauses faults causes
  pub repeated : List (Option ℕ)
  pub names : AreRepeated faults repeated
  pub report : IsReport look scope given ps (told_in scope ps (told_by faults faults (joined_by causes repeated))) r
