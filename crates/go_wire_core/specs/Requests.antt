-- What the line of a request says.
use Rattle.std.specs.Prelude.{◌≤◌, ℕ, List, Bool, true, false, ◌&&◌, nat_le, if◌then◌else◌, Option, Some, None, Result, Ok, Err, option_map, option_and_then, codes}
use Rattle.std.specs.Str.{bytes_eq, is_utf8}
use Rattle.serde_json.specs.Data.{Data, null, boolean, number, string, array, object, Members, no_members, member}
use Rattle.serde_json.specs.Read.{read}
use Rattle.serde_json.specs.Find.{as_number, as_object, as_str, as_u64, get_member}
use Rattle.go_text_core.specs.declared.rule.Rule.{Rule}
use Rattle.go_text_core.specs.declared.rule.Rule.TheVariants.{V2, V3}
use Rattle.go_wire_core.specs.declared.request.Command.{Command}
use Rattle.go_wire_core.specs.declared.request.Command.TheVariants.{Open, Edit, Build, List as ListOf, Doc, Complete, Define, Run, Close}
use Rattle.go_wire_core.specs.declared.step.Step.{Step}
use Rattle.go_wire_core.specs.declared.step.Step.TheVariants.{Ask, Refuse}

-- the members of the object that a line is
abbrev pub object_of : List ℕ → Option Members
object_of line = if is_utf8 line then option_and_then as_object (read line) else None

-- ---- members, which an object has in byte order, each key once

-- the members but the one of a key
abbrev pub without : List ℕ → Members → Members
without key no_members = no_members
without key (member k d ms) = if bytes_eq key k then ms else member k d (without key ms)

-- what the first member is, where its key is this one, and the members behind it
abbrev pub first : List ℕ → Members → Option (Data × Members)
first key no_members = None
first key (member k d ms) = if bytes_eq k key then Some (d, ms) else None

-- the same where a text stands there, or a number, or a text or null
abbrev pub first_with : {A : Type 0} → (Data → Option A) → List ℕ → Members → Option (A × Members)
first_with reads key ms = option_and_then (λ m. option_map (λ a. (a, m.1)) (reads m.0)) (first key ms)

abbrev pub text_at : List ℕ → Members → Option (List ℕ × Members)
text_at = first_with as_str

abbrev pub as_count : Data → Option ℕ
as_count d = option_and_then as_u64 (as_number d)

abbrev pub count_at : List ℕ → Members → Option (ℕ × Members)
count_at = first_with as_count

-- the most steps that a run may be asked for
abbrev pub most_steps : ℕ
most_steps = 10000000

-- a number from 1 to the most steps
abbrev pub as_steps : Data → Option ℕ
as_steps d = option_and_then (λ n. if nat_le 1 n && nat_le n most_steps then Some n else None) (as_count d)

abbrev pub steps_at : List ℕ → Members → Option (ℕ × Members)
steps_at = first_with as_steps

abbrev pub as_text_or_null : Data → Option (Option (List ℕ))
as_text_or_null null = Some None
as_text_or_null (boolean b) = None
as_text_or_null (number n) = None
as_text_or_null (string s) = Some (Some s)
as_text_or_null (array ds) = None
as_text_or_null (object ms) = None

abbrev pub text_or_null_at : List ℕ → Members → Option (Option (List ℕ) × Members)
text_or_null_at = first_with as_text_or_null

abbrev pub is_over : Members → Bool
is_over no_members = true
is_over (member k d ms) = false

-- ---- the members of each command beside its name and its session, in byte order, and what it is by them

abbrev pub Reading : Type 0
Reading = Option (Command × Members)

abbrev pub opens : Members → Reading
opens ms = option_map (λ m. (Open m.0, m.1)) (text_at (codes "module") ms)

abbrev pub edits : Members → Reading
edits ms =
    option_and_then (λ f. option_and_then (λ p. option_map (λ t. (Edit p.0 f.0 t.0, t.1))
    (text_or_null_at (codes "text") p.1)) (text_at (codes "path") f.1)) (text_at (codes "file") ms)

abbrev pub lists : Members → Reading
lists ms = option_map (λ f. (ListOf f.0, f.1)) (text_at (codes "from") ms)

-- the type may be left out
abbrev pub docs_of : List ℕ → List ℕ → Members → Reading
docs_of from path ms = if is_over ms then Some (Doc from path None, ms) else option_map (λ t. (Doc from path (Some t.0), t.1)) (text_at (codes "type") ms)

abbrev pub docs : Members → Reading
docs ms = option_and_then (λ f. option_and_then (λ p. docs_of f.0 p.0 p.1) (text_at (codes "path") f.1)) (text_at (codes "from") ms)

-- a file, an offset and a path
abbrev pub places : (List ℕ → List ℕ → ℕ → Command) → Members → Reading
places command ms =
    option_and_then (λ f. option_and_then (λ o. option_map (λ p. (command p.0 f.0 o.0, p.1))
    (text_at (codes "path") o.1)) (count_at (codes "offset") f.1)) (text_at (codes "file") ms)

abbrev pub runs : Members → Reading
runs ms = option_and_then (λ p. option_map (λ n. (Run p.0 n.0, n.1)) (steps_at (codes "steps") p.1)) (text_at (codes "path") ms)

-- the command of a name by its members, and those that are over; None for a text of no command
abbrev pub reading_of : List ℕ → Members → Option Reading
reading_of name ms =
    if bytes_eq name (codes "open") then Some (opens ms) else
    (if bytes_eq name (codes "edit") then Some (edits ms) else
    (if bytes_eq name (codes "build") then Some (Some (Build, ms)) else
    (if bytes_eq name (codes "list") then Some (lists ms) else
    (if bytes_eq name (codes "doc") then Some (docs ms) else
    (if bytes_eq name (codes "complete") then Some (places Complete ms) else
    (if bytes_eq name (codes "define") then Some (places Define ms) else
    (if bytes_eq name (codes "run") then Some (runs ms) else
    (if bytes_eq name (codes "close") then Some (Some (Close, ms)) else None))))))))

-- what is read of a name and its members, with those that are over; for private clauses
abbrev pub read_as : Result (Option Command) Rule → Members → Option Reading
read_as (Ok command) ms = Some (option_map (λ c. (c, ms)) command)
read_as (Err rule) ms = None

-- ---- what a line asks

-- no members may be over
abbrev pub finished : Option ℕ → Reading → Step
finished session None = Refuse session V2
finished session (Some (command, ms)) = if is_over ms then Ask (record { session = session; command = command }) else Refuse session V2

abbrev pub known : Option ℕ → Option Reading → Step
known session None = Refuse session V3
known session (Some reading) = finished session reading

-- by the text of its member `cmd`
abbrev pub named : Option ℕ → Members → Option (List ℕ) → Step
named session ms None = Refuse session V2
named session ms (Some name) = known session (reading_of name ms)

abbrev pub asked : Option ℕ → Members → Step
asked session ms = named session (without (codes "cmd") ms) (option_and_then as_str (get_member (codes "cmd") ms))

-- a number from 1 to 32
abbrev pub as_session : Data → Option ℕ
as_session d = option_and_then (λ n. if nat_le 1 n && nat_le n 32 then Some n else None) (as_count d)

abbrev pub session_of : Members → Option ℕ
session_of ms = option_and_then as_session (get_member (codes "s") ms)

-- where lines are numbered
abbrev pub asked_by : Members → Option ℕ → Step
asked_by ms None = Refuse None V2
asked_by ms (Some n) = asked (Some n) ms

abbrev pub asked_of : Bool → Option Members → Step
asked_of numbered None = Refuse None V2
asked_of true (Some ms) = asked_by (without (codes "s") ms) (session_of ms)
asked_of false (Some ms) = asked None ms

abbrev pub step_of : Bool → List ℕ → Step
step_of numbered line = asked_of numbered (object_of line)

-- ---- the session of a request

-- a request has a session, 1 to 32, exactly where lines are numbered
abbrev pub IsFor : Bool → Option ℕ → Type 0
IsFor true None = ⊥
IsFor true (Some n) = (1 ≤ n) × (n ≤ 32)
IsFor false None = Unit {0}
IsFor false (Some n) = ⊥

abbrev pub IsStepFor : Bool → Step → Type 0
IsStepFor numbered (Ask request) = IsFor numbered request.session
IsStepFor numbered (Refuse session rule) = Unit {0}
