-- The members of each request, and the laws that a line asks a request exactly where it is an object of these members, and by which rule each other line is refused.
use Rattle.std.specs.Prelude.{◌≡◌, ◌≢◌, ◌≤◌, ◌↔◌, ◌⊎◌, ℕ, List, Bool, true, false, Option, Some, None, codes}
use Rattle.serde_json.specs.Data.{Data, null, number, unsigned, string, Members, no_members, member}
use Rattle.serde_json.specs.Find.{get_member}
use Rattle.go_text_core.specs.declared.rule.Rule.{Rule}
use Rattle.go_text_core.specs.declared.rule.Rule.TheVariants.{V2, V3}
use Rattle.go_wire_core.specs.declared.request.Command.{Command}
use Rattle.go_wire_core.specs.declared.request.Command.TheVariants.{Open, Edit, Build, List as ListOf, Doc, Complete, Define, Run, Close}
use Rattle.go_wire_core.specs.declared.request.Request.{Request}
use Rattle.go_wire_core.specs.declared.step.Step.TheVariants.{Ask, Refuse}
use Rattle.go_wire_core.specs.Requests.{most_steps, object_of, step_of, without}

-- the text of the member `cmd`
abbrev pub name_of : Command → List ℕ
name_of (Open path) = codes "open"
name_of (Edit path file text) = codes "edit"
name_of Build = codes "build"
name_of (ListOf from) = codes "list"
name_of (Doc from path type_name) = codes "doc"
name_of (Complete path file offset) = codes "complete"
name_of (Define path file offset) = codes "define"
name_of (Run path steps) = codes "run"
name_of Close = codes "close"

abbrev pub text_or_null : Option (List ℕ) → Data
text_or_null None = null
text_or_null (Some text) = string text

-- the member `type` may be left out
abbrev pub if_given : Option (List ℕ) → Members
if_given None = no_members
if_given (Some text) = member (codes "type") (string text) no_members

-- the members beside the name and the session, in byte order
abbrev pub others : Command → Members
others (Open path) = member (codes "module") (string path) no_members
others (Edit path file text) = member (codes "file") (string file) (member (codes "path") (string path) (member (codes "text") (text_or_null text) no_members))
others Build = no_members
others (ListOf from) = member (codes "from") (string from) no_members
others (Doc from path type_name) = member (codes "from") (string from) (member (codes "path") (string path) (if_given type_name))
others (Complete path file offset) = member (codes "file") (string file) (member (codes "offset") (number (unsigned offset)) (member (codes "path") (string path) no_members))
others (Define path file offset) = member (codes "file") (string file) (member (codes "offset") (number (unsigned offset)) (member (codes "path") (string path) no_members))
others (Run path steps) = member (codes "path") (string path) (member (codes "steps") (number (unsigned steps)) no_members)
others Close = no_members

-- where it is a run, its steps are 1 to the most
abbrev pub HasFewSteps : Command → Type 0
HasFewSteps (Open path) = Unit {0}
HasFewSteps (Edit path file text) = Unit {0}
HasFewSteps Build = Unit {0}
HasFewSteps (ListOf from) = Unit {0}
HasFewSteps (Doc from path type_name) = Unit {0}
HasFewSteps (Complete path file offset) = Unit {0}
HasFewSteps (Define path file offset) = Unit {0}
HasFewSteps (Run path steps) = (1 ≤ steps) × (steps ≤ most_steps)
HasFewSteps Close = Unit {0}

-- beside the session, these members are those of the command, and no others
pub record AreOf (command : Command) (ms : Members) : Type 0 where
  pub name : get_member (codes "cmd") ms ≡ Some (string (name_of command))
  pub rest : without (codes "cmd") ms ≡ others command
  pub steps : HasFewSteps command

-- the member `s` is the number of this session
pub record IsBy (session : Option ℕ) (ms : Members) : Type 0 where
  pub number' : ℕ
  pub is : session ≡ Some number'
  pub least : 1 ≤ number'
  pub most : number' ≤ 32
  pub there : get_member (codes "s") ms ≡ Some (number (unsigned number'))

-- the members of a request, where lines are numbered or not
abbrev pub AreOfRequest : Bool → Request → Members → Type 0
AreOfRequest true request ms = IsBy request.session ms × AreOf request.command (without (codes "s") ms)
AreOfRequest false request ms = (request.session ≡ None) × AreOf request.command ms

abbrev pub AsksByTable : Type 0
AsksByTable = (numbered : Bool) (line : List ℕ) (request : Request)
    → (step_of numbered line ≡ Ask request) ↔ ((ms : Members) × (object_of line ≡ Some ms) × AreOfRequest numbered request ms)

-- ---- what is refused

-- the member `cmd` is a text that names no command
pub record NamesNoCommand (ms : Members) : Type 0 where
  pub name : List ℕ
  pub there : get_member (codes "cmd") ms ≡ Some (string name)
  pub none : (command : Command) → name ≢ name_of command

-- whatever else stands there, a command is asked for that there is not, and where lines are numbered by a session
abbrev pub AreOfNoCommand : Bool → Option ℕ → Members → Type 0
AreOfNoCommand true session ms = IsBy session ms × NamesNoCommand (without (codes "s") ms)
AreOfNoCommand false session ms = (session ≡ None) × NamesNoCommand ms

-- the session that is named: where lines are numbered, the number of the member `s`, if there is an object with such a number
abbrev pub IsOfSession : Bool → Option Members → Option ℕ → Type 0
IsOfSession true found None = (ms : Members) → found ≡ Some ms → (n : ℕ) → ¬ (IsBy (Some n) ms)
IsOfSession true found (Some n) = (ms : Members) × (found ≡ Some ms) × IsBy (Some n) ms
IsOfSession false found session = session ≡ None

pub record RefusesByTable : Type 0 where
  -- V3 has exactly a line that names a command that there is not
  pub unknown : (numbered : Bool) (line : List ℕ) (session : Option ℕ)
      → (step_of numbered line ≡ Refuse session V3) ↔ ((ms : Members) × (object_of line ≡ Some ms) × AreOfNoCommand numbered session ms)
  -- each other line that asks nothing has V2
  pub other : (numbered : Bool) (line : List ℕ) (session : Option ℕ) (rule : Rule) → step_of numbered line ≡ Refuse session rule → (rule ≡ V2) ⊎ (rule ≡ V3)
  -- and each is refused in the name of the session that it names
  pub named' : (numbered : Bool) (line : List ℕ) (session : Option ℕ) (rule : Rule) → step_of numbered line ≡ Refuse session rule → IsOfSession numbered (object_of line) session
