-- What a session replies to each command.
use Rattle.std.specs.Prelude.{◌≡◌, ◌+◌, ◌⊎◌, ℕ, Bool, true, false, if◌then◌else◌, List, [], map, Option, Some, None, Result, Ok, Err}
use Rattle.go_path_core.specs.text_core.declared.rule.Rule.{Rule}
use Rattle.go_path_core.specs.text_core.declared.rule.Rule.TheVariants.{M0, O1, O2, O5}
use Rattle.go_path_core.specs.Path.{IsPath}
use Rattle.go_wire_core.specs.declared.request.Command.{Command}
use Rattle.go_wire_core.specs.declared.request.Command.TheVariants.{Open, Edit, Build, List as ListOf, Doc, Complete, Define, Run, Close}
use Rattle.go_wire_core.specs.declared.reply.WireReply.{WireReply}
use Rattle.go_wire_core.specs.declared.reply.WireReply.TheVariants.{Opened, Done, Built, Refused}
use Rattle.go_board_core.specs.submit_core.Published.{BeginsWith}
use Rattle.go_board_core.specs.submit_core.Trees.{tree_with}
use Rattle.go_board_core.specs.submit_core.declared.published.PublishedBatch.{PublishedBatch}
use Rattle.go_thread_core.specs.snap_core.Snapshots.{SnapshotModel}
use Rattle.go_hall.specs.session_core.QueriesAsked.{IsAnswer}
use Rattle.go_hall.specs.session_core.QueriesBuilt.{IsBuilt}
use Rattle.go_hall.specs.session_core.declared.queries.faults.Fault.{Fault}
use Rattle.go_hall.specs.session_core.OverlayEdits.{IsEditOf, IsEditRefusal}
use Rattle.go_hall.specs.session_core.QueriesQueries.{IsCompleteAnswer, IsDefineAnswer, IsDocAnswer, IsListAnswer, IsRunAnswer, IsTypeDocAnswer}
use Rattle.go_hall.specs.Refusals.{IsBuildRefusal, IsOpenRefusal}
use Rattle.go_hall.specs.Seat.{Seat}
use Rattle.govisd_replies.specs.Told.{TellsDeclaration, TellsDoc, TellsListing, TellsNames, TellsOutcome, TellsTypeDoc, place_of}

-- ---- open

-- what refuses an open: O2 just where the text is no path, else what the hall refuses the module by
abbrev pub RefusesOpen : List ℕ → Rule → Type 0
RefusesOpen «module» rule = ((rule ≡ O2) × ¬ IsPath «module») ⊎ (IsPath «module» × IsOpenRefusal «module» rule)

-- a session of the module begins, with an empty draft; or the open is refused
abbrev pub IsOpenReply : List ℕ → WireReply → Option Seat → Type 0
IsOpenReply «module» (Opened path) (Some seat) = IsPath «module» × (path ≡ «module») × (seat.draft ≡ tree_with «module» []) × (seat.submits ≡ 0)
IsOpenReply «module» (Refused rule) None = RefusesOpen «module» rule
IsOpenReply «module» reply seat = ⊥

-- ---- edit

-- the file of the draft is changed, and nothing else; or the first rule is told that the edit breaks, and nothing is changed
abbrev pub IsEditReply : Seat → List ℕ → List ℕ → Option (List ℕ) → WireReply → Seat → Type 0
IsEditReply old path file text Done new = IsEditOf old.draft path file text new.draft × (new ≡ record old { draft = new.draft })
IsEditReply old path file text (Refused rule) new = IsEditRefusal old.draft path file text rule × (new ≡ old)
IsEditReply old path file text reply new = ⊥

-- ---- build

-- the session has seen what it had, and perhaps more; its draft stays
pub record IsLater (old new : Seat) : Type 0 where
  pub later : BeginsWith new.seen old.seen
  pub draft : new.draft ≡ old.draft
  pub id : new.id ≡ old.id
  pub told : new.told ≡ old.told

-- the draft is what the batches leave to its module, and these are the faults in it; or the build is refused, and the draft stays
abbrev pub IsBuildReply : Seat → WireReply → Seat → Type 0
IsBuildReply old (Built batch faults) new =
    IsLater old new × BeginsWith new.seen old.told × (new.submits ≡ old.submits + 1)
    × ((found : List Fault) × IsBuilt new.seen old.draft batch found × (faults.items ≡ map place_of found))
IsBuildReply old (Refused rule) new = IsLater old new × IsBuildRefusal old.id old.draft rule
IsBuildReply old reply new = ⊥

-- ---- queries

-- what a query found is told, unless memory is wanting; a refusal is told as it is
abbrev pub Tells : {X : Type 0} → (ℕ × X → WireReply → Type 0) → Result (ℕ × X) Rule → WireReply → Type 0
Tells Fits (Ok a) reply = Fits a reply ⊎ (reply ≡ Refused M0)
Tells Fits (Err rule) reply = reply ≡ Refused rule

-- what the board, as the session sees it, answers to a query from a path is told
pub record IsTold {X : Type 0} (own from : List ℕ) (board : List PublishedBatch) (Answers : SnapshotModel → Result X Rule → Type 0) (Fits : ℕ × X → WireReply → Type 0) (reply : WireReply) : Type 0 where
  pub found : Result (ℕ × X) Rule
  pub answer : IsAnswer own from board Answers found
  pub tells : Tells Fits found reply

-- asked from a path, the session enters the board as it is now, which begins with what it saw and was told of, and its answer is told; or it cannot
-- enter for want of memory
abbrev pub IsReply : {X : Type 0} → Seat → List ℕ → (SnapshotModel → Result X Rule → Type 0) → (ℕ × X → WireReply → Type 0) → WireReply → Seat → Type 0
IsReply old from Answers Fits reply new =
    BeginsWith new.seen old.seen × (new ≡ record old { seen = new.seen })
    × ((reply ≡ Refused M0) ⊎ (BeginsWith new.seen old.told × IsTold old.draft.own from new.seen Answers Fits reply))

-- of a package, or of one of its types
abbrev pub IsDocReply : Seat → List ℕ → List ℕ → Option (List ℕ) → WireReply → Seat → Type 0
IsDocReply old from path None reply new = IsReply old from (IsDocAnswer from path) TellsDoc reply new
IsDocReply old from path (Some type_name) reply new = IsReply old from (IsTypeDocAnswer from path type_name) TellsTypeDoc reply new

-- ---- all commands

-- what an open session replies, and what it is behind that; a close only ends it
abbrev pub GoesOn : Seat → Command → WireReply → Seat → Type 0
GoesOn old (Open «module») reply new = (reply ≡ Refused O1) × (new ≡ old)
GoesOn old (Edit path file text) reply new = IsEditReply old path file text reply new
GoesOn old Build reply new = IsBuildReply old reply new
GoesOn old (ListOf from) reply new = IsReply old from (IsListAnswer from) TellsListing reply new
GoesOn old (Doc from path type_name) reply new = IsDocReply old from path type_name reply new
GoesOn old (Complete path file offset) reply new = IsReply old path (IsCompleteAnswer path file offset) TellsNames reply new
GoesOn old (Define path file offset) reply new = IsReply old path (IsDefineAnswer path file offset) TellsDeclaration reply new
GoesOn old (Run path steps) reply new = IsReply old path (IsRunAnswer path steps) TellsOutcome reply new
GoesOn old Close reply new = (reply ≡ Done) × (new ≡ old)

abbrev pub is_close : Command → Bool
is_close (Open «module») = false
is_close (Edit path file text) = false
is_close Build = false
is_close (ListOf from) = false
is_close (Doc from path type_name) = false
is_close (Complete path file offset) = false
is_close (Define path file offset) = false
is_close (Run path steps) = false
is_close Close = true

abbrev pub is_build : Command → Bool
is_build (Open «module») = false
is_build (Edit path file text) = false
is_build Build = true
is_build (ListOf from) = false
is_build (Doc from path type_name) = false
is_build (Complete path file offset) = false
is_build (Define path file offset) = false
is_build (Run path steps) = false
is_build Close = false

-- the module of an open
abbrev pub module_of : Command → Option (List ℕ)
module_of (Open «module») = Some «module»
module_of (Edit path file text) = None
module_of Build = None
module_of (ListOf from) = None
module_of (Doc from path type_name) = None
module_of (Complete path file offset) = None
module_of (Define path file offset) = None
module_of (Run path steps) = None
module_of Close = None

-- where no session is open one may begin, and all else is O5
abbrev pub RepliesOfNone : Option (List ℕ) → WireReply → Option Seat → Type 0
RepliesOfNone (Some «module») reply new = IsOpenReply «module» reply new
RepliesOfNone None reply new = (reply ≡ Refused O5) × (new ≡ None)

-- what is replied at a place where a session is open, or none, and which is open there behind that
abbrev pub SeatReplies : Option Seat → Command → WireReply → Option Seat → Type 0
SeatReplies None command reply new = RepliesOfNone (module_of command) reply new
SeatReplies (Some old) command reply new = (seat : Seat) × GoesOn old command reply seat × (new ≡ (if is_close command then None else Some seat))
