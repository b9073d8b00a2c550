-- What holds behind each run of the service.
--
-- docs/RULES.md, "The service".
use Rattle.std.specs.Prelude.{◌≡◌, ℕ, true, ⊤, List, Some, All, Contains, take}
use Rattle.go_path_core.specs.Path.{overlap}
use Rattle.go_graph_core.specs.Workspaces.{IsReadWorkspace, files_at, is_path_inside}
use Rattle.go_submit_core.specs.Laws.{AreWorkspaces, LiesInNoOther, last_tree, submissions_of, tree_files}
use Rattle.go_submit_core.specs.Published.{AreSound, sources_of}
use Rattle.go_submit_core.specs.Trees.{TreeModel}
use Rattle.go_submit_core.specs.declared.submission.Submission.{Submission}
use Rattle.go_submit_core.specs.declared.submission.Ticket.{Ticket}
use Rattle.go_sched_core.specs.Service.{Service, empty, module_held, taken_modules}
use Rattle.go_sched_core.specs.Steps.{Replay, Run, Step}
use Rattle.go_sched_core.specs.declared.event.Event.{Event}
use Rattle.go_sched_core.specs.declared.event.Event.TheVariants.{Submit}
use Rattle.go_sched_core.specs.declared.event.Held.{Held}
use Rattle.go_sched_core.specs.declared.event.Reply.{Reply}
use Rattle.go_sched_core.specs.declared.event.Reply.TheVariants.{Submitted}
use Rattle.go_sched_core.specs.declared.event.SessionId.{SessionId}

-- modules

-- of these modules no two overlap: none lies below another
abbrev pub AreApart : List (List ℕ) → Type 0
AreApart ms = (a b : List ℕ) → Contains ms a → Contains ms b → overlap a b ≡ true → a ≡ b

-- a step leaves the modules that are taken apart
abbrev pub ModulesStayApart : Type 0
ModulesStayApart = (s : Service) (e : Event) (r : Reply) (t : Service) → Step s e r t → AreApart (taken_modules s) → AreApart (taken_modules t)

-- so they are apart behind each run
abbrev pub RunsStayApart : Type 0
RunsStayApart = (es : List Event) (rs : List Reply) (t : Service) → Run empty es rs t → AreApart (taken_modules t)

-- and behind each replay
abbrev pub ReplaysStayApart : Type 0
ReplaysStayApart = (es : List Event) (t : Service) → Replay empty es t → AreApart (taken_modules t)

-- each module of which a tree is published is taken
abbrev pub PublishedAreTaken : Type 0
PublishedAreTaken = (s : Service) (x : Submission) → Contains (submissions_of s.published) x → Contains (taken_modules s) x.tree.own

-- a path inside a taken module lies in no other module of which a tree is published
abbrev pub OwnPaths : Type 0
OwnPaths =
    (es : List Event) (rs : List Reply) (t : Service) → Run empty es rs t
    → (own path : List ℕ) → Contains (taken_modules t) own → is_path_inside own path ≡ true → LiesInNoOther own path (submissions_of t.published)

-- what a session submits is of the module that it holds
abbrev pub SubmissionsAreOwn : Type 0
SubmissionsAreOwn = (s : Service) (id : SessionId) (tree : TreeModel) (ticket : Ticket) (t : Service) → Step s (Submit id tree) (Submitted ticket) t → (h : Held) × (module_held s.held id ≡ Some h) × (h.own ≡ tree.own)

-- snapshots

-- each published snapshot is the one of what is published up to it
abbrev pub RunsAreSound : Type 0
RunsAreSound = (es : List Event) (rs : List Reply) (t : Service) → Run empty es rs t → AreSound t.published

-- trees

-- a tree that is submitted is a workspace: packages in order of path, each with its files in order of name, each file read from its text
abbrev pub IsHandedIn : Event → Type 0
IsHandedIn (Submit id tree) = IsReadWorkspace tree.packages
IsHandedIn _ = ⊤

abbrev pub AreHandedIn : List Event → Type 0
AreHandedIn es = All IsHandedIn es

-- each published tree is then a workspace
abbrev pub TreesAreWell : Type 0
TreesAreWell = (es : List Event) (rs : List Reply) (t : Service) → AreHandedIn es → Run empty es rs t → AreWorkspaces (submissions_of t.published)

-- and so are the packages of all that is published up to a batch, each file of which is read
abbrev pub SourcesAreWell : Type 0
SourcesAreWell = (es : List Event) (rs : List Reply) (t : Service) → AreHandedIn es → Run empty es rs t → (k : ℕ) → IsReadWorkspace (sources_of (take k t.published))

-- what is published inside a module that is taken is the last tree that was built of it
abbrev pub PublishedTrees : Type 0
PublishedTrees =
    (es : List Event) (rs : List Reply) (t : Service) → AreHandedIn es → Run empty es rs t
    → (own path : List ℕ) → Contains (taken_modules t) own → is_path_inside own path ≡ true
    → files_at (sources_of t.published) path ≡ tree_files (last_tree own (submissions_of t.published)) path
