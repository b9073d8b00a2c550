-- What the lock's value tells of a refusal.
use Rattle.std.proofs.Common.{◌≡◌, ◌⊎◌, ℕ, Bool, true, false, List, [], Option, Some, None, inl, inr, ⊎_elim, refl, sym, subst, arith}
use Rattle.std.specs.Prelude.{Contains, IfSome, if◌then◌else◌}
use Rattle.std.specs.Str.{bytes_eq}
use Rattle.go_path_core.specs.text_core.declared.rule.Rule.{Rule}
use Rattle.go_path_core.specs.text_core.declared.rule.Rule.TheVariants.{E1, H1, H2, M0, O1, O3, O4, O5}
use Rattle.go_graph_core.specs.Workspaces.{PackageModel}
use Rattle.go_hall_core.specs.sched_core.Service.{Service, clashes, empty, is_full, is_held, is_history_full, module_held, open_rule, submit_rule, submit_rule_of, taken_modules}
use Rattle.go_hall_core.specs.sched_core.Steps.{Replay}
use Rattle.go_hall_core.specs.sched_core.declared.event.Held.{Held}
use Rattle.go_hall_core.specs.sched_core.declared.event.SessionId.{SessionId}
use Rattle.go_hall_core.specs.submit_core.Trees.{TreeModel, tree_rule}
use Rattle.go_hall_core.specs.Kept.{IsRefusal, Kept, hall_rule}
use Rattle.go_hall.specs.Refusals.{IsBrokenSomewhere, IsBuildRefusal, IsOpenRefusal, IsSubmitRefusal, RefusalsAreListed, build_rules, open_rules}

refused_by : (broken : Service → Option Rule) (k : Kept) (rule : Rule) → Replay empty k.history k.service → IsRefusal k.stopped (broken k.service) rule → (rule ≡ M0) ⊎ IsBrokenSomewhere broken rule
refused_by broken k rule run refused =
    ⊎_elim
    (λ (m : rule ≡ M0). inl m)
    (λ (f : hall_rule k.stopped (broken k.service) ≡ Some rule). inr (record { history = k.history; service = k.service; replays = run; stopped = k.stopped; first = f }))
    refused

pub open_refused : (own : List ℕ) (k : Kept) (rule : Rule) → Replay empty k.history k.service → IsRefusal k.stopped (open_rule k.service own) rule → IsOpenRefusal own rule
open_refused own k rule run refused = refused_by (λ s. open_rule s own) k rule run refused

pub submit_refused : (id : SessionId) (tree : TreeModel) (k : Kept) (rule : Rule) → (rule ≡ M0) ⊎ Replay empty k.history k.service → IsRefusal k.stopped (submit_rule k.service id tree) rule → IsSubmitRefusal id tree rule
submit_refused id tree k rule run refused =
    ⊎_elim (λ (m : rule ≡ M0). inl m) (λ (r : Replay empty k.history k.service). refused_by (λ s. submit_rule s id tree) k rule r refused) run

-- a tree of no packages breaks no rule
pub empty_refused : (own : List ℕ) (ps : List PackageModel) (rule : Rule) → ps ≡ [] → ((rule ≡ M0) × (tree_rule own ps ≡ None)) ⊎ (tree_rule own ps ≡ Some rule) → rule ≡ M0
empty_refused own ps rule none refused =
    ⊎_elim
    (λ (m : (rule ≡ M0) × (tree_rule own ps ≡ None)). m.0)
    (λ (b : tree_rule own ps ≡ Some rule). let n : None ≡ Some rule = subst (λ (l : List PackageModel). tree_rule own l ≡ Some rule) none b in absurd (cc))
    refused

-- ---- the rules of a list

open_tests : (held clashing full ended stopped : Bool)
    → IfSome (hall_rule stopped (if held then Some O1 else (if clashing then Some O3 else (if full then Some O4 else (if ended then Some H1 else None))))) (Contains open_rules)
open_tests true clashing full ended false = (0, omega arith, refl)
open_tests true clashing full ended true = (0, omega arith, refl)
open_tests false true full ended false = (1, omega arith, refl)
open_tests false true full ended true = (1, omega arith, refl)
open_tests false false true ended false = (2, omega arith, refl)
open_tests false false true ended true = (2, omega arith, refl)
open_tests false false false true false = (3, omega arith, refl)
open_tests false false false true true = (4, omega arith, refl)
open_tests false false false false false = tt
open_tests false false false false true = (4, omega arith, refl)

build_tests : (own ended stopped : Bool) → IfSome (hall_rule stopped (if own then (if ended then Some H1 else None) else Some E1)) (Contains build_rules)
build_tests false ended false = (1, omega arith, refl)
build_tests false ended true = (1, omega arith, refl)
build_tests true true false = (2, omega arith, refl)
build_tests true true true = (3, omega arith, refl)
build_tests true false false = tt
build_tests true false true = (3, omega arith, refl)

build_held : (held : Option Held) (s : Service) (tree : TreeModel) (stopped : Bool) → IfSome (hall_rule stopped (submit_rule_of held s tree)) (Contains build_rules)
build_held None s tree false = (0, omega arith, refl)
build_held None s tree true = (0, omega arith, refl)
build_held (Some h) s tree stopped = build_tests (bytes_eq h.own tree.own) (is_history_full s) stopped

open_broken : (own : List ℕ) (rule : Rule) → IsBrokenSomewhere (λ s. open_rule s own) rule → Contains open_rules rule
open_broken own rule b =
    subst (λ (o : Option Rule). IfSome o (Contains open_rules)) b.first
    (open_tests (is_held b.service.held own) (clashes (taken_modules b.service) own) (is_full b.service.held (taken_modules b.service) own) (is_history_full b.service) b.stopped)

build_broken : (id : SessionId) (tree : TreeModel) (rule : Rule) → IsBrokenSomewhere (λ s. submit_rule s id tree) rule → Contains build_rules rule
build_broken id tree rule b =
    subst (λ (o : Option Rule). IfSome o (Contains build_rules)) b.first (build_held (module_held b.service.held id) b.service tree b.stopped)

open_memory : (rule : Rule) → rule ≡ M0 → Contains open_rules rule
open_memory rule same = let at : Contains open_rules M0 = (5, omega arith, refl) in subst (Contains open_rules) (sym same) at

build_memory : (rule : Rule) → rule ≡ M0 → Contains build_rules rule
build_memory rule same = let at : Contains build_rules M0 = (4, omega arith, refl) in subst (Contains build_rules) (sym same) at

build_stopped : (rule : Rule) → rule ≡ H2 → Contains build_rules rule
build_stopped rule same = let at : Contains build_rules H2 = (3, omega arith, refl) in subst (Contains build_rules) (sym same) at

open_listed : (own : List ℕ) (rule : Rule) → IsOpenRefusal own rule → Contains open_rules rule
open_listed own rule refused =
    ⊎_elim (λ (m : rule ≡ M0). open_memory rule m) (λ (b : IsBrokenSomewhere (λ s. open_rule s own) rule). open_broken own rule b) refused

submit_listed : (id : SessionId) (tree : TreeModel) (rule : Rule) → IsSubmitRefusal id tree rule → Contains build_rules rule
submit_listed id tree rule refused =
    ⊎_elim (λ (m : rule ≡ M0). build_memory rule m) (λ (b : IsBrokenSomewhere (λ s. submit_rule s id tree) rule). build_broken id tree rule b) refused

build_listed : (id : SessionId) (tree : TreeModel) (rule : Rule) → IsBuildRefusal id tree rule → Contains build_rules rule
build_listed id tree rule refused =
    ⊎_elim (λ (m : IsSubmitRefusal id tree rule). submit_listed id tree rule m) (λ (h : rule ≡ H2). build_stopped rule h) refused

pub refusals_are_listed : RefusalsAreListed
refusals_are_listed = record { opens = open_listed; builds = build_listed }
