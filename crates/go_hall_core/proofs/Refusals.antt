-- What a refused open or submission breaks.
use Rattle.std.proofs.Common.{◌≡◌, ◌⊎◌, ℕ, Bool, true, false, true≢false, List, Option, Some, refl, sym, ap, inl, inr, ⊎_elim, subst}
use Rattle.std.specs.Prelude.{if◌then◌else◌}
use Rattle.go_path_core.specs.text_core.declared.rule.Rule.{Rule}
use Rattle.go_path_core.specs.text_core.declared.rule.Rule.TheVariants.{M0}
use Rattle.go_board_core.specs.submit_core.Trees.{TreeModel}
use Rattle.go_sched_core.specs.Service.{Service, open_rule, submit_rule}
use Rattle.go_sched_core.specs.Steps.{Step, accepts}
use Rattle.go_sched_core.specs.declared.event.Event.TheVariants.{Open, Submit}
use Rattle.go_sched_core.specs.declared.event.SessionId.{SessionId}
use Rattle.go_sched_core.specs.declared.event.Reply.{Reply}
use Rattle.go_sched_core.specs.declared.event.Reply.TheVariants.{Opened, Submitted, Refused}
use Rattle.go_board_core.specs.submit_core.declared.submission.Ticket.{Ticket}
use Rattle.go_hall_core.specs.Kept.{IsRefusal, hall_rule, late}

refusal_of : (stopped : Bool) (broken : Option Rule) (rule : Rule) → ((rule ≡ M0) ⊎ (broken ≡ Some rule)) → IsRefusal stopped broken (if stopped then late rule else rule)
refusal_of false broken rule e = e
refusal_of true broken rule e = ⊎_elim (λ (m : rule ≡ M0). inl (ap late m)) (λ (b : broken ≡ Some rule). inr (ap (hall_rule true) b)) e

open_broken : (s : Service) (m : List ℕ) (rule : Rule) (t : Service) → Step s (Open m) (Refused rule) t → (rule ≡ M0) ⊎ (open_rule s m ≡ Some rule)
open_broken s m M0 t x = inl refl
open_broken s m rule t x = inr x.0

submit_broken : (s : Service) (id : SessionId) (tree : TreeModel) (rule : Rule) (t : Service) → Step s (Submit id tree) (Refused rule) t → (rule ≡ M0) ⊎ (submit_rule s id tree ≡ Some rule)
submit_broken s id tree M0 t x = inl refl
submit_broken s id tree rule t x = inr x.0

pub open_refusal : (s : Service) (m : List ℕ) (reply : Reply) (t : Service) (stopped : Bool) (shown : Rule) → Step s (Open m) reply t → ((rule : Rule) × (reply ≡ Refused rule) × (shown ≡ if stopped then late rule else rule)) → IsRefusal stopped (open_rule s m) shown
open_refusal s m reply t stopped shown step is =
    subst (IsRefusal stopped (open_rule s m)) (sym is.2) (refusal_of stopped (open_rule s m) is.0 (open_broken s m is.0 t (subst (λ (r : Reply). Step s (Open m) r t) is.1 step)))

pub submit_refusal : (s : Service) (id : SessionId) (tree : TreeModel) (reply : Reply) (t : Service) (stopped : Bool) (shown : Rule) → Step s (Submit id tree) reply t → ((rule : Rule) × (reply ≡ Refused rule) × (shown ≡ if stopped then late rule else rule)) → IsRefusal stopped (submit_rule s id tree) shown
submit_refusal s id tree reply t stopped shown step is =
    subst (IsRefusal stopped (submit_rule s id tree)) (sym is.2) (refusal_of stopped (submit_rule s id tree) is.0 (submit_broken s id tree is.0 t (subst (λ (r : Reply). Step s (Submit id tree) r t) is.1 step)))

pub open_refused : (s : Service) (m : List ℕ) (reply : Reply) (t : Service) → Step s (Open m) reply t → accepts reply ≡ false → (rule : Rule) × (reply ≡ Refused rule) × ((rule ≡ M0) ⊎ (open_rule s m ≡ Some rule))
open_refused s m (Opened id) t x not_so = absurd (true≢false not_so)
open_refused s m (Refused M0) t x not_so = (M0, refl, inl refl)
open_refused s m (Refused rule) t x not_so = (rule, refl, inr x.0)
open_refused s m _ t x not_so = absurd x

pub submit_refused : (s : Service) (id : SessionId) (tree : TreeModel) (reply : Reply) (t : Service) → Step s (Submit id tree) reply t → accepts reply ≡ false → (rule : Rule) × (reply ≡ Refused rule) × ((rule ≡ M0) ⊎ (submit_rule s id tree ≡ Some rule))
submit_refused s id tree (Submitted n) t x not_so = absurd (true≢false not_so)
submit_refused s id tree (Refused M0) t x not_so = (M0, refl, inl refl)
submit_refused s id tree (Refused rule) t x not_so = (rule, refl, inr x.0)
submit_refused s id tree _ t x not_so = absurd x
