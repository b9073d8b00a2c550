-- A step that was prepared only adds to the published batches.
use Rattle.std.proofs.Common.{◌≡◌, List, [], ◌∷◌, ◌++◌, sym, subst, append-nil}
use Rattle.go_submit_core.specs.Published.{BeginsWith, batch_of}
use Rattle.go_submit_core.specs.declared.published.PublishedBatch.{PublishedBatch}
use Rattle.go_sched_core.specs.Service.{Service}
use Rattle.go_sched_core.specs.Prepared.{IsAllowed}
use Rattle.go_sched_core.specs.mirrors.Fitting.{Fits, batches_after}
use Rattle.go_sched_core.specs.declared.change.Change.{Change}
use Rattle.go_sched_core.specs.declared.change.Change.TheVariants.{Open, Close, Submit, HandOut, Begin, PublishNew, Finish, PublishLast, GiveBack}
use Rattle.go_sched_core.specs.declared.event.Event.{Event}

begins_self : (bs : List PublishedBatch) → BeginsWith bs bs
begins_self bs = ([], sym (append-nil bs))

pub fits_grow : (s : Service) (e : Event) (c : Change) → Fits s e c → BeginsWith (batches_after s.published c) s.published
fits_grow s e (PublishNew bs) f = (batch_of f.r.submissions f.published.snapshot ∷ [], f.published.pushed)
fits_grow s e (PublishLast bs) f = (batch_of f.r.submissions f.published.snapshot ∷ [], f.published.pushed)
fits_grow s e (Open m) f = begins_self s.published
fits_grow s e (Close id) f = begins_self s.published
fits_grow s e (Submit grown) f = begins_self s.published
fits_grow s e (HandOut h) f = begins_self s.published
fits_grow s e (Begin r st h) f = begins_self s.published
fits_grow s e (Finish ending moved) f = begins_self s.published
fits_grow s e GiveBack f = begins_self s.published

-- of an event that is prepared, no rule refuses it
pub fits_allowed : (s : Service) (e : Event) (c : Change) → Fits s e c → IsAllowed s e
fits_allowed s e (Open m) f = subst (IsAllowed s) (sym f.event) f.rule
fits_allowed s e (Close id) f = subst (IsAllowed s) (sym f.event) f.held
fits_allowed s e (Submit grown) f = subst (IsAllowed s) (sym f.event) f.rule
fits_allowed s e (HandOut h) f = subst (IsAllowed s) (sym f.event) tt
fits_allowed s e (Begin r st h) f = subst (IsAllowed s) (sym f.begins.event) tt
fits_allowed s e (PublishNew bs) f = subst (IsAllowed s) (sym f.begins.event) tt
fits_allowed s e (Finish ending moved) f = subst (IsAllowed s) (sym f.finishing.event) tt
fits_allowed s e (PublishLast bs) f = subst (IsAllowed s) (sym f.finishing.event) tt
fits_allowed s e GiveBack f = subst (IsAllowed s) (sym f.event) f.running
