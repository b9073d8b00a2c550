-- The modules that are taken do not overlap.
use Rattle.std.proofs.Common.{if◌then◌else◌, ◌≡◌, ◌⊎◌, inl, inr, ℕ, ◌+◌, Bool, true, false, not, ◌&&◌, List, [], ◌∷◌, ◌++◌, get_or, refl, sym, ap, ◌∙◌, subst, Option, Some, None}
use Rattle.std.specs.Prelude.{⊤, nat_eq, position}
use Rattle.std.specs.Str.{bytes_eq}
use Rattle.std.proofs.lemmas.List.Elements.{Contains-get_or}
use Rattle.std.proofs.lemmas.Slice.Eq.{bytes_eq-Decides}
use Rattle.go_path_core.specs.text_core.declared.rule.Rule.{Rule}
use Rattle.go_path_core.specs.text_core.declared.rule.Rule.TheVariants.{E1, O1, O3}
use Rattle.go_path_core.specs.Path.{begins, elements, overlap}
use Rattle.go_path_core.proofs.PathLaws.{one_module_of_a_path, overlap_is_decided}
use Rattle.go_path_core.proofs.Paths.{begins_is}
use Rattle.go_term_core.proofs.Members.{contained_in, in_contained}
use Rattle.go_submit_core.specs.snap_core.Snapshots.{SnapshotModel}
use Rattle.go_sched_core.specs.batch_core.Batches.{BatchModel}
use Rattle.go_submit_core.specs.Laws.{submissions_of}
use Rattle.go_submit_core.specs.Published.{batch_of}
use Rattle.go_submit_core.specs.Submitted.{submission_with}
use Rattle.go_submit_core.specs.Trees.{TreeModel}
use Rattle.go_submit_core.specs.declared.submission.Submission.{Submission}
use Rattle.go_sched_core.specs.Service.{Service, clashes, counts, empty, history_rule, is_held, is_other_overlap, module_held, open_rule, submit_rule, submit_rule_of, taken_modules, taken_rule}
use Rattle.go_sched_core.specs.Steps.{IsFormed, held_with, with_batch, with_formed, without_at, without_session}
use Rattle.go_sched_core.specs.declared.event.Held.{Held}
use Rattle.go_sched_core.specs.declared.event.SessionId.{SessionId}
use Rattle.go_sched_core.specs.declared.running.Running.{Running}
use Rattle.go_headline_laws.specs.separation.Laws.{AreApart, ModulesStayApart, OwnPaths, PublishedAreTaken, ReplaysStayApart, RunsStayApart, SubmissionsAreOwn}
use Rattle.go_headline_laws.proofs.SeparationCases.{Keeps, replay_kept, run_kept, step_kept}
use Rattle.go_headline_laws.proofs.SeparationLists.{found_in, in_removed, none_passes, or_swap}
use Rattle.go_headline_laws.proofs.SeparationTaken.{Has, Runs, Taken, has_either, has_in, in_has, is_taken, of_held, of_tree, pushed, taken_is}

abbrev Apart : Service → Type 0
Apart s = (a b : List ℕ) → Taken s a → Taken s b → overlap a b ≡ true → a ≡ b

apart_of : (s : Service) → AreApart (taken_modules s) → Apart s
apart_of s h a b x y e = h a b (contained_in (taken_modules s) a (taken_is s a x)) (contained_in (taken_modules s) b (taken_is s b y)) e

of_apart : (s : Service) → Apart s → AreApart (taken_modules s)
of_apart s h a b x y e = h a b (is_taken s a (in_contained (taken_modules s) a x)) (is_taken s b (in_contained (taken_modules s) b y)) e

-- where no more are taken
fewer : (s t : Service) → ((m : List ℕ) → Taken t m → Taken s m) → Apart s → Apart t
fewer s t less h a b x y e = h a b (less a x) (less b y) e

-- opens

-- what a rule that refuses nothing says
not_clashing : (s : Service) (m : List ℕ) → open_rule s m ≡ None → clashes (taken_modules s) m ≡ false
not_clashing s m h = first (is_held s.held m) h
  where
    second : (b : Bool) (rest : Option Rule) → (if b then Some O3 else rest) ≡ None → b ≡ false
    second true rest e = absurd (cc)
    second false rest e = refl

    first : (b : Bool) → (if b then Some O1 else taken_rule s (taken_modules s) m) ≡ None → clashes (taken_modules s) m ≡ false
    first true e = absurd (cc)
    first false e = second (clashes (taken_modules s) m) _ e

other_is : (a m : List ℕ) → is_other_overlap m a ≡ false → overlap a m ≡ true → a ≡ m
other_is a m h o = by (bytes_eq a m) refl h
  where
    by : (b : Bool) → bytes_eq a m ≡ b → (not b && overlap a m) ≡ false → a ≡ m
    by true e k = (bytes_eq-Decides a m).0 e
    by false e k = absurd (let no : true ≡ false = sym o ∙ k in cc)

opened_apart : (s : Service) (id : SessionId) (m : List ℕ) → open_rule s m ≡ None → Apart s → Apart (counts (record s { opened = s.opened + 1; held = s.held ++ held_with id m ∷ [] }))
opened_apart s id m allowed h = λ a b x y e. by a b (old_or_new a x) (old_or_new b y) e
  where
    old_or_new : (a : List ℕ) → Taken (counts (record s { opened = s.opened + 1; held = s.held ++ held_with id m ∷ [] })) a → Taken s a ⊎ (m ≡ a)
    old_or_new a (inl p) = inl (inl p)
    old_or_new a (inr (inl p)) = inl (inr (inl p))
    old_or_new a (inr (inr (inl p))) = inl (inr (inr (inl p)))
    old_or_new a (inr (inr (inr p))) = elim (has_either of_held s.held (held_with id m ∷ []) a p) [
      | inl q ↦ inl (inr (inr (inr q)))
      | inr q ↦ elim q [ inl r ↦ inr r | inr n ↦ absurd n ]
    ]

    meets : (a : List ℕ) → Taken s a → overlap a m ≡ true → a ≡ m
    meets a x e = other_is a m (none_passes (is_other_overlap m) (taken_modules s) a (not_clashing s m allowed) (taken_is s a x)) e

    by : (a b : List ℕ) → Taken s a ⊎ (m ≡ a) → Taken s b ⊎ (m ≡ b) → overlap a b ≡ true → a ≡ b
    by a b (inl x) (inl y) e = h a b x y e
    by a b (inl x) (inr n) e = meets a x (ap (overlap a) n ∙ e) ∙ n
    by a b (inr n) (inl y) e = (let back : overlap b m ≡ true = ap (overlap b) n ∙ (or_swap (begins (elements b) (elements a)) (begins (elements a) (elements b)) ∙ e) in sym (meets b y back ∙ n))
    by a b (inr n) (inr k) e = sym n ∙ k

-- closes

less_held : (hs : List Held) (o : Option ℕ) (m : List ℕ) → Has of_held (without_at hs o) m → Has of_held hs m
less_held hs None m h = h
less_held hs (Some k) m h =
    let r = has_in of_held (without_at hs (Some k)) m h in
    subst (Has of_held hs) r.2 (in_has of_held hs r.0 (in_removed hs k r.0 r.1))

closed_apart : (s : Service) (id : SessionId) → Apart s → Apart (counts (record s { held = without_session s.held id }))
closed_apart s id h = fewer s (counts (record s { held = without_session s.held id })) less h
  where
    less : (m : List ℕ) → Taken (counts (record s { held = without_session s.held id })) m → Taken s m
    less m (inl p) = inl p
    less m (inr (inl p)) = inr (inl p)
    less m (inr (inr (inl p))) = inr (inr (inl p))
    less m (inr (inr (inr p))) = inr (inr (inr (less_held s.held (position (λ (x : Held). nat_eq x.session.0 id.0) s.held) m p)))

-- submissions

-- a submission that no rule refuses is of the module that its session holds
held_own : (s : Service) (id : SessionId) (tree : TreeModel) → submit_rule s id tree ≡ None → (h : Held) × (module_held s.held id ≡ Some h) × (h.own ≡ tree.own)
held_own s id tree h = by (module_held s.held id) refl h
  where
    second : (x : Held) (b : Bool) → bytes_eq x.own tree.own ≡ b → (if b then history_rule s else Some E1) ≡ None → x.own ≡ tree.own
    second x true e k = (bytes_eq-Decides x.own tree.own).0 e
    second x false e k = absurd (cc)

    by : (o : Option Held) → module_held s.held id ≡ o → submit_rule_of o s tree ≡ None → (h : Held) × (module_held s.held id ≡ Some h) × (h.own ≡ tree.own)
    by None e k = absurd (cc)
    by (Some x) e k = (x, e, second x (bytes_eq x.own tree.own) refl k)

own_held : (s : Service) (id : SessionId) (tree : TreeModel) → submit_rule s id tree ≡ None → Has of_held s.held tree.own
own_held s id tree h = (let x = held_own s id tree h in subst (Has of_held s.held) x.2 (in_has of_held s.held x.0 (found_in (λ (h : Held). nat_eq h.session.0 id.0) s.held x.0 x.1)))

submitted_apart : (s : Service) (id : SessionId) (n : ℕ) (tree : TreeModel) → submit_rule s id tree ≡ None → Apart s → Apart (counts (record s { tickets = s.tickets + 1; waiting = s.waiting ++ submission_with n tree ∷ [] }))
submitted_apart s id n tree allowed h = fewer s (counts (record s { tickets = s.tickets + 1; waiting = s.waiting ++ submission_with n tree ∷ [] })) less h
  where
    less : (m : List ℕ) → Taken (counts (record s { tickets = s.tickets + 1; waiting = s.waiting ++ submission_with n tree ∷ [] })) m → Taken s m
    less m (inl p) = inl p
    less m (inr (inl p)) = inr (inl p)
    less m (inr (inr (inl p))) = elim (has_either of_tree s.waiting (submission_with n tree ∷ []) m p) [
      | inl q ↦ inr (inr (inl q))
      | inr q ↦ elim q [ inl r ↦ inr (inr (inr (subst (Has of_held s.held) r (own_held s id tree allowed)))) | inr none ↦ absurd none ]
    ]
    less m (inr (inr (inr p))) = inr (inr (inr p))

-- what runs

formed_apart : (s : Service) (r : Running) → IsFormed s r → Apart s → Apart (with_formed s r)
formed_apart s r formed h = fewer s (with_formed s r) less h
  where
    less : (m : List ℕ) → Taken (with_formed s r) m → Taken s m
    less m (inl p) = inl p
    less m (inr (inl p)) = inr (inr (inl (subst (λ (ss : List Submission). Has of_tree ss m) formed.submissions p)))
    less m (inr (inr (inl p))) = absurd p
    less m (inr (inr (inr p))) = inr (inr (inr p))

acts_apart : (s : Service) (r : Running) (b : BatchModel) → s.running ≡ Some r → Apart s → Apart (counts (record s { actions = s.actions + 1; running = Some (with_batch r b) }))
acts_apart s r b runs h = fewer s (counts (record s { actions = s.actions + 1; running = Some (with_batch r b) })) less h
  where
    less : (m : List ℕ) → Taken (counts (record s { actions = s.actions + 1; running = Some (with_batch r b) })) m → Taken s m
    less m (inl p) = inl p
    less m (inr (inl p)) = inr (inl (subst (λ (o : Option Running). Runs o m) (sym runs) p))
    less m (inr (inr p)) = inr (inr p)

finishes_apart : (s : Service) (r : Running) (b : BatchModel) → s.running ≡ Some r → Apart s → Apart (counts (record s { running = Some (with_batch r b) }))
finishes_apart s r b runs h = fewer s (counts (record s { running = Some (with_batch r b) })) less h
  where
    less : (m : List ℕ) → Taken (counts (record s { running = Some (with_batch r b) })) m → Taken s m
    less m (inl p) = inl p
    less m (inr (inl p)) = inr (inl (subst (λ (o : Option Running). Runs o m) (sym runs) p))
    less m (inr (inr p)) = inr (inr p)

publishes_apart : (s : Service) (r : Running) (x : SnapshotModel) → s.running ≡ Some r → Apart s → Apart (counts (record s { running = None; published = s.published ++ batch_of r.submissions x ∷ [] }))
publishes_apart s r x runs h = fewer s (counts (record s { running = None; published = s.published ++ batch_of r.submissions x ∷ [] })) less h
  where
    less : (m : List ℕ) → Taken (counts (record s { running = None; published = s.published ++ batch_of r.submissions x ∷ [] })) m → Taken s m
    less m (inl p) = elim (pushed s.published (batch_of r.submissions x) m p) [ inl q ↦ inl q | inr q ↦ inr (inl (subst (λ (o : Option Running). Runs o m) (sym runs) q)) ]
    less m (inr (inl p)) = absurd p
    less m (inr (inr p)) = inr (inr p)

gives_back_apart : (s : Service) → Apart s → Apart (counts (record s { running = None }))
gives_back_apart s h = fewer s (counts (record s { running = None })) less h
  where
    less : (m : List ℕ) → Taken (counts (record s { running = None })) m → Taken s m
    less m (inl p) = inl p
    less m (inr (inl p)) = absurd p
    less m (inr (inr p)) = inr (inr p)

keeps_apart : Keeps (λ e. ⊤) Apart
keeps_apart = record {
  opens = opened_apart;
  closes = closed_apart;
  submits = λ s id n tree allowed fit h. submitted_apart s id n tree allowed h;
  forms = formed_apart;
  acts = λ s r b runs on h. acts_apart s r b runs h;
  finishes = λ s r b runs on h. finishes_apart s r b runs h;
  publishes = λ s r x runs on whole h. publishes_apart s r x runs h;
  gives_back = gives_back_apart;
}

empty_apart : Apart empty
empty_apart a b (inl p) y e = absurd p
empty_apart a b (inr (inl p)) y e = absurd p
empty_apart a b (inr (inr (inl p))) y e = absurd p
empty_apart a b (inr (inr (inr p))) y e = absurd p

pub modules_stay_apart : ModulesStayApart
modules_stay_apart s e r t x h = of_apart t (step_kept (λ e. ⊤) Apart keeps_apart s e r t tt x (apart_of s h))

pub runs_stay_apart : RunsStayApart
runs_stay_apart es rs t x = of_apart t (run_kept (λ e. ⊤) Apart keeps_apart empty es rs t (λ k d lt. tt) x empty_apart)

pub replays_stay_apart : ReplaysStayApart
replays_stay_apart es t x = of_apart t (replay_kept (λ e. ⊤) Apart keeps_apart empty es t (λ k d lt. tt) x empty_apart)

pub submissions_are_own : SubmissionsAreOwn
submissions_are_own s id tree ticket t x = held_own s id tree x.0

pub published_are_taken : PublishedAreTaken
published_are_taken s x h = contained_in (taken_modules s) x.tree.own (taken_is s x.tree.own (inl (in_has of_tree (submissions_of s.published) x (in_contained (submissions_of s.published) x h))))

pub own_paths : OwnPaths
own_paths es rs t x own path taken inside = λ k d lt inside_other.
    let other : Submission = get_or (submissions_of t.published) k d in
    let there = published_are_taken t other (Contains-get_or (submissions_of t.published) k d lt) in
    let both = one_module_of_a_path (elements other.tree.own) (elements own) (elements path) ((begins_is (elements other.tree.own) (elements path)).0 inside_other) ((begins_is (elements own) (elements path)).0 inside) in
    let meets : overlap other.tree.own own ≡ true = (overlap_is_decided other.tree.own own).1 both in
    runs_stay_apart es rs t x other.tree.own own there taken meets
