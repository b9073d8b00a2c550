-- Which modules are taken.
use Rattle.std.proofs.Common.{if◌then◌else◌, ◌≡◌, ◌⊎◌, inl, inr, ℕ, Bool, true, false, List, [], ◌∷◌, ◌++◌, refl, ap, ◌∙◌, subst, Option, Some, None}
use Rattle.std.specs.List.{fold}
use Rattle.std.proofs.lemmas.Slice.Eq.{bytes_eq-Decides}
use Rattle.std.specs.Str.{bytes_eq}
use Rattle.go_term_core.proofs.Members.{In, in_back, in_front}
use Rattle.go_submit_core.specs.Laws.{submissions_of}
use Rattle.go_submit_core.specs.Modules.{is_among, with_module, with_trees}
use Rattle.go_submit_core.specs.Published.{modules_of}
use Rattle.go_submit_core.specs.declared.published.PublishedBatch.{PublishedBatch}
use Rattle.go_submit_core.specs.declared.submission.Submission.{Submission}
use Rattle.go_sched_core.specs.Service.{Service, taken_modules, with_running}
use Rattle.go_sched_core.specs.declared.event.Held.{Held}
use Rattle.go_sched_core.specs.declared.running.Running.{Running}
use Rattle.go_headline_laws.proofs.SeparationLists.{in_push, one_passes}

-- a module with others

module_more : (ms : List (List ℕ)) (x m : List ℕ) → In ms m ⊎ (x ≡ m) → In (with_module ms x) m
module_more ms x m h = by (is_among x ms) refl h
  where
    by : (b : Bool) → is_among x ms ≡ b → In ms m ⊎ (x ≡ m) → In (if b then ms else ms ++ x ∷ []) m
    by true e (inl there) = there
    by true e (inr same) = (let one = one_passes (λ t. bytes_eq t x) ms e in subst (In ms) ((bytes_eq-Decides one.0 x).0 one.2 ∙ same) one.1)
    by false e (inl there) = in_front ms (x ∷ []) m there
    by false e (inr same) = in_back ms (x ∷ []) m (inl same)

module_either : (ms : List (List ℕ)) (x m : List ℕ) → In (with_module ms x) m → In ms m ⊎ (x ≡ m)
module_either ms x m h = by (is_among x ms) h
  where
    by : (b : Bool) → In (if b then ms else ms ++ x ∷ []) m → In ms m ⊎ (x ≡ m)
    by true there = inl there
    by false there = in_push ms x m there

-- those of things that have modules

module _ {A : Type 0} (own : A → List ℕ) where
  abbrev pub Has : List A → List ℕ → Type 0
  Has [] m = ⊥
  Has (x ∷ xs) m = (own x ≡ m) ⊎ Has xs m

  abbrev with_all : List (List ℕ) → List A → List (List ℕ)
  with_all ms xs = fold (λ l x. with_module l (own x)) ms xs

  pub all_either : (ms : List (List ℕ)) (xs : List A) (m : List ℕ) → In (with_all ms xs) m → In ms m ⊎ Has xs m
  all_either ms [] m h = inl h
  all_either ms (x ∷ xs) m h = elim (all_either (with_module ms (own x)) xs m h) [
    | inl a ↦ elim (module_either ms (own x) m a) [ inl old ↦ inl old | inr here ↦ inr (inl here) ]
    | inr later ↦ inr (inr later)
  ]

  pub all_more : (ms : List (List ℕ)) (xs : List A) (m : List ℕ) → In ms m ⊎ Has xs m → In (with_all ms xs) m
  all_more ms [] m (inl h) = h
  all_more ms [] m (inr h) = absurd h
  all_more ms (x ∷ xs) m (inl h) = all_more (with_module ms (own x)) xs m (inl (module_more ms (own x) m (inl h)))
  all_more ms (x ∷ xs) m (inr (inl e)) = all_more (with_module ms (own x)) xs m (inl (module_more ms (own x) m (inr e)))
  all_more ms (x ∷ xs) m (inr (inr h)) = all_more (with_module ms (own x)) xs m (inr h)

  pub has_front : (xs ys : List A) (m : List ℕ) → Has xs m → Has (xs ++ ys) m
  has_front [] ys m h = absurd h
  has_front (x ∷ xs) ys m (inl e) = inl e
  has_front (x ∷ xs) ys m (inr h) = inr (has_front xs ys m h)

  pub has_back : (xs ys : List A) (m : List ℕ) → Has ys m → Has (xs ++ ys) m
  has_back [] ys m h = h
  has_back (x ∷ xs) ys m h = inr (has_back xs ys m h)

  pub has_either : (xs ys : List A) (m : List ℕ) → Has (xs ++ ys) m → Has xs m ⊎ Has ys m
  has_either [] ys m h = inr h
  has_either (x ∷ xs) ys m (inl e) = inl (inl e)
  has_either (x ∷ xs) ys m (inr h) = elim (has_either xs ys m h) [ inl a ↦ inl (inr a) | inr b ↦ inr b ]

  pub has_in : (xs : List A) (m : List ℕ) → Has xs m → (x : A) × In xs x × (own x ≡ m)
  has_in [] m h = absurd h
  has_in (x ∷ xs) m (inl e) = (x, inl refl, e)
  has_in (x ∷ xs) m (inr h) = let r = has_in xs m h in (r.0, inr r.1, r.2)

  pub in_has : (xs : List A) (x : A) → In xs x → Has xs (own x)
  in_has [] x h = absurd h
  in_has (y ∷ xs) x (inl e) = inl (ap own e)
  in_has (y ∷ xs) x (inr h) = inr (in_has xs x h)

abbrev pub of_tree : Submission → List ℕ
of_tree s = s.tree.own

abbrev pub of_held : Held → List ℕ
of_held h = h.own

-- those of batches

batches_either : (ms : List (List ℕ)) (bs : List PublishedBatch) (m : List ℕ) → In (fold (λ ms b. with_trees ms b.submissions) ms bs) m → In ms m ⊎ Has of_tree (submissions_of bs) m
batches_either ms [] m h = inl h
batches_either ms (b ∷ bs) m h = elim (batches_either (with_trees ms b.submissions) bs m h) [
  | inl a ↦ elim (all_either of_tree ms b.submissions m a) [ inl old ↦ inl old | inr here ↦ inr (has_front of_tree b.submissions (submissions_of bs) m here) ]
  | inr later ↦ inr (has_back of_tree b.submissions (submissions_of bs) m later)
]

batches_more : (ms : List (List ℕ)) (bs : List PublishedBatch) (m : List ℕ) → In ms m ⊎ Has of_tree (submissions_of bs) m → In (fold (λ ms b. with_trees ms b.submissions) ms bs) m
batches_more ms [] m (inl h) = h
batches_more ms [] m (inr h) = absurd h
batches_more ms (b ∷ bs) m (inl h) = batches_more (with_trees ms b.submissions) bs m (inl (all_more of_tree ms b.submissions m (inl h)))
batches_more ms (b ∷ bs) m (inr h) = elim (has_either of_tree b.submissions (submissions_of bs) m h) [
  | inl here ↦ batches_more (with_trees ms b.submissions) bs m (inl (all_more of_tree ms b.submissions m (inr here)))
  | inr later ↦ batches_more (with_trees ms b.submissions) bs m (inr later)
]

-- and those of one more
pub pushed : (bs : List PublishedBatch) (b : PublishedBatch) (m : List ℕ) → Has of_tree (submissions_of (bs ++ b ∷ [])) m → Has of_tree (submissions_of bs) m ⊎ Has of_tree b.submissions m
pushed [] b m h = elim (has_either of_tree b.submissions [] m h) [ inl a ↦ inr a | inr n ↦ absurd n ]
pushed (x ∷ bs) b m h = elim (has_either of_tree x.submissions (submissions_of (bs ++ b ∷ [])) m h) [
  | inl a ↦ inl (has_front of_tree x.submissions (submissions_of bs) m a)
  | inr later ↦ elim (pushed bs b m later) [ inl a ↦ inl (has_back of_tree x.submissions (submissions_of bs) m a) | inr b ↦ inr b ]
]

-- the batch that runs
abbrev pub Runs : Option Running → List ℕ → Type 0
Runs None m = ⊥
Runs (Some r) m = Has of_tree r.submissions m

running_either : (ms : List (List ℕ)) (o : Option Running) (m : List ℕ) → In (with_running ms o) m → In ms m ⊎ Runs o m
running_either ms None m h = inl h
running_either ms (Some r) m h = all_either of_tree ms r.submissions m h

running_more : (ms : List (List ℕ)) (o : Option Running) (m : List ℕ) → In ms m ⊎ Runs o m → In (with_running ms o) m
running_more ms None m (inl h) = h
running_more ms None m (inr h) = absurd h
running_more ms (Some r) m h = all_more of_tree ms r.submissions m h

-- a module is taken
abbrev pub Taken : Service → List ℕ → Type 0
Taken s m = Has of_tree (submissions_of s.published) m ⊎ (Runs s.running m ⊎ (Has of_tree s.waiting m ⊎ Has of_held s.held m))

pub is_taken : (s : Service) (m : List ℕ) → In (taken_modules s) m → Taken s m
is_taken s m h = elim (all_either of_held (with_trees (with_running (modules_of s.published) s.running) s.waiting) s.held m h) [
  | inl a ↦ elim (all_either of_tree (with_running (modules_of s.published) s.running) s.waiting m a) [
    | inl b ↦ elim (running_either (modules_of s.published) s.running m b) [
      | inl c ↦ elim (batches_either [] s.published m c) [ inl n ↦ absurd n | inr d ↦ inl d ]
      | inr c ↦ inr (inl c)
    ]
    | inr b ↦ inr (inr (inl b))
  ]
  | inr a ↦ inr (inr (inr a))
]

pub taken_is : (s : Service) (m : List ℕ) → Taken s m → In (taken_modules s) m
taken_is s m (inl h) =
    let published = batches_more [] s.published m (inr h) in
    let running = running_more (modules_of s.published) s.running m (inl published) in
    all_more of_held (with_trees (with_running (modules_of s.published) s.running) s.waiting) s.held m (inl (all_more of_tree (with_running (modules_of s.published) s.running) s.waiting m (inl running)))
taken_is s m (inr (inl h)) =
    let running = running_more (modules_of s.published) s.running m (inr h) in
    all_more of_held (with_trees (with_running (modules_of s.published) s.running) s.waiting) s.held m (inl (all_more of_tree (with_running (modules_of s.published) s.running) s.waiting m (inl running)))
taken_is s m (inr (inr (inl h))) = all_more of_held (with_trees (with_running (modules_of s.published) s.running) s.waiting) s.held m (inl (all_more of_tree (with_running (modules_of s.published) s.running) s.waiting m (inr h)))
taken_is s m (inr (inr (inr h))) = all_more of_held (with_trees (with_running (modules_of s.published) s.running) s.waiting) s.held m (inr h)
