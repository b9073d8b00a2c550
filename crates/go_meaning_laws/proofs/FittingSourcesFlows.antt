-- How statements are left, one behind another.
use Rattle.std.proofs.Common.{◌≡◌, ℕ, zero, suc, Bool, true, false, not, ◌&&◌, ◌||◌, List, refl, ap, ◌∙◌, if◌then◌else◌}
use Rattle.go_code_core.specs.declared.fragments.names.Gives.{Gives}
use Rattle.go_meaning_laws.specs.source_meaning.Meaning.{Outcome, Done, Panicked, Unfinished, Nonsense, and_then, Variables, Flow, Falls, Breaks, Continues, Returns, flow_on, then_do, loop_on, turns}
use Rattle.go_meaning_laws.proofs.FittingSourcesValued.{Means, means_then, Gave}

or_left : (a b : Bool) → a ≡ true → (a || b) ≡ true
or_left a b e = ap (λ t. t || b) e

or_right : (a b : Bool) → b ≡ true → (a || b) ≡ true
or_right true b e = refl
or_right false b e = e

or_none : (a b : Bool) → a ≡ false → b ≡ false → (a || b) ≡ false
or_none a b e f = ap (λ t. t || b) e ∙ f

and_left : (a b : Bool) → a ≡ false → (a && b) ≡ false
and_left a b e = ap (λ t. t && b) e

and_right : (a b : Bool) → b ≡ false → (a && b) ≡ false
and_right true b e = e
and_right false b e = refl

-- where a statement of a function that gives g may break, continue and fall, and what is so of the variables there
abbrev pub FlowFits : (P Q : Variables → Type 0) → Gives → Bool → Bool → Bool → Flow → Type 0
FlowFits P Q g b c t (Falls values) = Q values × (t ≡ false)
FlowFits P Q g b c t (Breaks values) = P values × (b ≡ true)
FlowFits P Q g b c t (Continues values) = P values × (c ≡ true)
FlowFits P Q g b c t (Returns vs) = Gave g vs

module _ (g : Gives) where
  flow_wider : (P Q P' Q' : Variables → Type 0) (b c t b' c' t' : Bool) → ((values : Variables) → P values → P' values) → ((values : Variables) → Q values → Q' values) → (b ≡ true → b' ≡ true) → (c ≡ true → c' ≡ true) → (t ≡ false → t' ≡ false) → (flow : Flow) → FlowFits P Q g b c t flow → FlowFits P' Q' g b' c' t' flow
  flow_wider P Q P' Q' b c t b' c' t' fp fq fb fc ft (Falls values) h = (fq values h.0, ft h.1)
  flow_wider P Q P' Q' b c t b' c' t' fp fq fb fc ft (Breaks values) h = (fp values h.0, fb h.1)
  flow_wider P Q P' Q' b c t b' c' t' fp fq fb fc ft (Continues values) h = (fp values h.0, fc h.1)
  flow_wider P Q P' Q' b c t b' c' t' fp fq fb fc ft (Returns vs) h = h

  pub wider : (P Q P' Q' : Variables → Type 0) (b c t b' c' t' : Bool) → ((values : Variables) → P values → P' values) → ((values : Variables) → Q values → Q' values) → (b ≡ true → b' ≡ true) → (c ≡ true → c' ≡ true) → (t ≡ false → t' ≡ false) → (o : Outcome Flow) → Means (FlowFits P Q g b c t) o → Means (FlowFits P' Q' g b' c' t') o
  wider P Q P' Q' b c t b' c' t' fp fq fb fc ft (Done flow out) h = flow_wider P Q P' Q' b c t b' c' t' fp fq fb fc ft flow h
  wider P Q P' Q' b c t b' c' t' fp fq fb fc ft (Panicked value out) h = tt
  wider P Q P' Q' b c t b' c' t' fp fq fb fc ft (Unfinished out) h = tt
  wider P Q P' Q' b c t b' c' t' fp fq fb fc ft Nonsense h = h

  -- the same ways out, with less of the variables
  pub lesser : (P Q P' Q' : Variables → Type 0) (b c t : Bool) → ((values : Variables) → P values → P' values) → ((values : Variables) → Q values → Q' values) → (o : Outcome Flow) → Means (FlowFits P Q g b c t) o → Means (FlowFits P' Q' g b c t) o
  lesser P Q P' Q' b c t fp fq o h = wider P Q P' Q' b c t b c t fp fq (λ e. e) (λ e. e) (λ e. e) o h

  -- what never breaks and never continues asks nothing of the variables there
  pub unjumped : (P P' Q : Variables → Type 0) (t : Bool) (o : Outcome Flow) → Means (FlowFits P Q g false false t) o → Means (FlowFits P' Q g false false t) o
  unjumped P P' Q t (Done (Falls values) out) h = h
  unjumped P P' Q t (Done (Breaks values) out) h = absurd (cc h.1)
  unjumped P P' Q t (Done (Continues values) out) h = absurd (cc h.1)
  unjumped P P' Q t (Done (Returns vs) out) h = h
  unjumped P P' Q t (Panicked value out) h = tt
  unjumped P P' Q t (Unfinished out) h = tt
  unjumped P P' Q t Nonsense h = h

  -- statements one behind another
  pub flow_means : (P Q R : Variables → Type 0) (b1 c1 t1 b2 c2 t2 : Bool) (o : Outcome Flow) (go : Variables → List ℕ → Outcome Flow) → ((values : Variables) → Q values → P values) → Means (FlowFits P Q g b1 c1 t1) o → ((values : Variables) (out : List ℕ) → Q values → Means (FlowFits Q R g b2 c2 t2) (go values out)) → Means (FlowFits P R g (b1 || b2) (c1 || c2) (t1 || t2)) (then_do o go)
  flow_means P Q R b1 c1 t1 b2 c2 t2 o go w m k = means_then (FlowFits P Q g b1 c1 t1) (FlowFits P R g (b1 || b2) (c1 || c2) (t1 || t2)) o _ m cases
    where
      cases : (flow : Flow) (out : List ℕ) → FlowFits P Q g b1 c1 t1 flow → Means (FlowFits P R g (b1 || b2) (c1 || c2) (t1 || t2)) (flow_on flow out go)
      cases (Falls values) out h = wider Q R P R b2 c2 t2 (b1 || b2) (c1 || c2) (t1 || t2) w (λ values r. r) (or_right b1 b2) (or_right c1 c2) (or_none t1 t2 h.1) (go values out) (k values out h.0)
      cases (Breaks values) out h = (h.0, or_left b1 b2 h.1)
      cases (Continues values) out h = (h.0, or_left c1 c2 h.1)
      cases (Returns vs) out h = h

  -- a statement that only falls, and then another
  pub first_means : (P Q P' R : Variables → Type 0) (b c t : Bool) (o : Outcome Flow) (go : Variables → List ℕ → Outcome Flow) (t1 : Bool) → Means (FlowFits P Q g false false t1) o → ((values : Variables) (out : List ℕ) → Q values → Means (FlowFits P' R g b c t) (go values out)) → Means (FlowFits P' R g b c t) (then_do o go)
  first_means P Q P' R b c t o go t1 m k = means_then (FlowFits P Q g false false t1) (FlowFits P' R g b c t) o _ m cases
    where
      cases : (flow : Flow) (out : List ℕ) → FlowFits P Q g false false t1 flow → Means (FlowFits P' R g b c t) (flow_on flow out go)
      cases (Falls values) out h = k values out h.0
      cases (Breaks values) out h = absurd (cc h.1)
      cases (Continues values) out h = absurd (cc h.1)
      cases (Returns vs) out h = h

  -- one of two
  pub either_means : (P Q : Variables → Type 0) (holds : Bool) (bi ci ti bo co to : Bool) (inner outer : Outcome Flow) → Means (FlowFits P Q g bi ci ti) inner → Means (FlowFits P Q g bo co to) outer → Means (FlowFits P Q g (bi || bo) (ci || co) (ti && to)) (if holds then inner else outer)
  either_means P Q true bi ci ti bo co to inner outer mi mo = wider P Q P Q bi ci ti (bi || bo) (ci || co) (ti && to) (λ values p. p) (λ values q. q) (or_left bi bo) (or_left ci co) (and_left ti to) inner mi
  either_means P Q false bi ci ti bo co to inner outer mi mo = wider P Q P Q bo co to (bi || bo) (ci || co) (ti && to) (λ values p. p) (λ values q. q) (or_right bi bo) (or_right ci co) (and_right ti to) outer mo

  -- turns of a loop
  module _ (P R S : Variables → Type 0) (back : (values : Variables) → S values → R values) (has_test : Bool) (bl cl tl : Bool) (test : Variables → List ℕ → Outcome Bool) (body post : Variables → List ℕ → Outcome Flow) (tp : Bool)
      (tests : (values : Variables) (out : List ℕ) → R values → Means (λ (holds : Bool). holds ≡ false → has_test ≡ true) (test values out))
      (bodies : (values : Variables) (out : List ℕ) → R values → Means (FlowFits R R g bl cl tl) (body values out))
      (posts : (values : Variables) (out : List ℕ) → R values → Means (FlowFits R S g false false tp) (post values out)) where
    abbrev Loops : ℕ → Type 0
    Loops m = (values : Variables) (out : List ℕ) → R values → Means (FlowFits P R g false false (not has_test && not bl)) (turns m test body post values out)

    again_means : (m : ℕ) → Loops m → (values : Variables) (out : List ℕ) → R values → Means (FlowFits P R g false false (not has_test && not bl)) (then_do (post values out) (turns m test body post))
    again_means m more values out l = first_means R S P R false false (not has_test && not bl) (post values out) (turns m test body post) tp (posts values out l) (λ values out h. more values out (back values h))

    body_means : (m : ℕ) → Loops m → (flow : Flow) (out : List ℕ) → FlowFits R R g bl cl tl flow → Means (FlowFits P R g false false (not has_test && not bl)) (loop_on flow out (λ values out. then_do (post values out) (turns m test body post)))
    body_means m more (Falls values) out h = again_means m more values out h.0
    body_means m more (Breaks values) out h = (h.0, and_right (not has_test) (not bl) (ap not h.1))
    body_means m more (Continues values) out h = again_means m more values out h.0
    body_means m more (Returns vs) out h = h

    test_case : (m : ℕ) → Loops m → (values : Variables) → R values → (holds : Bool) (out : List ℕ) → (holds ≡ false → has_test ≡ true) → Means (FlowFits P R g false false (not has_test && not bl)) (if holds then and_then (body values out) (λ flow out. loop_on flow out (λ values out. then_do (post values out) (turns m test body post))) else Done (Falls values) out)
    test_case m more values l true out h = means_then (FlowFits R R g bl cl tl) (FlowFits P R g false false (not has_test && not bl)) (body values out) _ (bodies values out l) (body_means m more)
    test_case m more values l false out h = (l, and_left (not has_test) (not bl) (ap not (h refl)))

    pub turns_mean : (m : ℕ) → Loops m
    turns_mean zero values out l = tt
    turns_mean (suc m) values out l = means_then (λ (holds : Bool). holds ≡ false → has_test ≡ true) (FlowFits P R g false false (not has_test && not bl)) (test values out) _ (tests values out l) (test_case m (turns_mean m) values l)
