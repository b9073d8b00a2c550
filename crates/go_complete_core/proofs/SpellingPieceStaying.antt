-- A node has the same value in two tables, or none in both, where all is the same to which it leads; and where each node needs it that is not.
use Rattle.std.proofs.Common.{◌≡◌, ◌⊎◌, ℕ, zero, suc, ◌<◌, inl, inr, List, [], ◌∷◌, ◌++◌, Option, Some, None, length, refl, sym, ◌∙◌, ap, subst, arith}
use Rattle.std.specs.List.{Contains}
use Rattle.std.proofs.lemmas.Bool.{cases_lt}
use Rattle.std.proofs.lemmas.List.{get_or_past}
use Rattle.go_digraph_core.specs.needs.Needs.{needed, NeedsLead, IsEndless, EndsWithin, known_in, LooksAtNeeds, AreValues}
use Rattle.go_digraph_core.proofs.NeedsNeeded.{endless_never}
use Rattle.go_complete_core.specs.spelling.Values.{IsSame, NeedsInBoth, NeededStays, UntouchedStays}

-- a path and one node more
leads_more : (rows : List (List ℕ)) (path : List ℕ) (a b c : ℕ) → NeedsLead rows a path b → Contains (needed rows b) c → NeedsLead rows a (path ++ c ∷ []) c
leads_more rows [] a b c h has = (subst (λ x. Contains (needed rows x) c) (sym h) has, refl)
leads_more rows (d ∷ path) a b c h has = (h.0, leads_more rows path d b c h.1 has)

-- what leads to a node that needs it is endless
leads_back : (rows : List (List ℕ)) (path : List ℕ) (a b : ℕ) → NeedsLead rows a path b → Contains (needed rows b) a → IsEndless rows a
leads_back rows [] a b h has = record { node = a; path = []; leads = refl; first = a; around = []; back = leads_more rows [] a b a h has }
leads_back rows (d ∷ path) a b h has = record { node = a; path = []; leads = refl; first = d; around = path ++ a ∷ []; back = leads_more rows (d ∷ path) a b a h has }

module _ (V : Type 0) (rows others : List (List ℕ)) (value other : (ℕ → Option V) → ℕ → V) (t u : List (Option V)) (n : ℕ) (local : LooksAtNeeds others other) (long : length rows ≡ length others)
    (each : (a : ℕ) (path : List ℕ) → NeedsLead rows n path a → IsSame V rows others value other a) (at : AreValues V rows value t) (au : AreValues V others other u) where
  -- a node has the same value, and its paths end in the other rows
  record Stays (k a : ℕ) : Type 0 where
    same : known_in t a ≡ known_in u a
    ends : EndsWithin others k a

  module _ (k a : ℕ) (w : EndsWithin rows (suc k) a) (w' : EndsWithin others (suc k) a) (is : IsSame V rows others value other a) (needs : (b : ℕ) → Contains (needed rows a) b → known_in t b ≡ known_in u b) where
    agree : (b : ℕ) → Contains (needed others a) b → known_in t b ≡ known_in u b
    agree b has = needs b (subst (λ row. Contains row b) (sym is.row) has)

    inside : a < length rows → (x y : Option V) → known_in t a ≡ x → known_in u a ≡ y → x ≡ y
    inside lt (Some v) (Some z) et eu = ap Some (at.values a v et ∙ (is.rule (known_in t) ∙ (local (known_in t) (known_in u) a agree ∙ sym (au.values a z eu))))
    inside lt None y et eu = absurd (endless_never rows (suc k) a (at.endless a lt et) w)
    inside lt (Some v) None et eu = absurd (endless_never others (suc k) a (au.endless a (omega (arith, lt, long)) eu) w')

    value_same : known_in t a ≡ known_in u a
    value_same = elim (cases_lt a (length rows)) [
      | inl lt ↦ inside lt (known_in t a) (known_in u a) refl refl
      | inr far ↦ get_or_past t a None (omega (arith, far, at.as_many)) ∙ sym (get_or_past u a None (omega (arith, far, long, au.as_many)))
    ]

  stays : (k a : ℕ) (path : List ℕ) → EndsWithin rows k a → NeedsLead rows n path a → Stays k a
  stays zero a path w h = absurd w
  stays (suc k) a path w h =
      let is : IsSame V rows others value other a = each a path h in
      let more : (b : ℕ) → Contains (needed rows a) b → Stays k b = λ b has. stays k b (path ++ b ∷ []) (w b has) (leads_more rows path n a b h has) in
      let w' : EndsWithin others (suc k) a = λ b has. (more b (subst (λ row. Contains row b) (sym is.row) has)).ends in
      record { same = value_same k a w w' is (λ b has. (more b has).same); ends = w' }

  pub known_stays : (m : ℕ) → EndsWithin rows m n → known_in t n ≡ known_in u n
  known_stays m w = (stays m n [] w refl).same

-- each node that differs needs this one

module _ (V : Type 0) (rows others : List (List ℕ)) (value other : (ℕ → Option V) → ℕ → V) (n : ℕ) where
  turned : (a : ℕ) → IsSame V rows others value other a ⊎ NeedsInBoth rows others a n → IsSame V others rows other value a ⊎ NeedsInBoth others rows a n
  turned a (inl is) = inl (record { row = sym is.row; rule = λ known. sym (is.rule known) })
  turned a (inr needs) = inr (record { before = needs.after; after = needs.before })

  on_paths : ((a : ℕ) → IsSame V rows others value other a ⊎ NeedsInBoth rows others a n) → (m : ℕ) → EndsWithin rows m n → (a : ℕ) (path : List ℕ) → NeedsLead rows n path a → IsSame V rows others value other a
  on_paths each m w a path h = elim (each a) [
    | inl is ↦ is
    | inr needs ↦ absurd (endless_never rows m n (leads_back rows path n a h needs.before) w)
  ]

pub needed_stays : (V : Type 0) → NeededStays V
needed_stays V rows others value other t u n local local' long each at au = either (known_in t n) (known_in u n) refl refl
  where
    either : (x y : Option V) → known_in t n ≡ x → known_in u n ≡ y → known_in t n ≡ known_in u n
    either (Some v) y et eu =
        let w = at.ends n v et in
        known_stays V rows others value other t u n local' long (on_paths V rows others value other n each (length rows) w) at au (length rows) w
    either None (Some z) et eu =
        let w = au.ends n z eu in
        sym (known_stays V others rows other value u t n local (sym long) (on_paths V others rows other value n (λ a. turned V rows others value other n a (each a)) (length others) w) au at (length others) w)
    either None None et eu = et ∙ sym eu

-- all is the same to which it leads

module _ (V : Type 0) (rows others : List (List ℕ)) (value other : (ℕ → Option V) → ℕ → V) where
  -- a path in the other rows is one in these
  same_path : (path : List ℕ) (m a : ℕ) → ((b : ℕ) (front : List ℕ) → NeedsLead rows m front b → IsSame V rows others value other b) → NeedsLead others m path a → NeedsLead rows m path a
  same_path [] m a each h = h
  same_path (c ∷ path) m a each h =
      let has : Contains (needed rows m) c = subst (λ row. Contains row c) (sym (each m [] refl).row) h.0 in
      (has, same_path path c a (λ b front k. each b (c ∷ front) (has, k)) h.1)

  other_way : (n : ℕ) → ((a : ℕ) (path : List ℕ) → NeedsLead rows n path a → IsSame V rows others value other a) → (a : ℕ) (path : List ℕ) → NeedsLead others n path a → IsSame V others rows other value a
  other_way n each a path h =
      let is : IsSame V rows others value other a = each a path (same_path path n a each h) in
      record { row = sym is.row; rule = λ known. sym (is.rule known) }

pub untouched_stays : (V : Type 0) → UntouchedStays V
untouched_stays V rows others value other t u n local local' long each at au = either (known_in t n) (known_in u n) refl refl
  where
    either : (x y : Option V) → known_in t n ≡ x → known_in u n ≡ y → known_in t n ≡ known_in u n
    either (Some v) y et eu = known_stays V rows others value other t u n local' long each at au (length rows) (at.ends n v et)
    either None (Some z) et eu = sym (known_stays V others rows other value u t n local (sym long) (other_way V rows others value other n each) au at (length others) (au.ends n z eu))
    either None None et eu = et ∙ sym eu
