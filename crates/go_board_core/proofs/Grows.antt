-- A step that only adds to the board keeps the rule.
use Rattle.std.proofs.Common.{◌≡◌, ℕ, ◌≢◌, List, [], ◌∷◌, ◌++◌, fold, set, refl, sym, ap, ◌∙◌, subst, ⊎_elim, append_assoc, append-nil}
use mathlib.Core.Option.{some}
use lib.ListN.{get_elem?}
use Rattle.left_right.specs.Register.{Admits, TurnsAt, Turns, Forks, Merges}
use Rattle.atomic_table.proofs.Lists.{at_set, at_snoc, set_again}
use Rattle.go_submit_core.specs.declared.published.PublishedBatch.{PublishedBatch}
use Rattle.go_board_core.specs.declared.rule.View.{View}
use Rattle.go_submit_core.specs.Published.{BeginsWith}
use Rattle.go_board_core.specs.Views.{newcomer, informed, Keeps, Sees}

pub starts_self : (xs : List PublishedBatch) → BeginsWith xs xs
starts_self xs = ([], sym (append-nil xs))

pub starts_on : (xs ys zs : List PublishedBatch) → BeginsWith zs ys → BeginsWith ys xs → BeginsWith zs xs
starts_on xs ys zs f g = (g.0 ++ f.0, f.1 ∙ ap (λ l. l ++ f.0) g.1 ∙ append_assoc xs g.0 f.0)

-- what the rule says of one view
abbrev Fits : List PublishedBatch → View → Type 0
Fits board v = BeginsWith board v.seen × BeginsWith board v.told

fits_newcomer : (x : List PublishedBatch) → Fits x newcomer
fits_newcomer x = ((x, refl), (x, refl))

fits_on : (x y : List PublishedBatch) (v : View) → BeginsWith y x → Fits x v → Fits y v
fits_on x y v up f = (starts_on v.seen x y up f.0, starts_on v.told x y up f.1)

pub admits : Admits Keeps newcomer
admits x views h seat v at = ⊎_elim (h seat v) (λ (e : newcomer ≡ v). subst (Fits x) e (fits_newcomer x)) (at_snoc views newcomer v seat at)

fits_set : (y : List PublishedBatch) (views : List View) (seat : ℕ) (w : View) → ((j : ℕ) (u : View) → j ≢ seat → get_elem? views j ≡ some u → Fits y u) → Fits y w → Keeps y (set views seat w)
fits_set y views seat w others mine j u e =
    ⊎_elim
    (λ (t : (j ≡ seat) × (w ≡ u)). subst (Fits y) t.1 mine)
    (λ (t : (j ≢ seat) × (get_elem? views j ≡ some u)). others j u t.0 t.1)
    (at_set views seat j w u e)

pub grows : (seat : ℕ) (v : View) (x y : List PublishedBatch) → BeginsWith y x → TurnsAt Keeps seat v x y Sees
grows seat v x y up views h at =
    let w : View = record { seen = y; told = v.told } in
    let mine = fits_on x y v up (h seat v at) in
    (w, fits_set y views seat w (λ j u apart e. fits_on x y u up (h j u e)) (starts_self y, mine.1), (mine.0, mine.1, refl, refl))

pub sees : (seat : ℕ) (v : View) → Turns Keeps seat v (λ x. x) Sees
sees seat v x = grows seat v x x (starts_self x)

pub forks : (seat : ℕ) (v : View) → Forks Keeps seat v v v
forks seat v x views h at j u e =
    ⊎_elim
    (fits_set x views seat v (λ i t apart f. h i t f) (h seat v at) j u)
    (λ (same : v ≡ u). subst (Fits x) same (h seat v at))
    (at_snoc (set views seat v) v u j e)

pub merges : (seat : ℕ) (v : View) (other : ℕ) (w : View) → Merges Keeps seat v other w (informed v w) newcomer
merges seat v other w x views h at apart there =
    let both = informed v w in
    let theirs : Fits x w = ⊎_elim (λ (t : (other ≡ seat) × (both ≡ w)). absurd (apart t.0)) (λ (t : (other ≢ seat) × (get_elem? views other ≡ some w)). h other w t.1) (at_set views seat other both w there) in
    fits_set x (set views seat both) other newcomer (λ i t _ f. fits_set x views seat both (λ k s _ g. h k s g) ((h seat v at).0, theirs.0) i t f) (fits_newcomer x)

-- the last of these operations is what is left
pub fold-last : {S : Type 0} (s : S) (ps : List S) (op : S) → fold (λ _ n. n) s (ps ++ op ∷ []) ≡ op
fold-last s [] op = refl
fold-last s (p ∷ ps) op = fold-last p ps op
