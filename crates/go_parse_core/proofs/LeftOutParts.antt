-- Parts of what a tree writes, taken apart and put together again.
use Rattle.std.proofs.Common.{◌≡◌, ℕ, ◌+◌, max, List, [], ◌∷◌, ◌++◌, Option, Some, None, refl, sym, ap, ◌∙◌, subst, inl, inr, append_assoc}
use Rattle.go_tree_nodes.specs.text_core.declared.span.Span.{Span}
use Rattle.go_tree_nodes.specs.token_core.declared.kind.Operator.TheVariants as operator
use Rattle.go_tree_nodes.specs.Terminals.{Terminal}
use Rattle.go_tree_nodes.specs.Spelling.{mark, spell_some}
use Rattle.go_tree_nodes.specs.Rules.{IsKept}
use Rattle.go_parse_core.specs.LeftOut.{Symbol, Sure, Loose, sure, IsClosing, Closes, LeftOut, symbol_semicolon, Fills_semicolon}

-- terminals that stand there for sure are the front of what is written

sure_split : (xs : List Terminal) (more : List Symbol) (ts : List Terminal) → LeftOut (sure xs ++ more) ts → (after : List Terminal) × (ts ≡ xs ++ after) × LeftOut more after
sure_split [] more ts h = (ts, refl, h)
sure_split (x ∷ xs) more ts h =
    let q = sure_split xs more h.0 h.2 in (q.0, h.1 ∙ ap (λ l. x ∷ l) q.1, q.2)

sure_join : (xs : List Terminal) (more : List Symbol) (after : List Terminal) → LeftOut more after → LeftOut (sure xs ++ more) (xs ++ after)
sure_join [] more after h = h
sure_join (x ∷ xs) more after h = (xs ++ after, refl, sure_join xs more after h)

-- what may follow a part: anything, a closing mark, or anything else

abbrev pub Any : List Symbol → Type 0
Any more = Unit {0}

abbrev pub NoClose : List Symbol → Type 0
NoClose more = Closes more → ⊥

-- a part begins with no closing mark

abbrev pub Opens : List Symbol → Type 0
Opens [] = ⊥
Opens (Sure t ∷ more) = IsClosing t.kind → ⊥
Opens (Loose t ∷ more) = Unit {0}

pub opens_along : (ss : List Symbol) (more : List Symbol) → Opens ss → Opens (ss ++ more)
opens_along [] more h = absurd h
opens_along (Sure t ∷ ss) more h = h
opens_along (Loose t ∷ ss) more h = h

pub opens_not : (ss : List Symbol) (more : List Symbol) → Opens ss → Closes (ss ++ more) → ⊥
opens_not [] more h c = h
opens_not (Sure t ∷ ss) more h c = h c
opens_not (Loose t ∷ ss) more h c = c

-- from whole trees to marked ones

-- what the terminals show of the front of what is written
pub record Shown (A : Type 0) (spell_of : A → List Terminal) (Good : A → Type 0) (more : List Symbol) (ts : List Terminal) : Type 0 where
  pub shown : A
  pub good : Good shown
  pub after : List Terminal
  pub spelled : ts ≡ spell_of shown ++ after
  pub rest : LeftOut more after

-- terminals that leave out some of this part show a tree of it
pub record Splits (P : List Symbol → Type 0) (ss : List Symbol) (A : Type 0) (spell_of : A → List Terminal) (Good : A → Type 0) : Type 0 where
  pub split : (more : List Symbol) (ts : List Terminal) → P more → LeftOut (ss ++ more) ts → Shown A spell_of Good more ts

pub nothing : {P : List Symbol → Type 0} → Splits P [] (Unit {0}) (λ x. []) (λ x. Unit {0})
nothing {P} = record { split = λ more ts ok h. record { shown = tt; good = tt; after = ts; spelled = refl; rest = h } }

pub sures : {P : List Symbol → Type 0} (xs : List Terminal) → Splits P (sure xs) (Unit {0}) (λ x. xs) (λ x. Unit {0})
sures {P} xs = record { split = λ more ts ok h. let q = sure_split xs more ts h in record { shown = tt; good = tt; after = q.0; spelled = q.1; rest = q.2 } }

sure_at : {A : Type 0} {f : A → List Terminal} {G : A → Type 0} (P : List Symbol → Type 0) (ss : List Symbol) (xs : List Terminal) → Splits P ss A f G → (more : List Symbol) (ts : List Terminal) → P more → LeftOut ((sure xs ++ ss) ++ more) ts → Shown A (λ a. xs ++ f a) G more ts
sure_at {A} {f} {G} P ss xs p more ts ok h =
    let q = sure_split xs (ss ++ more) ts (subst (λ l. LeftOut l ts) (append_assoc (sure xs) ss more) h) in
    let r = p.split more q.0 ok q.2 in
    record { shown = r.shown; good = r.good; after = r.after; spelled = q.1 ∙ ap (λ l. xs ++ l) r.spelled ∙ sym (append_assoc xs (f r.shown) r.after); rest = r.rest }

-- these terminals, then a part
pub sure_then : {P : List Symbol → Type 0} {ss : List Symbol} {A : Type 0} {f : A → List Terminal} {G : A → Type 0} (xs : List Terminal) → Splits P ss A f G → Splits P (sure xs ++ ss) A (λ a. xs ++ f a) G
sure_then {P} {ss} xs p = record { split = sure_at P ss xs p }

one_at : {A : Type 0} {f : A → List Terminal} {G : A → Type 0} (P : List Symbol → Type 0) (ss : List Symbol) (t : Terminal) → Splits P ss A f G → (more : List Symbol) (ts : List Terminal) → P more → LeftOut (Sure t ∷ (ss ++ more)) ts → Shown A (λ a. t ∷ f a) G more ts
one_at {A} {f} {G} P ss t p more ts ok h =
    let r = p.split more h.0 ok h.2 in
    record { shown = r.shown; good = r.good; after = r.after; spelled = h.1 ∙ ap (λ l. t ∷ l) r.spelled; rest = r.rest }

-- this terminal, then a part
pub one_then : {P : List Symbol → Type 0} {ss : List Symbol} {A : Type 0} {f : A → List Terminal} {G : A → Type 0} (t : Terminal) → Splits P ss A f G → Splits P (Sure t ∷ ss) A (λ a. t ∷ f a) G
one_then {P} {ss} t p = record { split = one_at P ss t p }

both_at : {A B : Type 0} {f : A → List Terminal} {G : A → Type 0} {g : B → List Terminal} {H : B → Type 0} (P Q : List Symbol → Type 0) (ss rs : List Symbol) → Splits Q ss A f G → Splits P rs B g H → ((more : List Symbol) → P more → Q (rs ++ more)) → (more : List Symbol) (ts : List Terminal) → P more → LeftOut ((ss ++ rs) ++ more) ts → Shown (A × B) (λ x. f x.0 ++ g x.1) (λ x. G x.0 × H x.1) more ts
both_at {A} {B} {f} {G} {g} {H} P Q ss rs p q follow more ts ok h =
    let x = p.split (rs ++ more) ts (follow more ok) (subst (λ l. LeftOut l ts) (append_assoc ss rs more) h) in
    let y = q.split more x.after ok x.rest in
    record { shown = (x.shown, y.shown); good = (x.good, y.good); after = y.after; spelled = x.spelled ∙ ap (λ l. f x.shown ++ l) y.spelled ∙ sym (append_assoc (f x.shown) (g y.shown) y.after); rest = y.rest }

-- two parts, of which the first may be followed by the second
pub before : {P Q : List Symbol → Type 0} {ss rs : List Symbol} {A B : Type 0} {f : A → List Terminal} {G : A → Type 0} {g : B → List Terminal} {H : B → Type 0} → Splits Q ss A f G → Splits P rs B g H → ((more : List Symbol) → P more → Q (rs ++ more)) → Splits P (ss ++ rs) (A × B) (λ x. f x.0 ++ g x.1) (λ x. G x.0 × H x.1)
before {P} {Q} {ss} {rs} p q follow = record { split = both_at P Q ss rs p q follow }

-- two parts
pub both : {P : List Symbol → Type 0} {ss rs : List Symbol} {A B : Type 0} {f : A → List Terminal} {G : A → Type 0} {g : B → List Terminal} {H : B → Type 0} → Splits Any ss A f G → Splits P rs B g H → Splits P (ss ++ rs) (A × B) (λ x. f x.0 ++ g x.1) (λ x. G x.0 × H x.1)
both {P} {ss} {rs} p q = record { split = both_at P Any ss rs p q (λ more ok. tt) }

maps_at : {A B : Type 0} {f : A → List Terminal} {G : A → Type 0} {g : B → List Terminal} {H : B → Type 0} (P : List Symbol → Type 0) (ss : List Symbol) → Splits P ss A f G → (c : A → B) → ((a : A) → f a ≡ g (c a)) → ((a : A) → G a → H (c a)) → (more : List Symbol) (ts : List Terminal) → P more → LeftOut (ss ++ more) ts → Shown B g H more ts
maps_at {A} {B} {f} {G} {g} {H} P ss p c same good more ts ok h =
    let r = p.split more ts ok h in
    record { shown = c r.shown; good = good r.shown r.good; after = r.after; spelled = r.spelled ∙ ap (λ l. l ++ r.after) (same r.shown); rest = r.rest }

-- a tree of its parts
pub maps : {P : List Symbol → Type 0} {ss : List Symbol} {A B : Type 0} {f : A → List Terminal} {G : A → Type 0} {g : B → List Terminal} {H : B → Type 0} → Splits P ss A f G → (c : A → B) → ((a : A) → f a ≡ g (c a)) → ((a : A) → G a → H (c a)) → Splits P ss B g H
maps {P} {ss} p c same good = record { split = maps_at P ss p c same good }

-- a part that anything may follow
pub weaken : {P : List Symbol → Type 0} {ss : List Symbol} {A : Type 0} {f : A → List Terminal} {G : A → Type 0} → Splits Any ss A f G → Splits P ss A f G
weaken {P} p = record { split = λ more ts ok h. p.split more ts tt h }

-- a part between two marks, of which the second may follow it

between_at : {A : Type 0} {f : A → List Terminal} {G : A → Type 0} (P Q : List Symbol → Type 0) (ss : List Symbol) (a z : Terminal) → Splits Q ss A f G → ((more : List Symbol) → Q (Sure z ∷ more)) → Splits P (Sure a ∷ (ss ++ (Sure z ∷ []))) A (λ x. a ∷ (f x ++ (z ∷ []))) G
between_at P Q ss a z p follow = maps (one_then a (before p (one_then z nothing) (λ more ok. follow more))) (λ x. x.0) (λ x. refl) (λ x g. g.0)

pub in_parens : {P Q : List Symbol → Type 0} {ss : List Symbol} {A : Type 0} {f : A → List Terminal} {G : A → Type 0} (first last : Span) → Splits Q ss A f G → ((more : List Symbol) → Q (Sure (mark operator.CloseParen last) ∷ more)) → Splits P (Sure (mark operator.OpenParen first) ∷ (ss ++ (Sure (mark operator.CloseParen last) ∷ []))) A (λ x. mark operator.OpenParen first ∷ (f x ++ (mark operator.CloseParen last ∷ []))) G
in_parens {P} {Q} {ss} first last p follow = between_at P Q ss (mark operator.OpenParen first) (mark operator.CloseParen last) p follow

pub in_braces : {P Q : List Symbol → Type 0} {ss : List Symbol} {A : Type 0} {f : A → List Terminal} {G : A → Type 0} (first last : Span) → Splits Q ss A f G → ((more : List Symbol) → Q (Sure (mark operator.CloseBrace last) ∷ more)) → Splits P (Sure (mark operator.OpenBrace first) ∷ (ss ++ (Sure (mark operator.CloseBrace last) ∷ []))) A (λ x. mark operator.OpenBrace first ∷ (f x ++ (mark operator.CloseBrace last ∷ []))) G
in_braces {P} {Q} {ss} first last p follow = between_at P Q ss (mark operator.OpenBrace first) (mark operator.CloseBrace last) p follow

-- what is shown of a semicolon and the rest of its list
pub record Kept {L : Type 0} (s : Span) (IsLast : L → Type 0) (Good : L → Type 0) (x : Option Span × L) : Type 0 where
  pub fills : Fills_semicolon x.0 (Some s)
  pub kept : IsKept x.0 (IsLast x.1)
  pub rest : Good x.1

loose_at : {L : Type 0} {f : L → List Terminal} {G : L → Type 0} (ss : List Symbol) (s : Span) (Last : Type 0) (IsLast : L → Type 0) → ((more : List Symbol) → Closes (ss ++ more) → Last) → ((x : L) → G x → Last → IsLast x) → Splits Closes ss L f G → (more : List Symbol) (ts : List Terminal) → Closes more → LeftOut (Loose (mark operator.Semicolon s) ∷ (ss ++ more)) ts → Shown (Option Span × L) (λ x. spell_some operator.Semicolon x.0 ++ f x.1) (Kept s IsLast G) more ts
loose_at {L} {f} {G} ss s Last IsLast ends last p more ts ok h =
    elim h [
      | inl w ↦
          let r = p.split more w.0 ok w.2 in
          record { shown = (Some s, r.shown); good = record { fills = refl; kept = tt; rest = r.good }; after = r.after; spelled = w.1 ∙ ap (λ l. mark operator.Semicolon s ∷ l) r.spelled; rest = r.rest }
      | inr w ↦
          let r = p.split more ts ok w.1 in
          record { shown = (None, r.shown); good = record { fills = tt; kept = last r.shown r.good (ends more w.0); rest = r.good }; after = r.after; spelled = r.spelled; rest = r.rest }
    ]

-- a semicolon that may be left out before a closing mark, if the rest of its list is empty
pub loose : {ss : List Symbol} {L : Type 0} {f : L → List Terminal} {G : L → Type 0} (s : Span) (Last : Type 0) (IsLast : L → Type 0) → ((more : List Symbol) → Closes (ss ++ more) → Last) → ((x : L) → G x → Last → IsLast x) → Splits Closes ss L f G → Splits Closes (Loose (mark operator.Semicolon s) ∷ ss) (Option Span × L) (λ x. spell_some operator.Semicolon x.0 ++ f x.1) (Kept s IsLast G)
loose {ss} s Last IsLast ends last p = record { split = loose_at ss s Last IsLast ends last p }

kept_at : {A : Type 0} {f : A → List Terminal} {G : A → Type 0} (P : List Symbol → Type 0) (ss : List Symbol) (t : Terminal) → ((more : List Symbol) → P more → Closes (ss ++ more) → ⊥) → Splits P ss A f G → (more : List Symbol) (ts : List Terminal) → P more → LeftOut (Loose t ∷ (ss ++ more)) ts → Shown A (λ a. t ∷ f a) G more ts
kept_at P ss t not p more ts ok h = elim h [ inl w ↦ one_at P ss t p more ts ok w | inr w ↦ absurd (not more ok w.0) ]

-- a semicolon that no closing mark follows
pub kept_then : {P : List Symbol → Type 0} {ss : List Symbol} {A : Type 0} {f : A → List Terminal} {G : A → Type 0} (t : Terminal) → ((more : List Symbol) → P more → Closes (ss ++ more) → ⊥) → Splits P ss A f G → Splits P (Loose t ∷ ss) A (λ a. t ∷ f a) G
kept_then {P} {ss} t not p = record { split = kept_at P ss t not p }

-- from marked trees to whole ones

-- terminals leave out some semicolons of this part
pub record Joins (P : List Symbol → Type 0) (ss : List Symbol) (ts : List Terminal) : Type 0 where
  pub join : (more : List Symbol) (after : List Terminal) → P more → LeftOut more after → LeftOut (ss ++ more) (ts ++ after)

pub join_nothing : {P : List Symbol → Type 0} → Joins P [] []
join_nothing {P} = record { join = λ more after ok h. h }

pub join_sures : {P : List Symbol → Type 0} (xs : List Terminal) → Joins P (sure xs) xs
join_sures {P} xs = record { join = λ more after ok h. sure_join xs more after h }

before_at : (P Q : List Symbol → Type 0) (ss rs : List Symbol) (ts us : List Terminal) → Joins Q ss ts → Joins P rs us → ((more : List Symbol) → P more → Q (rs ++ more)) → (more : List Symbol) (after : List Terminal) → P more → LeftOut more after → LeftOut ((ss ++ rs) ++ more) ((ts ++ us) ++ after)
before_at P Q ss rs ts us p q follow more after ok h =
    let all = p.join (rs ++ more) (us ++ after) (follow more ok) (q.join more after ok h) in
    subst (λ l. LeftOut l ((ts ++ us) ++ after)) (sym (append_assoc ss rs more)) (subst (LeftOut (ss ++ (rs ++ more))) (sym (append_assoc ts us after)) all)

pub join_before : {P Q : List Symbol → Type 0} {ss rs : List Symbol} {ts us : List Terminal} → Joins Q ss ts → Joins P rs us → ((more : List Symbol) → P more → Q (rs ++ more)) → Joins P (ss ++ rs) (ts ++ us)
join_before {P} {Q} {ss} {rs} {ts} {us} p q follow = record { join = before_at P Q ss rs ts us p q follow }

pub join_both : {P : List Symbol → Type 0} {ss rs : List Symbol} {ts us : List Terminal} → Joins Any ss ts → Joins P rs us → Joins P (ss ++ rs) (ts ++ us)
join_both {P} {ss} {rs} {ts} {us} p q = record { join = before_at P Any ss rs ts us p q (λ more ok. tt) }

pub join_sure : {P : List Symbol → Type 0} {ss : List Symbol} {ts : List Terminal} (xs : List Terminal) → Joins P ss ts → Joins P (sure xs ++ ss) (xs ++ ts)
join_sure {P} {ss} {ts} xs p = join_both (join_sures xs) p

pub join_one : {P : List Symbol → Type 0} {ss : List Symbol} {ts : List Terminal} (t : Terminal) → Joins P ss ts → Joins P (Sure t ∷ ss) (t ∷ ts)
join_one {P} {ss} {ts} t p = record { join = λ more after ok h. (ts ++ after, refl, p.join more after ok h) }

pub join_kept : {P : List Symbol → Type 0} {ss : List Symbol} {ts : List Terminal} (t : Terminal) → Joins P ss ts → Joins P (Loose t ∷ ss) (t ∷ ts)
join_kept {P} {ss} {ts} t p = record { join = λ more after ok h. inl (ts ++ after, refl, p.join more after ok h) }

-- a part between two marks, of which the second may follow it

pub join_parens : {P Q : List Symbol → Type 0} {ss : List Symbol} {ts : List Terminal} (first last : Span) → Joins Q ss ts → ((more : List Symbol) → Q (Sure (mark operator.CloseParen last) ∷ more)) → Joins P (Sure (mark operator.OpenParen first) ∷ (ss ++ (Sure (mark operator.CloseParen last) ∷ []))) (mark operator.OpenParen first ∷ (ts ++ (mark operator.CloseParen last ∷ [])))
join_parens first last p follow = join_one (mark operator.OpenParen first) (join_before p (join_one (mark operator.CloseParen last) join_nothing) (λ more ok. follow more))

pub join_braces : {P Q : List Symbol → Type 0} {ss : List Symbol} {ts : List Terminal} (first last : Span) → Joins Q ss ts → ((more : List Symbol) → Q (Sure (mark operator.CloseBrace last) ∷ more)) → Joins P (Sure (mark operator.OpenBrace first) ∷ (ss ++ (Sure (mark operator.CloseBrace last) ∷ []))) (mark operator.OpenBrace first ∷ (ts ++ (mark operator.CloseBrace last ∷ [])))
join_braces first last p follow = join_one (mark operator.OpenBrace first) (join_before p (join_one (mark operator.CloseBrace last) join_nothing) (λ more ok. follow more))

-- a semicolon at the front of the text where there is none
abbrev pub filled : Option Span → Option Span
filled None = Some (record { start = 0; end = 0 })
filled (Some s) = Some s

pub filled_fills : (s : Option Span) → Fills_semicolon s (filled s)
filled_fills None = tt
filled_fills (Some s) = refl

pub filled_full : (s : Option Span) → Fills_semicolon (filled s) (filled s)
filled_full None = refl
filled_full (Some s) = refl

pub filled_kept : (Last : Type 0) (s : Option Span) → IsKept (filled s) Last
filled_kept Last None = tt
filled_kept Last (Some s) = tt

-- a semicolon that is left out behind the last of a list, then the rest of the list
pub join_loose : {ss : List Symbol} {ts : List Terminal} (s : Option Span) (Last : Type 0) → IsKept s Last → (Last → (more : List Symbol) → Closes more → Closes (ss ++ more)) → Joins Closes ss ts → Joins Closes (symbol_semicolon (filled s) ++ ss) (spell_some operator.Semicolon s ++ ts)
join_loose {ss} {ts} (Some s) Last kept ends p = join_kept (mark operator.Semicolon s) p
join_loose {ss} {ts} None Last kept ends p = record { join = λ more after ok h. inr (ends kept more ok, p.join more after ok h) }

-- a tree and one that it is filled to, or one that fills it

pub record Good {A : Type 0} (Fills : A → A → Type 0) (Wf : A → Type 0) (height : A → ℕ) (Like : A → A → Type 0) (f m : A) : Type 0 where
  pub fills : Fills m f
  pub wf : Wf m
  pub high : height m ≡ height f
  pub like : Like f m

pub record Filled {A : Type 0} (P : List Symbol → Type 0) (symbols_of : A → List Symbol) (spell_of : A → List Terminal) (Fills : A → A → Type 0) (Wf : A → Type 0) (height : A → ℕ) (Like : A → A → Type 0) (m : A) : Type 0 where
  pub tree : A
  pub fills : Fills m tree
  pub full : Fills tree tree
  pub wf : Wf tree
  pub high : height tree ≡ height m
  pub like : Like m tree
  pub joins : Joins P (symbols_of tree) (spell_of m)

-- nothing more is alike
abbrev pub AnyLike : {A : Type 0} → A → A → Type 0
AnyLike a b = Unit {0}

pub higher : {a b : ℕ} → a ≡ b → a + 1 ≡ b + 1
higher e = ap (λ n. n + 1) e

pub both_high : {a b c d : ℕ} → a ≡ b → c ≡ d → max a c ≡ max b d
both_high p q = rw (p, q) refl

-- what is the last of its list is so in a tree alike
pub kept_like : {A B : Type 0} (s : Option Span) → (A → B) → IsKept s A → IsKept s B
kept_like (Some s) like h = tt
kept_like None like h = like h
