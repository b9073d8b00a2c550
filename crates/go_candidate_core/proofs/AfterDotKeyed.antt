-- The keys that are left are those that have a declaration.
use Rattle.std.proofs.Common.{◌≡◌, ℕ, zero, suc, ◌+◌, ◌<◌, ◌≤◌, Bool, true, false, not, ◌&&◌, ◌||◌, List, [], ◌∷◌, ◌++◌, Bor, length, get_or, map, take, drop, Option, Some, None, refl, sym, ap, ap₂, ◌∙◌, subst, arith, append-nil, append_assoc}
use Rattle.std.specs.Prelude.{◌↔◌, Contains, slice_get, option_map, if◌then◌else◌}
use Rattle.std.specs.List.Sorted.{IsStrictlySortedBy}
use Rattle.std.specs.Str.{bytes_eq}
use Rattle.std.proofs.lemmas.List.{drop_all, drop_more, length-map, map-append}
use Rattle.std.proofs.lemmas.Option.{slice_get_within, get_or_from_slice_get, same_Some}
use Rattle.go_tree_nodes.specs.text_core.Text.{is_blank}
use Rattle.go_expr_core.specs.denote_core.declared.composite.things.LiteralField.{LiteralField}
use Rattle.go_expr_core.specs.denote_core.declared.composite.things.NamedField.{NamedField}
use Rattle.go_expr_core.specs.denote_core.declared.composite.things.NamedField.TheVariants.{Visible, Hidden, Missing}
use Rattle.go_expr_core.specs.denote_core.CompositeLook.{FieldOf, LiteralLook}
use Rattle.go_expr_core.specs.denote_core.CompositeFields.{named_field}
use Rattle.go_expr_core.specs.denote_core.CompositeLiterals.{is_struct}
use Rattle.go_expr_core.specs.denote_core.CompositeKeys.{key_rule, struct_key, refused_key, found_key}
use Rattle.go_expr_core.specs.denote_core.CompositeRepeats.{has_name}
use Rattle.go_expr_core.specs.denote_core.CompositeMirrors.Sets.{HasNames}
use Rattle.go_expr_core.specs.denote_core.CompositeNames.{names_more, has_append}
use Rattle.go_expr_core.specs.Elements.{key_context}
use Rattle.go_tree_nodes.specs.text_core.declared.rule.Rule.TheVariants as rules
use Rattle.go_candidate_core.specs.after_dot.Names.{AreNames, by_bytes, is_declared}
use Rattle.go_candidate_core.specs.after_dot.mirrors.Kept.{named_if}
use Rattle.go_candidate_core.specs.after_dot.mirrors.Keyed.{is_left, keys_left, some_keys, is_shown}
use Rattle.go_candidate_core.proofs.AfterDotLeaving.{has_from, has_to, left_same, left_with, is_in_left}

module _ {T S D P : Type 0} (look : LiteralLook T S D P) where
  -- of a struct type whose literal has all keys
  decided : (t : T) (repeated blank : Bool) (name : List ℕ) (found : NamedField T D)
      → left_with repeated blank (is_shown found) ≡ is_declared (if blank then refused_key {T = T} {D = D} {P = P} rules.F1 else found_key look t repeated name found).outcome
  decided t true true name found = refl
  decided t false true name found = refl
  decided t true false name Hidden = refl
  decided t false false name Hidden = refl
  decided t true false name Missing = refl
  decided t false false name Missing = refl
  decided t true false name (Visible field) = refl
  decided t false false name (Visible field) = refl

  key_is : (t : T) (others : List (List ℕ)) (name : List ℕ) (is_mixed struct : Bool)
      → has_name name (if is_mixed || not struct then [] else keys_left others (look.literals.fields t))
      ≡ is_declared (if struct then struct_key look t is_mixed (has_name name others) name else refused_key rules.F8).outcome
  key_is t others name true true = refl
  key_is t others name true false = refl
  key_is t others name false false = refl
  key_is t others name false true = is_in_left (look.literals.fields t) others name ∙ decided t (has_name name others) (is_blank name) name (named_field (look.literals.fields t) name)

  pub is_key : (t : Option T) (is_mixed : Bool) (others : List (List ℕ)) (name : List ℕ) → has_name name (some_keys look t is_mixed others) ≡ is_declared (key_rule look (key_context t is_mixed others) name)
  is_key None is_mixed others name = refl
  is_key (Some t) is_mixed others name = key_is t others name is_mixed (is_struct (look.types.form t))

  -- put in order they are the names that have a declaration
  pub keys_named : (t : Option T) (is_mixed : Bool) (others names sorted : List (List ℕ)) → names ≡ some_keys look t is_mixed others → IsStrictlySortedBy by_bytes sorted
      → ((name : List ℕ) → Contains sorted name ↔ Contains names name) → AreNames (λ name. is_declared (key_rule look (key_context t is_mixed others) name)) sorted
  keys_named t is_mixed others names sorted is order same = record {
    rising = order;
    each = λ name. (
      (λ h. sym (is_key t is_mixed others name) ∙ has_from (some_keys look t is_mixed others) name (subst (λ (l : List (List ℕ)). Contains l name) is ((same name).0 h))),
      (λ e. (same name).1 (subst (λ (l : List (List ℕ)). Contains l name) (sym is) (has_to (some_keys look t is_mixed others) name (is_key t is_mixed others name ∙ e)))),
    );
  }

-- turns of the loops

pub set_turn : (xs : List (Bor (List ℕ))) (i : ℕ) (d : Bor (List ℕ)) (old new : List (List ℕ)) → i < length xs → HasNames old (map (λ y. y.now) (take i xs)) → HasNames new ((get_or xs i d).now ∷ old)
    → HasNames new (map (λ y. y.now) (take (i + 1) xs))
set_turn xs i d old new lt before h n =
    let x = (get_or xs i d).now in
    h n ∙ (ap (λ b. bytes_eq x n || b) (before n) ∙ (by (bytes_eq x n) (has_name n (map (λ y. y.now) (take i xs)))
    ∙ (sym (has_append (map (λ y. y.now) (take i xs)) (x ∷ []) n) ∙ ap (has_name n) (sym (names_more xs i d lt)))))
  where
    by : (a b : Bool) → (a || b) ≡ (b || (a || false))
    by true true = refl
    by true false = refl
    by false true = refl
    by false false = refl

abbrev head_of : List (List ℕ) → List ℕ
head_of [] = []
head_of (x ∷ xs) = x

abbrev tail_of : List (List ℕ) → List (List ℕ)
tail_of [] = []
tail_of (x ∷ xs) = xs

-- the field of a number, by the names of all
pub field_there : {T D : Type 0} (names : List (Bor (List ℕ))) (fs : List (FieldOf T D)) (at : ℕ) (d : Bor (List ℕ)) → map (λ n. n.now) names ≡ map (λ f. f.name) fs → at < length names
    → (f : FieldOf T D) × (slice_get fs at ≡ Some f) × (f.name ≡ (get_or names at d).now)
field_there [] fs at d same lt = absurd (omega (arith, lt))
field_there (n ∷ ns) [] at d same lt = absurd (let no : n.now ∷ map (λ (m : Bor (List ℕ)). m.now) ns ≡ [] = same in cc)
field_there (n ∷ ns) (f ∷ fs) zero d same lt = (f, refl, sym (ap head_of same))
field_there (n ∷ ns) (f ∷ fs) (suc at) d same lt = field_there ns fs at d (ap tail_of same) (omega (arith, lt))

module _ {T D : Type 0} (fs : List (FieldOf T D)) where
  -- the field of a number, by its name and what is known of it
  pub left_is : (seen : List (List ℕ)) (at : ℕ) (name : List ℕ) (known : LiteralField T D) (is_new : Bool) → option_map (λ f. f.name) (slice_get fs at) ≡ Some name → option_map (λ f. f.known) (slice_get fs at) ≡ Some known
      → is_new ≡ not (has_name name seen) → (f : FieldOf T D) → slice_get fs at ≡ Some f → ((is_new && not (is_blank name)) && known.is_visible) ≡ is_left seen f
  left_is seen at name known is_new named knows new f there =
      let one : f.name ≡ name = same_Some f.name name (sym (ap (option_map (λ (g : FieldOf T D). g.name)) there) ∙ named) in
      let two : f.known ≡ known = same_Some f.known known (sym (ap (option_map (λ (g : FieldOf T D). g.known)) there) ∙ knows) in
      ap (λ (b : Bool). (b && not (is_blank name)) && known.is_visible) new
      ∙ (ap (λ (n : List ℕ). (not (has_name n seen) && not (is_blank n)) && known.is_visible) (sym one) ∙ ap (λ (k : LiteralField T D). (not (has_name f.name seen) && not (is_blank f.name)) && k.is_visible) (sym two))

  pub left_turn : (seen seen' : List (List ℕ)) (at : ℕ) (f : FieldOf T D) → slice_get fs at ≡ Some f → HasNames seen' (f.name ∷ seen)
      → keys_left seen (drop at fs) ≡ named_if (is_left seen f) f.name ++ keys_left seen' (drop (at + 1) fs)
  left_turn seen seen' at f there more =
      ap (keys_left seen) (drop_more fs at f (slice_get_within fs at f there) ∙ ap (λ (g : FieldOf T D). g ∷ drop (at + 1) fs) (get_or_from_slice_get fs at f f there))
      ∙ ap (λ (l : List (List ℕ)). named_if (is_left seen f) f.name ++ l) (sym (left_same (drop (at + 1) fs) seen' (f.name ∷ seen) more))

-- what is left by the names seen and the other keys
pub neither : (seen others : List (List ℕ)) (name : List ℕ) (is_new is_other : Bool) → is_new ≡ not (has_name name seen) → is_other ≡ has_name name others → (is_new && not is_other) ≡ not (has_name name (seen ++ others))
neither seen others name is_new is_other new other =
    ap₂ (λ (a b : Bool). a && not b) new other ∙ (by (has_name name seen) (has_name name others) ∙ ap not (sym (has_append seen others name)))
  where
    by : (a b : Bool) → (not a && not b) ≡ not (a || b)
    by true b = refl
    by false b = refl

pub seen_more : (seen new others : List (List ℕ)) (name : List ℕ) → HasNames new (name ∷ seen) → HasNames (new ++ others) (name ∷ (seen ++ others))
seen_more seen new others name h n = has_append new others n ∙ (ap (λ b. b || has_name n others) (h n) ∙ (by (bytes_eq name n) (has_name n seen) (has_name n others) ∙ ap (λ b. bytes_eq name n || b) (sym (has_append seen others n))))
  where
    by : (a b c : Bool) → ((a || b) || c) ≡ (a || (b || c))
    by true b c = refl
    by false b c = refl

-- a turn of the loop over the fields, and its end
pub names_turn : {T D : Type 0} (fs : List (FieldOf T D)) (seen seen' : List (List ℕ)) (at : ℕ) (f : FieldOf T D) (name : List ℕ) (old new all : List (List ℕ)) (left : Bool) → slice_get fs at ≡ Some f → f.name ≡ name
    → HasNames seen' (name ∷ seen) → left ≡ is_left seen f → new ≡ old ++ named_if left name → old ++ keys_left seen (drop at fs) ≡ all → new ++ keys_left seen' (drop (at + 1) fs) ≡ all
names_turn fs seen seen' at f name old new all left there named more is now before =
    ap (λ (l : List (List ℕ)). l ++ keys_left seen' (drop (at + 1) fs)) now
    ∙ (append_assoc old (named_if left name) (keys_left seen' (drop (at + 1) fs))
    ∙ (ap (λ (l : List (List ℕ)). old ++ l)
    (ap₂ (λ (b : Bool) (n : List ℕ). named_if b n ++ keys_left seen' (drop (at + 1) fs)) is (sym named)
    ∙ sym (left_turn fs seen seen' at f there (subst (λ (n : List ℕ). HasNames seen' (n ∷ seen)) (sym named) more)))
    ∙ before))

pub names_end : {T : Type 0} {D : Type 0} (fs : List (FieldOf T D)) (seen : List (List ℕ)) (at : ℕ) (now all : List (List ℕ)) → length fs ≤ at → now ++ keys_left seen (drop at fs) ≡ all → now ≡ all
names_end {T} {D} fs seen at now all past before = sym (append-nil now) ∙ (sym (ap (λ (l : List (FieldOf T D)). now ++ keys_left seen l) (drop_all at fs past)) ∙ before)

pub fields_past : {T : Type 0} {D : Type 0} (names : List (Bor (List ℕ))) (fs : List (FieldOf T D)) (at : ℕ) → map (λ n. n.now) names ≡ map (λ f. f.name) fs → length names ≤ at → length fs ≤ at
fields_past {T} {D} names fs at same past =
    let a = length-map names (λ (n : Bor (List ℕ)). n.now) in
    let b = length-map fs (λ (f : FieldOf T D). f.name) in
    let e : length (map (λ (n : Bor (List ℕ)). n.now) names) ≡ length (map (λ (f : FieldOf T D). f.name) fs) = ap length same in
    omega (arith, a, b, e, past)
