-- A table with the types of one package more.
use Rattle.std.proofs.Common.{◌≡◌, ℕ, ◌+◌, ◌<◌, Bool, true, false, List, [], ◌∷◌, ◌++◌, length, Some, None, Result, Ok, Err, refl, sym, ap, ◌∙◌, arith, cond, append_assoc, subst}
use Rattle.std.specs.Result.{OnErr}
use Rattle.std.specs.Str.{bytes_eq}
use Rattle.std.proofs.lemmas.List.{length-append, append-nil}
use Rattle.go_table_core.specs.declared.table.Numbered.{Numbered}
use Rattle.go_table_core.specs.Tables.{ArePackageTypes, AreOthers}
use Rattle.go_table_core.specs.mirrors.Holding.{all_entries, package_at, AreKept, IsTable}
use Rattle.go_table_core.proofs.Finding.{bytes_turned, none_there}
use Rattle.go_term_core.specs.Terms.{Term}

package_at-apart : (ps : List (List ℕ × Numbered)) (q path : List ℕ) (p : Numbered) → package_at ps q ≡ None → bytes_eq q path ≡ false → package_at (ps ++ (path, p) ∷ []) q ≡ None
package_at-apart [] q path p none apart = ap (λ b. cond b (Some p) None) apart
package_at-apart (r ∷ ps) q path p none apart = by (bytes_eq q r.0) none (λ h. package_at-apart ps q path p h apart)
  where
    by : (b : Bool) → cond b (Some r.1) (package_at ps q) ≡ None → (package_at ps q ≡ None → package_at (ps ++ (path, p) ∷ []) q ≡ None) → cond b (Some r.1) (package_at (ps ++ (path, p) ∷ []) q) ≡ None
    by true h rest = absurd (let no : Some r.1 ≡ None = h in cc)
    by false h rest = rest h

kept_more : (n : ℕ) (ps : List (List ℕ × Numbered)) (path : List ℕ) (p : Numbered) → AreKept n ps → package_at ps path ≡ None → p.first ≡ n + length (all_entries ps) → path ≡ p.types.path → ArePackageTypes p.types.path p.types.entries → 0 < length p.types.entries → AreKept n (ps ++ (path, p) ∷ [])
kept_more n [] path p kept none first keyed well some = (record { first = omega (arith, first); keyed = keyed; well = well; some = some; once = refl }, tt)
kept_more n (q ∷ ps) path p kept none first keyed well some =
    by (bytes_eq path q.0) refl none
    (λ h. kept_more (n + length q.1.types.entries) ps path p kept.1 h (omega (arith, first, length-append q.1.types.entries (all_entries ps))) keyed well some)
  where
    by : (b : Bool) → bytes_eq path q.0 ≡ b → cond b (Some q.1) (package_at ps path) ≡ None → (package_at ps path ≡ None → AreKept (n + length q.1.types.entries) (ps ++ (path, p) ∷ [])) → AreKept n (q ∷ (ps ++ (path, p) ∷ []))
    by true e h rest = absurd (let no : Some q.1 ≡ None = h in cc)
    by false e h rest = (record { first = kept.0.first; keyed = kept.0.keyed; well = kept.0.well; some = kept.0.some; once = package_at-apart ps q.0 path p kept.0.once (bytes_turned path q.0 e) }, rest h)

all_entries-more : (ps : List (List ℕ × Numbered)) (path : List ℕ) (p : Numbered) → all_entries (ps ++ (path, p) ∷ []) ≡ all_entries ps ++ p.types.entries
all_entries-more [] path p = append-nil p.types.entries
all_entries-more (q ∷ ps) path p = ap (λ l. q.1.types.entries ++ l) (all_entries-more ps path p) ∙ sym (append_assoc q.1.types.entries (all_entries ps) p.types.entries)

-- the table with a package more, and what it shows
pub table_more : (old new : List (List ℕ × Numbered)) (path : List ℕ) (p : Numbered) (len more : ℕ) (nothing : Term)
    → IsTable len old nothing → AreOthers path (all_entries old) → new ≡ old ++ (path, p) ∷ []
    → p.first ≡ len → path ≡ p.types.path → ArePackageTypes p.types.path p.types.entries → 0 < length p.types.entries → more ≡ len + length p.types.entries
    → IsTable more new nothing × (all_entries new ≡ all_entries old ++ p.types.entries)
table_more old new path p len more nothing was others now first keyed well some counted =
    let absent : package_at old path ≡ None = none_there 0 old path was.kept others in
    let shown : all_entries new ≡ all_entries old ++ p.types.entries = ap all_entries now ∙ all_entries-more old path p in
    let at : p.first ≡ 0 + length (all_entries old) = omega (arith, first, was.counted) in
    let kept : AreKept 0 (old ++ (path, p) ∷ []) = kept_more 0 old path p was.kept absent at keyed well some in (
      record {
        kept = subst (λ (ps : List (List ℕ × Numbered)). AreKept 0 ps) (sym now) kept;
        none = was.none;
        counted = omega (arith, counted, was.counted, ap length shown, length-append (all_entries old) p.types.entries);
      },
      shown,
    )

pub on_err : {T E P : Type 0} (r : Result T E) → P → OnErr r P
on_err (Ok x) p = tt
on_err (Err e) p = p
